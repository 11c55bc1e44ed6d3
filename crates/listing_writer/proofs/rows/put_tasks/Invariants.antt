-- `listing_writer::rows::put_tasks` meets its contract: its loops.
use mathlib.Core.Path.{◌≡◌}
use lib.ListN.{length}
use Rattle.listing.specs.Listing.{task_line}
use Rattle.schedule.specs.Layout.{schedule_in}
use Rattle.folds.specs.Folds.{gather}
use Rattle.numbers.specs.Number.{Put}
use Rattle.listing_writer.proofs.rows.put_tasks.Given as goal

abbrev pub invariant-loop-t : goal.invariant-loop-t
invariant-loop-t l = (length l.out ≡ length l.initial.out) × Put l.initial.out l.at (gather l.t (task_line (schedule_in l.w))) l.out l.end
