-- `listing_writer::rows::needed` meets its contract: its loops.
use Prim.Native.Nat.{◌+◌, ◌*◌, ◌≤◌}
use mathlib.Core.Path.{◌≡◌}
use lib.ListN.{length}
use Rattle.listing.specs.Listing.{task_line}
use Rattle.schedule.specs.Layout.{schedule_in}
use Rattle.folds.specs.Folds.{gather}
use Rattle.listing_writer.proofs.rows.needed.Given as goal

abbrev pub invariant-loop-t : goal.invariant-loop-t
invariant-loop-t l = (l.n ≤ 47 + 84 * l.t) × (l.n ≡ l.initial.n + length (gather l.t (task_line (schedule_in l.w))))
