-- `running` (src/rows.rt) keeps its contract: its loops.
use Prim.Native.Nat.{◌≤◌}
use mathlib.Core.Path.{◌≡◌}
use Rattle.folds.specs.Folds.{bit, sum}
use Rattle.planner.specs.Placing.{is_open}
use Rattle.schedule.specs.Layout.{schedule_in}
use Rattle.sheet.specs.Tables.{sheet_in}
use Rattle.listing_writer.proofs.rows.running.Given as goal

abbrev pub invariant-loop-k : goal.invariant-loop-k
invariant-loop-k l = (l.found ≤ l.k) × (l.found ≡ sum l.k (λ j. bit (is_open (sheet_in l.w) (schedule_in l.w) j)))
