-- `is_away` (src/lib.rt) keeps its contract.
use mathlib.Core.Path.{◌∙◌, ap}
use lib.Dec.{eqb}
use mathlib.Core.Bool.{not}
use Rattle.planner.specs.Schedule.{place_of, stands}
use Rattle.schedule.specs.Layout.{schedule_in}
use Prim.Native.Nat.{ℕ}
use Rattle.plan_writer.proofs.is_away.Goals as goal

pub returns : goal.returns
unfolding stands
returns c = ap not (ap (λ (x : ℕ). eqb x c.args.k) (c.place.ensures.0 ∙ ap (place_of (schedule_in c.args.w.now)) c.far_end.ensures.0))
