-- `time_to` (src/lib.rt) keeps its contract.
use mathlib.Core.Path.{◌∙◌, sym}
use native.Mathlib.Omega.{arith}
use Rattle.sheet.specs.Tables.{sheet_in}
use Rattle.arrivals.proofs.Reaching.{time-hopped, time-flat}
use Rattle.arrivals.proofs.time_to.Goals as goal
use Rattle.arrivals.proofs.time_to.Goals.{else-cube-via-then-cube+else-at-lt16, else-cube-via-else-cube}

pub hop_time-requires : goal.hop_time-requires
hop_time-requires c = (omega (arith, c.cost-cost.ensures.1), c.if-at-lt16.true, c.requires.2)

pub returns-then-at-lt16 : goal.returns-then-at-lt16
returns-then-at-lt16 c = (λ h. time-hopped (sheet_in c.args.w.now) c.args.l c.args.at c.args.k (sym c.requires.3 ∙ c.if-cube.true) c.cost-cost.ensures.0 c.hop_time.ensures.0, c.hop_time.ensures.1)

pub returns-else-cube : goal.returns-else-cube
returns-else-cube c =
    elim c.else-cube.branch [
      | else-cube-via-then-cube+else-at-lt16 w ↦ (λ h. absurd (omega (arith, w.if-at-lt16.false)), omega (arith, c.cost-cost.ensures.1))
      | else-cube-via-else-cube w ↦
          (λ h. time-flat (sheet_in c.args.w.now) c.args.l c.args.at c.args.k (sym c.requires.3 ∙ w.if-cube.false) c.cost-cost.ensures.0, omega (arith, c.cost-cost.ensures.1))
    ]
