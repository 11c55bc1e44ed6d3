-- `start` (src/lib.rt) keeps its contract.
use Prim.Native.Nat.{◌-◌}
use mathlib.Core.Path.{◌∙◌, ap₂, sym}
use native.Mathlib.Omega.{arith}
use Rattle.sheet.proofs.Rows.{work_in}
use Rattle.schedule.proofs.Rows.{start-in, finish-in}
use Rattle.schedule.proofs.start.Goals as goal

pub returns : goal.returns
returns c =
    let w = c.args.w.now in
    let t = c.args.t in (
      c.saturating_sub.ensures
          ∙ ap₂ ◌-◌ (c.finish.ensures.0 ∙ finish-in w t c.requires.t_bound) (c.work.ensures.0 ∙ work_in w t c.requires.t_bound)
          ∙ sym (start-in w t c.requires.t_bound),
      omega (arith, c.saturating_sub.ensures, c.finish.ensures.1),
    )
