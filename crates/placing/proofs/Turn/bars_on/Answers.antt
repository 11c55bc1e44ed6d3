-- `bars_on` (src/lib.rt) keeps its contract.
use Prim.Native.Nat.{◌+◌}
use mathlib.Core.Path.{ap₂}
use Rattle.placing.proofs.Guards.{bars-here, bars-past}
use Rattle.placing.proofs.Turn.bars_on.Goals as goal

pub returns-then-starts_before : goal.returns-then-starts_before
returns-then-starts_before c =
    let turn = c.args.self.now in
    let a = c.args in
    bars-here turn.w.now turn.kept.now turn.choosing.kept a.u c.requires.u_bound.0 turn.t c.requires.u_bound.1 c.requires.u_bound.2 c.requires.k_value.0 (ap₂ ◌+◌ c.start_on.ensures.0 c.work.ensures.0) c.min.ensures c.starts_before.ensures c.if-starts_before.true

pub returns : goal.returns
returns c =
    let turn = c.args.self.now in
    let a = c.args in
    bars-past turn.w.now turn.kept.now turn.choosing.kept a.u c.requires.u_bound.0 turn.t c.requires.u_bound.1 c.requires.u_bound.2 c.requires.k_value.0 (ap₂ ◌+◌ c.start_on.ensures.0 c.work.ensures.0) c.min.ensures c.starts_before.ensures c.if-starts_before.false
