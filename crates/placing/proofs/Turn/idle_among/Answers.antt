-- `idle_among` (src/lib.rt) keeps its contract.
use mathlib.Core.Path.{◌∙◌, sym}
use native.Mathlib.Omega.{arith}
use Rattle.folds.proofs.Loops.{greatest-at, greatest-more, greatest-zero}
use Rattle.placing.proofs.Steps.{idle-is}
use Rattle.placing.proofs.Turn.idle_among.Goals as goal

pub loop-k-init : goal.loop-k-init
loop-k-init c = sym (greatest-zero _)

pub idle_key-requires : goal.idle_key-requires
idle_key-requires c = record { k_bound = omega (arith, c.loop-k-test.true, c.opened-n.ensures.1); dues = c.requires }

pub loop-k-preserved : goal.loop-k-preserved
loop-k-preserved c = greatest-more _ _ c.loop-k.invariant c.idle_key.ensures c.max-best.ensures

pub returns : goal.returns
returns c =
    let turn = c.args.self.now in
    (c.processor_of.ensures.0 ∙ idle-is _ _ turn.t turn.choosing.kept.few_opened (greatest-at _ _ _ c.loop-k.invariant (omega (arith, c.loop-k.auto.k-end, c.loop-k-test.false, c.opened-n.ensures.0))), c.processor_of.ensures.1)
