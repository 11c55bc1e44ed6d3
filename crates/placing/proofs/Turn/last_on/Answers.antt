-- `last_on` (src/lib.rt) keeps its contract.
use mathlib.Core.Path.{◌∙◌, sym}
use native.Mathlib.Omega.{arith}
use Rattle.folds.proofs.Loops.{greatest-at, greatest-more, greatest-zero}
use Rattle.placing.proofs.Starts.{start_small}
use Rattle.placing.proofs.Steps.{last-is, last-key-is}
use Rattle.schedule.specs.Layout.{schedule_in}
use Rattle.placing.proofs.Turn.last_on.Goals as goal

pub loop-k-init : goal.loop-k-init
loop-k-init c = sym (greatest-zero _)

pub fits_open-requires : goal.fits_open-requires
fits_open-requires c = omega (arith, c.loop-k-test.true, c.opened-n.ensures.1)

pub start_on-x-requires : goal.start_on-x-requires
start_on-x-requires c = omega (arith, c.loop-k-test.true, c.opened-n.ensures.1)

pub low_key-requires : goal.low_key-requires
low_key-requires c = (c.start_on-x.ensures.1, omega (arith, c.loop-k-test.true, c.opened-n.ensures.1))

pub loop-k-preserved : goal.loop-k-preserved
loop-k-preserved c =
    let loop = c.loop-k in
    greatest-more _ _ loop.invariant (last-key-is _ _ c.args.self.now.t loop.k c.start_on-x.ensures.0 c.fits_open.ensures c.low_key.ensures) c.max-best.ensures

pub returns : goal.returns
returns c =
    let turn = c.args.self.now in
    let most = greatest-at _ _ (schedule_in turn.w.now).opened c.loop-k.invariant (omega (arith, c.loop-k.auto.k-end, c.loop-k-test.false, c.opened-n.ensures.0)) in
    (c.processor_of.ensures.0 ∙ last-is _ _ turn.t turn.choosing.kept.few_opened (λ k l. start_small turn.w.now turn.kept.now turn.t k turn.choosing (omega (arith, turn.choosing.kept.few_opened))) most, c.processor_of.ensures.1)
