-- `put_slots` (src/reports.rt) keeps its contract.
use native.Mathlib.Omega.{arith}
use mathlib.Core.Path.{refl, ◌∙◌, ap}
use lib.ListN.{length}
use Rattle.numbers.specs.Number.{number_bytes}
use Rattle.numbers.proofs.Laws.{length-stored}
use Rattle.drift.proofs.Putting.{slots-none, slots-more, slots_end}
use Rattle.drift.proofs.reports.put_slots.Goals as goal

pub loop-t-init : goal.loop-t-init
loop-t-init c = (refl, slots-none _ c.args.slots.now)

pub bounds-slots-t : goal.bounds-slots-t
bounds-slots-t c = omega (arith, c.requires.0, c.loop-t-test.true)

pub put32-requires : goal.put32-requires
put32-requires c = omega (arith, c.requires.1, c.loop-t-test.true, c.loop-t.invariant.0)

pub loop-t-preserved : goal.loop-t-preserved
loop-t-preserved c =
    let i = c.loop-t in (
      ap length c.put32.ensures ∙ length-stored i.out _ (number_bytes 4 _) (omega (arith, c.requires.1, c.loop-t-test.true, i.invariant.0)) ∙ i.invariant.0,
      slots-more _ c.args.slots.now i.out _ i.t _ i.invariant.1 refl c.put32.ensures,
    )

pub shape_of-out : goal.shape_of-out
shape_of-out c = c.loop-t.invariant.0

pub returns : goal.returns
returns c = slots_end _ c.args.slots.now _ _ _ (omega (arith, c.loop-t.auto.t-end, c.loop-t-test.false)) c.loop-t.invariant.1
