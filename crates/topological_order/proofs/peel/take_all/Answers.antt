-- `take_all` (src/peel.rt) keeps its contract.
use native.Mathlib.Omega.{arith}
use Rattle.topological_order.proofs.Turns.{peeled-few, take-asks, take_ends, take-starts, take-turns}
use Rattle.topological_order.proofs.peel.take_all.Goals as goal

pub loop-i-init : goal.loop-i-init
loop-i-init c = take-starts c.args.w.now c.args.k c.requires.peeled

pub take-q-requires : goal.take-q-requires
take-q-requires c =
    let all = take-asks c.requires.held c.requires.chained c.loop-i.invariant c.loop-i-test.true in
    record { held = all.0; chained = all.1.0; i_lt_k = all.1.1.0; peeled = all.1.1.1 }

pub overflow_add-i : goal.overflow_add-i
overflow_add-i c = omega (arith, c.loop-i-test.true, peeled-few c.loop-i.invariant.peeled, c.requires.held.few_tasks)

pub loop-i-smaller : goal.loop-i-smaller
loop-i-smaller c = omega (arith, c.loop-i-test.true, peeled-few c.loop-i.invariant.peeled)

pub loop-i-preserved : goal.loop-i-preserved
loop-i-preserved c = take-turns c.requires.held c.loop-i.invariant c.take-q.ensures

pub shape_of-w : goal.shape_of-w
shape_of-w c = c.loop-i.invariant.outside.kept.long

pub returns : goal.returns
returns c = take_ends c.loop-i.invariant (omega (arith, c.loop-i-test.false))
