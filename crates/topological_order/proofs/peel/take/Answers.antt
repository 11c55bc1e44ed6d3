-- `take` (src/peel.rt) keeps its contract.
use mathlib.Core.Path.{◌∙◌}
use native.Mathlib.Omega.{arith}
use Rattle.topological_order.proofs.Turns.{peeled-few, take_done, take_in, take-moderate, take_walks}
use Rattle.topological_order.proofs.peel.take.Goals as goal

pub overflow_add-i : goal.overflow_add-i
overflow_add-i c = omega (arith, peeled-few c.requires.peeled.0, c.requires.i_lt_k, c.requires.held.few_tasks)

pub word-v-requires : goal.word-v-requires
word-v-requires c = omega (arith, peeled-few c.requires.peeled.0, c.requires.i_lt_k, c.requires.held.few_tasks, c.requires.held.long)

pub set-requires : goal.set-requires
set-requires c =
    let turn = c.word-v.ensures.0 in
    record { held = c.requires.held; chained = (c.requires.chained.0, take_in c.args.w.now c.requires.held c.args.i c.args.k c.requires.i_lt_k c.requires.peeled.0 c.requires.peeled.1 turn); moderate = take-moderate c.args.w.now c.requires.held c.args.i c.args.k c.requires.i_lt_k c.requires.peeled.0 c.requires.peeled.1 turn }

pub walk-requires : goal.walk-requires
walk-requires c =
    let all = take_walks c.args.w.now c.requires.held c.args.i c.args.k c.requires.i_lt_k c.requires.peeled.0 c.requires.peeled.1 c.word-v.ensures.0 _ c.set.ensures c.requires.chained.1 in
    record { held = all.0; chained = all.1.0; walking = all.1.1 }

pub shape_of-w : goal.shape_of-w
shape_of-w c = c.walk.auto.w ∙ c.set.auto.w

pub returns : goal.returns
returns c = take_done c.args.w.now c.requires.held c.args.i c.args.k c.requires.i_lt_k c.requires.peeled.0 c.requires.peeled.1 c.word-v.ensures.0 _ c.set.ensures c.walk.ensures
