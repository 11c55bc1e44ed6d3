-- `known_into` (src/lib.rt) keeps its contract.
use native.Mathlib.Omega.{arith}
use Rattle.placing.proofs.Spent.{known-one, known-all, known-four, on-board, on-four}
use Rattle.placing.proofs.Turn.known_into.Goals as goal

pub word-requires : goal.word-requires
word-requires c =
    let turn = c.args.self.now in
    omega (arith, on-board c.in-One.is c.requires.2, c.requires.0, turn.choosing.kept.ranged.few_tasks, turn.choosing.kept.loaded.long)

pub overflow_add-v-in-Four : goal.overflow_add-v-in-Four
overflow_add-v-in-Four c = omega (arith, on-four c.in-Four.is c.requires.2, c.requires.0, c.args.self.now.choosing.kept.ranged.few_tasks)

pub overflow_add-v-in-Four-2 : goal.overflow_add-v-in-Four-2
overflow_add-v-in-Four-2 c = omega (arith, on-four c.in-Four.is c.requires.2, c.requires.0, c.args.self.now.choosing.kept.ranged.few_tasks)

pub word-requires-in-Four : goal.word-requires-in-Four
word-requires-in-Four c =
    let turn = c.args.self.now in
    omega (arith, on-four c.in-Four.is c.requires.2, c.requires.0, turn.choosing.kept.ranged.few_tasks, turn.choosing.kept.loaded.long)

pub returns-in-One : goal.returns-in-One
returns-in-One c =
    let turn = c.args.self.now in
    known-one turn.choosing.kept.ranged turn.choosing.kept.caches.counted c.args.v c.requires.0 turn.choosing.kept.single c.requires.1 c.in-One.is c.requires.2 c.word.ensures.0

pub returns-in-All : goal.returns-in-All
returns-in-All c =
    let turn = c.args.self.now in
    known-all turn.choosing.kept.ranged turn.choosing.kept.caches.counted c.args.v c.requires.0 c.in-All.is c.word-in-All.ensures.0

pub returns-in-Four : goal.returns-in-Four
returns-in-Four c =
    let turn = c.args.self.now in
    known-four turn.choosing.kept.ranged turn.choosing.kept.caches.counted c.args.v c.requires.0 c.in-Four.is c.requires.2 c.word-in-Four.ensures.0 c.word-in-Four.ensures.1
