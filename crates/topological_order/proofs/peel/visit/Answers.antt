-- `visit` (src/peel.rt) keeps its contract.
use mathlib.Core.Path.{◌∙◌, refl}
use native.Mathlib.Omega.{arith}
use lib.ListN.{length-set}
use Rattle.topological_order.proofs.Turns.{visit-degree, visit-goes, visit-room, visit-stays}
use Rattle.topological_order.proofs.peel.visit.Goals as goal

pub overflow_sub-w : goal.overflow_sub-w
overflow_sub-w c = visit-degree c.args.w.now c.requires.held c.args.k c.args.v c.args.l c.requires.l_bound.0 c.requires.l_bound.1 c.requires.walking c.source-u.ensures.0 c.word-d.ensures.0

pub push-requires : goal.push-requires
push-requires c = (simp length-set c.requires.held.long, visit-room c.args.w.now c.requires.held c.args.k c.args.v c.args.l c.requires.l_bound.0 c.requires.l_bound.1 c.requires.walking, omega (arith, c.source-u.ensures.1, c.requires.held.few_tasks))

pub overflow_add-result : goal.overflow_add-result
overflow_add-result c = omega (arith, visit-room c.args.w.now c.requires.held c.args.k c.args.v c.args.l c.requires.l_bound.0 c.requires.l_bound.1 c.requires.walking)

pub shape_of-w-then-d-eq1 : goal.shape_of-w-then-d-eq1
shape_of-w-then-d-eq1 c = c.push.auto.w ∙ simp length-set

pub returns-then-d-eq1 : goal.returns-then-d-eq1
returns-then-d-eq1 c = visit-goes c.args.w.now c.requires.held c.args.k c.args.v c.args.l c.requires.l_bound.0 c.requires.l_bound.1 c.requires.walking c.source-u.ensures.0 c.word-d.ensures.0 refl _ _ refl c.push.ensures c.if-d-eq1.true

pub returns-else-d-eq1 : goal.returns-else-d-eq1
returns-else-d-eq1 c = visit-stays c.args.w.now c.requires.held c.args.k c.args.v c.args.l c.requires.l_bound.0 c.requires.l_bound.1 c.requires.walking c.source-u.ensures.0 c.word-d.ensures.0 refl _ refl c.if-d-eq1.false
