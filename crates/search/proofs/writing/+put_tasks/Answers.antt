-- `put_tasks` (src/writing.rt) keeps its contract.
use mathlib.Core.Path.{◌∙◌}
use native.Mathlib.Omega.{arith}
use Rattle.search.proofs.Fronts.{tasks-none, tasks-more}
use Rattle.search.proofs.writing.+put_tasks.Goals as goal

pub returns-then-j-eq0 : goal.returns-then-j-eq0
returns-then-j-eq0 t c = tasks-none _ _ _ _ _ _ _ _ (omega (arith, c.if-j-eq0.true))

pub overflow_sub-j : goal.overflow_sub-j
overflow_sub-j t c = omega (arith, c.if-j-eq0.false)

pub put_tasks-a-requires : goal.put_tasks-a-requires
put_tasks-a-requires t c = (omega (arith, c.decreases, c.if-j-eq0.false), (c.requires.0, omega (arith, c.requires.1, c.if-j-eq0.false), omega (arith, c.requires.2)))

pub put_block-requires : goal.put_block-requires
put_block-requires t c = (c.requires.0, omega (arith, c.put_tasks-a.ensures.few, c.put_tasks-a.ensures.long, c.requires.1, c.if-j-eq0.false), omega arith)

pub shape_of-buf : goal.shape_of-buf
shape_of-buf t c = c.put_block.ensures.long ∙ c.put_tasks-a.ensures.long

pub returns : goal.returns
returns t c = tasks-more _ _ _ _ _ _ _ _ _ _ _ _ (omega (arith, c.if-j-eq0.false)) c.put_tasks-a.ensures c.put_block.ensures
