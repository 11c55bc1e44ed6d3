-- `put_tasks` (src/loads.rt) keeps its contract.
use Rattle.generator.proofs.Fills.{tasked-none, tasked-more, all-tasked}
use Rattle.std.proofs.Common.{◌∙◌, arith}
use Rattle.generator.proofs.loads.put_tasks.Goals as goal

pub loop-i-init : goal.loop-i-init
loop-i-init c = tasked-none _ _ _ _ _ _ c.put_board.ensures c.start-d.ensures

pub add_task-d-requires : goal.add_task-d-requires
add_task-d-requires c = (c.loop-i.invariant.loaded.long, omega (arith, c.requires.1))

pub loop-i-preserved : goal.loop-i-preserved
loop-i-preserved c = tasked-more c.loop-i.invariant (omega (arith, c.requires.1)) _ _ c.add_task-d.ensures

pub shape_of-w : goal.shape_of-w
shape_of-w c = c.loop-i.invariant.long ∙ c.put_board.auto.w

pub returns : goal.returns
returns c = all-tasked _ _ c.loop-i.invariant c.put_board.auto.w (omega arith)
