-- `add_task` (src/loads.rt) keeps its contract.
use Rattle.generator.proofs.Steps.{task-put}
use Rattle.generator.proofs.loads.add_task.Goals as goal

pub returns : goal.returns
returns c = task-put c.args.d _ _ c.next-first.ensures c.next-second.ensures _ _ _ _ _ c.draw.ensures c.draw-2.ensures c.put_task.ensures
