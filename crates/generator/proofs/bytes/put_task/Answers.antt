-- `put_task` (src/bytes.rt) keeps its contract.
use Rattle.std.proofs.Common.{◌∙◌}
use Rattle.sheet.specs.Tables.{task_in}
use Rattle.sheet.proofs.Rows.{work_in, store_in_lem}
use Rattle.generator.proofs.Stores.{task-bytes}
use Rattle.generator.proofs.bytes.put_task.Goals as goal

pub returns : goal.returns
returns c =
    let w = c.args.w.now in
    let i = c.args.i in
    task-bytes (task_in w i) _ _ _ _ _ c.put_task.ensures (c.work-work.ensures.0 ∙ work_in w i c.requires.i_bound.0) (c.store-store.ensures.0 ∙ store_in_lem w i c.requires.i_bound.0)
