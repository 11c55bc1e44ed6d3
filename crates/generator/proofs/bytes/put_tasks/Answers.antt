-- `put_tasks` (src/bytes.rt) keeps its contract.
use Rattle.std.proofs.Common.{List, refl, ap, ◌∙◌, arith}
use Rattle.numbers.specs.Number.{stored}
use Rattle.sheet.specs.Sheet.{Task}
use Rattle.sheet.specs.Tables.{task_in}
use Rattle.sheet.specs.Writing.{task_bytes}
use Rattle.sheet.proofs.Rows.{all-tasks}
use Rattle.sheet_writer.proofs.Stores.{tasks-next, tasks-none}
use Rattle.generator.proofs.bytes.put_tasks.Goals as goal

pub loop-i-init : goal.loop-i-init
loop-i-init c = (refl, tasks-none (task_in c.args.w.now) _)

pub put_task-requires : goal.put_task-requires
put_task-requires c =
    let n = c.tasks-i-end.ensures.0 in
    let k = c.loop-i.invariant.0 in
    let i = c.loop-i-test.true in
    record { loaded = c.requires.loaded; i_bound = (omega (arith, n, i), omega (arith, n, i, k, c.requires.w_in_bounds)) }

pub loop-i-preserved : goal.loop-i-preserved
loop-i-preserved c = (c.put_task.auto.out ∙ c.loop-i.invariant.0, tasks-next (task_in c.args.w.now) _ _ _ c.loop-i.i c.loop-i.invariant.1 c.put_task.ensures)

pub shape_of-out : goal.shape_of-out
shape_of-out c = c.loop-i.invariant.0

pub returns : goal.returns
returns c =
    let w = c.args.w.now in
    c.loop-i.invariant.1 ∙ ap (λ (ts : List Task). stored c.args.out.now 0 (task_bytes ts)) (all-tasks w c.loop-i.i (omega (arith, c.tasks-i-end.ensures.0, c.loop-i-test.false)))
