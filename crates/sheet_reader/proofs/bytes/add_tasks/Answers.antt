-- `add_tasks` (src/bytes.rt) keeps its contract.
use Rattle.sheet_reader.proofs.Scans.{task-added, task-comes, task-few, tasks-end, walk-room}
use Rattle.sheet.specs.Format.{task}
use mathlib.Core.Path.{◌∙◌, sym}
use native.Mathlib.Omega.{arith}
use Rattle.sheet_reader.proofs.bytes.add_tasks.Goals as goal

pub loop-w-init : goal.loop-w-init
loop-w-init c = (c.requires.0, c.requires.1, omega arith)

pub is_task-requires : goal.is_task-requires
is_task-requires c =
    let s = c.loop-w.invariant.0 in
    record { loaded = s.scanning.loaded; tasks_value = (sym s.scanning.tasks, s.scanning.links, s.room) }

pub add_task-requires : goal.add_task-requires
add_task-requires c =
    let s = c.loop-w.invariant.0 in
    let j = task-comes _ (sym c.is_task.ensures ∙ c.loop-w-test.true) in
    (walk-room s task j, s.scanning.loaded.long, task-few s.scanning j)

pub overflow_add-tasks : goal.overflow_add-tasks
overflow_add-tasks c = omega (arith, task-few c.loop-w.invariant.0.scanning (task-comes _ (sym c.is_task.ensures ∙ c.loop-w-test.true)))

pub overflow_add-at : goal.overflow_add-at
overflow_add-at c = omega (arith, walk-room c.loop-w.invariant.0 task (task-comes _ (sym c.is_task.ensures ∙ c.loop-w-test.true)))

pub loop-w-smaller : goal.loop-w-smaller
loop-w-smaller c = omega (arith, walk-room c.loop-w.invariant.0 task (task-comes _ (sym c.is_task.ensures ∙ c.loop-w-test.true)))

pub loop-w-preserved : goal.loop-w-preserved
loop-w-preserved c =
    let t = task-added c.loop-w.invariant.0 _ (task-comes _ (sym c.is_task.ensures ∙ c.loop-w-test.true)) (λ i. omega (arith, c.type_inv.bytes i)) c.add_task.ensures in
    (t.0, t.1, omega arith)

pub shape_of-w : goal.shape_of-w
shape_of-w c = c.loop-w.invariant.0.scanning.long

pub returns : goal.returns
returns c =
    let i = c.loop-w.invariant in
    tasks-end i.0 _ i.2 i.1 (sym c.is_task.ensures ∙ c.loop-w-test.false)
