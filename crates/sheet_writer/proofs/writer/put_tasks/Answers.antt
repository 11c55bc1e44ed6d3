-- `put_tasks` (src/writer.rt) keeps its contract.
use Rattle.sheet_writer.proofs.Stores.{tasks-next, tasks-none}
use Rattle.sheet.specs.Writing.{task_value}
use Rattle.sheet.specs.Writing.{task_bytes}
use Rattle.folds.specs.Folds.{listed}
use Rattle.numbers.specs.Number.{stored}
use lib.ListN.{length}
use mathlib.Core.Path.{◌≡◌, refl, ap, ◌∙◌}
use Prim.Native.Nat.{ℕ, ◌/◌}
use native.Mathlib.Omega.{arith}
use Rattle.sheet_writer.proofs.writer.put_tasks.Goals as goal

pub loop-i-init : goal.loop-i-init
loop-i-init c = (refl, tasks-none (task_value c.args.tasks.now) _)

pub loop-i-preserved : goal.loop-i-preserved
loop-i-preserved c = (c.put_task.auto.out ∙ c.loop-i.invariant.0, tasks-next (task_value c.args.tasks.now) _ _ _ c.loop-i.i c.loop-i.invariant.1 c.put_task.ensures)

pub shape_of-out : goal.shape_of-out
shape_of-out c = c.loop-i.invariant.0

pub returns : goal.returns
returns c =
    let e : c.loop-i.i ≡ length c.args.tasks.now / 2 = omega arith in
    c.loop-i.invariant.1 ∙ ap (λ (k : ℕ). stored c.args.out.now 0 (task_bytes (listed k (task_value c.args.tasks.now)))) e
