-- `tasks` (src/unload.rt) keeps its contract.
use Prim.Native.Nat.{◌<◌}
use Rattle.numbers.specs.Number.{stored}
use Rattle.sheet.proofs.Rows.{all-tasks, store_in_lem, work_in}
use Rattle.sheet_writer.proofs.Stores.{task_values-next, task_values-none}
use Rattle.sheet.specs.Sheet.{Task, task_count}
use Rattle.sheet.specs.Tables.{sheet_in, task_in}
use Rattle.sheet.specs.Writing.{task_values}
use mathlib.Core.List.{List}
use mathlib.Core.Path.{◌∙◌, ap, refl}
use native.Mathlib.Omega.{arith}
use Rattle.sheet_writer.proofs.unload.tasks.Goals as goal

pub loop-i-init : goal.loop-i-init
loop-i-init c = (refl, task_values-none (task_in c.args.w.now) _)

pub put_pair-requires : goal.put_pair-requires
put_pair-requires c = (omega (arith, c.tasks-i-end.ensures.0, c.requires.w_in_bounds, c.loop-i.invariant.0), omega (arith, c.work.ensures.1), omega (arith, c.store.ensures.1))

pub loop-i-preserved : goal.loop-i-preserved
loop-i-preserved c =
    let w = c.args.w.now in
    let i = c.loop-i.i in
    let h : i < task_count (sheet_in w) = omega (arith, c.tasks-i-end.ensures.0, c.loop-i-test.true) in (
      c.put_pair.auto.out ∙ c.loop-i.invariant.0,
      task_values-next (task_in w) _ _ _ i _ _ c.loop-i.invariant.1 c.put_pair.ensures (c.work.ensures.0 ∙ work_in w i h) (c.store.ensures.0 ∙ store_in_lem w i h),
    )

pub shape_of-out : goal.shape_of-out
shape_of-out c = c.loop-i.invariant.0

pub returns : goal.returns
returns c =
    let w = c.args.w.now in
    c.loop-i.invariant.1 ∙ ap (λ (ts : List Task). stored c.args.out.now 0 (task_values ts)) (all-tasks w c.loop-i.i (omega (arith, c.tasks-i-end.ensures.0, c.loop-i-test.false)))
