-- `load_tasks` (src/values.rt) keeps its contract.
use Prim.Native.Nat.{◌*◌, ◌+◌, ◌-◌, ◌/◌, ℕ}
use Rattle.folds.proofs.Lists.{rest}
use Rattle.sheet_reader.proofs.Given.{read_as, refuse-task, scan-at, take-task, task-fits, task_tail, tasks-cut, tasks-done, tasks-start}
use Rattle.refusals.proofs.Results.{fault-by, found-by}
use Rattle.refusals.specs.Refusals.{fault_of}
use Rattle.refusals.specs.declared.Refusal.{Refusal}
use Rattle.sheet_reader.specs.Answers.{ReadIs}
use Rattle.std.proofs.lemmas.Result.{err_from_is_err_and}
use Rattle.std.specs.Prelude.{Err}
use Rattle.sheet_reader.proofs.Scans.{read_through, scan-blank}
use Rattle.sheet_reader.specs.Scanning.{Scanning, read_on}
use Rattle.sheet.specs.Writing.{task_bytes, task_value, task_value_bytes}
use Rattle.sheet.specs.Sizes.{task_size}
use lib.ListN.{length}
use mathlib.Core.List.{List, ◌++◌}
use mathlib.Core.Path.{◌∙◌, ◌≡◌, ap, refl, subst, sym}
use native.Mathlib.Omega.{arith}
use Rattle.sheet_reader.proofs.values.load_tasks.Goals as goal

pub loop-i-init : goal.loop-i-init
loop-i-init c = (refl, omega arith, scan-at (c.args.start + task_size * 0) (tasks-start c.args.tasks.now c.args.links.now c.args.w.now c.args.start c.requires.loaded c.requires.task_count_at_value.0 c.requires.task_count_at_value.1) (omega arith))

pub returns-in_err-at : goal.returns-in_err-at
returns-in_err-at c =
    let a = c.args in
    let v = a.tasks.now in
    let p = err_from_is_err_and c.from_residual.result c.from_residual.ensures.1 in
    let f = fault-by _ _ _ (sym c.in_err-at.was ∙ c.at.ensures) in
    rw (p.1, p.2) (subst (λ (x : Refusal). ReadIs (read_on c.args.w.now (task_value_bytes c.args.tasks.now c.args.links.now) c.args.start) c.args.w.now c.loop-i.w (Err x)) (sym f.is)
    (refuse-task (task_value v) (length v / 2) (task_tail v a.links.now) c.loop-i.invariant.2 c.loop-i-test.true (omega (arith, c.shared_slice_known-1.given (2 * c.loop-i.i))) _
    (sym c.task_fault-fault.ensures ∙ ap fault_of f.found)))

pub put_task-requires : goal.put_task-requires
put_task-requires c =
    let a = c.args in
    let v = a.tasks.now in (
      c.loop-i.invariant.2.loaded.long,
      task-fits (task_value v) (length v / 2) (task_tail v a.links.now) c.loop-i.invariant.2 c.loop-i-test.true (omega (arith, c.shared_slice_known-1.given (2 * c.loop-i.i)))
          (sym c.task_fault-fault.ensures ∙ ap fault_of (found-by _ _ _ (sym c.in_ok-at.was ∙ c.at.ensures))),
    )

pub loop-i-preserved : goal.loop-i-preserved
loop-i-preserved c =
    let a = c.args in
    let v = a.tasks.now in
    let u = a.links.now in
    let w₀ = a.w.now in
    let e = a.start in
    let i = c.loop-i.i in
    let clear = sym c.task_fault-fault.ensures ∙ ap fault_of (found-by _ _ _ (sym c.in_ok-at.was ∙ c.at.ensures)) in (
      refl,
      omega (arith, c.loop-i-test.true),
      subst (λ (x : List ℕ). Scanning (read_on w₀ (task_value_bytes v u) e) (task_bytes (rest (i + 1) (length v / 2 - (i + 1)) (task_value v)) ++ task_tail v u) w₀ x (i + 1) 0 (e + task_size * (i + 1)))
          (sym c.put_task.ensures)
          (scan-at (e + task_size * (i + 1))
          (take-task (task_value v) (length v / 2) (task_tail v u) c.loop-i.invariant.2 c.loop-i-test.true (omega (arith, c.shared_slice_known-1.given (2 * i))) clear
          (omega (arith, c.shared_slice_known-1.given (2 * i + 1)))) (omega arith)),
    )

pub returns-then-tasks-ne0 : goal.returns-then-tasks-ne0
returns-then-tasks-ne0 c =
    let a = c.args in
    let v = a.tasks.now in
    let here : c.loop-i.i ≡ length v / 2 = omega (arith, c.loop-i-test.false) in
    rw c.at-then-tasks-ne0.ensures (tasks-cut v a.links.now (scan-at (a.start + task_size * (length v / 2)) c.loop-i.invariant.2 (omega arith)) here c.if-tasks-ne0.true)

pub load_links-requires : goal.load_links-requires
load_links-requires c =
    let v = c.args.tasks.now in
    let r = scan-blank c.loop-i.invariant.2 (length v / 2) (omega (arith, c.loop-i-test.false)) c.blank.ensures in
    record { filling = r.0; tasks_value = (omega (arith, c.loop-i-test.false, r.1.tasks), r.1.links, omega (arith, c.requires.task_count_at_value.2)) }

pub returns : goal.returns
returns c =
    let a = c.args in
    let v = a.tasks.now in
    let here : c.loop-i.i ≡ length v / 2 = omega (arith, c.loop-i-test.false) in
    let r = scan-blank c.loop-i.invariant.2 (length v / 2) here c.blank.ensures in
    read_through (read_as (tasks-done v a.links.now (scan-at (a.start + task_size * (length v / 2)) r.1 (omega arith)) here c.if-tasks-ne0.false) c.load_links.ensures) (c.blank.ensures.long ∙ c.loop-i.invariant.2.long)
