-- From the bytes of a sheet to its plan: refused, without a schedule, or written.
use Prim.Native.Nat.{ℕ, zero, suc, ◌<◌}
use mathlib.Core.Bool.{true}
use mathlib.Core.Path.{◌≡◌, refl, sym, ap, subst, ◌∙◌}
use mathlib.Core.List.{List, [], ◌∷◌}
use native.Mathlib.Omega.{arith}
use lib.Dec.{eqb}
use lib.ListN.{length, get_or}
use Rattle.folds.specs.Folds.{bit, sum}
use Rattle.folds.specs.Answers.{Answer, value, refused, and_then, fitting}
use Rattle.folds.proofs.Laws.{sum-front}
use Rattle.sheet.specs.Sheet.{Sheet, task_count}
use Rattle.sheet.specs.Tables.{sheet_in}
use Rattle.adjacency.specs.Chains.{Chained}
use Rattle.adjacency.specs.declared.End.TheVariants.{Source, Target}
use Rattle.graph.specs.Graph.{read_sheet}
use Rattle.levelling.specs.Opened.{OpenIs}
use Rattle.levelling.proofs.Opens.{open-refusal, open-value}
use Rattle.graph.proofs.Proper.{Proper, proper}
use Rattle.bundle.specs.Writing.{bundle_bytes}
use Rattle.std.specs.Prelude.{⊤, Result, Ok, Err}
use Rattle.refusals.specs.Refusals.{WriteIs}
use Rattle.refusals.specs.declared.Refusal.{Refusal}
use Rattle.planner.specs.Schedule.{Schedule, empty, place_of}
use Rattle.planner.specs.Placing.{barred}
use Rattle.planner.specs.Planner.{planned, bundle_of, plan}
use Rattle.planner.proofs.Schedules.{Built, built, placing, tally, Plan, Completed, plan-of, empty-free, empty-fair, planned-build}
use Rattle.schedule.specs.Layout.{schedule_in}
use Rattle.turns.specs.Turns.{Afterwards}
use Rattle.plan_writer.specs.Scheduled.{Scheduled}
use Rattle.plan_writer.specs.Written.{bundle_for, plan_for, PlanIs}
use Rattle.plan_writer.proofs.Writes.{write-refused}

-- the planner's answer is the plan, where the output has room for it
pub plan-for : (lent : ℕ) (b : List ℕ) → plan_for lent b ≡ and_then (plan b) (fitting lent)
unfolding plan
plan-for lent b = go (read_sheet b)
  where
    within : (s : Sheet) (a : Answer Schedule) → and_then a (bundle_for lent s) ≡ and_then (and_then a (λ σ. value (bundle_bytes (bundle_of s σ)))) (fitting lent)
    within s (value σ) = refl
    within s (refused n at) = refl

    go : (a : Answer Sheet) → and_then a (λ s. and_then (planned s) (bundle_for lent s)) ≡ and_then (and_then a (λ s. and_then (planned s) (λ σ. value (bundle_bytes (bundle_of s σ))))) (fitting lent)
    go (value s) = within s (planned s)
    go (refused n at) = refl

-- the tasks that are placed are the sheet's
built-below : {s : Sheet} {σ φ : Schedule} {ts : List ℕ} → Built s σ φ ts → (i : ℕ) → i < length ts → get_or ts i 0 < task_count s
built-below built i h = absurd (omega arith)
built-below (placing p n) zero h = p.below
built-below (placing p n) (suc i) h = built-below n i (omega arith)

tally-sum : (u : ℕ) (ts : List ℕ) → tally u ts ≡ sum (length ts) (λ i. bit (eqb u (get_or ts i 0)))
unfolding sum
tally-sum u [] = refl
tally-sum u (t ∷ ts) = omega (arith, tally-sum u ts, sum-front (length ts) (λ i. bit (eqb u (get_or (t ∷ ts) i 0))))

module _ (s : Sheet) (p : Proper s) (φ : Schedule) (e : planned s ≡ value φ) where
  whole : Completed s (empty s) φ
  unfolding planned
  whole = planned-build s p (barred s) true φ e

  done : Plan s (empty s) φ whole.0
  done = plan-of s p (empty-fair s p) whole.1

  order_below : (i : ℕ) → i < length φ.order → get_or φ.order i 0 < task_count s
  order_below i h = rw done.order (built-below whole.1 i (rw done.order at h))

  -- each task stands on an open processor, and was placed at one turn
  task-standing : (t : ℕ) → t < task_count s → place_of φ t < φ.opened
  task-standing t h = done.fair.home t (whole.2 t h)

  task-once : (t : ℕ) → t < task_count s → sum (length φ.order) (λ i. bit (eqb t (get_or φ.order i 0))) ≡ 1
  task-once t h =
      rw done.order (omega (arith, tally-sum t whole.0, done.once t, ap bit (empty-free s p t), ap bit (whole.2 t h)))

-- what planning leaves can be written
pub scheduled : {w₀ w : List ℕ} → Proper (sheet_in w₀) → Afterwards w₀ w → planned (sheet_in w₀) ≡ value (schedule_in w) → Scheduled w
scheduled {w₀} {w} p a q =
    record {
      loaded = a.loaded;
      outward = subst (λ (s : Sheet). Chained Source s w) (sym a.sheet) a.outward;
      inward = subst (λ (s : Sheet). Chained Target s w) (sym a.sheet) a.inward;
      few_opened = a.few_opened;
      few_placed = a.few_placed;
      tasks = λ i h. rw a.sheet (order_below (sheet_in w₀) p (schedule_in w) q i h);
      standing = λ t h. task-standing (sheet_in w₀) p (schedule_in w) q t (rw a.sheet at h);
      once = λ t h. task-once (sheet_in w₀) p (schedule_in w) q t (rw a.sheet at h);
    }

module _ (b : List ℕ) {work mid : List ℕ} {o : Result ⊤ Refusal} (h : OpenIs (read_sheet b) work mid o) where
  pub plan-refused : (out : List ℕ) (r : Refusal) → o ≡ Err r → PlanIs (plan_for (length out) b) work mid out out (Err r)
  plan-refused out r e =
      record {
        is = write-refused out (ap (λ (a : Answer Sheet). and_then a (λ s. and_then (planned s) (bundle_for (length out) s))) (open-refusal h r e));
        long = h.long;
      }

  module _ (e : o ≡ Ok tt) where
    module _ {last : List ℕ} (a : Afterwards mid last) where
      -- the answer goes by the sheet in the tables
      here : (n : ℕ) → plan_for n b ≡ and_then (planned (sheet_in mid)) (bundle_for n (sheet_in mid))
      here n = ap (λ (x : Answer Sheet). and_then x (λ s. and_then (planned s) (bundle_for n s))) (open-value h e)

      pub plan-none : (out : List ℕ) (r : Refusal) → refused r.number r.place ≡ planned (sheet_in mid) → PlanIs (plan_for (length out) b) work last out out (Err r)
      plan-none out r q =
          record {
            is = write-refused out (here (length out) ∙ ap (λ (x : Answer Schedule). and_then x (bundle_for (length out) (sheet_in mid))) (sym q));
            long = a.long ∙ h.long;
          }

      module _ (q : value (schedule_in last) ≡ planned (sheet_in mid)) where
        pub plan-scheduled : Scheduled last
        plan-scheduled = scheduled (proper b (sheet_in mid) (open-value h e)) a (sym q)

        pub plan-done : (out out' : List ℕ) {r : Result ℕ Refusal} → WriteIs (bundle_for (length out) (sheet_in last) (schedule_in last)) out out' r → PlanIs (plan_for (length out) b) work last out out' r
        plan-done out out' {r} d =
            let z : plan_for (length out) b ≡ bundle_for (length out) (sheet_in last) (schedule_in last) =
            here (length out) ∙ ap (λ (x : Answer Schedule). and_then x (bundle_for (length out) (sheet_in mid))) (sym q)
            ∙ ap (λ (s : Sheet). bundle_for (length out) s (schedule_in last)) (sym a.sheet) in
            record { is = subst (λ (x : Answer (List ℕ)). WriteIs x out out' r) (sym z) d; long = a.long ∙ h.long }
