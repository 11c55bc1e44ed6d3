-- What a turn answers, and the loop of turns.
use Prim.Native.Nat.{ℕ, suc, ◌+◌, ◌-◌, ◌≤◌, ◌<◌}
use mathlib.Core.Path.{◌≡◌, ap, sym, ◌∙◌}
use mathlib.Core.Option.{none, some}
use mathlib.Core.Bool.{Bool, true}
use mathlib.Core.List.{List}
use native.Mathlib.Omega.{arith}
use Rattle.folds.specs.Answers.{Answer, value, refused, and_then}
use Rattle.sheet.specs.Sheet.{Sheet, task_count}
use Rattle.sheet.specs.Tables.{sheet_in}
use Rattle.planner.specs.Schedule.{Schedule}
use Rattle.planner.specs.Placing.{ready, ready_priority, ahead_by, first_ready, start_on, barred}
use Rattle.planner.specs.Planner.{choice, placed_from, place_on, place_task, turn, turns}
use Rattle.planner.proofs.Choosing.{leading-some}
use Rattle.schedule.specs.Layout.{schedule_in}
use Rattle.turns.specs.Turns.{answer_of, Going}
use Rattle.std.specs.Prelude.{⊤, Result, Ok, Err}
use Rattle.refusals.specs.declared.Refusal.{Refusal}
use Rattle.turns.proofs.Going.{after}

module _ (s : Sheet) (σ : Schedule) where
  abbrev guard : Schedule → ℕ → ℕ → Bool
  guard = barred s

  -- the task that is first ready is ready
  pub first-is-ready : (t : ℕ) → some t ≡ first_ready s σ → ready s σ t ≡ true
  unfolding first_ready
  first-is-ready t e = (leading-some (task_count s) (ready s σ) (ahead_by s (ready_priority s σ)) t (sym e)).1

  pub turn-none : none ≡ first_ready s σ → value σ ≡ turn s guard true σ
  unfolding turn
  turn-none e = ap (place_task s guard true σ) e

  pub turn-some : {t : ℕ} {a : Answer Schedule} → some t ≡ first_ready s σ → a ≡ place_on s guard σ t (choice s guard true σ t) → a ≡ turn s guard true σ
  unfolding turn
  turn-some e q = q ∙ ap (place_task s guard true σ) e

  pub place-refused : (t : ℕ) → none ≡ choice s guard true σ t → refused 11 t ≡ place_on s guard σ t (choice s guard true σ t)
  place-refused t e = ap (place_on s guard σ t) e

  pub place-done : (t : ℕ) {k : ℕ} {τ : Schedule} → some k ≡ choice s guard true σ t → τ ≡ placed_from s guard σ t k (start_on s σ t k) → value τ ≡ place_on s guard σ t (choice s guard true σ t)
  place-done t e q = ap value q ∙ ap (place_on s guard σ t) e

module _ (s : Sheet) (guard : Schedule → ℕ → ℕ → Bool) (σ : Schedule) (n j : ℕ) where
  left : j < n → n - j ≡ suc (n - (j + 1))
  left h = omega arith

  turns_more : {τ : Schedule} → j < n → value τ ≡ turn s guard true σ → turns s guard true (n - j) σ ≡ turns s guard true (n - (j + 1)) τ
  unfolding turns
  turns_more h e = ap (λ (i : ℕ). turns s guard true i σ) (left h) ∙ ap (λ (a : Answer Schedule). and_then a (turns s guard true (n - (j + 1)))) (sym e)

  turns-refused : {m t : ℕ} → j < n → refused m t ≡ turn s guard true σ → refused m t ≡ turns s guard true (n - j) σ
  unfolding turns
  turns-refused h e = sym (ap (λ (i : ℕ). turns s guard true i σ) (left h) ∙ ap (λ (a : Answer Schedule). and_then a (turns s guard true (n - (j + 1)))) (sym e))

  turns-done : n ≤ j → value σ ≡ turns s guard true (n - j) σ
  unfolding turns
  turns-done h = let e : n - j ≡ 0 = omega arith in sym (ap (λ (i : ℕ). turns s guard true i σ) e)

-- after j of n turns from the area w₀; what is left gives what all n gave
pub record Turning (w₀ : List ℕ) (n j : ℕ) (w own : List ℕ) : Type 0 where
  pub going : Going w₀ j w own
  pub rest : turns (sheet_in w₀) (barred (sheet_in w₀)) true (n - j) (schedule_in w) ≡ turns (sheet_in w₀) (barred (sheet_in w₀)) true n (schedule_in w₀)

pub turning-begins : (w own : List ℕ) (n : ℕ) → Going w 0 w own → Turning w n 0 w own
turning-begins w own n g =
    let q : n - 0 ≡ n = omega arith in
    record { going = g; rest = ap (λ (x : ℕ). turns (sheet_in w) (barred (sheet_in w)) true x (schedule_in w)) q }

module _ {w₀ w own : List ℕ} {n j : ℕ} (h : Turning w₀ n j w own) (r : Result ⊤ Refusal) (w' : List ℕ) (l : j < n) (a : answer_of r (schedule_in w') ≡ turn (sheet_in w) (barred (sheet_in w)) true (schedule_in w)) where
  same : turn (sheet_in w) (barred (sheet_in w)) true (schedule_in w) ≡ turn (sheet_in w₀) (barred (sheet_in w₀)) true (schedule_in w)
  same = ap (λ (x : Sheet). turn x (barred x) true (schedule_in w)) h.going.sheet

  pub turning-on : {own' : List ℕ} → r ≡ Ok tt → Going w (j + 1) w' own' → Turning w₀ n (j + 1) w' own'
  turning-on e g =
      record {
        going = after h.going g;
        rest = sym (turns_more (sheet_in w₀) (barred (sheet_in w₀)) (schedule_in w) n j l (sym (ap (λ (x : Result ⊤ Refusal). answer_of x (schedule_in w')) e) ∙ a ∙ same)) ∙ h.rest;
      }

  pub turning-refused : {x : Refusal} → r ≡ Err x → refused x.number x.place ≡ turns (sheet_in w₀) (barred (sheet_in w₀)) true n (schedule_in w₀)
  turning-refused e = turns-refused (sheet_in w₀) (barred (sheet_in w₀)) (schedule_in w) n j l (sym (ap (λ (x : Result ⊤ Refusal). answer_of x (schedule_in w')) e) ∙ a ∙ same) ∙ h.rest

pub turning-done : {w₀ w own : List ℕ} {n j : ℕ} → Turning w₀ n j w own → n ≤ j → value (schedule_in w) ≡ turns (sheet_in w₀) (barred (sheet_in w₀)) true n (schedule_in w₀)
turning-done {w₀} {w} {own} {n} {j} h l = turns-done (sheet_in w₀) (barred (sheet_in w₀)) (schedule_in w) n j l ∙ h.rest

pub turns_at : (s : Sheet) (guard : Schedule → ℕ → ℕ → Bool) (σ : Schedule) (n m : ℕ) {a : Answer Schedule} → a ≡ turns s guard true n σ → n ≡ m → a ≡ turns s guard true m σ
turns_at s guard σ n m p e = p ∙ ap (λ (x : ℕ). turns s guard true x σ) e
