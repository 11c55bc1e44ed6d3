-- C-17 changes a plan exactly where step 3 opens a processor in vain.
use Prim.Native.Nat.{ℕ, zero, suc, ◌≤◌, ◌<◌}
use native.Mathlib.Omega.{arith}
use mathlib.Core.Bool.{Bool, true, false, not, true≢false}
use mathlib.Core.Option.{Option, none, some}
use mathlib.Core.Path.{◌≡◌, refl, sym, ap, ◌∙◌}
use mathlib.Core.Logic.{⊎_elim}
use borrow.Author.Tests.{not-true}
use Rattle.folds.specs.Folds.{pick, both, either, first, or_else, is_some, least, sum}
use Rattle.folds.specs.Answers.{Answer, value, refused, and_then}
use Rattle.folds.proofs.Tests.{both-parts, either-none, not-value, not_some}
use Rattle.folds.proofs.Laws.{first_some, sum_zeros, sum-le}
use Rattle.sheet.specs.Sheet.{Sheet, task_count}
use Rattle.graph.proofs.Proper.{Proper}
use Rattle.planner.specs.Schedule.{Schedule, empty, place_of}
use Rattle.planner.specs.Placing.{ready, ready_priority, ahead_by, first_ready, start_on, fits, barred, is_open}
use Rattle.planner.specs.Planner.{join, idle, may_open, another, may_share, share, last_resort, choice, place_on, place_task, turn, turns, planned_by, planned}
use Rattle.planner.specs.Amended.{uses_three, opens_in_vain, at_task, onwards, meets, planned_before, wasteful, Changes}
use Rattle.planner.proofs.Ready.{all_placed}
use Rattle.planner.proofs.Choosing.{leading-some, leading-none, chosen}
use Rattle.planner.proofs.Schedules.{Fair, Placing, place, placed_same, on_same, fair-place, plan-of, missing, unplaced, one_less, turns-build, empty-free, empty-fair}

module _ (s : Sheet) (guard : Schedule → ℕ → ℕ → Bool) where
  -- the amended steps choose what those of document 01 do, unless a processor is opened in vain
  module _ (σ : Schedule) (t : ℕ) where
    behind : (j i a f : Option ℕ) → both (both (not (is_some j)) (both (not (is_some i)) (is_some a))) (is_some f) ≡ false
        → or_else j (or_else i (or_else (pick (is_some a) f none) (or_else a (last_resort s guard σ t)))) ≡ or_else j (or_else i (or_else a (last_resort s guard σ t)))
    behind (some j) i a f e = refl
    behind none (some i) a f e = refl
    behind none none none f e = refl
    behind none none (some a) none e = refl
    behind none none (some a) (some k) e = absurd (true≢false e)

    pub choice-same : opens_in_vain s guard σ t ≡ false → choice s guard true σ t ≡ choice s guard false σ t
    unfolding choice share opens_in_vain uses_three
    choice-same e = behind (join s guard σ t) (idle s guard σ t) (another s guard σ t) (first σ.opened (may_share s guard σ t)) e

    -- where one is opened in vain, one that is open is chosen instead
    apart : (j i a f : Option ℕ) → both (both (not (is_some j)) (both (not (is_some i)) (is_some a))) (is_some f) ≡ true
        → (or_else j (or_else i (or_else a (last_resort s guard σ t))) ≡ a)
        × (or_else j (or_else i (or_else (pick (is_some a) f none) (or_else a (last_resort s guard σ t)))) ≡ f) × (is_some f ≡ true) × (is_some a ≡ true)
    apart (some j) i a f e = absurd (true≢false (sym e))
    apart none (some i) a f e = absurd (true≢false (sym e))
    apart none none none f e = absurd (true≢false (sym e))
    apart none none (some a) none e = absurd (true≢false (sym e))
    apart none none (some a) (some k) e = (refl, refl, refl, refl)

    choice-apart : opens_in_vain s guard σ t ≡ true → (choice s guard false σ t ≡ another s guard σ t) × (choice s guard true σ t ≡ first σ.opened (may_share s guard σ t)) × (is_some (first σ.opened (may_share s guard σ t)) ≡ true) × (is_some (another s guard σ t) ≡ true)
    unfolding choice share opens_in_vain uses_three
    choice-apart e = apart (join s guard σ t) (idle s guard σ t) (another s guard σ t) (first σ.opened (may_share s guard σ t)) e

    -- the one that was opened was not open
    other-one : (j k : ℕ) → another s guard σ t ≡ some j → first σ.opened (may_share s guard σ t) ≡ some k → j ≡ k → ⊥
    unfolding another least may_open may_share
    other-one j k e f q =
        let shut = (both-parts (not (is_open s σ j)) _ (leading-some s.processors (may_open s guard σ t) _ j e).1).0 in
        let held = (both-parts (is_open s σ k) _ (both-parts (both (is_open s σ k) (fits s σ t k)) _ (first_some σ.opened (may_share s guard σ t) k f).1).0).0 in
        true≢false (sym held ∙ ap (is_open s σ) (sym q) ∙ not-true (is_open s σ j) shut)

  -- the turns give the same where nothing is opened in vain
  pub turns_same : (n : ℕ) (σ : Schedule) → meets s guard n σ ≡ false → turns s guard true n σ ≡ turns s guard false n σ
  unfolding turns turn meets
  turns_same zero σ e = refl
  turns_same (suc n) σ e = go (first_ready s σ) (either-none (at_task s guard σ (first_ready s σ)) _ e) (turns_same n)
    where
      on : (a : Answer Schedule) → onwards s guard (meets s guard n) a ≡ false → ((τ : Schedule) → meets s guard n τ ≡ false → turns s guard true n τ ≡ turns s guard false n τ)
          → and_then a (turns s guard true n) ≡ and_then a (turns s guard false n)
      on (value τ) h r = r τ h
      on (refused m at) h r = refl

      go : (o : Option ℕ) → (at_task s guard σ o ≡ false) × (onwards s guard (meets s guard n) (place_task s guard false σ o) ≡ false) → ((τ : Schedule) → meets s guard n τ ≡ false → turns s guard true n τ ≡ turns s guard false n τ)
          → and_then (place_task s guard true σ o) (turns s guard true n) ≡ and_then (place_task s guard false σ o) (turns s guard false n)
      go none h r = r σ h.1
      go (some t) h r =
          ap (λ (c : Option ℕ). and_then (place_on s guard σ t c) (turns s guard true n)) (choice-same σ t h.0) ∙ on (place_on s guard σ t (choice s guard false σ t)) h.1 r

  -- the turns give another schedule where something is opened in vain
  module _ (proper : Proper s) where
    -- two schedules that are made from t on j and from t on k
    same_place : {σ φ : Schedule} {t j k : ℕ} (a b : Bool) (n : ℕ) → Fair s σ → Placing s σ t j → Placing s σ t k → unplaced s proper σ ≤ suc n → turns s guard a n (place s σ t j) ≡ value φ → turns s guard b n (place s σ t k) ≡ value φ → j ≡ k
    same_place {σ} {φ} {t} {j} {k} a b n f p q h e g =
        let x = turns-build s proper guard a n (place s σ t j) φ (fair-place s proper f p) (omega (arith, one_less s proper f p)) e in
        let y = turns-build s proper guard b n (place s σ t k) φ (fair-place s proper f q) (omega (arith, one_less s proper f q)) g in
        sym (on_same s proper f p) ∙ sym ((plan-of s proper (fair-place s proper f p) x.1).on t (placed_same s proper f p)) ∙ (plan-of s proper (fair-place s proper f q) y.1).on t (placed_same s proper f q) ∙ on_same s proper f q

    pub turns-apart : (n : ℕ) (σ φ : Schedule) → Fair s σ → unplaced s proper σ ≤ n → turns s guard false n σ ≡ value φ → meets s guard n σ ≡ true → turns s guard true n σ ≡ value φ → ⊥
    unfolding turns turn meets first_ready
    turns-apart zero σ φ f h e m g = absurd (true≢false (sym m))
    turns-apart (suc n) σ φ f h e m g = go (first_ready s σ) refl e m g (turns-apart n)
      where
        Later : Type 0
        Later = (τ ψ : Schedule) → Fair s τ → unplaced s proper τ ≤ n → turns s guard false n τ ≡ value ψ → meets s guard n τ ≡ true → turns s guard true n τ ≡ value ψ → ⊥

        go : (o : Option ℕ) → first_ready s σ ≡ o → and_then (place_task s guard false σ o) (turns s guard false n) ≡ value φ
            → either (at_task s guard σ o) (onwards s guard (meets s guard n) (place_task s guard false σ o)) ≡ true → and_then (place_task s guard true σ o) (turns s guard true n) ≡ value φ → Later → ⊥
        go none q e m g r =
            let all = all_placed s proper σ (leading-none (task_count s) (ready s σ) (ahead_by s (ready_priority s σ)) q) in
            r σ φ f (omega (arith, sum_zeros (task_count s) (missing s proper σ) (λ u l. rw (all u l)))) e m g
        go (some t) q e m g r = at (opens_in_vain s guard σ t) refl m
          where
            found : (t < task_count s) × (ready s σ t ≡ true)
            found = leading-some (task_count s) (ready s σ) (ahead_by s (ready_priority s σ)) t q

            placing-on : (a : Bool) (k : ℕ) → choice s guard a σ t ≡ some k → Placing s σ t k
            placing-on a k c = record { below = found.0; is_ready = found.1; room = chosen s guard σ t k a f.opened c }

            here : (c d : Option ℕ) → first σ.opened (may_share s guard σ t) ≡ c → another s guard σ t ≡ d → is_some c ≡ true → is_some d ≡ true → choice s guard true σ t ≡ c → choice s guard false σ t ≡ d
                → and_then (place_on s guard σ t c) (turns s guard true n) ≡ value φ → and_then (place_on s guard σ t d) (turns s guard false n) ≡ value φ → ⊥
            here none d z o v w c g x y = absurd (true≢false (sym v))
            here (some k) none z o v w c g x y = absurd (true≢false (sym w))
            here (some k) (some j) z o v w c g x y =
                absurd (other-one σ t j k o z (sym (same_place true false n f (placing-on true k c) (placing-on false j g) h x y)))

            later : (c : Option ℕ) → choice s guard false σ t ≡ c → and_then (place_on s guard σ t c) (turns s guard false n) ≡ value φ → onwards s guard (meets s guard n) (place_on s guard σ t c) ≡ true
                → and_then (place_on s guard σ t c) (turns s guard true n) ≡ value φ → ⊥
            later none c x m y = not-value x
            later (some k) c x m y = let p = placing-on false k c in r (place s σ t k) φ (fair-place s proper f p) (omega (arith, one_less s proper f p)) x m y

            at : (b : Bool) → opens_in_vain s guard σ t ≡ b → either b (onwards s guard (meets s guard n) (place_task s guard false σ (some t))) ≡ true → ⊥
            at true v m =
                let c = choice-apart σ t v in
                here (first σ.opened (may_share s guard σ t)) (another s guard σ t) refl refl c.2 c.3 c.1 c.0 (ap (λ (o : Option ℕ). and_then (place_on s guard σ t o) (turns s guard true n)) (sym c.1) ∙ g) (ap (λ (o : Option ℕ). and_then (place_on s guard σ t o) (turns s guard false n)) (sym c.0) ∙ e)
            at false v m = later (choice s guard false σ t) refl e m (ap (λ (o : Option ℕ). and_then (place_on s guard σ t o) (turns s guard true n)) (sym (choice-same σ t v)) ∙ g)

pub changes : (s : Sheet) → Proper s → Changes s
unfolding planned_before wasteful planned planned_by
changes s proper =
    record {
      kept = λ φ e w. turns_same s (barred s) (task_count s) (empty s) w ∙ e;
      changed = λ φ e w g. turns-apart s (barred s) proper (task_count s) (empty s) φ (empty-fair s proper) (omega (arith, sum-le (task_count s) 1 (missing s proper (empty s)) (λ u l. rw (empty-free s proper u) (omega arith)))) e w g;
      refusal = λ n at e d. go n at e d (meets s (barred s) (task_count s) (empty s)) refl;
    }
  where
    go : (n at : ℕ) → turns s (barred s) false (task_count s) (empty s) ≡ refused n at → (turns s (barred s) true (task_count s) (empty s) ≡ refused n at → ⊥) → (b : Bool) → meets s (barred s) (task_count s) (empty s) ≡ b → meets s (barred s) (task_count s) (empty s) ≡ true
    go n at e d true q = q
    go n at e d false q = absurd (d (turns_same s (barred s) (task_count s) (empty s) q ∙ e))
