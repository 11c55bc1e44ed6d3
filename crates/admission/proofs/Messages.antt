-- What 26, 31 to 33, 37 and 28 say where they do not apply: each task runs once, its inputs are there and still held, and the store suffices.
use Prim.Native.Nat.{ℕ, ◌+◌, ◌≤◌, ◌<◌}
use native.Mathlib.Omega.{arith}
use native.Mathlib.Decide.{dec_lt}
use mathlib.Core.Bool.{Bool, true, false, false≢true}
use mathlib.Core.Option.{Option, none, some}
use mathlib.Core.Path.{◌≡◌, refl, sym, ap, ◌∙◌}
use mathlib.Core.Logic.{◌⊎◌, inl, inr, ⊎_elim}
use mathlib.Core.List.{List}
use lib.ListN.{take, get_elem?}
use lib.Dec.{eqb, ltb}
use borrow.Author.Tests.{eqb-true, eq-eqb, ltb-true, ltb-false, lt-ltb, le-ltb, not-false}
use Rattle.folds.specs.Folds.{pick, bit, first}
use Rattle.folds.proofs.Tests.{equal-or, both-parts, parts-both}
use Rattle.folds.proofs.Laws.{any_found, two-terms-le-sum, first-none, first_some, none_first}
use Rattle.sheet.specs.Sheet.{Sheet, task_count, link_count, source_of, target_of}
use Rattle.bundle.specs.Bundle.{Command, run, send, receive, release, discard, Bundle, programme_count, programme_of}
use Rattle.admission.specs.Counting.{weigh, whole_of, whole, is, in_use, highest}
use Rattle.admission.specs.Messages.{not_once, holds, home, before, over_store, at26, at28, Published}
use Rattle.admission.specs.Releases.{joins, held}
use Rattle.admission.specs.Unsplit.{inside_ok, across_ok, link_ok}
use Rattle.admission.proofs.Splits.{link-right}
use Rattle.admission.proofs.Weights.{programme-or, command-below, standing}
use Rattle.admission.proofs.Before.{before-takes}
use Rattle.admission.proofs.Rights.{still, all_right}
use Rattle.admission.proofs.Stores.{use-none, le-highest, highest-le}

-- a command that stands once in the bundle stands at home
pub home-is : (b : Bundle) (c : Command) (k : ℕ) → k < programme_count b → whole b (is c) ≤ 1 → 0 < whole_of b (is c) k → home b c ≡ k
unfolding whole holds home
home-is b c k below h e = go (first (programme_count b) (holds b c)) refl
  where
    go : (o : Option ℕ) → first (programme_count b) (holds b c) ≡ o → home b c ≡ k
    go none q = absurd (false≢true (sym (first-none (programme_count b) (holds b c) q k below) ∙ lt-ltb 0 (whole_of b (is c) k) e))
    go (some j) q =
        let m = first_some (programme_count b) (holds b c) j q in
        ⊎_elim (λ (r : j ≡ k). rw q r)
        (λ d. absurd (omega (arith, two-terms-le-sum (programme_count b) (whole_of b (is c)) j k d m.0 below, ltb-true 0 (whole_of b (is c) j) m.1)))
        (equal-or j k)

-- what 31 to 33 leave of link l: one send at most, and its source's run or its receive before its target's run
pub record Message (s : Sheet) (b : Bundle) (l : ℕ) : Type 0 where
  pub one : whole b (is (send l)) ≤ 1
  pub comes :
      (before (run (source_of s l)) (run (target_of s l)) (programme_of b (home b (run (target_of s l)))) ≡ true)
      ⊎ (before (receive l) (run (target_of s l)) (programme_of b (home b (run (target_of s l)))) ≡ true)

message : (s : Sheet) (b : Bundle) (l : ℕ) → link_ok s b l (home b (run (source_of s l))) (home b (run (target_of s l))) ≡ true → Message s b l
unfolding inside_ok across_ok
message s b l e = go (eqb j k) e
  where
    j : ℕ
    j = home b (run (source_of s l))

    k : ℕ
    k = home b (run (target_of s l))

    go : (u : Bool) → pick u (inside_ok s b l k) (across_ok s b l j k) ≡ true → Message s b l
    go true e =
        let h = both-parts (eqb (whole b (is (send l)) + whole b (is (receive l))) 0) _ e in
        record { one = omega (arith, eqb-true); comes = inl h.1 }
    go false e =
        let h = both-parts (eqb (whole b (is (send l))) 1) _ e in
        let g = both-parts (eqb (whole b (is (receive l))) 1) _ h.1 in
        record { one = omega (arith, eqb-true); comes = inr (both-parts (before (run (source_of s l)) (send l) (programme_of b j)) _ g.1).1 }

-- 26: every task runs just once
pub run-once : (s : Sheet) (b : Bundle) → at26 s b ≡ none → (t : ℕ) → t < task_count s → whole b (is (run t)) ≡ 1
unfolding at26 not_once
run-once s b once t h = eqb-true _ _ (not-false _ (first-none (task_count s) (not_once b) once t h))

module _ (s : Sheet) (b : Bundle) where
  module _ (published : Published s b) where
    pub messages : (l : ℕ) → l < link_count s → Message s b l
    messages l h = message s b l (link-right s b published.messages l h)

    -- where a task runs, for each link into it its source's run or its receive stands before
    pub inputs : (k i t : ℕ) → t < task_count s → get_elem? (programme_of b k) i ≡ some (run t) → (l : ℕ) → l < link_count s → target_of s l ≡ t
        → 0 < weigh (is (run (source_of s l))) (take i (programme_of b k)) + weigh (is (receive l)) (take i (programme_of b k))
    unfolding whole_of
    inputs k i t h e l m q =
        let f : get_elem? (programme_of b k) i ≡ some (run (target_of s l)) = rw q e in
        let z =
        home-is b (run (target_of s l)) k (command-below b k i (run t) e) (omega (arith, run-once s b published.once t h, ap (λ x. whole b (is (run x))) q))
        (standing (run (target_of s l)) (programme_of b k) i f)
        in
        ⊎_elim (λ g. omega (arith, before-takes (run (source_of s l)) (run (target_of s l)) (programme_of b k) i (rw z at g) f))
        (λ g. omega (arith, before-takes (receive l) (run (target_of s l)) (programme_of b k) i (rw z at g) f))
        (messages l m).comes

    -- where a task runs, its processor still holds each input: its source's result, or its message
    pub still-inputs : (k i t : ℕ) → t < task_count s → get_elem? (programme_of b k) i ≡ some (run t) → (l : ℕ) → l < link_count s → target_of s l ≡ t
        → (held (release (source_of s l)) (take i (programme_of b k)) ≡ true) ⊎ (held (discard l) (take i (programme_of b k)) ≡ true)
    unfolding held
    still-inputs k i t h e l m q = go (dec_lt 0 (weigh (is (run (source_of s l))) (take i p)))
      where
        p : List Command
        p = programme_of b k

        used : joins s (source_of s l) t l ≡ true
        used = parts-both (eqb (source_of s l) (source_of s l)) (eqb (target_of s l) t) (eq-eqb (source_of s l) (source_of s l) refl) (eq-eqb (target_of s l) t q)

        go : Dec (0 < weigh (is (run (source_of s l))) (take i p)) → (held (release (source_of s l)) (take i p) ≡ true) ⊎ (held (discard l) (take i p) ≡ true)
        go (yes g) =
            let x = release (source_of s l) in
            let u = still s p (all_right s b published.releases k) x (run t) i refl e (omega (arith, ap bit (any_found (link_count s) (joins s (source_of s l) t) l m used))) in
            inl (parts-both (ltb 0 (weigh (is (run (source_of s l))) (take i p))) (eqb (weigh (is x) (take i p)) 0) (lt-ltb 0 (weigh (is (run (source_of s l))) (take i p)) g) (eq-eqb (weigh (is x) (take i p)) 0 u))
        go (no g) =
            let x = discard l in
            let u = still s p (all_right s b published.releases k) x (run t) i refl e (omega (arith, ap bit (eq-eqb (target_of s l) t q))) in
            inr (parts-both (ltb 0 (weigh (is (receive l)) (take i p))) (eqb (weigh (is x) (take i p)) 0) (lt-ltb 0 (weigh (is (receive l)) (take i p)) (omega (arith, inputs k i t h e l m q))) (eq-eqb (weigh (is x) (take i p)) 0 u))

  -- 28: the store in use is within the limit at every position of every programme
  pub within-limit : at28 s b ≡ none → (k i : ℕ) → in_use s (programme_of b k) i ≤ s.limit
  unfolding at28 over_store
  within-limit e k i =
      ⊎_elim
      (λ h. omega (arith, ltb-false s.limit (highest s (programme_of b k)) (first-none (programme_count b) (over_store s b) e k h), le-highest s (programme_of b k) i))
      (λ q. rw q (omega (arith, use-none s i))) (programme-or b k)

  pub limit-within : ((k i : ℕ) → in_use s (programme_of b k) i ≤ s.limit) → at28 s b ≡ none
  unfolding at28 over_store
  limit-within h =
      none_first (programme_count b) (over_store s b) (λ k l. le-ltb s.limit (highest s (programme_of b k)) (highest-le s (programme_of b k) s.limit (λ i m. h k i)))
