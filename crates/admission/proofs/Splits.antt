-- 31, 32 and 33 are given exactly where 27 of document 01 was.
use Prim.Native.Nat.{ℕ, zero, suc, ◌+◌, ◌≤◌, ◌<◌}
use mathlib.Core.Path.{◌≡◌, refl, sym, ap, ◌∙◌}
use mathlib.Core.Bool.{Bool, true, false, not, true≢false}
use mathlib.Core.Option.{Option, none, some}
use mathlib.Core.List.{[], ◌∷◌}
use native.Mathlib.Omega.{arith}
use borrow.Author.Tests.{eqb-true, ne_eqb, not-false}
use lib.Dec.{eqb}
use Rattle.folds.specs.Folds.{pick, both, first_of, then, is_some}
use Rattle.folds.proofs.Tests.{both-parts}
use Rattle.folds.proofs.Laws.{with_none, none-with, with-some, with-place}
use Rattle.folds.proofs.Firsts.{first_of-between}
use Rattle.sheet.specs.Sheet.{Sheet, link_count, source_of, target_of}
use Rattle.bundle.specs.Bundle.{run, send, receive, Bundle, programme_of}
use Rattle.admission.specs.Counting.{whole, is}
use Rattle.admission.specs.Messages.{home, before, inside, send_fault, receive_fault, order_fault, message_fault, at_message}
use Rattle.admission.specs.Unsplit.{inside_ok, across_ok, link_ok, wrong_message, at27}

pub both_zero : (a b : ℕ) → eqb (a + b) 0 ≡ both (eqb a 0) (eqb b 0)
both_zero zero b = let e : 0 + b ≡ b = omega arith in ap (λ (x : ℕ). eqb x 0) e
both_zero (suc a) b = ne_eqb (suc a + b) 0 (λ q. omega arith) ∙ sym (ap (λ (x : Bool). both x (eqb b 0)) (ne_eqb (suc a) 0 (λ q. omega arith)))

-- a link inside one processor, and one between two, by their tests
inside-split : (p q r : Bool) → is_some (first_of ((not p, 31) ∷ (not q, 32) ∷ (not r, 33) ∷ [])) ≡ not (both (both p q) r)
inside-split true true true = refl
inside-split true true false = refl
inside-split true false r = refl
inside-split false q r = refl

across-split : (p q x y : Bool) → is_some (first_of ((not (both p x), 31) ∷ (not (both q y), 32) ∷ (false, 33) ∷ [])) ≡ not (both p (both q (both x y)))
across-split true true true true = refl
across-split true true true false = refl
across-split true true false y = refl
across-split true false true y = refl
across-split true false false y = refl
across-split false q x y = refl

module _ (s : Sheet) (b : Bundle) where
  fault-wrong : (l : ℕ) → is_some (message_fault s b l) ≡ wrong_message s b l
  unfolding message_fault send_fault receive_fault order_fault inside wrong_message inside_ok across_ok
  fault-wrong l = by (eqb j k)
    where
      j : ℕ
      j = home b (run (source_of s l))

      k : ℕ
      k = home b (run (target_of s l))

      ns : ℕ
      ns = whole b (is (send l))

      nr : ℕ
      nr = whole b (is (receive l))

      u : Bool
      u = before (run (source_of s l)) (send l) (programme_of b j)

      v : Bool
      v = before (receive l) (run (target_of s l)) (programme_of b k)

      o : Bool
      o = before (run (source_of s l)) (run (target_of s l)) (programme_of b k)

      by : (i : Bool) → is_some (first_of ((pick i (not (eqb ns 0)) (not (both (eqb ns 1) u)), 31) ∷ (pick i (not (eqb nr 0)) (not (both (eqb nr 1) v)), 32) ∷ (both i (not o), 33) ∷ []))
          ≡ not (pick i (both (eqb (ns + nr) 0) o) (both (eqb ns 1) (both (eqb nr 1) (both u v))))
      by true = inside-split (eqb ns 0) (eqb nr 0) o ∙ ap (λ (x : Bool). not (both x o)) (sym (both_zero ns nr))
      by false = across-split (eqb ns 1) (eqb nr 1) u v

  -- the place is 27's
  pub exactly-27 : then (at_message s b) (λ x. some x.1) ≡ at27 s b
  unfolding at_message at27
  exactly-27 = with-place (link_count s) (message_fault s b) (wrong_message s b) (λ l h. fault-wrong l)

  -- the number is one of the three
  pub message-number : (n l : ℕ) → at_message s b ≡ some (n, l) → (31 ≤ n) × (n ≤ 33)
  unfolding at_message message_fault
  message-number n l e =
      first_of-between 31 33 n ((send_fault s b l, 31) ∷ (receive_fault s b l, 32) ∷ (order_fault s b l, 33) ∷ [])
      ((omega arith, omega arith), ((omega arith, omega arith), ((omega arith, omega arith), tt))) (with-some (link_count s) (message_fault s b) n l e).1

  fault-none : (l : ℕ) (o : Option ℕ) → message_fault s b l ≡ o → o ≡ none → wrong_message s b l ≡ false
  fault-none l o e q = sym (fault-wrong l) ∙ ap is_some (e ∙ q)

  none-fault : (l : ℕ) (o : Option ℕ) → message_fault s b l ≡ o → wrong_message s b l ≡ false → o ≡ none
  none-fault l none e q = refl
  none-fault l (some x) e q = absurd (true≢false (sym (ap is_some e) ∙ fault-wrong l ∙ q))

  -- of a link that none of them is given for
  pub link-right : at_message s b ≡ none → (l : ℕ) → l < link_count s → link_ok s b l (home b (run (source_of s l))) (home b (run (target_of s l))) ≡ true
  unfolding at_message wrong_message
  link-right p l h = not-false _ (fault-none l (message_fault s b l) refl (with_none (link_count s) (message_fault s b) p l h))

  -- a link that none of them is given for has at most one send and one receive
  pub message-once : at_message s b ≡ none → (l : ℕ) → l < link_count s → (whole b (is (send l)) ≤ 1) × (whole b (is (receive l)) ≤ 1)
  unfolding inside_ok across_ok
  message-once p l h = go (eqb j k) (link-right p l h)
    where
      j : ℕ
      j = home b (run (source_of s l))

      k : ℕ
      k = home b (run (target_of s l))

      go : (u : Bool) → pick u (inside_ok s b l k) (across_ok s b l j k) ≡ true → (whole b (is (send l)) ≤ 1) × (whole b (is (receive l)) ≤ 1)
      go true e =
          let h = both-parts (eqb (whole b (is (send l)) + whole b (is (receive l))) 0) _ e in
          let z = eqb-true (whole b (is (send l)) + whole b (is (receive l))) 0 h.0 in
          (omega arith, omega arith)
      go false e =
          let h = both-parts (eqb (whole b (is (send l))) 1) _ e in
          let g = both-parts (eqb (whole b (is (receive l))) 1) _ h.1 in
          (omega (arith, eqb-true (whole b (is (send l))) 1 h.0), omega (arith, eqb-true (whole b (is (receive l))) 1 g.0))

  pub right-links : ((l : ℕ) → l < link_count s → link_ok s b l (home b (run (source_of s l))) (home b (run (target_of s l))) ≡ true) → at_message s b ≡ none
  unfolding at_message wrong_message
  right-links g = none-with (link_count s) (message_fault s b) (λ l h. none-fault l (message_fault s b l) refl (ap not (g l h)))
