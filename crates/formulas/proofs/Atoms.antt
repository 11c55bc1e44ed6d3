-- The reader of an atom: a number or a letter, or a sum in parentheses.
use Prim.Native.Nat.{ℕ, suc, ◌+◌, ◌-◌, ◌≤◌, ◌<◌}
use native.Mathlib.Omega.{arith}
use mathlib.Core.Path.{◌≡◌, refl, ap, ◌∙◌}
use mathlib.Core.Bool.{Bool, true, false}
use mathlib.Core.List.{List, ◌∷◌}
use lib.ListN.{length, get_or, drop}
use native.Mathlib.Decide.{dec_lt}
use x.{}
use Rattle.std.specs.Prelude.{Ok, Err}
use Rattle.folds.specs.Folds.{pick}
use Rattle.formulas.specs.Grammar.{Sum, letter, group, Kind, opens, shuts, kind_of, closer, first_letter, is_digit, is_letter, opener}
use Rattle.formulas.specs.Scanning.{Spot, bare, want, have, step_by, stops, scan}
use Rattle.formulas.specs.Parts.{spot_of, last_of, Outsides, AtomAt, SumAt, stands_at, part, closed_by, AtomIs}
use Rattle.formulas.specs.Values.{capped}
use Rattle.formulas.specs.declared.operands.Part.{Part}
use Rattle.formulas.proofs.Scans.{sum-again}
use Rattle.formulas.proofs.Steps.{step-at, stop-at, end-at, no-atom, no_end}
use Rattle.formulas.proofs.Bytes.{is-small, not_digit, not-small, not-kind, stands-true, stands-false}

pub atom-out : (b : List ℕ) (at n : ℕ) → length b ≤ at → Outsides b at n (length b) Spot (λ s. s)
atom-out b at n h = record { inside = omega arith; stop = λ k s. end-at b at (length b) (want n k s) h (omega arith) refl }

pub atom-dead : (b : List ℕ) (at n : ℕ) → at < length b → is_digit (get_or b at 0) ≡ false → is_letter (get_or b at 0) ≡ false → stands_at b at opener ≡ false →
    Outsides b at n at Spot (λ s. s)
atom-dead b at n h x y z = record {
  inside = omega arith;
  stop = λ k s. stop-at b at (want n k s) h (no-atom n k s (get_or b at 0) (kind_of (get_or b at 0)) (not_digit (get_or b at 0) x) (not-small (get_or b at 0) y) (not-kind opens (get_or b at 0) (stands-false b at opener z h)));
}

pub atom-full : (b : List ℕ) (at n : ℕ) → stands_at b at opener ≡ true → n ≡ 0 → Outsides b at n at Spot (λ s. s)
unfolding kind_of
atom-full b at n e q =
    let h = stands-true b at opener e in
    record { inside = omega (arith, h.0); stop = λ k s. stop-at b at (want n k s) h.0 (rw (h.1, q)) }

pub atom-letter : (b ls : List ℕ) (at n v : ℕ) → at < length b → is_digit (get_or b at 0) ≡ false → is_letter (get_or b at 0) ≡ true →
    v ≡ get_or ls (get_or b at 0 - first_letter) 0 → AtomAt b ls at n v (at + 1)
atom-letter b ls at n v h x y e = record {
  atom = letter (get_or b at 0);
  its = ap capped e;
  later = omega arith;
  inside = omega arith;
  scans = λ k s. step-at b at (want n k s) (have n k s (letter (get_or b at 0))) h (ap (λ (d : Kind). step_by (want n k s) d (get_or b at 0)) (is-small (get_or b at 0) x y));
  full = λ _ _. refl;
}

-- a sum in parentheses, where m more may be opened inside it
module _ (b ls : List ℕ) (at n m : ℕ) (open_at : stands_at b at opener ≡ true) (room : n ≡ suc m) where
  opened : (k : List Spot) (s : Spot) → scan (want n k s) (drop at b) ≡ scan (want m (s ∷ k) bare) (drop (at + 1) b)
  unfolding kind_of
  opened k s = let h = stands-true b at opener open_at in step-at b at (want n k s) (want m (s ∷ k) bare) h.0 (rw (h.1, room))

  closes : (e : ℕ) (k : List Spot) (s : Spot) (x : Sum) → e < length b → get_or b e 0 ≡ closer →
      scan (have m (s ∷ k) (spot_of x) (last_of x)) (drop e b) ≡ scan (have n k s (group x)) (drop (e + 1) b)
  unfolding kind_of
  closes e k s x h c = step-at b e (have m (s ∷ k) (spot_of x) (last_of x)) (have n k s (group x)) h (rw (c, room, sum-again x))

  group-read : (v e : ℕ) → SumAt b ls (at + 1) m v e → stands_at b e closer ≡ true → AtomAt b ls at n v (e + 1)
  group-read v e g c =
      let h = stands-true b e closer c in
      record {
        atom = group g.sum;
        its = g.its;
        later = omega (arith, g.later);
        inside = omega (arith, h.0);
        scans = λ k s. opened k s ∙ g.scans (s ∷ k) ∙ closes e k s g.sum h.0 h.1;
        full = λ _ _. refl;
      }

  -- no `)` stands behind it: another byte does, or the text ends
  unclosed : (v e : ℕ) (g : SumAt b ls (at + 1) m v e) → stands_at b e closer ≡ false → (k : List Spot) (s : Spot) →
      scan (have m (s ∷ k) (spot_of g.sum) (last_of g.sum)) (drop e b) ≡ stops (drop e b)
  unclosed v e g c k s = go (dec_lt e (length b))
    where
      go : Dec (e < length b) → scan (have m (s ∷ k) (spot_of g.sum) (last_of g.sum)) (drop e b) ≡ stops (drop e b)
      go (yes l) =
          stop-at b e (have m (s ∷ k) (spot_of g.sum) (last_of g.sum)) l
          (no_end m (s ∷ k) (spot_of g.sum) (last_of g.sum) (get_or b e 0) (kind_of (get_or b e 0)) (g.full l) (g.no_factor l) (g.no_term l) (not-kind shuts (get_or b e 0) (stands-false b e closer c l)))
      go (no l) = end-at b e e (have m (s ∷ k) (spot_of g.sum) (last_of g.sum)) (omega arith) (omega arith) refl

  pub group-is : (inner : Part) → SumAt b ls (at + 1) m inner.value inner.end → AtomIs b ls at n (closed_by b inner)
  group-is p g = go (stands_at b p.end closer) refl
    where
      go : (t : Bool) → stands_at b p.end closer ≡ t → AtomIs b ls at n (pick t (Ok (part p.value (p.end + 1))) (Err p.end))
      go true c = group-read p.value p.end g c
      go false c = record { inside = g.inside; stop = λ k s. opened k s ∙ g.scans (s ∷ k) ∙ unclosed p.value p.end g c k s }

  pub group-stops : (q : ℕ) → Outsides b (at + 1) m q (Unit {0}) (λ _. bare) → Outsides b at n q Spot (λ s. s)
  group-stops q g = record { inside = g.inside; stop = λ k s. opened k s ∙ g.stop (s ∷ k) tt }
