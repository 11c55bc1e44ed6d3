-- The reader of a sum.
use Prim.Native.Nat.{ℕ, ◌+◌, ◌≤◌}
use native.Mathlib.Omega.{arith}
use mathlib.Core.Path.{◌≡◌, refl, sym, ap, subst, ◌∙◌}
use mathlib.Core.Bool.{true, false}
use mathlib.Core.Option.{Option, none, some}
use mathlib.Core.List.{List, ◌∷◌}
use lib.ListN.{get_or, drop}
use Rattle.formulas.specs.Grammar.{Sum, Product, Atom, adds, plus_sign}
use Rattle.formulas.specs.Scanning.{Spot, bare, plus_to, want, have, scan}
use Rattle.formulas.specs.Parts.{factors_of, last_in, spot_of, last_of, fresh, Full, Outsides, ProductAt, SumAt, stands_at}
use Rattle.formulas.specs.Values.{capped, capped_by}
use Rattle.formulas.proofs.Limits.{Before, plus-value}
use Rattle.formulas.proofs.Scans.{added}
use Rattle.formulas.proofs.Steps.{at_byte}
use Rattle.formulas.proofs.Bytes.{not-kind, stands-true, stands-false}

-- what has been read of it up to `at`
pub record Summing (b ls : List ℕ) (from n at v : ℕ) : Type 0 where
  pub left : Option Sum
  pub its : Before left ls v
  pub later : from ≤ at
  pub scans : (k : List Spot) → scan (want n k bare) (drop from b) ≡ scan (want n k (fresh left)) (drop at b)

pub summing-none : (b ls : List ℕ) (from n : ℕ) → Summing b ls from n from 0
summing-none b ls from n = record { left = none; its = refl; later = omega arith; scans = λ k. refl }

pub sum-stops : {b ls : List ℕ} {from n at v : ℕ} (q : ℕ) → Summing b ls from n at v → Outsides b at n q (Option Sum) fresh → Outsides b from n q (Unit {0}) (λ _. bare)
sum-stops q m g = record { inside = g.inside; stop = λ k o. m.scans k ∙ g.stop k m.left }

summed : (o : Option Sum) (p : Product) (n : ℕ) (k : List Spot) (b : List ℕ) →
    scan (have n k (record { before = o; factors = factors_of p }) (last_in p)) b ≡ scan (have n k (spot_of (plus_to o p)) (last_of (plus_to o p))) b
summed none p n k b = refl
summed (some s) p n k b = refl

last-summed : (o : Option Sum) (p : Product) → last_of (plus_to o p) ≡ last_in p
last-summed none p = refl
last-summed (some s) p = refl

pub sum-read : {b ls : List ℕ} {from n at v : ℕ} (w r e : ℕ) → Summing b ls from n at v → ProductAt b ls at n w e → capped r ≡ capped_by ◌+◌ (capped v) (capped w) →
    stands_at b e plus_sign ≡ false → SumAt b ls from n r e
sum-read {b} {ls} {from} {n} {at} {v} w r e m a q z = record {
  sum = plus_to m.left a.product;
  its = plus-value m.left a.product ls v w r m.its a.its q;
  later = omega (arith, m.later, a.later);
  inside = a.inside;
  scans = λ k. m.scans k ∙ a.scans k m.left ∙ summed m.left a.product n k (drop e b);
  full = subst (λ (x : Atom). Full x b e) (sym (last-summed m.left a.product)) a.full;
  no_factor = a.no_factor;
  no_term = λ l. not-kind adds (get_or b e 0) (stands-false b e plus_sign z l);
}

cross : (b : List ℕ) (e n : ℕ) (k : List Spot) (x : Sum) → stands_at b e plus_sign ≡ true →
    scan (have n k (spot_of x) (last_of x)) (drop e b) ≡ scan (want n k (fresh (some x))) (drop (e + 1) b)
cross b e n k x z =
    let h = stands-true b e plus_sign z in
    ap (scan (have n k (spot_of x) (last_of x))) (at_byte b e h.0 ∙ ap (λ (y : ℕ). y ∷ drop (e + 1) b) h.1) ∙ added x n k (drop (e + 1) b)

pub sum_more : {b ls : List ℕ} {from n at v : ℕ} (w r e : ℕ) → Summing b ls from n at v → ProductAt b ls at n w e → capped r ≡ capped_by ◌+◌ (capped v) (capped w) →
    stands_at b e plus_sign ≡ true → Summing b ls from n (e + 1) r
sum_more {b} {ls} {from} {n} {at} {v} w r e m a q z = record {
  left = some (plus_to m.left a.product);
  its = plus-value m.left a.product ls v w r m.its a.its q;
  later = omega (arith, m.later, a.later);
  scans = λ k. m.scans k ∙ a.scans k m.left ∙ summed m.left a.product n k (drop e b) ∙ cross b e n k (plus_to m.left a.product) z;
}
