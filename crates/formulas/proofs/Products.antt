-- The reader of a product.
use Prim.Native.Nat.{ℕ, ◌+◌, ◌*◌, ◌≤◌}
use native.Mathlib.Omega.{arith}
use mathlib.Core.Path.{◌≡◌, refl, sym, ap, subst, ◌∙◌}
use mathlib.Core.Bool.{true, false}
use mathlib.Core.Option.{Option, none, some}
use mathlib.Core.List.{List, ◌∷◌}
use lib.ListN.{get_or, drop}
use Rattle.formulas.specs.Grammar.{Sum, Product, Atom, multiplies, times_sign}
use Rattle.formulas.specs.Scanning.{Spot, times_to, want, have, scan}
use Rattle.formulas.specs.Parts.{factors_of, last_in, fresh, Full, Outsides, AtomAt, ProductAt, stands_at}
use Rattle.formulas.specs.Values.{capped, capped_by}
use Rattle.formulas.proofs.Limits.{Factors, times-value}
use Rattle.formulas.proofs.Scans.{multiplied}
use Rattle.formulas.proofs.Steps.{at_byte}
use Rattle.formulas.proofs.Bytes.{not-kind, stands-true, stands-false}

-- what has been read of it up to `at`

pub record Multiplying (b ls : List ℕ) (from n at v : ℕ) : Type 0 where
  pub factors : Option Product
  pub its : Factors factors ls v
  pub later : from ≤ at
  pub scans : (k : List Spot) (o : Option Sum) → scan (want n k (fresh o)) (drop from b) ≡ scan (want n k (record { before = o; factors = factors })) (drop at b)

pub multiplying-none : (b ls : List ℕ) (from n : ℕ) → Multiplying b ls from n from 1
multiplying-none b ls from n = record { factors = none; its = refl; later = omega arith; scans = λ k o. refl }

pub product-stops : {b ls : List ℕ} {from n at v : ℕ} (q : ℕ) → Multiplying b ls from n at v → Outsides b at n q Spot (λ s. s) → Outsides b from n q (Option Sum) fresh
product-stops q m g = record { inside = g.inside; stop = λ k o. m.scans k o ∙ g.stop k (record { before = o; factors = m.factors }) }

timed : (f : Option Product) (a : Atom) (n : ℕ) (k : List Spot) (o : Option Sum) (b : List ℕ) →
    scan (have n k (record { before = o; factors = f }) a) b ≡ scan (have n k (record { before = o; factors = factors_of (times_to f a) }) (last_in (times_to f a))) b
timed none a n k o b = refl
timed (some p) a n k o b = refl

last-timed : (f : Option Product) (a : Atom) → last_in (times_to f a) ≡ a
last-timed none a = refl
last-timed (some p) a = refl

pub product-read : {b ls : List ℕ} {from n at v : ℕ} (w r e : ℕ) → Multiplying b ls from n at v → AtomAt b ls at n w e → capped r ≡ capped_by ◌*◌ (capped v) (capped w) →
    stands_at b e times_sign ≡ false → ProductAt b ls from n r e
product-read {b} {ls} {from} {n} {at} {v} w r e m a q z = record {
  product = times_to m.factors a.atom;
  its = times-value m.factors a.atom ls v w r m.its a.its q;
  later = omega (arith, m.later, a.later);
  inside = a.inside;
  scans = λ k o. m.scans k o ∙ a.scans k (record { before = o; factors = m.factors }) ∙ timed m.factors a.atom n k o (drop e b);
  full = subst (λ (x : Atom). Full x b e) (sym (last-timed m.factors a.atom)) a.full;
  no_factor = λ l. not-kind multiplies (get_or b e 0) (stands-false b e times_sign z l);
}

star : (b : List ℕ) (e n : ℕ) (k : List Spot) (o : Option Sum) (p : Product) → stands_at b e times_sign ≡ true →
    scan (have n k (record { before = o; factors = factors_of p }) (last_in p)) (drop e b) ≡ scan (want n k (record { before = o; factors = some p })) (drop (e + 1) b)
star b e n k o p z =
    let h = stands-true b e times_sign z in
    ap (scan (have n k (record { before = o; factors = factors_of p }) (last_in p))) (at_byte b e h.0 ∙ ap (λ (x : ℕ). x ∷ drop (e + 1) b) h.1) ∙ multiplied p n k o (drop (e + 1) b)

pub product-more : {b ls : List ℕ} {from n at v : ℕ} (w r e : ℕ) → Multiplying b ls from n at v → AtomAt b ls at n w e → capped r ≡ capped_by ◌*◌ (capped v) (capped w) →
    stands_at b e times_sign ≡ true → Multiplying b ls from n (e + 1) r
product-more {b} {ls} {from} {n} {at} {v} w r e m a q z = record {
  factors = some (times_to m.factors a.atom);
  its = times-value m.factors a.atom ls v w r m.its a.its q;
  later = omega (arith, m.later, a.later);
  scans = λ k o. m.scans k o ∙ a.scans k (record { before = o; factors = m.factors }) ∙ timed m.factors a.atom n k o (drop e b) ∙ star b e n k o (times_to m.factors a.atom) z;
}
