-- What the readers of a sum, a product and an atom give: the formula that stands there, its value, and where it ends; or the place at which reading stops.
use Rattle.std.specs.Prelude.{ℕ, ◌+◌, ◌-◌, ◌≤◌, ◌<◌, Bool, ◌≡◌, List, length, drop, get_or, ltb, eqb, Result, Ok, Err}
use Rattle.std.proofs.Math.Option.{Option, none, some}
use Rattle.folds.specs.Folds.{pick, both}
use Rattle.folds.specs.Answers.{Answer, value, refused}
use Rattle.formulas.specs.Grammar.{Sum, term, plus, Product, factor, times, Atom, Kind, digit, adds, multiplies, kind_of, is_digit, most_digits, closer}
use Rattle.formulas.specs.Scanning.{Spot, bare, want, have, longer, stops, scan}
use Rattle.formulas.specs.Values.{capped, sum_value, product_value, atom_value}
use Rattle.formulas.specs.declared.operands.Part.{Part}
use Rattle.refusals.specs.declared.Refusal.{Refusal}

-- the byte c stands at i
abbrev pub stands_at : List ℕ → ℕ → ℕ → Bool
stands_at b i c = both (ltb i (length b)) (eqb (get_or b i 0) c)

-- a digit stands at i, and fewer than ten digits stand from `from` to there
abbrev pub digit_at : List ℕ → ℕ → ℕ → Bool
digit_at b from i = both (ltb i (length b)) (both (ltb (i - from) most_digits) (is_digit (get_or b i 0)))

-- a part of the value v that ends at e
abbrev pub part : ℕ → ℕ → Part
part v e = record { value = v; end = e }

-- a sum in parentheses, by what was read behind the `(`
abbrev pub closed_by : List ℕ → Part → Result Part ℕ
closed_by b p = pick (stands_at b p.end closer) (Ok (part p.value (p.end + 1))) (Err p.end)

-- what stands before the last atom of a formula, and that atom
abbrev pub factors_of : Product → Option Product
factors_of (factor a) = none
factors_of (times p a) = some p

abbrev pub last_in : Product → Atom
last_in (factor a) = a
last_in (times p a) = a

abbrev pub spot_of : Sum → Spot
spot_of (term p) = record { before = none; factors = factors_of p }
spot_of (plus s p) = record { before = some s; factors = factors_of p }

abbrev pub last_of : Sum → Atom
last_of (term p) = last_in p
last_of (plus s p) = last_in p

-- a product is wanted here
abbrev pub fresh : Option Sum → Spot
fresh o = record { before = o; factors = none }

-- the byte at e, if there is one, is not of the kind d
abbrev pub NotNext : Kind → List ℕ → ℕ → Type 0
NotNext d b e = e < length b → kind_of (get_or b e 0) ≡ d → ⊥

-- the byte at e, if there is one, is no further digit of a
abbrev pub Full : Atom → List ℕ → ℕ → Type 0
Full a b e = e < length b → kind_of (get_or b e 0) ≡ digit → longer a (get_or b e 0) ≡ none

pub record Outsides (b : List ℕ) (at n q : ℕ) (S : Type 0) (spot : S → Spot) : Type 0 where
  pub inside : q ≤ length b
  pub stop : (k : List Spot) (s : S) → scan (want n k (spot s)) (drop at b) ≡ stops (drop q b)

pub record AtomAt (b ls : List ℕ) (at n v e : ℕ) : Type 0 where
  pub atom : Atom
  pub its : capped v ≡ atom_value atom ls
  pub later : at < e
  pub inside : e ≤ length b
  pub scans : (k : List Spot) (s : Spot) → scan (want n k s) (drop at b) ≡ scan (have n k s atom) (drop e b)
  pub full : Full atom b e

pub record ProductAt (b ls : List ℕ) (at n v e : ℕ) : Type 0 where
  pub product : Product
  pub its : capped v ≡ product_value product ls
  pub later : at < e
  pub inside : e ≤ length b
  pub scans : (k : List Spot) (o : Option Sum) →
      scan (want n k (fresh o)) (drop at b) ≡ scan (have n k (record { before = o; factors = factors_of product }) (last_in product)) (drop e b)
  pub full : Full (last_in product) b e
  pub no_factor : NotNext multiplies b e

pub record SumAt (b ls : List ℕ) (at n v e : ℕ) : Type 0 where
  pub sum : Sum
  pub its : capped v ≡ sum_value sum ls
  pub later : at < e
  pub inside : e ≤ length b
  pub scans : (k : List Spot) → scan (want n k bare) (drop at b) ≡ scan (have n k (spot_of sum) (last_of sum)) (drop e b)
  pub full : Full (last_of sum) b e
  pub no_factor : NotNext multiplies b e
  pub no_term : NotNext adds b e

abbrev pub AtomIs : List ℕ → List ℕ → ℕ → ℕ → Result Part ℕ → Type 0
AtomIs b ls at n (Ok p) = AtomAt b ls at n p.value p.end
AtomIs b ls at n (Err q) = Outsides b at n q Spot (λ s. s)

abbrev pub ProductIs : List ℕ → List ℕ → ℕ → ℕ → Result Part ℕ → Type 0
ProductIs b ls at n (Ok p) = ProductAt b ls at n p.value p.end
ProductIs b ls at n (Err q) = Outsides b at n q (Option Sum) fresh

abbrev pub SumIs : List ℕ → List ℕ → ℕ → ℕ → Result Part ℕ → Type 0
SumIs b ls at n (Ok p) = SumAt b ls at n p.value p.end
SumIs b ls at n (Err q) = Outsides b at n q (Unit {0}) (λ _. bare)

-- a number, or a number or letter, is an atom wherever it stands
abbrev pub NumberIs : List ℕ → ℕ → Part → Type 0
NumberIs b at p = (ls : List ℕ) (n : ℕ) → AtomAt b ls at n p.value p.end

abbrev pub SimpleIs : List ℕ → List ℕ → ℕ → Result Part ℕ → Type 0
SimpleIs b ls at r = (n : ℕ) → AtomIs b ls at n r

abbrev pub answer_of : Result ℕ Refusal → Answer ℕ
answer_of (Ok v) = value v
answer_of (Err r) = refused r.number r.place
