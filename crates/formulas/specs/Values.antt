-- The value of a formula with the letters' values, by the rules of the grammar alone.
use Rattle.std.specs.Prelude.{ℕ, ◌+◌, ◌*◌, ◌-◌, List, [], ◌∷◌, get_or, leb}
use Rattle.std.proofs.Math.Option.{Option, none, some}
use Rattle.folds.specs.Folds.{pick}
use Rattle.formulas.specs.Grammar.{Sum, term, plus, Product, factor, times, Atom, number, letter, group, first_digit, first_letter}

-- "A number or partial result above 4,294,967,295 is refused": it is no value, and nothing made of it is one
abbrev pub greatest_value : ℕ
greatest_value = 4294967295

abbrev pub capped : ℕ → Option ℕ
capped n = pick (leb n greatest_value) (some n) none

abbrev pub capped_by : (ℕ → ℕ → ℕ) → Option ℕ → Option ℕ → Option ℕ
capped_by f none b = none
capped_by f (some a) none = none
capped_by f (some a) (some b) = capped (f a b)

-- the decimal number with the digits ds behind those of n
unfoldable pub decimal : ℕ → List ℕ → ℕ
decimal n [] = n
decimal n (c ∷ ds) = decimal (10 * n + (c - first_digit)) ds

abbrev mutual
  pub sum_value : Sum → List ℕ → Option ℕ
  sum_value (term p) ls = product_value p ls
  sum_value (plus s p) ls = capped_by ◌+◌ (sum_value s ls) (product_value p ls)

  pub product_value : Product → List ℕ → Option ℕ
  product_value (factor a) ls = atom_value a ls
  product_value (times p a) ls = capped_by ◌*◌ (product_value p ls) (atom_value a ls)

  pub atom_value : Atom → List ℕ → Option ℕ
  atom_value (number ds) ls = capped (decimal 0 ds)
  atom_value (letter c) ls = capped (get_or ls (c - first_letter) 0)
  atom_value (group s) ls = sum_value s ls
