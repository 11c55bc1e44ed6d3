-- The grammar of formulas: what a formula is made of, how it is written, and which are allowed. A reading of a text is an allowed formula that is written so.
use Rattle.std.specs.Prelude.{ℕ, suc, ◌≤◌, Bool, ◌≡◌, List, [], ◌∷◌, ◌++◌, length, leb, eqb}
use Rattle.folds.specs.Folds.{pick, both}

-- "decimal numbers of one to ten digits"
abbrev pub most_digits : ℕ
most_digits = 10

-- "At most 32 parentheses may be open together"
abbrev pub most_open : ℕ
most_open = 32

-- the bytes of `+`, `*`, `(` and `)`
abbrev pub plus_sign : ℕ
plus_sign = 0x2B

abbrev pub times_sign : ℕ
times_sign = 0x2A

abbrev pub opener : ℕ
opener = 0x28

abbrev pub closer : ℕ
closer = 0x29

-- the bytes of the digits 0 to 9 and of the letters a to z
abbrev pub first_digit : ℕ
first_digit = 0x30

abbrev pub last_digit : ℕ
last_digit = 0x39

abbrev pub first_letter : ℕ
first_letter = 0x61

abbrev pub last_letter : ℕ
last_letter = 0x7A

abbrev pub within : ℕ → ℕ → ℕ → Bool
within low high c = both (leb low c) (leb c high)

abbrev pub is_digit : ℕ → Bool
is_digit c = within first_digit last_digit c

abbrev pub is_letter : ℕ → Bool
is_letter c = within first_letter last_letter c

-- "Products bind tighter than sums, and equals group from the left": a sum is a product, or a sum and one product more; a product is an atom, or a product and one
-- atom more. An atom is a number, by its digits, a letter, or a sum in parentheses.
mutual
  pub data Sum : Type 0 where
    term : Product → Sum
    plus : Sum → Product → Sum

  pub data Product : Type 0 where
    factor : Atom → Product
    times : Product → Atom → Product

  pub data Atom : Type 0 where
    number : List ℕ → Atom
    letter : ℕ → Atom
    group : Sum → Atom

-- how each is written: "with no spaces"
abbrev mutual
  pub sum_text : Sum → List ℕ
  sum_text (term p) = product_text p
  sum_text (plus s p) = sum_text s ++ (plus_sign ∷ product_text p)

  pub product_text : Product → List ℕ
  product_text (factor a) = atom_text a
  product_text (times p a) = product_text p ++ (times_sign ∷ atom_text a)

  pub atom_text : Atom → List ℕ
  atom_text (number ds) = ds
  atom_text (letter c) = c ∷ []
  atom_text (group s) = opener ∷ (sum_text s ++ (closer ∷ []))

-- what kind of byte c is
pub data Kind : Type 0 where
  digit small adds multiplies opens shuts other : Kind

unfoldable pub kind_of : ℕ → Kind
kind_of c =
    pick (is_digit c) digit
    (pick (is_letter c) small
    (pick (eqb c plus_sign) adds (pick (eqb c times_sign) multiplies (pick (eqb c opener) opens (pick (eqb c closer) shuts other)))))

abbrev pub Digits : List ℕ → Type 0
Digits [] = Unit {0}
Digits (c ∷ ds) = (kind_of c ≡ digit) × Digits ds

-- allowed where n more parentheses may be opened: numbers of one to ten digits, letters a to z, and at most n parentheses open together
abbrev mutual
  pub SumFits : Sum → ℕ → Type 0
  SumFits (term p) n = ProductFits p n
  SumFits (plus s p) n = SumFits s n × ProductFits p n

  pub ProductFits : Product → ℕ → Type 0
  ProductFits (factor a) n = AtomFits a n
  ProductFits (times p a) n = ProductFits p n × AtomFits a n

  pub AtomFits : Atom → ℕ → Type 0
  AtomFits (number ds) n = (1 ≤ length ds) × (length ds ≤ most_digits) × Digits ds
  AtomFits (letter c) n = kind_of c ≡ small
  AtomFits (group s) n = (m : ℕ) × (n ≡ suc m) × SumFits s m

pub record Reading (text : List ℕ) : Type 0 where
  pub formula : Sum
  pub written : sum_text formula ≡ text
  pub allowed : SumFits formula most_open

-- some allowed text begins with p
pub record Begins (p : List ℕ) : Type 0 where
  pub rest : List ℕ
  pub reading : Reading (p ++ rest)
