-- Reading a text byte by byte, from its first to the byte that cannot stand there. What is open is kept innermost first.
use Rattle.std.specs.Prelude.{ℕ, zero, suc, List, [], ◌∷◌, ◌++◌, length, ltb}
use Rattle.std.proofs.Math.Option.{Option, none, some}
use Rattle.folds.specs.Folds.{pick}
use Rattle.formulas.specs.Grammar.{Sum, term, plus, Product, factor, times, Atom, number, letter, group, Kind, digit, small, adds, multiplies, opens, shuts, other, kind_of, most_digits, most_open}

-- what stands before an atom, inside one pair of parentheses: a sum and its `+`, and a product and its `*`
pub record Spot : Type 0 where
  pub before : Option Sum
  pub factors : Option Product

abbrev pub bare : Spot
bare = record { before = none; factors = none }

abbrev pub times_to : Option Product → Atom → Product
times_to none a = factor a
times_to (some p) a = times p a

abbrev pub plus_to : Option Sum → Product → Sum
plus_to none p = term p
plus_to (some s) p = plus s p

abbrev pub product_at : Spot → Atom → Product
product_at s a = times_to s.factors a

abbrev pub sum_at : Spot → Atom → Sum
sum_at s a = plus_to s.before (product_at s a)

-- n more parentheses may be opened; k is what stands before those that are open; an atom is wanted, or one has just been read
pub data State : Type 0 where
  want : ℕ → List Spot → Spot → State
  have : ℕ → List Spot → Spot → Atom → State

-- a number of fewer digits than it may have takes one more
abbrev pub longer : Atom → ℕ → Option Atom
longer (number ds) c = pick (ltb (length ds) most_digits) (some (number (ds ++ (c ∷ [])))) none
longer (letter x) c = none
longer (group s) c = none

abbrev pub having : ℕ → List Spot → Spot → Option Atom → Option State
having n k s none = none
having n k s (some a) = some (have n k s a)

abbrev pub opening : ℕ → List Spot → Spot → Option State
opening zero k s = none
opening (suc n) k s = some (want n (s ∷ k) bare)

abbrev pub shutting : ℕ → List Spot → Spot → Atom → Option State
shutting n [] s a = none
shutting n (outer ∷ k) s a = some (have (suc n) k outer (group (sum_at s a)))

-- one byte more, c, which is of this kind: nothing where no allowed text has it there
abbrev pub step_by : State → Kind → ℕ → Option State
step_by (want n k s) digit c = some (have n k s (number (c ∷ [])))
step_by (want n k s) small c = some (have n k s (letter c))
step_by (want n k s) adds c = none
step_by (want n k s) multiplies c = none
step_by (want n k s) opens c = opening n k s
step_by (want n k s) shuts c = none
step_by (want n k s) other c = none
step_by (have n k s a) digit c = having n k s (longer a c)
step_by (have n k s a) small c = none
step_by (have n k s a) adds c = some (want n k (record { before = some (sum_at s a); factors = none }))
step_by (have n k s a) multiplies c = some (want n k (record { before = s.before; factors = some (product_at s a) }))
step_by (have n k s a) opens c = none
step_by (have n k s a) shuts c = shutting n k s a
step_by (have n k s a) other c = none

-- the formula, where the text may end here
abbrev pub whole : State → Option Sum
whole (want n k s) = none
whole (have n [] s a) = some (sum_at s a)
whole (have n (outer ∷ k) s a) = none

pub data Outcome : Type 0 where
  reads : Sum → Outcome
  stops : List ℕ → Outcome  -- what is left of the text, from the byte that cannot stand there

abbrev pub ended : Option Sum → Outcome
ended none = stops []
ended (some s) = reads s

unfoldable pub scan : State → List ℕ → Outcome
scan s [] = ended (whole s)
scan s (c ∷ b) = elim (step_by s (kind_of c) c) [ none ↦ stops (c ∷ b) | some t ↦ scan t b ]

abbrev pub start : State
start = want most_open [] bare

abbrev pub read_text : List ℕ → Outcome
read_text b = scan start b
