-- "Show that every accepted text has one reading, and that its value is that reading's", of the function of the interface: `GivesWeight` is what a call of
-- zeldrupa_weight promises, word for word, and the grammar and the values alone say what it means.
use Rattle.std.specs.Prelude.{ℕ, ◌≡◌, ◌⊎◌, List}
use Rattle.formulas.specs.Meaning.{Accepted, OutsideAt, Unweighed}
use Rattle.zeldrupa.specs.Promises.{GivesWeight}

-- a call that returned r and set the place to p
pub record Weighing (text letters : List ℕ) (p r : ℕ) : Type 0 where
  -- 0: the text has exactly one reading, and the place is its value; and conversely
  pub accepted : r ≡ 0 → Accepted text letters p
  pub weight : (v : ℕ) → Accepted text letters v → (r ≡ 0) × (p ≡ v)
  -- 35: the text has no reading, and the place is where it goes wrong; and conversely
  pub outside : r ≡ 35 → OutsideAt text p
  pub place : (q : ℕ) → OutsideAt text q → (r ≡ 35) × (p ≡ q)
  -- 36: the text has a reading, which has no weight with these letters; and conversely
  pub unweighed : r ≡ 36 → Unweighed text letters
  pub no_weight : Unweighed text letters → (r ≡ 36) × (p ≡ 0)
  -- nothing else is returned
  pub only : (r ≡ 0) ⊎ ((r ≡ 35) ⊎ (r ≡ 36))

abbrev pub Formulas : Type 0
Formulas = (text letters : List ℕ) (p r : ℕ) → GivesWeight text letters p r → Weighing text letters p r
