-- The answer behind what code answers.
use Rattle.std.specs.Prelude.{ℕ, ◌≡◌, Result, Ok, Err}
use Rattle.folds.specs.Answers.{Answer, value, refused}
use Rattle.refusals.specs.Refusals.{number, refusal, result_of, placed}
use Rattle.refusals.specs.declared.Refusal.{Refusal}
use Rattle.refusals.specs.declared.Fault.{Fault}
use mathlib.Core.Path.{refl, sym, ap}

module _ {A T : Type 0} (f : A → T) where
  -- a refusal stands for a refusal
  pub refused-by : (a : Answer A) (r : Refusal) → Err r ≡ result_of f a → a ≡ refused r.number r.place
  refused-by (value x) r e = absurd cc
  refused-by (refused n at) r e = let q : r ≡ refusal n at = cc in ap (λ (x : Refusal). refused x.number x.place) (sym q)

  -- .. and an answer's value for its value
  pub record Valued (a : Answer A) (t : T) : Type 0 where
    pub x : A
    pub value : a ≡ value x
    pub is : t ≡ f x

  pub value-by : (a : Answer A) (t : T) → Ok t ≡ result_of f a → Valued a t
  value-by (value x) t e = record { x = x; value = refl; is = cc }
  value-by (refused n at) t e = absurd cc

-- what a test found, by its fault at a place
pub record Faulted {T : Type 0} (at : ℕ) (t : Result T Fault) (r : Refusal) : Type 0 where
  pub fault : Fault
  pub found : t ≡ Err fault
  pub is : r ≡ refusal (number fault) at

pub fault-by : {T : Type 0} (at : ℕ) (t : Result T Fault) (r : Refusal) → Err r ≡ placed at t → Faulted at t r
fault-by at (Ok x) r e = absurd cc
fault-by at (Err f) r e = record { fault = f; found = refl; is = cc }

pub found-by : {T : Type 0} (at : ℕ) (t : Result T Fault) (x : T) → Ok x ≡ placed at t → t ≡ Ok x
found-by at (Ok y) x e = let q : x ≡ y = cc in ap Ok (sym q)
found-by at (Err f) x e = absurd cc
