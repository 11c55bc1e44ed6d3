-- What a call of zeldrupa_weight means.
use Prim.Native.Nat.{ℕ}
use native.Mathlib.Omega.{arith}
use mathlib.Core.Path.{◌≡◌, refl, sym, ap, subst, ◌∙◌}
use mathlib.Core.Logic.{◌⊎◌, inl, inr}
use mathlib.Core.List.{List}
use Rattle.folds.specs.Answers.{Answer, value, refused, number, place_or}
use Rattle.formulas.specs.Meaning.{Accepted, OutsideAt, Unweighed}
use Rattle.formulas.specs.Weights.{weight_of}
use Rattle.formulas.proofs.Theorems.{Meant, meant, accepted-weight, outside-refused, unweighed-refused}
use Rattle.zeldrupa.specs.Promises.{GivesWeight}
use Rattle.assurance.specs.Formulas.{Weighing, Formulas}

abbrev weight_place : Answer ℕ → ℕ
weight_place a = place_or (λ w. w) a

-- the number of an answer by what it means
module _ (text letters : List ℕ) where
  of-0 : (a : Answer ℕ) → Meant text letters a → number a ≡ 0 → Accepted text letters (weight_place a)
  of-0 (value v) m e = m
  of-0 (refused n p) (inl m) e = absurd (omega (arith, m.0, e))
  of-0 (refused n p) (inr m) e = absurd (omega (arith, m.0, e))

  of-35 : (a : Answer ℕ) → Meant text letters a → number a ≡ 35 → OutsideAt text (weight_place a)
  of-35 (value v) m e = absurd (omega (arith, e))
  of-35 (refused n p) (inl m) e = m.1
  of-35 (refused n p) (inr m) e = absurd (omega (arith, m.0, e))

  of-36 : (a : Answer ℕ) → Meant text letters a → number a ≡ 36 → Unweighed text letters
  of-36 (value v) m e = absurd (omega (arith, e))
  of-36 (refused n p) (inl m) e = absurd (omega (arith, m.0, e))
  of-36 (refused n p) (inr m) e = m.2

  of-any : (a : Answer ℕ) → Meant text letters a → (number a ≡ 0) ⊎ ((number a ≡ 35) ⊎ (number a ≡ 36))
  of-any (value v) m = inl refl
  of-any (refused n p) (inl m) = inr (inl m.0)
  of-any (refused n p) (inr m) = inr (inr m.0)

  by_answer : (p r : ℕ) → GivesWeight text letters p r → (a : Answer ℕ) → weight_of text letters ≡ a → (r ≡ number a) × (p ≡ weight_place a)
  by_answer p r g a e = (g.returns ∙ ap number e, g.place ∙ ap weight_place e)

pub formulas : Formulas
formulas text letters p r g =
    let a = weight_of text letters in
    let m = meant text letters in
    record {
      accepted = λ z. subst (Accepted text letters) (sym g.place) (of-0 text letters a m (sym g.returns ∙ z));
      weight = λ v x. by_answer text letters p r g (value v) (accepted-weight text letters v x);
      outside = λ z. subst (OutsideAt text) (sym g.place) (of-35 text letters a m (sym g.returns ∙ z));
      place = λ q x. by_answer text letters p r g (refused 35 q) (outside-refused text letters q x);
      unweighed = λ z. of-36 text letters a m (sym g.returns ∙ z);
      no_weight = λ u. by_answer text letters p r g (refused 36 0) (unweighed-refused text letters u);
      only = subst (λ (x : ℕ). (x ≡ 0) ⊎ ((x ≡ 35) ⊎ (x ≡ 36))) (sym g.returns) (of-any text letters a m);
    }
