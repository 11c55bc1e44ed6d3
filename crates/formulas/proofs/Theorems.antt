-- What each answer means, by the grammar and the values alone: a weight that the text has one reading, whose value it is; 35 that it has none, and where it goes wrong;
-- 36 that it has one without a weight. And each is given exactly then.
use Prim.Native.Nat.{ℕ, ◌≤◌}
use mathlib.Core.List.{List}
use mathlib.Core.Path.{◌≡◌, sym, ap, ◌∙◌, refl, ap₂}
use mathlib.Core.Bool.{Bool, true, false}
use native.Mathlib.Omega.{arith}
use lib.ListN.{length}
use mathlib.Core.Option.{none, some, Option}
use borrow.Author.Tests.{eq-eqb, le-leb, eqb-true, leb-true}
use lib.Dec.{eqb, leb}
use mathlib.Core.Logic.{◌⊎◌, inl, inr}
use Rattle.folds.specs.Folds.{pick}
use Rattle.folds.specs.Answers.{Answer, value, refused}
use Rattle.folds.proofs.Tests.{not_some, both-parts}
use Rattle.formulas.specs.Meaning.{letter_count, greatest_weight, Accepted, OutsideAt, Unweighed}
use Rattle.formulas.specs.Scanning.{Outcome, read_text, reads, stops}
use Rattle.formulas.specs.Weights.{as_weight, judged, weight_of}
use Rattle.formulas.specs.Grammar.{within, Sum}
use Rattle.formulas.specs.Values.{sum_value}
use Rattle.formulas.proofs.Sounds.{read-reading}
use Rattle.formulas.proofs.Places.{place-of, one_place}
use Rattle.formulas.proofs.Bytes.{true-not-false}
use Rattle.formulas.proofs.Scans.{reading-read, one-reading}

-- what an answer means
abbrev pub Meant : List ℕ → List ℕ → Answer ℕ → Type 0
Meant text letters (value v) = Accepted text letters v
Meant text letters (refused n p) = ((n ≡ 35) × OutsideAt text p) ⊎ ((n ≡ 36) × (p ≡ 0) × Unweighed text letters)

module _ (text letters : List ℕ) where
  unweighed : (x : Sum) → read_text text ≡ reads x
      → (length letters ≡ letter_count → (v : ℕ) → sum_value x letters ≡ some v → 1 ≤ v → v ≤ greatest_weight → ⊥) → Meant text letters (refused 36 0)
  unfolding read-reading
  unweighed x q h = inr (refl, refl, record { reading = read-reading text x q; no_weight = h })

  by-range : (x : Sum) → read_text text ≡ reads x → length letters ≡ letter_count → (w : ℕ) → sum_value x letters ≡ some w → (t : Bool) → within 1 greatest_weight w ≡ t
      → Meant text letters (pick t (value w) (refused 36 0))
  unfolding read-reading
  by-range x q l w e true t =
      let g = read-reading text x q in
      let h = both-parts (leb 1 w) (leb w greatest_weight) t in
      record { reading = g; only = λ k. one-reading k g; its_value = e; all_letters = l; low = leb-true 1 w h.0; high = leb-true w greatest_weight h.1 }
  by-range x q l w e false t = unweighed x q (λ _ v f low high. let same : w ≡ v = cc in true-not-false (sym (simp (le-leb 1 w (omega arith), le-leb w greatest_weight (omega arith))) ∙ t))

  by_value : (x : Sum) → read_text text ≡ reads x → length letters ≡ letter_count → (o : Option ℕ) → sum_value x letters ≡ o → Meant text letters (as_weight o)
  by_value x q l none e = unweighed x q (λ _ v f low high. not_some (sym e ∙ f))
  by_value x q l (some w) e = by-range x q l w e (within 1 greatest_weight w) refl

  by-list : (x : Sum) → read_text text ≡ reads x → (t : Bool) → eqb (length letters) letter_count ≡ t → Meant text letters (pick t (as_weight (sum_value x letters)) (refused 36 0))
  by-list x q true t = by_value x q (eqb-true (length letters) letter_count t) (sum_value x letters) refl
  by-list x q false t = unweighed x q (λ l v f low high. true-not-false (sym (eq-eqb (length letters) letter_count l) ∙ t))

  by-outcome : (o : Outcome) → read_text text ≡ o → Meant text letters (judged o (length text) letters)
  by-outcome (stops rest) q = inl (refl, place-of text rest q)
  by-outcome (reads x) q = by-list x q (eqb (length letters) letter_count) refl

  -- every answer means this
  pub meant : Meant text letters (weight_of text letters)
  unfolding weight_of
  meant = by-outcome (read_text text) refl

  -- and it is given wherever it is meant
  pub accepted-weight : (v : ℕ) → Accepted text letters v → weight_of text letters ≡ value v
  unfolding weight_of
  accepted-weight v x =
      ap (λ (o : Outcome). judged o (length text) letters) (reading-read x.reading)
      ∙ simp (eq-eqb (length letters) letter_count x.all_letters, x.its_value, le-leb 1 v x.low, le-leb v greatest_weight x.high)

  pub outside-refused : (p : ℕ) → OutsideAt text p → weight_of text letters ≡ refused 35 p
  unfolding weight_of
  outside-refused p x = go (read_text text) refl
    where
      go : (o : Outcome) → read_text text ≡ o → judged (read_text text) (length text) letters ≡ refused 35 p
      go (reads f) q = absurd (x.no_reading (read-reading text f q))
      go (stops r) q = ap (λ (o : Outcome). judged o (length text) letters) q ∙ ap (refused 35) (one_place text _ p (place-of text r q) x)

  pub unweighed-refused : Unweighed text letters → weight_of text letters ≡ refused 36 0
  unweighed-refused u = go (weight_of text letters) refl meant
    where
      go : (a : Answer ℕ) → weight_of text letters ≡ a → Meant text letters a → weight_of text letters ≡ refused 36 0
      go (value v) q m = absurd (u.no_weight m.all_letters v (ap (λ (f : Sum). sum_value f letters) (m.only u.reading) ∙ m.its_value) m.low m.high)
      go (refused n p) q (inl m) = absurd (m.1.no_reading u.reading)
      go (refused n p) q (inr m) = q ∙ ap₂ refused m.0 m.1
