-- The ways in which weighing a text ends.
use Prim.Native.Nat.{ℕ, ◌-◌, ◌≤◌, ◌<◌}
use native.Mathlib.Omega.{arith}
use mathlib.Core.Path.{◌≡◌, refl, sym, ap, subst, ◌∙◌}
use mathlib.Core.Bool.{Bool, true, false}
use mathlib.Core.Option.{Option, none, some}
use mathlib.Core.List.{List, []}
use lib.ListN.{length, get_or, drop, length-drop, drop_of_length-le}
use lib.Dec.{leb, eqb}
use borrow.Author.Tests.{le-leb, leb-true}
use x.{}
use Rattle.folds.specs.Folds.{pick, both}
use Rattle.folds.specs.Answers.{value, refused}
use Rattle.folds.proofs.Tests.{both-parts}
use Rattle.formulas.specs.Grammar.{Atom, Kind, digit, small, adds, multiplies, opens, shuts, other, kind_of, most_open, within}
use Rattle.formulas.specs.Scanning.{Spot, bare, have, longer, having, step_by, Outcome, reads, stops, scan, read_text}
use Rattle.formulas.specs.Weights.{as_weight, judged, weight_of}
use Rattle.formulas.specs.Parts.{spot_of, last_of, Outsides, SumAt, SumIs, answer_of}
use Rattle.formulas.specs.declared.operands.Part.{Part}
use Rattle.refusals.specs.declared.Refusal.{Refusal}
use Rattle.refusals.specs.Refusals.{refusal}
use Rattle.std.specs.Prelude.{Result, Ok, Err, MatchResult, is_ok}
use Rattle.formulas.specs.Values.{capped, greatest_value}
use Rattle.formulas.specs.Meaning.{greatest_weight, letter_count}
use Rattle.formulas.proofs.Scans.{scan-end, sum-again}
use Rattle.formulas.proofs.Steps.{stop-at}
use Rattle.formulas.proofs.Bytes.{true-not-false}

stopped-at : (b ls : List ℕ) (q : ℕ) → q ≤ length b → read_text b ≡ stops (drop q b) → refused 35 q ≡ weight_of b ls
unfolding weight_of
stopped-at b ls q h e =
    let n : length b - length (drop q b) ≡ q = ap (λ (x : ℕ). length b - x) (length-drop q b) ∙ omega arith in
    sym (ap (λ (o : Outcome). judged o (length b) ls) e ∙ ap (refused 35) n)

pub weigh-outside : (b ls : List ℕ) (q : ℕ) → Outsides b 0 most_open q (Unit {0}) (λ _. bare) → refused 35 q ≡ weight_of b ls
weigh-outside b ls q g = stopped-at b ls q g.inside (g.stop [] tt)

-- what `map_err` makes of a sum that is read, or not
module _ (b ls : List ℕ) where
  pub whole-stops : (r : Result Part ℕ) (o : Refusal) → MatchResult r (λ p. Err o ≡ Ok p) (λ q. o ≡ refusal 35 q) → SumIs b ls 0 most_open r → answer_of (Err o) ≡ weight_of b ls
  whole-stops (Ok p) o m s = absurd cc
  whole-stops (Err q) o m s = ap (λ (x : Refusal). refused x.number x.place) m ∙ weigh-outside b ls q s

  pub whole-read : (r : Result Part ℕ) (w : Part) (Z : ℕ → Type 0) → MatchResult r (λ p. ◌≡◌ {A = Result Part Refusal} (Ok w) (Ok p)) Z → true ≡ is_ok r → SumIs b ls 0 most_open r → SumAt b ls 0 most_open w.value w.end
  whole-read (Ok p) w Z m t s = let e : w ≡ p = cc in subst (λ (x : Part). SumAt b ls 0 most_open x.value x.end) (sym e) s
  whole-read (Err q) w Z m t s = absurd (true-not-false t)

no-tail : (n : ℕ) (s : Spot) (a : Atom) (c : ℕ) (d : Kind) → (d ≡ digit → longer a c ≡ none) → (d ≡ multiplies → ⊥) → (d ≡ adds → ⊥) → step_by (have n [] s a) d c ≡ none
no-tail n s a c digit w x y = ap (having n [] s) (w refl)
no-tail n s a c small w x y = refl
no-tail n s a c adds w x y = absurd (y refl)
no-tail n s a c multiplies w x y = absurd (x refl)
no-tail n s a c opens w x y = refl
no-tail n s a c shuts w x y = refl
no-tail n s a c other w x y = refl

pub weigh-tail : (b ls : List ℕ) (v e : ℕ) → SumAt b ls 0 most_open v e → e < length b → refused 35 e ≡ weight_of b ls
weigh-tail b ls v e g h =
    stopped-at b ls e g.inside
    (g.scans [] ∙ stop-at b e (have most_open [] (spot_of g.sum) (last_of g.sum)) h
    (no-tail most_open (spot_of g.sum) (last_of g.sum) (get_or b e 0) (kind_of (get_or b e 0)) (g.full h) (g.no_factor h) (g.no_term h)))

weighed : (b ls : List ℕ) (v e : ℕ) → SumAt b ls 0 most_open v e → length b ≤ e →
    weight_of b ls ≡ pick (eqb (length ls) letter_count) (as_weight (capped v)) (refused 36 0)
unfolding weight_of
weighed b ls v e g h =
    let r : read_text b ≡ reads g.sum =
    g.scans [] ∙ ap (scan (have most_open [] (spot_of g.sum) (last_of g.sum))) (drop_of_length-le b h) ∙ scan-end (have most_open [] (spot_of g.sum) (last_of g.sum)) ∙ ap reads (sum-again g.sum)
    in
    ap (λ (o : Outcome). judged o (length b) ls) r ∙ ap (λ (o : Option ℕ). pick (eqb (length ls) letter_count) (as_weight o) (refused 36 0)) (sym g.its)

-- a value that the list and the range allow, and one that they do not
allowed : (l v : ℕ) (t u : Bool) → eqb l letter_count ≡ t → within 1 greatest_weight v ≡ u → both t u ≡ true → pick t (as_weight (capped v)) (refused 36 0) ≡ value v
allowed l v true true e f h =
    let m = both-parts (leb 1 v) (leb v greatest_weight) f in
    rw (le-leb v greatest_value (omega (arith, leb-true v greatest_weight m.1)), f)
allowed l v true false e f h = absurd (true-not-false (sym h))
allowed l v false u e f h = absurd (true-not-false (sym h))

not-allowed : (l v : ℕ) (t u : Bool) → eqb l letter_count ≡ t → within 1 greatest_weight v ≡ u → both t u ≡ false → pick t (as_weight (capped v)) (refused 36 0) ≡ refused 36 0
not-allowed l v true true e f h = absurd (true-not-false h)
not-allowed l v false u e f h = refl
not-allowed l v true false e f h = go (leb v greatest_value)
  where
    go : (c : Bool) → as_weight (pick c (some v) none) ≡ refused 36 0
    go false = refl
    go true = rw f

module _ (b ls : List ℕ) (v e : ℕ) (g : SumAt b ls 0 most_open v e) (whole : length b ≤ e) where
  pub weigh-of : both (eqb (length ls) letter_count) (within 1 greatest_weight v) ≡ true → value v ≡ weight_of b ls
  weigh-of h = sym (weighed b ls v e g whole ∙ allowed (length ls) v (eqb (length ls) letter_count) (within 1 greatest_weight v) refl refl h)

  pub weigh-no : both (eqb (length ls) letter_count) (within 1 greatest_weight v) ≡ false → refused 36 0 ≡ weight_of b ls
  weigh-no h = sym (weighed b ls v e g whole ∙ not-allowed (length ls) v (eqb (length ls) letter_count) (within 1 greatest_weight v) refl refl h)
