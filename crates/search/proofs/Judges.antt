-- The checker's answer to the bundle of a candidate with the claim 0.
use Rattle.std.specs.Prelude.{⊤, Result, Ok, Err, Some, None}
use Rattle.refusals.specs.declared.Refusal.{Refusal}
use Rattle.checker.proofs.Verdicts.{refused-value}
use Prim.Native.Nat.{ℕ, zero, suc, ◌<◌}
use native.Mathlib.Omega.{arith}
use mathlib.Core.Bool.{Bool, true, false}
use mathlib.Core.Path.{◌≡◌, refl, sym, ap, ◌∙◌}
use mathlib.Core.Logic.{⊎_elim}
use mathlib.Core.List.{List, [], ◌∷◌}
use lib.ListN.{length, take}
use lib.Dec.{ltb}
use Rattle.folds.specs.Folds.{pick}
use Rattle.folds.specs.Answers.{Answer, value, refused}
use Rattle.sheet.specs.Sheet.{Sheet, task_count}
use Rattle.graph.proofs.Proper.{Proper, proper}
use Rattle.bundle.specs.Bundle.{Bundle}
use Rattle.bundle.specs.Writing.{bundle_bytes}
use Rattle.bundle.specs.Fits.{Fits}
use Rattle.bundle.proofs.Backs.{read_back}
use Rattle.admission.specs.declared.view.View.{View}
use Rattle.checker.specs.Checker.{checked}
use Rattle.checker.specs.Verdicts.{verdict_of, checked_bytes, JudgementIs}
use Rattle.least.specs.Least.{In, opens, among_all, extended, completions, candidates, unclaimed, bundle_in}
use Rattle.least.proofs.Arranging.{all_known, length-in}
use Rattle.least.proofs.Best.{in_parts, gathered, good, Works}
use Rattle.least.proofs.Pruning.{extends}
use Rattle.least.proofs.Leaves.{leaf-30, leaf-good, leaf-no}
use Rattle.search.specs.Codes.{arranged}
use Rattle.search.specs.Laying.{BundleIs}
use Rattle.search.specs.Judging.{Sought, JudgeIs}

-- a candidate of a sheet with a task has a programme
has_one : (p n m : ℕ) (x : List (List ℕ)) → 0 < m → In x (completions p n m []) → 0 < length x
unfolding completions extended opens among_all
has_one p n zero x h i = absurd (omega arith)
has_one p n (suc m) x h i =
    let z = gathered x n (extended p n (completions p n m) []) i in
    ⊎_elim (one z.0 (ltb 0 p)) (λ y. absurd y)
    (in_parts x (pick (ltb 0 p) (completions p n m ((z.0 ∷ []) ∷ [])) []) [] z.2)
  where
    one : (t : ℕ) (v : Bool) → In x (pick v (completions p n m ((t ∷ []) ∷ [])) []) → 0 < length x
    one t false y = absurd y
    one t true y = let e = extends p n m [] (t ∷ []) x y in omega (arith, ap length e.2)

module _ (s : Sheet) (proper : Proper s) (a : List (List ℕ)) (i : In a (candidates s)) where
  bare-fits : Fits s (unclaimed s a)
  unfolding candidates
  bare-fits =
      let g = good s.processors (task_count s) (task_count s) [] a (record { below = tt; busy = tt; few = omega arith }) i in
      record {
        formed =
            record {
              busy = λ some. omega (arith, length-in s a, has_one s.processors (task_count s) (task_count s) a some i);
              few = omega (arith, length-in s a, g.few);
              known = all_known s a g.below;
            };
        claimed = omega arith;
      }

  answered : checked_bytes s (bundle_bytes (unclaimed s a)) ≡ checked s (unclaimed s a)
  unfolding checked_bytes
  answered = rw (read_back s (unclaimed s a) (omega (arith, proper.form.links)) bare-fits)

-- what the code makes of the checker's answer
module _ (sheet old buf w last bundle : List ℕ) (v : View) (code n : ℕ) (x : Result ⊤ Refusal) (b : BundleIs sheet v old buf code v.tasks 0 n) (cut : bundle ≡ take n buf)
    (j : JudgementIs sheet bundle w last v x) where
  abbrev a : List (List ℕ)
  a = arranged v.tasks code

  said : (s : Sheet) → Sought s sheet v → In a (candidates s) → x ≡ verdict_of (checked s (unclaimed s a))
  said s k i =
      j.is s k.known ∙ ap (λ (y : List ℕ). verdict_of (checked_bytes s y)) (cut ∙ b.is s k.known) ∙ ap verdict_of (answered s (proper sheet s k.read) a i)

  module _ (s : Sheet) (e : x ≡ verdict_of (checked s (unclaimed s a))) where
    as-good : x ≡ Ok tt → Works s a × ((bundle_in s a).claim ≡ 0)
    as-good f = go (checked s (unclaimed s a)) refl (sym e ∙ f)
      where
        go : (y : Answer Bundle) → checked s (unclaimed s a) ≡ y → verdict_of y ≡ Ok tt → Works s a × ((bundle_in s a).claim ≡ 0)
        go (value c) q g = leaf-good s a c q
        go (refused m at) q g = absurd cc

    as-refused : (r : Refusal) → x ≡ Err r → checked s (unclaimed s a) ≡ refused r.number r.place
    as-refused r f = refused-value (checked s (unclaimed s a)) r (sym f ∙ e)

  pub good-done : x ≡ Ok tt → JudgeIs sheet v code (Some 0)
  good-done f =
      record {
        accepts = λ s k i. sym (as-good s (said s k i) f).0;
        claims = λ s k i c q. let z : 0 ≡ c = cc in sym z ∙ sym (as-good s (said s k i) f).1;
      }

  -- refused for the claim alone, or for something else
  pub claim-done : (r : Refusal) → x ≡ Err r → r.number ≡ 30 → JudgeIs sheet v code (Some r.place)
  claim-done r f z =
      record {
        accepts = λ s k i. sym (leaf-30 s a r.place (as-refused s (said s k i) r f ∙ ap (λ (y : ℕ). refused y r.place) z)).0;
        claims =
            λ s k i c q.
            let p : r.place ≡ c = cc in
            sym p ∙ sym (leaf-30 s a r.place (as-refused s (said s k i) r f ∙ ap (λ (y : ℕ). refused y r.place) z)).1;
      }

  pub refused-done : (r : Refusal) → x ≡ Err r → (r.number ≡ 30 → ⊥) → JudgeIs sheet v code None
  refused-done r f d =
      record {
        accepts = λ s k i. sym (leaf-no s a r.number r.place (as-refused s (said s k i) r f) d);
        claims = λ s k i c q. absurd cc;
      }
