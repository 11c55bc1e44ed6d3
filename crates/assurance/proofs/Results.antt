-- What a call that returned 0 was answered, and what a call gives whose answer is known.
use Prim.Native.Nat.{ℕ, ◌≤◌, ◌<◌}
use native.Mathlib.Omega.{arith}
use native.Mathlib.Decide.{dec_lt}
use mathlib.Core.Path.{◌≡◌, refl, sym, ap, ap₂, ◌∙◌}
use mathlib.Core.Bool.{Bool, true, false}
use mathlib.Core.List.{List, ◌++◌}
use borrow.Author.Tests.{le-ltb}
use lib.ListN.{length, take, drop}
use lib.Seq.{take-append_seam}
use lib.Dec.{ltb}
use Rattle.folds.specs.Folds.{pick}
use Rattle.folds.specs.Answers.{Answer, value, refused, and_then, long_enough, fitting, number, place_or, written}
use Rattle.folds.proofs.Tests.{and_then-value, not-value, value_same}
use Rattle.workspace.specs.Area.{fixed}
use Rattle.bundle.specs.Bundle.{Bundle}
use Rattle.checker.specs.Checker.{check}
use Rattle.zeldrupa.specs.Promises.{Gives, check_answer, GivesCheck}
use Rattle.zeldrupa.proofs.Gives.{short, enough}
use Rattle.assurance.proofs.Numbers.{Numbered, returned-0, numbered-long, numbered-given}

-- a long enough area, and a long enough output
pub long-value : {A : Type 0} (n : ℕ) (a : Answer A) (x : A) → long_enough fixed n a ≡ value x → (fixed ≤ n) × (a ≡ value x)
long-value n a x e = elim (dec_lt n fixed) [ yes l ↦ not-value (sym (short a n l) ∙ e) | no l ↦ (omega arith, sym (enough a n (omega arith)) ∙ e) ]

-- an answer that came through a test to a value
pub past-test : {A : Type 0} (t : Bool) (n at : ℕ) (a : Answer A) (x : A) → pick t (refused n at) a ≡ value x → a ≡ value x
past-test true n at a x e = not-value e
past-test false n at a x e = e

pub fitting-value : (n : ℕ) (r x : List ℕ) → fitting n r ≡ value x → r ≡ x
fitting-value n r x e = value_same (past-test (ltb n (length r)) 12 (length r) (value r) x e)

pub value-fitting : (n : ℕ) (r : List ℕ) → length r ≤ n → fitting n r ≡ value r
value-fitting n r h = rw (le-ltb n (length r) h)

-- the front of an output that a result was written to
pub written-front : (old v out' : List ℕ) (n : ℕ) → n ≡ length v → out' ≡ written old (value v) → take n out' ≡ v
unfolding written
written-front old v out' n e f = ap₂ take e f ∙ take-append_seam v (drop (length v) old)

-- one output: of a call that returned 0 the front is the result, and of an answer that is a value the call returns 0
module _ {a : Answer (List ℕ)} {work work' out out' : List ℕ} {n r : ℕ} (g : Gives a work work' out out' n r) where
  pub gives-value : (v : List ℕ) → a ≡ value v → (r ≡ 0) × (n ≡ length v) × (take n out' ≡ v)
  gives-value v e =
      let long : n ≡ length v = g.ends.place ∙ ap (place_or length) e in
      (g.ends.returns ∙ ap number e, long, written-front out v out' n long (g.output ∙ ap (written out) e))

  pub gave : Numbered a → r ≡ 0 → (a ≡ value (take n out')) × (n ≡ length (take n out'))
  gave h z =
      let v = returned-0 a h (sym z ∙ g.ends.returns) in
      let w = gives-value v.0 v.1 in
      (v.1 ∙ ap value (sym w.2), w.1 ∙ ap length (sym w.2))

-- a result behind the tests of the area and of the output: what was written of a call that returned 0, and a refusal that is the checker's
module _ (a : Answer (List ℕ)) {work work' out out' : List ℕ} {n r : ℕ} (g : Gives (long_enough fixed (length work) (and_then a (fitting (length out)))) work work' out out' n r) where
  pub wrote : Numbered a → r ≡ 0 → (a ≡ value (take n out')) × (n ≡ length (take n out'))
  wrote h z =
      let b = and_then a (fitting (length out)) in
      let v = gave g (numbered-long fixed (length work) b (numbered-given (length out) a h)) z in
      let q = and_then-value a (fitting (length out)) (take n out') (long-value (length work) b (take n out') v.0).1 in
      (q.1 ∙ ap value (fitting-value (length out) q.0 (take n out') q.2), v.1)

  pub refused-alike : (sheet bundle : List ℕ) {area area' : List ℕ} {q m : ℕ} → ((k at : ℕ) → check sheet bundle ≡ refused k at → a ≡ refused k at)
      → fixed ≤ length area → fixed ≤ length work → GivesCheck sheet bundle area area' q m → 0 < m → (r ≡ m) × (n ≡ q) × (out' ≡ out)
  unfolding check_answer written
  refused-alike sheet bundle {area} {area'} {q} {m} alike l long c some = by (check sheet bundle) refl
    where
      told : check_answer sheet bundle (length area) ≡ check sheet bundle
      told = enough (check sheet bundle) (length area) l

      by : (x : Answer Bundle) → check sheet bundle ≡ x → (r ≡ m) × (n ≡ q) × (out' ≡ out)
      by (value b) e = absurd (omega (arith, c.returns ∙ ap number (told ∙ e)))
      by (refused k at) e =
          let answer : long_enough fixed (length work) (and_then a (fitting (length out))) ≡ refused k at =
          enough (and_then a (fitting (length out))) (length work) long ∙ ap (λ (x : Answer (List ℕ)). and_then x (fitting (length out))) (alike k at e)
          in (
            g.ends.returns ∙ ap number answer ∙ sym (c.returns ∙ ap number (told ∙ e)),
            g.ends.place ∙ ap (place_or length) answer ∙ sym (c.place ∙ ap (place_or _) (told ∙ e)),
            g.output ∙ ap (written out) answer,
          )
