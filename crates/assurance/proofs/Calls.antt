-- Calls of the public machine, one after the other.
use Prim.Native.Nat.{ℕ, ◌≤◌, ◌<◌}
use native.Mathlib.Omega.{arith}
use native.Mathlib.Decide.{dec_lt}
use mathlib.Core.Path.{◌≡◌, refl, sym, ap, ap₂, subst, ◌∙◌}
use mathlib.Core.List.{List, ◌∷◌, ◌++◌, map}
use borrow.Author.Tests.{le-ltb}
use lib.ListN.{length, take, drop, take-append-drop}
use Rattle.folds.specs.Folds.{bit}
use Rattle.workspace.specs.Area.{fixed}
use Rattle.sheet.specs.Sheet.{Sheet}
use Rattle.bundle.specs.Bundle.{Bundle}
use Rattle.machine.specs.Runs.{Run, choose, run_from, fresh_run, run_of, answers}
use Rattle.stepping_machine.specs.Represents.{Represents}
use Rattle.machine.proofs.Choices.{choose-is, from_then}
use Rattle.zeldrupa.specs.Stepping.{GivesStep, state_number}
use Rattle.assurance.specs.Demand.{Stepped, nothing, stepped, refused, Agrees}

-- a call refused with 13 was lent too few words, and left them as they were
refused-same : (state part : List ℕ) (n k p : ℕ) → GivesStep (take n state) part k p 13 → part ++ drop n state ≡ state
refused-same state part n k p g = elim (dec_lt (length (take n state)) fixed) [
  | yes l ↦ ap (λ (x : List ℕ). x ++ drop n state) (g.short l).1 ∙ take-append-drop n state
  | no l ↦ let z : state_number (take n state) ≡ 0 = rw (le-ltb (length (take n state)) fixed (omega arith)) in absurd (omega (arith, g.returns, z))
]

module _ (s : Sheet) (b : Bundle) where
  -- from words that keep the state of a run
  calls : {ks ps state last : List ℕ} → Stepped ks ps state last → (r : Run) → fixed ≤ length state → Represents s b state r.state
      → (ps ≡ map bit (answers s b r ks)) × (fixed ≤ length last) × Represents s b last (run_from s b r ks).state
  unfolding answers run_from
  calls nothing r long h = (refl, long, h)
  calls (stepped {k} {next = next} g more) r long h =
      let a = g.agrees long s b r.state h in
      let kept : Represents s b next (choose s b r k).state = subst (Represents s b next) (sym (choose-is s b r k).0) a.1 in
      let z = calls more (choose s b r k) (omega (arith, g.long)) kept in
      (ap₂ (λ (x : ℕ) (y : List ℕ). x ∷ y) a.0 z.0, z.1, z.2)
  calls (refused n {k} {p} {state = state} {part = part} g more) r long h =
      let same : state ≡ part ++ drop n state = sym (refused-same state part n k p g) in
      calls more r (subst (λ (x : List ℕ). fixed ≤ length x) same long) (subst (λ (x : List ℕ). Represents s b x r.state) same h)

  pub agreed : (made : List ℕ) {ks ps state last : List ℕ} → fixed ≤ length state → Represents s b state (run_of s b made).state → Stepped ks ps state last → Agrees s b made ks ps last
  unfolding run_of
  agreed made {ks} {ps} {state} {last} long h c =
      let z = calls c (run_of s b made) long h in
      let kept : Represents s b last (run_of s b (made ++ ks)).state = subst (λ (r : Run). Represents s b last r.state) (sym (from_then s b (fresh_run s b) made ks)) z.2 in
      record {
        answered = z.0;
        keeps = kept;
        left = λ p r g. g.agrees z.1 s b _ kept;
        processor = λ k p r x x' g. g.agrees z.1 s b _ kept;
        stamp = λ l p r g. g.agrees z.1 s b _ kept;
        unchanged = λ n k p part g. refused-same last part n k p g;
      }
