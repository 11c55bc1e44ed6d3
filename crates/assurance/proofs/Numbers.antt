-- No refusal has the number 0, so a returned 0 is a result.
use Prim.Native.Nat.{ℕ, zero, suc, ◌<◌}
use mathlib.Core.Path.{◌≡◌, refl, sym}
use mathlib.Core.Bool.{Bool, true, false}
use mathlib.Core.Option.{Option, none, some}
use mathlib.Core.List.{List}
use native.Mathlib.Omega.{arith}
use lib.ListN.{length}
use lib.Dec.{ltb}
use Rattle.folds.specs.Folds.{pick}
use Rattle.folds.specs.Answers.{Answer, value, refused, and_then, unless, unless_at, long_enough, fitting, number}
use Rattle.folds.proofs.Tests.{not-value}
use Rattle.sheet.specs.Sheet.{Sheet}
use Rattle.sheet.specs.Format.{read_form}
use Rattle.sheet.proofs.Numbers.{form-numbered}
use Rattle.graph.specs.Graph.{circle, read_sheet}
use Rattle.bundle.specs.Bundle.{Bundle}
use Rattle.bundle.specs.Format.{read_bundle}
use Rattle.bundle.proofs.Numbers.{bundle-numbered}
use Rattle.bundle.specs.Writing.{bundle_bytes}
use Rattle.admission.specs.Messages.{at26, at_message, at28}
use Rattle.admission.specs.Releases.{at37}
use Rattle.admission.proofs.Splits.{message-number}
use Rattle.admission.specs.Admitted.{admitted, admitted_bytes}
use Rattle.machine.specs.Runs.{settled}
use Rattle.stepping_machine.specs.Starts.{starting}
use Rattle.checker.specs.Checker.{at29, at30, closing, checked, check}
use Rattle.planner.specs.Schedule.{Schedule}
use Rattle.planner.specs.Placing.{barred, first_ready}
use Rattle.planner.specs.Planner.{choice, place_on, place_task, turn, turns, planned_by, planned, bundle_of, plan}

-- the number of a refusal is not 0
pub record Numbered {A : Type 0} (a : Answer A) : Type 0 where
  pub some : (n at : ℕ) → a ≡ refused n at → 0 < n

pub numbered-value : {A : Type 0} (x : A) → Numbered (value x)
numbered-value x = record { some = λ n at e. not-value (sym e) }

pub numbered-refused : {A : Type 0} (m e : ℕ) → 0 < m → Numbered {A = A} (refused m e)
numbered-refused {A} m e h = record { some = λ n at q. let p : m ≡ n = cc in omega (arith, p) }

pub returned-0 : {A : Type 0} (a : Answer A) → Numbered a → 0 ≡ number a → (x : A) × (a ≡ value x)
returned-0 (value x) h e = (x, refl)
returned-0 (refused n at) h e = absurd (omega (arith, h.some n at refl))

pub numbered-then : {A B : Type 0} (a : Answer A) (f : A → Answer B) → Numbered a → ((x : A) → Numbered (f x)) → Numbered (and_then a f)
numbered-then (value x) f h g = g x
numbered-then (refused n at) f h g = numbered-refused n at (h.some n at refl)

numbered-unless : {A : Type 0} (n : ℕ) (o : Option ℕ) (a : Answer A) → 0 < n → Numbered a → Numbered (unless n o a)
numbered-unless n none a h g = g
numbered-unless n (some at) a h g = numbered-refused n at h

numbered-at : {A : Type 0} (o : Option (ℕ × ℕ)) (a : Answer A) → ((n at : ℕ) → o ≡ some (n, at) → 0 < n) → Numbered a → Numbered (unless_at o a)
numbered-at none a h g = g
numbered-at (some x) a h g = numbered-refused x.0 x.1 (h x.0 x.1 refl)

pub numbered-pick : {A : Type 0} (t : Bool) (a b : Answer A) → Numbered a → Numbered b → Numbered (pick t a b)
numbered-pick true a b h g = h
numbered-pick false a b h g = g

pub numbered-long : {A : Type 0} (n lent : ℕ) (a : Answer A) → Numbered a → Numbered (long_enough n lent a)
numbered-long n lent a h = numbered-pick (ltb lent n) (refused 13 n) a (numbered-refused 13 n (omega arith)) h

pub numbered-fitting : (lent : ℕ) (r : List ℕ) → Numbered (fitting lent r)
numbered-fitting lent r = numbered-pick (ltb lent (length r)) (refused 12 (length r)) (value r) (numbered-refused 12 (length r) (omega arith)) (numbered-value r)

pub numbered-sheet : (b : List ℕ) → Numbered (read_sheet b)
unfolding read_sheet
numbered-sheet b =
    numbered-then (read_form b) (λ s. unless 10 (circle s) (value s)) (record { some = λ n at e. (form-numbered b n at e).0 })
    (λ s. numbered-unless 10 (circle s) (value s) (omega arith) (numbered-value s))

module _ (s : Sheet) where
  pub numbered-bundle : (b : List ℕ) → Numbered (read_bundle s b)
  numbered-bundle b = record { some = λ n at e. omega (arith, (bundle-numbered s b n at e).0) }

  numbered-message : {A : Type 0} (b : Bundle) (a : Answer A) → Numbered a → Numbered (unless_at (at_message s b) a)
  numbered-message b a g = numbered-at (at_message s b) a (λ n at e. omega (arith, (message-number s b n at e).0)) g

  pub numbered-checked : (b : Bundle) → Numbered (checked s b)
  unfolding checked closing
  numbered-checked b =
      numbered-unless 26 (at26 s b) _ (omega arith)
      (numbered-message b _
      (numbered-unless 37 (at37 s b) _ (omega arith)
      (numbered-unless 28 (at28 s b) _ (omega arith)
      (numbered-unless 29 (at29 b (settled s b)) _ (omega arith) (numbered-unless 30 (at30 b (settled s b)) _ (omega arith) (numbered-value b))))))

  numbered-admitted : (b : Bundle) → Numbered (admitted s b)
  unfolding admitted
  numbered-admitted b =
      numbered-unless 26 (at26 s b) _ (omega arith) (numbered-message b _ (numbered-unless 37 (at37 s b) _ (omega arith) (numbered-unless 28 (at28 s b) _ (omega arith) (numbered-value b))))

pub numbered-check : (sheet bundle : List ℕ) → Numbered (check sheet bundle)
unfolding check
numbered-check sheet bundle = numbered-then (read_sheet sheet) _ (numbered-sheet sheet) (λ s. numbered-then (read_bundle s bundle) _ (numbered-bundle s bundle) (numbered-checked s))

pub numbered-starting : (sheet bundle : List ℕ) → Numbered (starting sheet bundle)
unfolding starting admitted_bytes
numbered-starting sheet bundle =
    numbered-then (read_sheet sheet) _ (numbered-sheet sheet)
    (λ s. numbered-then (admitted_bytes s bundle) _ (numbered-then (read_bundle s bundle) _ (numbered-bundle s bundle) (numbered-admitted s)) (λ b. numbered-value (s, b)))

-- the planner's only number of its own is 11
module _ (s : Sheet) (guard : Schedule → ℕ → ℕ → Bool) where
  numbered-place : (σ : Schedule) (t : ℕ) (o : Option ℕ) → Numbered (place_on s guard σ t o)
  numbered-place σ t none = numbered-refused 11 t (omega arith)
  numbered-place σ t (some k) = numbered-value _

  numbered-turn : (σ : Schedule) (o : Option ℕ) → Numbered (place_task s guard true σ o)
  numbered-turn σ none = numbered-value σ
  numbered-turn σ (some t) = numbered-place σ t (choice s guard true σ t)

  numbered-turns : (n : ℕ) (σ : Schedule) → Numbered (turns s guard true n σ)
  unfolding turns turn
  numbered-turns zero σ = numbered-value σ
  numbered-turns (suc n) σ = numbered-then (turn s guard true σ) (turns s guard true n) (numbered-turn σ (first_ready s σ)) (numbered-turns n)

pub numbered-plan : (b : List ℕ) → Numbered (plan b)
unfolding plan planned planned_by
numbered-plan b =
    numbered-then (read_sheet b) _ (numbered-sheet b) (λ s. numbered-then (planned s) _ (numbered-turns s (barred s) _ _) (λ σ. numbered-value (bundle_bytes (bundle_of s σ))))

pub numbered-given : (lent : ℕ) (a : Answer (List ℕ)) → Numbered a → Numbered (and_then a (fitting lent))
numbered-given lent a h = numbered-then a (fitting lent) h (numbered-fitting lent)
