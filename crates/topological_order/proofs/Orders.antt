-- The steps of the loop: the tasks of those done stay in their places, and so do their levels.
use Prim.Native.Nat.{ℕ, ◌+◌, ◌≤◌, ◌<◌}
use mathlib.Core.Path.{◌≡◌, refl, ◌∙◌}
use mathlib.Core.List.{List}
use native.Mathlib.Omega.{arith}
use Rattle.sheet.specs.Sheet.{Sheet}
use Rattle.topological_order.specs.Words.{task_at}
use Rattle.topological_order.specs.Peeling.{level_in}
use Rattle.topological_order.specs.Steps.{LevelSet, Steps, here, then, InThesisOrder}

module _ {s : Sheet} {i : ℕ} {a : List ℕ} where
  steps-more : {k : ℕ} {b : List ℕ} → Steps s i a k b → i ≤ k
  steps-more here = omega arith
  steps-more (then p q) = omega (arith, steps-more p)

  steps-order : {k : ℕ} {b : List ℕ} → Steps s i a k b → (j : ℕ) → j < i → task_at b j ≡ task_at a j
  steps-order here j h = refl
  steps-order (then p q) j h = q.order j (omega (arith, steps-more p)) ∙ steps-order p j h

-- no later step sets the same level
steps-level : {s : Sheet} {i : ℕ} {c d : List ℕ} {k : ℕ} {b : List ℕ} → LevelSet s i c d → Steps s (i + 1) d k b → level_in b (task_at c i) ≡ level_in d (task_at c i)
steps-level x here = refl
steps-level {s} {i} {c} {d} {k} {b} x (then {b = e} p q) =
    let same : task_at e i ≡ task_at c i = steps-order p i (omega arith) ∙ x.order i (omega arith) in
    q.one (task_at c i) x.task (λ z. q.new (record { step = i; early = omega (arith, steps-more p); is = same ∙ z })) ∙ steps-level x p

pub in-thesis-order : {s : Sheet} {k : ℕ} {a b : List ℕ} → Steps s 0 a k b → InThesisOrder s k a b
in-thesis-order p = record { steps = p; for_good = λ x q. steps-level x q }
