-- `added` (src/values.rt) keeps its contract.
use Prim.Native.Nat.{◌+◌}
use mathlib.Core.Path.{sym, ◌∙◌}
use native.Mathlib.Omega.{arith}
use Rattle.formulas.proofs.Limits.{of_values, of_none, values-are}
use Rattle.formulas.proofs.values.added.Goals as goal

pub overflow_add-result : goal.overflow_add-result
overflow_add-result c = let a = c.args in omega (arith, values-are a.a a.b (sym c.are_values.ensures ∙ c.if-are_values.true))

pub returns-then-are_values : goal.returns-then-are_values
returns-then-are_values c = let a = c.args in of_values ◌+◌ a.a a.b (sym c.are_values.ensures ∙ c.if-are_values.true)

pub returns-else-are_values : goal.returns-else-are_values
returns-else-are_values c = let a = c.args in of_none ◌+◌ a.a a.b (sym c.are_values.ensures ∙ c.if-are_values.false)
