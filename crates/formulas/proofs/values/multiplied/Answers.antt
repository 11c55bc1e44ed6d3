-- `multiplied` (src/values.rt) keeps its contract.
use Prim.Native.Nat.{◌*◌}
use mathlib.Core.Path.{sym, ◌∙◌}
use Rattle.formulas.proofs.Limits.{of_values, of_none, values-are, product-fits}
use Rattle.formulas.proofs.values.multiplied.Goals as goal

pub overflow_mul-result : goal.overflow_mul-result
overflow_mul-result c = let a = c.args in let h = values-are a.a a.b (sym c.are_values.ensures ∙ c.if-are_values.true) in record { fits = product-fits _ _ h.0 h.1 }

pub returns-then-are_values : goal.returns-then-are_values
returns-then-are_values c = let a = c.args in of_values ◌*◌ a.a a.b (sym c.are_values.ensures ∙ c.if-are_values.true)

pub returns-else-are_values : goal.returns-else-are_values
returns-else-are_values c = let a = c.args in of_none ◌*◌ a.a a.b (sym c.are_values.ensures ∙ c.if-are_values.false)
