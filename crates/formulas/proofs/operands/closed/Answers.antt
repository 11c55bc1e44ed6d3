-- `closed` (src/operands.rt) keeps its contract.
use mathlib.Core.Path.{sym, ◌∙◌}
use native.Mathlib.Omega.{arith}
use Rattle.formulas.specs.Grammar.{closer}
use Rattle.formulas.proofs.Bytes.{stands-true}
use Rattle.formulas.proofs.operands.closed.Goals as goal

pub overflow_add-result : goal.overflow_add-result
overflow_add-result c = omega (arith, stands-true c.args.text.now c.args.inner.end closer (sym c.stands.ensures ∙ c.if-stands.true), c.well_formed.0.0)
