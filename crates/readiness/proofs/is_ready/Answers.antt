-- `is_ready` (src/lib.rt) keeps its contract.
use mathlib.Core.Bool.{not}
use mathlib.Core.Path.{◌∙◌, ap, sym}
use Rattle.readiness.proofs.Counts.{placed-ready, ready-kept}
use Rattle.readiness.proofs.is_ready.Goals as goal

pub returns-else-not-is_placed : goal.returns-else-not-is_placed
returns-else-not-is_placed c = ap not c.if-not-is_placed.false ∙ placed-ready _ _ c.args.t (sym c.is_placed.ensures ∙ c.if-not-is_placed.false)

pub returns-then-not-is_placed : goal.returns-then-not-is_placed
returns-then-not-is_placed c = ready-kept c.requires c.word.ensures.0 c.word-then-not-is_placed.ensures.0 (sym c.is_placed.ensures ∙ c.if-not-is_placed.true)
