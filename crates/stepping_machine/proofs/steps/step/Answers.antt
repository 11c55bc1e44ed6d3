-- `step` (src/steps.rt) keeps its contract.
use mathlib.Core.Logic.{⊎_elim}
use Rattle.stepping_machine.proofs.Chosen.{too_large, too_short}
use Rattle.stepping_machine.proofs.steps.step.Goals as goal

pub returns-else-w-ge-EXTENT : goal.returns-else-w-ge-EXTENT
returns-else-w-ge-EXTENT c = ⊎_elim (λ p. too_large _ _ p.1) (too_short _ _) c.else-w-ge-EXTENT.either
