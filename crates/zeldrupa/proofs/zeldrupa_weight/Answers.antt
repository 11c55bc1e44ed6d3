-- `zeldrupa_weight` (src/lib.rt) keeps its contract.
use mathlib.Core.Path.{sym, ap, ◌∙◌}
use Rattle.formulas.specs.Parts.{answer_of}
use Rattle.zeldrupa.proofs.Gives.{weight-given, weight-refused}
use Rattle.zeldrupa.proofs.zeldrupa_weight.Goals as goal

pub returns-in-Ok : goal.returns-in-Ok
returns-in-Ok c = weight-given _ _ _ (sym (ap answer_of c.in-Ok.is) ∙ c.weigh.ensures)

pub returns-in-Err : goal.returns-in-Err
returns-in-Err c = weight-refused _ _ _ _ (sym (ap answer_of c.in-Err.is) ∙ c.weigh.ensures)
