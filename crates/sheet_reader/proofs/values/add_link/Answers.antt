-- `add_link` (src/values.rt) keeps its contract.
use Rattle.sheet.proofs.Fills.{added-by}
use mathlib.Core.Path.{◌∙◌, refl}
use Rattle.sheet_reader.proofs.values.add_link.Goals as goal

pub returns : goal.returns
returns c = c.put_link.ensures ∙ added-by c.args.w.now c.args.j _ c.join.ensures refl refl refl refl
