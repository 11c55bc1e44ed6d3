-- `end_of` (src/writing.rt) keeps its contract.
use mathlib.Core.Path.{ap, ◌∙◌}
use lib.ListN.{get_or}
use Rattle.search.proofs.Fronts.{source-done, target-done}
use Rattle.search.proofs.writing.end_of.Goals as goal

pub returns-in-Source : goal.returns-in-Source
returns-in-Source c = source-done _ _ _ _ c.in-Source.is (c.byte.ensures.0 ∙ ap (λ i. get_or c.args.sheet.now i 0) c.source_at.ensures) c.byte.ensures.1

pub returns-in-Target : goal.returns-in-Target
returns-in-Target c = target-done _ _ _ _ c.in-Target.is (c.byte-in-Target.ensures.0 ∙ ap (λ i. get_or c.args.sheet.now i 0) c.target_at.ensures) c.byte-in-Target.ensures.1
