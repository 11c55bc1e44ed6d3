-- `far_end` (src/lib.rt) keeps its contract.
use Rattle.adjacency.specs.declared.End.{End}
use mathlib.Core.Path.{◌∙◌, ap, sym}
use Rattle.plan_writer.specs.Bytes.{far_by}
use Rattle.sheet.specs.Tables.{sheet_in}
use Rattle.plan_writer.proofs.far_end.Goals as goal

pub returns-in-Source : goal.returns-in-Source
returns-in-Source c = (c.target.ensures.0 ∙ ap (λ (x : End). far_by x (sheet_in c.args.w.now) c.args.l) (sym c.in-Source.is), c.target.ensures.1)

pub returns-in-Target : goal.returns-in-Target
returns-in-Target c = (c.source.ensures.0 ∙ ap (λ (x : End). far_by x (sheet_in c.args.w.now) c.args.l) (sym c.in-Target.is), c.source.ensures.1)
