-- `half` (src/lib.rt) keeps its contract.
use mathlib.Core.Path.{ap, sym}
use Rattle.adjacency.specs.Chains.{half}
use Rattle.adjacency.specs.declared.End.{End}
use Rattle.adjacency.proofs.half.Goals as goal

pub returns-in-Source : goal.returns-in-Source
returns-in-Source c = ap (λ (z : End). half z c.args.x) (sym c.in-Source.is)

pub returns-in-Target : goal.returns-in-Target
returns-in-Target c = ap (λ (z : End). half z c.args.x) (sym c.in-Target.is)
