-- `may_open_on` (src/lib.rt) keeps its contract.
use mathlib.Core.Bool.{not}
use mathlib.Core.Path.{ap, ◌∙◌}
use Rattle.placing.proofs.Steps.{open_free, open-taken}
use Rattle.placing.proofs.Turn.may_open_on.Goals as goal

pub returns-else-not-is_open : goal.returns-else-not-is_open
returns-else-not-is_open c = let a = c.args in ap not c.if-not-is_open.false ∙ open-taken _ _ c.args.self.now.t a.k c.is_open.ensures c.if-not-is_open.false

pub returns-then-not-is_open : goal.returns-then-not-is_open
returns-then-not-is_open c = let a = c.args in open_free _ _ c.args.self.now.t a.k c.is_open.ensures c.if-not-is_open.true c.fits_on.ensures
