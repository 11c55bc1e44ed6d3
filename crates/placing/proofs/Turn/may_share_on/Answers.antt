-- `may_share_on` (src/lib.rt) keeps its contract.
use mathlib.Core.Path.{refl}
use Rattle.placing.proofs.Steps.{share-is}
use Rattle.placing.proofs.Turn.may_share_on.Goals as goal

pub returns : goal.returns
returns c = share-is _ _ c.args.self.now.t c.args.k c.requires.k_bound c.requires.bars c.start_on-x.ensures.0 c.args.self.now.arrival.0 c.fits_open.ensures refl refl
