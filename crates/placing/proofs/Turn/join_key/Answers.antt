-- `join_key` (src/lib.rt) keeps its contract.
use mathlib.Core.Path.{refl}
use Rattle.placing.proofs.Steps.{join-key-is}
use Rattle.placing.proofs.Turn.join_key.Goals as goal

pub returns : goal.returns
returns c = join-key-is _ _ c.args.self.now.t c.args.k c.requires.k_holds.0 c.requires.join_bars c.requires.k_holds.1 c.start_on-x.ensures.0 c.args.self.now.arrival.0 c.fits_on.ensures refl refl c.low_key.ensures
