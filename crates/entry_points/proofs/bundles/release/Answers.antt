-- `release` (src/bundles.rt) keeps its contract.
use Rattle.entry_points.proofs.Passing.{release-is}
use Rattle.entry_points.proofs.bundles.release.Goals as goal

pub returns : goal.returns
returns c = release-is _ _ c.release.ensures
