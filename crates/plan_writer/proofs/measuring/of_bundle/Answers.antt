-- `of_bundle` (src/measuring.rt) keeps its contract.
use Rattle.plan_writer.proofs.Lengths.{bundle-long}
use Rattle.plan_writer.proofs.measuring.of_bundle.Goals as goal

pub returns : goal.returns
returns c = bundle-long c.requires c.opened-opened.ensures.0 c.placed-placed.ensures.0 c.of_messages.ensures.0
