-- `zeldrupa_read_bundle` (src/lib.rt) keeps its contract.
use Rattle.bundle.specs.Format.{read_bundle}
use Rattle.folds.specs.Answers.{and_then}
use Rattle.graph.specs.Graph.{read_sheet}
use Rattle.entry_points.proofs.Bundling.{fitting_bundle}
use Rattle.zeldrupa.proofs.Gives.{gives-bundle, gives-bundle-short}
use Rattle.zeldrupa.specs.Promises.{read_bundle_answer}
use lib.ListN.{length}
use Rattle.zeldrupa.proofs.zeldrupa_read_bundle.Goals as goal

pub returns-then-work-lt-LENGTH : goal.returns-then-work-lt-LENGTH
unfolding read_bundle_answer
returns-then-work-lt-LENGTH c = gives-bundle-short (and_then (read_sheet c.args.sheet.now) (λ x. fitting_bundle (length c.args.commands.now) (read_bundle x c.args.bundle.now))) c.args.work.now c.args.commands.now c.args.claim.now c.if-work-lt-LENGTH.true

pub returns : goal.returns
unfolding read_bundle_answer
returns c = gives-bundle (and_then (read_sheet c.args.sheet.now) (λ x. fitting_bundle (length c.args.commands.now) (read_bundle x c.args.bundle.now))) c.args.work.now c.args.commands.now c.args.claim.now _ _ _ _ _ _ _ c.if-work-lt-LENGTH.false c.read-o.ensures c.clear.ensures c.conclude.ensures
