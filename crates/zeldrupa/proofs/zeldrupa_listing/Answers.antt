-- `zeldrupa_listing` (src/lib.rt) keeps its contract.
use lib.ListN.{length}
use Rattle.zeldrupa.proofs.Gives.{gives_part, gives-short}
use Rattle.folds.specs.Answers.{fitting}
use Rattle.listing.specs.Listing.{listing}
use Rattle.zeldrupa.specs.Promises.{listing_answer}
use Rattle.zeldrupa.proofs.zeldrupa_listing.Goals as goal

pub returns-then-work-lt-LENGTH : goal.returns-then-work-lt-LENGTH
unfolding listing_answer
returns-then-work-lt-LENGTH c = gives-short (fitting (length c.args.out.now) (listing c.args.sheet.now)) c.args.work.now c.args.out.now c.if-work-lt-LENGTH.true

pub returns : goal.returns
unfolding listing_answer
returns c = gives_part (fitting (length c.args.out.now) (listing c.args.sheet.now)) c.args.work.now c.args.out.now _ _ _ _ _ _ c.if-work-lt-LENGTH.false c.list-o.ensures c.clear.ensures c.conclude.ensures
