-- `zeldrupa_least` (src/lib.rt) keeps its contract.
use lib.ListN.{length}
use Rattle.zeldrupa.proofs.Gives.{gives_part, gives-short}
use Rattle.folds.specs.Answers.{and_then, fitting}
use Rattle.least.specs.Least.{least_bundle}
use Rattle.zeldrupa.specs.Promises.{least_answer}
use Rattle.zeldrupa.proofs.zeldrupa_least.Goals as goal

pub returns-then-work-lt-LENGTH : goal.returns-then-work-lt-LENGTH
unfolding least_answer
returns-then-work-lt-LENGTH c = gives-short (and_then (least_bundle c.args.sheet.now) (fitting (length c.args.out.now))) c.args.work.now c.args.out.now c.if-work-lt-LENGTH.true

pub returns : goal.returns
unfolding least_answer
returns c = gives_part (and_then (least_bundle c.args.sheet.now) (fitting (length c.args.out.now))) c.args.work.now c.args.out.now _ _ _ _ _ _ c.if-work-lt-LENGTH.false c.least-o.ensures c.clear.ensures c.conclude.ensures
