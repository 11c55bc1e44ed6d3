-- `zeldrupa_release` (src/lib.rt) keeps its contract.
use lib.ListN.{length}
use Rattle.zeldrupa.proofs.Gives.{gives_part, gives-short}
use Rattle.folds.specs.Answers.{and_then, fitting}
use Rattle.releasing.specs.Passing.{pass}
use Rattle.zeldrupa.specs.Promises.{release_answer}
use Rattle.zeldrupa.proofs.zeldrupa_release.Goals as goal

pub returns-then-work-lt-LENGTH : goal.returns-then-work-lt-LENGTH
unfolding release_answer
returns-then-work-lt-LENGTH c = gives-short (and_then (pass c.args.sheet.now c.args.bundle.now) (fitting (length c.args.out.now))) c.args.work.now c.args.out.now c.if-work-lt-LENGTH.true

pub returns : goal.returns
unfolding release_answer
returns c = gives_part (and_then (pass c.args.sheet.now c.args.bundle.now) (fitting (length c.args.out.now))) c.args.work.now c.args.out.now _ _ _ _ _ _ c.if-work-lt-LENGTH.false c.release-o.ensures c.clear.ensures c.conclude.ensures
