-- `zeldrupa_drift` (src/lib.rt) keeps its contract.
use lib.ListN.{length}
use Rattle.zeldrupa.proofs.Gives.{gives_part, gives-short}
use Rattle.folds.specs.Answers.{and_then, fitting}
use Rattle.drift.specs.Reporting.{report}
use Rattle.zeldrupa.specs.Promises.{drift_answer}
use Rattle.zeldrupa.proofs.zeldrupa_drift.Goals as goal

pub returns-then-work-lt-LENGTH : goal.returns-then-work-lt-LENGTH
unfolding drift_answer
returns-then-work-lt-LENGTH c = gives-short (and_then (report c.args.sheet.now c.args.bundle.now) (fitting (length c.args.out.now))) c.args.work.now c.args.out.now c.if-work-lt-LENGTH.true

pub returns : goal.returns
unfolding drift_answer
returns c = gives_part (and_then (report c.args.sheet.now c.args.bundle.now) (fitting (length c.args.out.now))) c.args.work.now c.args.out.now _ _ _ _ _ _ c.if-work-lt-LENGTH.false c.drift-o.ensures c.clear.ensures c.conclude.ensures
