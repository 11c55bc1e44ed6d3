-- `zeldrupa_check` (src/lib.rt) keeps its contract.
use Rattle.zeldrupa.proofs.Gives.{ends-part, ends-short}
use Rattle.checker.specs.Checker.{check}
use Rattle.entry_points.specs.Values.{no_place}
use Rattle.zeldrupa.specs.Promises.{check_answer}
use Rattle.zeldrupa.proofs.zeldrupa_check.Goals as goal

pub returns-then-work-lt-LENGTH : goal.returns-then-work-lt-LENGTH
unfolding check_answer
returns-then-work-lt-LENGTH c = ends-short no_place (check c.args.sheet.now c.args.bundle.now) c.args.work.now c.if-work-lt-LENGTH.true

pub returns : goal.returns
unfolding check_answer
returns c = ends-part no_place (check c.args.sheet.now c.args.bundle.now) c.args.work.now _ _ _ _ _ c.if-work-lt-LENGTH.false c.check-o.ensures c.clear.ensures c.conclude.ensures
