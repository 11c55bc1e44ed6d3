-- `zeldrupa_plan` (src/lib.rt) keeps its contract.
use lib.ListN.{length}
use Rattle.zeldrupa.proofs.Gives.{gives_part, gives-short}
use Rattle.folds.specs.Answers.{and_then, fitting}
use Rattle.planner.specs.Planner.{plan}
use Rattle.zeldrupa.specs.Promises.{plan_answer}
use Rattle.zeldrupa.proofs.zeldrupa_plan.Goals as goal

pub returns-then-work-lt-LENGTH : goal.returns-then-work-lt-LENGTH
unfolding plan_answer
returns-then-work-lt-LENGTH c = gives-short (and_then (plan c.args.sheet.now) (fitting (length c.args.out.now))) c.args.work.now c.args.out.now c.if-work-lt-LENGTH.true

pub returns : goal.returns
unfolding plan_answer
returns c = gives_part (and_then (plan c.args.sheet.now) (fitting (length c.args.out.now))) c.args.work.now c.args.out.now _ _ _ _ _ _ c.if-work-lt-LENGTH.false c.write-o.ensures c.clear.ensures c.conclude.ensures
