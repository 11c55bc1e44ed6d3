-- `zeldrupa_levels` (src/lib.rt) keeps its contract.
use Rattle.folds.specs.Answers.{and_then, fitting}
use Rattle.graph.specs.Graph.{read_sheet}
use Rattle.zeldrupa.proofs.Gives.{gives_part, gives-short}
use Rattle.entry_points.specs.Values.{levels_of}
use Rattle.zeldrupa.specs.Promises.{levels_answer}
use lib.ListN.{length}
use Rattle.zeldrupa.proofs.zeldrupa_levels.Goals as goal

pub returns-then-work-lt-LENGTH : goal.returns-then-work-lt-LENGTH
unfolding levels_answer
returns-then-work-lt-LENGTH c = gives-short (and_then (read_sheet c.args.sheet.now) (λ x. fitting (length c.args.out.now) (levels_of x))) c.args.work.now c.args.out.now c.if-work-lt-LENGTH.true

pub returns : goal.returns
unfolding levels_answer
returns c = gives_part (and_then (read_sheet c.args.sheet.now) (λ x. fitting (length c.args.out.now) (levels_of x))) c.args.work.now c.args.out.now _ _ _ _ _ _ c.if-work-lt-LENGTH.false c.levels-o.ensures c.clear.ensures c.conclude.ensures
