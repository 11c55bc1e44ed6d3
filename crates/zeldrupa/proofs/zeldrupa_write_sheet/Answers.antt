-- `zeldrupa_write_sheet` (src/lib.rt) keeps its contract.
use Rattle.folds.specs.Answers.{and_then, fitting}
use Rattle.graph.specs.Graph.{read_sheet}
use Rattle.sheet.specs.Writing.{cube_of, value_bytes}
use Rattle.zeldrupa.proofs.Gives.{gives_part, gives-short}
use Rattle.zeldrupa.specs.Promises.{write_sheet_answer}
use lib.ListN.{length}
use Rattle.zeldrupa.proofs.zeldrupa_write_sheet.Goals as goal

pub returns-then-work-lt-LENGTH : goal.returns-then-work-lt-LENGTH
unfolding write_sheet_answer
returns-then-work-lt-LENGTH c =
    let b = value_bytes c.args.processors c.args.limit c.args.unpacking (cube_of c.args.cube) c.args.tasks.now c.args.links.now in
    gives-short (and_then (read_sheet b) (λ x. fitting (length c.args.out.now) b)) c.args.work.now c.args.out.now c.if-work-lt-LENGTH.true

pub returns : goal.returns
unfolding write_sheet_answer
returns c =
    let b = value_bytes c.args.processors c.args.limit c.args.unpacking (cube_of c.args.cube) c.args.tasks.now c.args.links.now in
    gives_part (and_then (read_sheet b) (λ x. fitting (length c.args.out.now) b)) c.args.work.now c.args.out.now _ _ _ _ _ _ c.if-work-lt-LENGTH.false c.write-o.ensures c.clear.ensures c.conclude.ensures
