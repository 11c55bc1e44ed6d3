-- `zeldrupa_write_bundle` (src/lib.rt) keeps its contract.
use Rattle.bundle.specs.Format.{read_bundle}
use Rattle.folds.specs.Answers.{and_then, fitting}
use Rattle.graph.specs.Graph.{read_sheet}
use Rattle.bundle.specs.Writing.{value_bytes}
use Rattle.zeldrupa.proofs.Gives.{gives_part, gives-short}
use Rattle.zeldrupa.specs.Promises.{write_bundle_answer}
use lib.ListN.{length}
use Rattle.zeldrupa.proofs.zeldrupa_write_bundle.Goals as goal

pub returns-then-work-lt-LENGTH : goal.returns-then-work-lt-LENGTH
unfolding write_bundle_answer
returns-then-work-lt-LENGTH c =
    let b = value_bytes c.args.commands.now c.args.claim in
    gives-short (and_then (read_sheet c.args.sheet.now) (λ x. and_then (read_bundle x b) (λ y. fitting (length c.args.out.now) b))) c.args.work.now c.args.out.now c.if-work-lt-LENGTH.true

pub returns : goal.returns
unfolding write_bundle_answer
returns c =
    let b = value_bytes c.args.commands.now c.args.claim in
    gives_part (and_then (read_sheet c.args.sheet.now) (λ x. and_then (read_bundle x b) (λ y. fitting (length c.args.out.now) b))) c.args.work.now c.args.out.now _ _ _ _ _ _ c.if-work-lt-LENGTH.false c.write-o.ensures c.clear.ensures c.conclude.ensures
