-- `zeldrupa_generate` (src/lib.rt) keeps its contract.
use lib.ListN.{length}
use Rattle.folds.specs.Answers.{and_then, fitting}
use Rattle.sheet.specs.Writing.{sheet_bytes}
use Rattle.generator.specs.Load.{generated}
use Rattle.zeldrupa.proofs.Gives.{gives_part, gives-short}
use Rattle.zeldrupa.specs.Promises.{generate_answer}
use Rattle.zeldrupa.proofs.zeldrupa_generate.Goals as goal

pub returns-then-work-lt-LENGTH : goal.returns-then-work-lt-LENGTH
unfolding generate_answer
returns-then-work-lt-LENGTH c =
    let a = c.args in
    gives-short (and_then (generated a.seed a.tasks a.tries a.processors a.limit) (λ s. fitting (length a.out.now) (sheet_bytes s))) a.work.now a.out.now c.if-work-lt-LENGTH.true

pub returns : goal.returns
unfolding generate_answer
returns c =
    let a = c.args in
    gives_part (and_then (generated a.seed a.tasks a.tries a.processors a.limit) (λ s. fitting (length a.out.now) (sheet_bytes s))) a.work.now a.out.now _ _ _ _ _ _ c.if-work-lt-LENGTH.false c.generate-o.ensures c.clear.ensures c.conclude.ensures
