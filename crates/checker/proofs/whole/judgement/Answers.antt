-- `judgement` (src/whole.rt) keeps its contract.
use Rattle.checker.proofs.Closing.{judged-ends, judged-refused}
use Rattle.std.proofs.lemmas.Result.{err_from_is_err_and}
use Rattle.checker.proofs.whole.judgement.Goals as goal

pub returns-in_err-outline : goal.returns-in_err-outline
returns-in_err-outline c =
    let p = err_from_is_err_and c.from_residual.result c.from_residual.ensures.1 in
    rw (p.1, p.2) (judged-refused _ _ _ _ _ _ c.admit.ensures _ c.in_err-outline.was)

pub returns : goal.returns
returns c = judged-ends _ _ _ _ _ _ c.admit.ensures _ _ _ c.in_ok-outline.was c.settle.ensures c.finish.ensures
