-- `start` (src/runs.rt) keeps its contract.
use Rattle.entry_points.proofs.Running.{state-fresh, state-refused}
use Rattle.std.proofs.lemmas.Result.{err_from_is_err_and}
use Rattle.entry_points.proofs.runs.start.Goals as goal

pub returns-in_err-start : goal.returns-in_err-start
returns-in_err-start c =
    let p = err_from_is_err_and c.from_residual.result c.from_residual.ensures.1 in
    rw (p.1, p.2) (state-refused _ _ _ _ _ _ c.start.ensures _ _ _ c.in_err-start.was)

pub returns : goal.returns
returns c = state-fresh _ _ _ _ _ _ c.start.ensures _ c.in_ok-start.was
