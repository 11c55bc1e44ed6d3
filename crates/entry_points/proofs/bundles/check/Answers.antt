-- `check` (src/bundles.rt) keeps its contract.
use Rattle.entry_points.proofs.Running.{check-good, check-refused}
use Rattle.std.proofs.lemmas.Result.{err_from_is_err_and}
use Rattle.entry_points.proofs.bundles.check.Goals as goal

pub returns-in_err-check : goal.returns-in_err-check
returns-in_err-check c =
    let p = err_from_is_err_and c.from_residual.result c.from_residual.ensures.1 in
    rw (p.1, p.2) (check-refused _ _ _ _ c.check.ensures _ c.in_err-check.was)

pub returns : goal.returns
returns c = check-good _ _ _ _ c.check.ensures c.in_ok-check.was
