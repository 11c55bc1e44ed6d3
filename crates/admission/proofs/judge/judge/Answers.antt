-- `judge` (src/judge.rt) keeps its contract.
use Rattle.std.proofs.lemmas.Result.{err_from_is_err_and}
use native.Mathlib.Omega.{arith}
use Rattle.admission.proofs.Admits.{judge-refused, judge-rules}
use Rattle.admission.proofs.judge.judge.Goals as goal

pub rules-requires : goal.rules-requires
rules-requires c = omega (arith, c.requires, c.read.ensures.long)

pub returns-in_err-outline : goal.returns-in_err-outline
returns-in_err-outline c =
    let p = err_from_is_err_and c.from_residual.result c.from_residual.ensures.1 in
    rw (p.1, p.2) (judge-refused _ _ _ _ _ c.requires _ c.read.ensures _ c.in_err-outline.was)

pub returns : goal.returns
returns c = judge-rules _ _ _ _ _ c.requires _ c.read.ensures _ _ _ (λ i. omega (arith, c.shared_slice_known-2-1.given i)) c.in_ok-outline.was c.rules.ensures
