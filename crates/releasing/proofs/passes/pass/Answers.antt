-- `pass` (src/passes.rt) keeps its contract.
use native.Mathlib.Omega.{arith}
use Rattle.releasing.proofs.Endings.{pass-refused, pass-good, good-short}
use Rattle.std.proofs.lemmas.Result.{err_from_is_err_and}
use Rattle.releasing.proofs.passes.pass.Goals as goal

pub pass_accepted-requires : goal.pass_accepted-requires
pass_accepted-requires c =
    let p = c.requires in
    (omega (arith, c.judgement.ensures.long, p.1), good-short p.0 (λ k. omega (arith, c.shared_slice_known-2-1.given k)) c.judgement.ensures c.in_ok-judgement.was)

pub returns-in_err-judgement : goal.returns-in_err-judgement
returns-in_err-judgement c =
    let p = err_from_is_err_and c.from_residual.result c.from_residual.ensures.1 in
    rw (p.1, p.2) (pass-refused _ c.judgement.ensures c.in_err-judgement.was)

pub returns : goal.returns
returns c = pass-good c.judgement.ensures c.in_ok-judgement.was c.pass_accepted.ensures
