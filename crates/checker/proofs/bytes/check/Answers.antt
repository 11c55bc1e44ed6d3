-- `check` (src/bytes.rt) keeps its contract.
use Rattle.stepping_machine.proofs.Starting.{shown}
use Rattle.checker.proofs.Opening.{sheet-opened, sheet-refused}
use native.Mathlib.Omega.{arith}
use Rattle.std.proofs.lemmas.Result.{err_from_is_err_and}
use Rattle.checker.proofs.bytes.check.Goals as goal

pub check-requires : goal.check-requires
check-requires c = shown _ c.read.ensures (λ k. omega (arith, c.shared_slice_known-1.given k)) c.in_ok-read.was

pub returns-in_err-read : goal.returns-in_err-read
returns-in_err-read c =
    let p = err_from_is_err_and c.from_residual.result c.from_residual.ensures.1 in
    rw (p.1, p.2) (sheet-refused _ _ _ _ c.read.ensures _ c.in_err-read.was)

pub returns : goal.returns
returns c = sheet-opened _ _ _ _ c.read.ensures c.in_ok-read.was _ _ c.check.ensures
