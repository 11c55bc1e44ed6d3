-- `start` (src/start.rt) keeps its contract.
use native.Mathlib.Omega.{arith}
use Rattle.stepping_machine.proofs.Starting.{shown, start-opened, start-refused}
use Rattle.std.proofs.lemmas.Result.{err_from_is_err_and}
use Rattle.stepping_machine.proofs.start.start.Goals as goal

pub from_tables-requires : goal.from_tables-requires
from_tables-requires c = (shown _ c.read.ensures (λ k. omega (arith, c.shared_slice_known-1.given k)) c.in_ok-read.was, c.requires.1)

pub returns-in_err-read : goal.returns-in_err-read
returns-in_err-read c =
    let p = err_from_is_err_and c.from_residual.result c.from_residual.ensures.1 in
    rw (p.1, p.2) (start-refused _ _ _ _ _ c.read.ensures _ c.in_err-read.was)

pub shape_of-state : goal.shape_of-state
shape_of-state c = c.from_tables.ensures.state_long

pub returns : goal.returns
returns c = start-opened _ _ _ _ _ c.read.ensures c.in_ok-read.was _ _ _ c.from_tables.ensures
