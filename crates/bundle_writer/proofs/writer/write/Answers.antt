-- `bundle::writer::write` meets its contract.
use Rattle.bundle_writer.proofs.Written.{writes-long, writes-ready, writes-refused, writes_short}
use Rattle.std.proofs.lemmas.Result.{err_from_is_err_and}
use native.Mathlib.Omega.{arith}
use Rattle.bundle_writer.proofs.writer.write.Goals as goal

pub returns-then-out-need : goal.returns-then-out-need
returns-then-out-need c =
    rw c.at.ensures (writes_short c.refusal.ensures _ (omega (arith, c.ranges.claim)) _ _ c.in_ok-need.was c.if-out-need.true)

pub put-requires : goal.put-requires
put-requires c = writes-ready c.refusal.ensures _ (omega (arith, c.ranges.claim)) _ _ c.in_ok-need.was c.requires c.if-out-need.false

pub returns-in_err-need : goal.returns-in_err-need
returns-in_err-need c =
    let p = err_from_is_err_and c.from_residual.result c.from_residual.ensures.1 in
    rw (p.1, p.2) (writes-refused c.refusal.ensures _ (omega (arith, c.ranges.claim)) _ _ c.in_err-need.was)

pub returns : goal.returns
returns c = writes-long c.refusal.ensures _ (omega (arith, c.ranges.claim)) _ _ c.in_ok-need.was c.if-out-need.false _ c.put.ensures
