-- `bundle::values::copy` meets its contract.
use Rattle.bundle_writer.proofs.Copying.{copy-long, copying-ends, copying-long, copying-on, copying-room, copying-starts}
use lib.ListN.{length-set}
use native.Mathlib.Omega.{arith}
use Rattle.bundle_writer.proofs.values.copy.Goals as goal

pub overflow_sub-end : goal.overflow_sub-end
overflow_sub-end c = copy-long _ _ (λ i. omega (arith, c.type_inv.bytes i)) c.requires

pub loop-at-init : goal.loop-at-init
loop-at-init c = copying-starts _ _ (λ i. omega (arith, c.type_inv.bytes i)) c.requires _ (omega (arith, copy-long _ _ (λ i. omega (arith, c.type_inv.bytes i)) c.requires))

pub operand_at-operand-requires : goal.operand_at-operand-requires
operand_at-operand-requires c = (copying-room c.loop-at.invariant c.loop-at-test.true).0

pub bounds-bytes-at : goal.bounds-bytes-at
bounds-bytes-at c = omega (arith, (copying-room c.loop-at.invariant c.loop-at-test.true).0)

pub overflow_cast-out : goal.overflow_cast-out
overflow_cast-out c = omega (arith, c.type_inv.bytes c.loop-at.at)

pub offset_bounds-out-i : goal.offset_bounds-out-i
offset_bounds-out-i c = omega (arith, (copying-room c.loop-at.invariant c.loop-at-test.true).1, copying-long c.loop-at.invariant)

pub bounds-out-i : goal.bounds-out-i
bounds-out-i c = omega (arith, (copying-room c.loop-at.invariant c.loop-at-test.true).1)

pub overflow_add-out : goal.overflow_add-out
overflow_add-out c = omega (arith, (copying-room c.loop-at.invariant c.loop-at-test.true).1, copying-long c.loop-at.invariant)

pub offset_bounds-out-i-in-loop-at : goal.offset_bounds-out-i-in-loop-at
offset_bounds-out-i-in-loop-at c = omega (arith, (copying-room c.loop-at.invariant c.loop-at-test.true).1, copying-long c.loop-at.invariant)

pub bounds-out-i-in-loop-at : goal.bounds-out-i-in-loop-at
bounds-out-i-in-loop-at c = simp length-set (omega (arith, (copying-room c.loop-at.invariant c.loop-at-test.true).1))

pub bounds-bytes-at-in-loop-at : goal.bounds-bytes-at-in-loop-at
bounds-bytes-at-in-loop-at c = omega (arith, (copying-room c.loop-at.invariant c.loop-at-test.true).0)

pub overflow_cast-bytes : goal.overflow_cast-bytes
overflow_cast-bytes c = omega (arith, c.type_inv.bytes c.loop-at.at)

pub overflow_add-at : goal.overflow_add-at
overflow_add-at c = omega (arith, c.size_of-at.ensures, (copying-room c.loop-at.invariant c.loop-at-test.true).2)

pub overflow_add-i : goal.overflow_add-i
overflow_add-i c = omega (arith, (copying-room c.loop-at.invariant c.loop-at-test.true).1, copying-long c.loop-at.invariant)

pub loop-at-smaller : goal.loop-at-smaller
loop-at-smaller c = omega (arith, c.size_of-at.ensures, (copying-room c.loop-at.invariant c.loop-at-test.true).2, (copying-room c.loop-at.invariant c.loop-at-test.true).3)

pub loop-at-preserved : goal.loop-at-preserved
loop-at-preserved c = rw c.size_of-at.ensures (copying-on c.loop-at.invariant c.loop-at-test.true _ c.operand_at-operand.ensures)

pub shape_of-out : goal.shape_of-out
shape_of-out c = copying-long c.loop-at.invariant

pub returns : goal.returns
returns c = copying-ends c.loop-at.invariant (omega arith)
