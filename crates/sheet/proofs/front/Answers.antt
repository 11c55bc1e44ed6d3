-- `front` (src/lib.rt) keeps its contract.
use native.Mathlib.Omega.{arith}
use Rattle.sheet.specs.Sizes.{front_by}
use Rattle.sheet.proofs.front.Goals as goal

pub returns-then-cube : goal.returns-then-cube
unfolding front_by
returns-then-cube c = (rw c.if-cube.true (omega (arith, c.timed-start.ensures.0)), omega (arith, c.timed-start.ensures.1))

pub returns-else-cube : goal.returns-else-cube
unfolding front_by
returns-else-cube c = (rw c.if-cube.false (omega (arith, c.timed-start.ensures.0)), omega (arith, c.timed-start.ensures.1))
