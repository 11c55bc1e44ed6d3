-- `timed` (src/lib.rt) keeps its contract.
use borrow.Author.Tests.{eq-eqb, ne_eqb}
use mathlib.Core.Path.{refl}
use native.Mathlib.Omega.{arith}
use Rattle.sheet.proofs.timed.Goals as goal

pub returns-then-unpacking-eq0 : goal.returns-then-unpacking-eq0
returns-then-unpacking-eq0 c = (rw (eq-eqb _ 0 c.if-unpacking-eq0.true) refl, omega arith)

pub returns-else-unpacking-eq0 : goal.returns-else-unpacking-eq0
returns-else-unpacking-eq0 c = (rw (ne_eqb _ 0 c.if-unpacking-eq0.false) refl, omega arith)
