-- `received` (src/decoding.rt) keeps its contract.
use borrow.Author.Tests.{eq-eqb, ne_eqb}
use Rattle.stepping_machine.proofs.decoding.received.Goals as goal

pub returns-then-receives-eq1 : goal.returns-then-receives-eq1
returns-then-receives-eq1 c = rw (eq-eqb c.args.receives 1 c.if-receives-eq1.true)

pub returns-else-receives-eq1 : goal.returns-else-receives-eq1
returns-else-receives-eq1 c = rw (ne_eqb c.args.receives 1 c.if-receives-eq1.false)
