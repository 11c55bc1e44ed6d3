-- `first_fault` (src/rules.rt) keeps its contract.

use Rattle.admission.proofs.rules.first_fault.Goals as goal

pub returns-then-send : goal.returns-then-send
returns-then-send c = simp c.if-send.true

pub returns-then-receive : goal.returns-then-receive
returns-then-receive c = simp (c.if-send.false, c.if-receive.true)

pub returns-then-order : goal.returns-then-order
returns-then-order c = simp (c.if-send.false, c.if-receive.false, c.if-order.true)

pub returns-else-order : goal.returns-else-order
returns-else-order c = simp (c.if-send.false, c.if-receive.false, c.if-order.false)
