-- `fault_by` (src/rules.rt) keeps its contract.
use Rattle.admission.specs.Notes.{fault_by}
use Rattle.admission.proofs.rules.fault_by.Goals as goal

pub returns : goal.returns
unfolding fault_by
returns c = simp (c.first_fault.ensures, c.order_fault-order.ensures, c.receive_fault-receive.ensures, c.send_fault-send.ensures)
