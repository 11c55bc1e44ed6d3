-- `put_message` (src/writing.rt) keeps its contract.
use native.Mathlib.Omega.{arith}
use Rattle.search.proofs.Fronts.{skip-near, skip-far, put-far}
use Rattle.search.proofs.writing.put_message.Goals as goal

pub returns-then-end_of-t : goal.returns-then-end_of-t
returns-then-end_of-t c = skip-near _ _ _ _ _ _ _ _ _ _ c.end_of.ensures (λ q. omega (arith, c.if-end_of-t.true))

pub returns-then-stands : goal.returns-then-stands
returns-then-stands c = skip-far _ _ _ _ _ _ _ _ _ _ c.other_end.ensures c.end_of-far.ensures c.stands.ensures c.if-stands.true

pub returns : goal.returns
returns c = put-far _ _ _ _ _ _ _ _ _ _ _ _ _ c.end_of.ensures (omega (arith, c.if-end_of-t.false)) c.other_end.ensures c.end_of-far.ensures c.stands.ensures c.if-stands.false c.code_of.ensures c.put_command.ensures
