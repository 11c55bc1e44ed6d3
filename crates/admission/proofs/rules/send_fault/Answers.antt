-- `send_fault` (src/rules.rt) keeps its contract.
use Rattle.admission.specs.Notes.{send_by}
use borrow.Author.Tests.{le-ltb, lt-ltb}
use native.Mathlib.Omega.{arith}
use Rattle.admission.proofs.rules.send_fault.Goals as goal

pub returns-then-inside : goal.returns-then-inside
unfolding send_by
returns-then-inside c = simp c.if-inside.true

pub returns-then-sent-lt2 : goal.returns-then-sent-lt2
unfolding send_by
returns-then-sent-lt2 c = simp (c.if-inside.false, le-ltb 1 c.args.sent (omega arith), lt-ltb c.args.sent 2 c.if-sent-lt2.true)

pub returns-else-sent-lt2 : goal.returns-else-sent-lt2
unfolding send_by
returns-else-sent-lt2 c = simp (c.if-inside.false, lt-ltb 1 c.args.sent (omega arith), ← c.precedes.ensures)
