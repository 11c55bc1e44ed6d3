-- `receive_fault` (src/rules.rt) keeps its contract.
use Rattle.admission.specs.Notes.{receive_by}
use borrow.Author.Tests.{le-ltb, lt-ltb}
use native.Mathlib.Omega.{arith}
use Rattle.admission.proofs.rules.receive_fault.Goals as goal

pub returns-then-inside : goal.returns-then-inside
unfolding receive_by
returns-then-inside c = simp c.if-inside.true

pub returns-then-got-lt2 : goal.returns-then-got-lt2
unfolding receive_by
returns-then-got-lt2 c = simp (c.if-inside.false, le-ltb 1 c.args.got (omega arith), lt-ltb c.args.got 2 c.if-got-lt2.true)

pub returns-else-got-lt2 : goal.returns-else-got-lt2
unfolding receive_by
returns-else-got-lt2 c = simp (c.if-inside.false, lt-ltb 1 c.args.got (omega arith), ← c.precedes.ensures)
