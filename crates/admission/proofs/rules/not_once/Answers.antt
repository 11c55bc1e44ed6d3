-- `not_once` (src/rules.rt) keeps its contract.
use Rattle.admission.proofs.Ruled.{once-found, once_more, once-none, once-starts}
use native.Mathlib.Omega.{arith}
use Rattle.admission.proofs.rules.not_once.Goals as goal

pub loop-t-init : goal.loop-t-init
loop-t-init c = once-starts _

pub returns-then-word-lt2 : goal.returns-then-word-lt2
returns-then-word-lt2 c = once-found _ _ _ c.loop-t.invariant c.loop-t-test.true (omega (arith, c.word.ensures.0))

pub loop-t-preserved : goal.loop-t-preserved
loop-t-preserved c = once_more c.loop-t.invariant (omega (arith, c.word.ensures.0))

pub returns : goal.returns
returns c = once-none _ _ _ c.loop-t.invariant c.loop-t-test.false
