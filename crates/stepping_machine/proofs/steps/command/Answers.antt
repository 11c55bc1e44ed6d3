-- `command` (src/steps.rt) keeps its contract. `x` is behind the word that was read.
use native.Mathlib.Omega.{arith}
use Rattle.stepping_machine.specs.Words.{gave_words}
use Rattle.stepping_machine.proofs.Chosen.{gave, got, ran, sent, stopped}
use Rattle.stepping_machine.proofs.steps.command.Goals as goal

pub returns-then-kind-eq0 : goal.returns-then-kind-eq0
returns-then-kind-eq0 c = stopped _ _ c.requires.0 _ c.word.ensures.0 _ c.word-x.ensures.0 c.if-kind-eq0.true

pub returns-in-1 : goal.returns-in-1
returns-in-1 c = ran _ _ c.requires.0 _ c.word.ensures.0 _ c.word-x.ensures.0 _ c.in-1.is c.run.ensures

pub returns-in-2 : goal.returns-in-2
returns-in-2 c = sent _ _ c.requires.0 _ c.word.ensures.0 _ c.word-x.ensures.0 _ c.in-2.is c.send.ensures

pub returns-in-3 : goal.returns-in-3
returns-in-3 c = got _ _ c.requires.0 _ c.word.ensures.0 _ c.word-x.ensures.0 _ c.in-3.is _ c.receive.ensures.0 c.receive.ensures.1

pub returns-in_default : goal.returns-in_default
unfolding gave_words
returns-in_default c = gave _ _ c.requires.0 _ c.word.ensures.0 _ c.word-x.ensures.0 _ (omega (arith, c.if-kind-eq0.false)) c.go_on.ensures
