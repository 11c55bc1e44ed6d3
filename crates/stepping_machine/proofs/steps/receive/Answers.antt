-- `receive` (src/steps.rt) keeps its contract.
use mathlib.Core.Path.{◌∙◌, refl, sym}
use borrow.Author.Tests.{eq-eqb, ne_eqb}
use lib.ListN.{get_or}
use Rattle.stepping_machine.specs.Words.{got_words}
use Rattle.stepping_machine.proofs.steps.receive.Goals as goal

pub returns-then-stamp-eq0 : goal.returns-then-stamp-eq0
returns-then-stamp-eq0 c = (rw (eq-eqb (get_or c.args.w.now c.args.i 0) 0 (sym c.word-stamp.ensures.0 ∙ c.if-stamp-eq0.true)), refl)

pub returns : goal.returns
unfolding got_words
returns c = (
  rw (ne_eqb (get_or c.args.w.now c.args.i 0) 0 (λ q. c.if-stamp-eq0.false (c.word-stamp.ensures.0 ∙ q))),
  simp (c.go_on.ensures, c.word-stamp.ensures.0, c.word-unpacking.ensures.0),
)
