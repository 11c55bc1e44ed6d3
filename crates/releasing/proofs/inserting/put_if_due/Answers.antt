-- `put_if_due` (src/inserting.rt) keeps its contract.
use native.Mathlib.Omega.{arith}
use mathlib.Core.Path.{◌∙◌}
use Rattle.releasing.proofs.Things.{is-due, not-due}
use Rattle.releasing.proofs.inserting.put_if_due.Goals as goal

pub returns-then-word-note : goal.returns-then-word-note
returns-then-word-note c =
    let p = c.put_release.ensures in
    (is-due _ _ _ _ c.word.ensures.0 c.if-word-note.true p.0, p.1)

pub returns-else-word-note : goal.returns-else-word-note
returns-else-word-note c = (not-due _ _ c.args.out.now _ _ (λ q. c.if-word-note.false (c.word.ensures.0 ∙ q)), omega arith)
