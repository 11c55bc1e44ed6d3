-- `idle_key` (src/lib.rt) keeps its contract.
use mathlib.Core.Path.{◌∙◌, refl, sym}
use borrow.Author.Tests.{leb-true}
use Rattle.folds.proofs.Tests.{both-parts}
use Rattle.placing.proofs.Steps.{idle-full, idle-may, idle-waits, not-idle}
use Rattle.placing.proofs.Turn.idle_key.Goals as goal
use Rattle.placing.proofs.Turn.idle_key.Goals.{else-e-self-via-then-e-self+then-is_spent+else-fits_open, else-e-self-via-then-e-self+else-is_spent, else-e-self-via-else-e-self}

pub returns-then-fits_open : goal.returns-then-fits_open
returns-then-fits_open c = idle-may _ _ c.args.self.now.t c.args.k c.end_of-e.ensures.0 c.args.self.now.arrival.0 (leb-true _ _ (both-parts _ _ c.if-e-self.true).0) (sym c.is_spent.ensures ∙ c.if-is_spent.true) (sym c.fits_open.ensures ∙ c.if-fits_open.true) c.high_key.ensures

pub returns-else-e-self : goal.returns-else-e-self
returns-else-e-self c =
    let turn = c.args.self.now in
    elim c.else-e-self.branch [
      | else-e-self-via-then-e-self+then-is_spent+else-fits_open w ↦
          idle-full _ _ turn.t c.args.k c.end_of-e.ensures.0 turn.arrival.0 (leb-true _ _ (both-parts _ _ w.if-e-self.true).0) (sym w.is_spent.ensures ∙ w.if-is_spent.true) (sym w.fits_open.ensures ∙ w.if-fits_open.false)
      | else-e-self-via-then-e-self+else-is_spent w ↦ idle-waits _ _ turn.t c.args.k (sym w.is_spent.ensures ∙ w.if-is_spent.false)
      | else-e-self-via-else-e-self w ↦
          not-idle turn.w.now turn.kept.now turn.t turn.choosing turn.arrival.0 c.requires.dues.all c.args.k c.requires.k_bound c.end_of-e.ensures.0 c.word-p.ensures.0 refl w.if-e-self.false
    ]
