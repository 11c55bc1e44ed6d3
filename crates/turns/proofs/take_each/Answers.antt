-- `take_each` (src/lib.rt) keeps its contract.
use Rattle.std.proofs.lemmas.Result.{err_from_is_err_and}
use mathlib.Core.Path.{◌∙◌, sym}
use native.Mathlib.Omega.{arith}
use Rattle.turns.proofs.Going.{after, later-turns, from-here}
use Rattle.turns.proofs.Turns.{turning-begins, turning-done, turning-on, turning-refused, turns_at}
use Rattle.turns.proofs.take_each.Goals as goal

pub tasks-n-requires : goal.tasks-n-requires
tasks-n-requires c = c.requires.going.kept.loaded

pub loop-j-init : goal.loop-j-init
loop-j-init c = (turning-begins _ _ _ c.requires.going, c.requires.keyed)

pub take_turn-requires : goal.take_turn-requires
take_turn-requires c = record { going = from-here c.loop-j.invariant.0.going; j_bound = omega (arith, c.loop-j-test.true, c.tasks-n.ensures.1); keyed = c.loop-j.invariant.1 }

pub returns-in_err-take_turn : goal.returns-in_err-take_turn
returns-in_err-take_turn c =
    let p = err_from_is_err_and c.from_residual.result c.from_residual.ensures.1 in
    rw (p.1, p.2) (turns_at _ _ _ _ _ (turning-refused c.loop-j.invariant.0 _ c.take_turn.new.w c.loop-j-test.true c.take_turn.ensures.0 c.in_err-take_turn.was) c.tasks-n.ensures.0, later-turns (omega (arith, c.loop-j-test.true, c.tasks-n.ensures.1)) (after c.loop-j.invariant.0.going c.take_turn.ensures.1))

pub loop-j-preserved : goal.loop-j-preserved
loop-j-preserved c = (turning-on c.loop-j.invariant.0 _ c.take_turn.new.w c.loop-j-test.true c.take_turn.ensures.0 c.in_ok-take_turn.was c.take_turn.ensures.1, c.take_turn.ensures.2)

pub shape_of-w : goal.shape_of-w
shape_of-w c = c.loop-j.invariant.0.going.long

pub shape_of-kept : goal.shape_of-kept
shape_of-kept c = c.loop-j.invariant.0.going.kept.long ∙ sym c.requires.going.kept.long

pub shape_of-q : goal.shape_of-q
shape_of-q c = c.loop-j.invariant.1.keys.blocked.long ∙ sym c.requires.keyed.keys.blocked.long

pub returns : goal.returns
returns c = (turns_at _ _ _ _ _ (turning-done c.loop-j.invariant.0 c.loop-j-test.false) c.tasks-n.ensures.0, later-turns (omega (arith, c.loop-j.auto.j-end, c.tasks-n.ensures.1)) c.loop-j.invariant.0.going)
