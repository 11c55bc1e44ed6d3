-- `put` (src/lib.rt) keeps its contract.
use native.Mathlib.Omega.{arith}
use lib.ListN.{length-set}
use Rattle.schedule.specs.Layout.{put_words}
use Rattle.schedule.proofs.Puts.{place-long, turn-long}
use Rattle.schedule.proofs.put.Goals as goal

pub put_turn-requires : goal.put_turn-requires
put_turn-requires c = (simp (c.put_place.ensures, place-long) c.requires.fixed_in_bounds, c.requires.t_bound.3, c.requires.t_bound.0)

pub bounds-w-t : goal.bounds-w-t
bounds-w-t c = simp (c.put_turn.ensures, turn-long, c.put_place.ensures, place-long) (omega (arith, c.requires.fixed_in_bounds, c.requires.t_bound.0))

pub bounds-w-4369 : goal.bounds-w-4369
bounds-w-4369 c = simp length-set (simp (c.put_turn.ensures, turn-long, c.put_place.ensures, place-long) (omega (arith, c.requires.fixed_in_bounds)))

pub bounds-w-4368 : goal.bounds-w-4368
bounds-w-4368 c = simp length-set (simp (c.put_turn.ensures, turn-long, c.put_place.ensures, place-long) (omega (arith, c.requires.fixed_in_bounds)))

pub shape_of-w : goal.shape_of-w
shape_of-w c = simp length-set (simp (c.put_turn.ensures, turn-long, c.put_place.ensures, place-long))

pub returns : goal.returns
unfolding put_words
returns c = simp (c.put_turn.ensures, c.put_place.ensures)
