-- `take_turn` (src/lib.rt) keeps its contract.
use mathlib.Core.Path.{◌∙◌, ap, sym}
use native.Mathlib.Omega.{arith}
use Rattle.workspace.proofs.Searches.{below_at}
use Rattle.turns.proofs.Turns.{first-is-ready, turn-none, turn-some}
use Rattle.workspace.specs.Found.{found_of}
use Rattle.turns.proofs.Going.{later-turns}
use Rattle.turns.proofs.take_turn.Goals as goal

pub place_task-requires : goal.place_task-requires
place_task-requires c = record { going = c.requires.going; j_bound = (c.requires.j_bound, below_at _ c.in-Some.is c.first_ready.ensures.1); t_value = first-is-ready _ _ _ (sym (ap found_of c.in-Some.is) ∙ c.first_ready.ensures.0); keyed = c.requires.keyed }

pub returns-in-None : goal.returns-in-None
returns-in-None c = (turn-none _ _ (sym (ap found_of c.in-None.is) ∙ c.first_ready.ensures.0), later-turns (omega arith) c.requires.going, c.requires.keyed)

pub returns-in-Some : goal.returns-in-Some
returns-in-Some c = (turn-some _ _ (sym (ap found_of c.in-Some.is) ∙ c.first_ready.ensures.0) c.place_task.ensures.0, c.place_task.ensures.1, c.place_task.ensures.2)
