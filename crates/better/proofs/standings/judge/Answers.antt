-- `judge` (src/standings.rt) keeps its contract.
use Rattle.better.proofs.Ranking.{not-admitted, not-finished, finished}
use Rattle.better.proofs.standings.judge.Goals as goal

pub shape_of-w-in-Err : goal.shape_of-w-in-Err
shape_of-w-in-Err c = c.admit.ensures.long

pub returns-in-Err : goal.returns-in-Err
returns-in-Err c = not-admitted _ _ _ _ _ _ c.admit.ensures _ c.in-Err.is

pub returns-in-Err-finish : goal.returns-in-Err-finish
returns-in-Err-finish c = not-finished _ _ _ _ _ _ c.admit.ensures _ _ _ c.in-Ok.is c.settle.ensures c.finish.ensures _ c.in-Err-finish.is

pub returns-in-Ok-finish : goal.returns-in-Ok-finish
returns-in-Ok-finish c = finished _ _ _ _ _ _ c.admit.ensures _ _ _ c.in-Ok.is c.settle.ensures c.finish.ensures _ c.in-Ok-finish.is c.runners.ensures
