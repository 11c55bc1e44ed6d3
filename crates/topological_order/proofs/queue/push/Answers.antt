-- `push` (src/queue.rt) keeps its contract.
use mathlib.Core.Path.{refl}
use native.Mathlib.Omega.{arith}
use lib.ListN.{length-set}
use Rattle.topological_order.specs.Words.{pushed}
use Rattle.topological_order.proofs.queue.push.Goals as goal

pub bounds-w-u : goal.bounds-w-u
bounds-w-u c = simp length-set (omega arith)

pub returns : goal.returns
unfolding pushed
returns c = refl
