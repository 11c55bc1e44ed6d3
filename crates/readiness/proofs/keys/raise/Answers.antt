-- `raise` (src/lib.rt) keeps its contract.
use mathlib.Core.Path.{◌∙◌}
use native.Mathlib.Omega.{arith}
use lib.ListN.{length-set}
use Rattle.readiness.proofs.Blocks.{changed-by, raised}
use Rattle.readiness.proofs.keys.raise.Goals as goal

pub bounds-q-b-2 : goal.bounds-q-b-2
bounds-q-b-2 c = omega (arith, length-set c.args.q.now c.args.i c.args.x, c.requires.blocked.long, c.requires.i_bound.0)

pub returns : goal.returns
returns c = changed-by c.requires.blocked c.args.i c.args.x c.requires.i_bound.0 _ (c.max.ensures ∙ raised c.requires.blocked c.args.i c.args.x c.requires.i_bound.0 c.requires.i_bound.1)
