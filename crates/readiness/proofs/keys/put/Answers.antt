-- `put` (src/lib.rt) keeps its contract.
use native.Mathlib.Omega.{arith}
use lib.ListN.{length-set}
use Rattle.readiness.proofs.Blocks.{changed-by, risen, unchanged}
use Rattle.readiness.proofs.keys.put.Goals as goal

pub bounds-q-b-then-most-x : goal.bounds-q-b-then-most-x
bounds-q-b-then-most-x c = omega (arith, length-set c.args.q.now c.args.i c.args.x, c.requires.blocked.long, c.requires.i_bound)

pub returns-then-most-x : goal.returns-then-most-x
returns-then-most-x c = changed-by c.requires.blocked c.args.i c.args.x c.requires.i_bound c.args.x (risen c.requires.blocked c.args.i c.args.x c.requires.i_bound c.if-most-x.true)

pub greatest_of-requires : goal.greatest_of-requires
greatest_of-requires c = omega (arith, length-set c.args.q.now c.args.i c.args.x, c.requires.blocked.long, c.requires.i_bound)

pub bounds-q-b-then-old-most : goal.bounds-q-b-then-old-most
bounds-q-b-then-old-most c = omega (arith, length-set c.args.q.now c.args.i c.args.x, c.requires.blocked.long, c.requires.i_bound)

pub returns-then-old-most : goal.returns-then-old-most
returns-then-old-most c = changed-by c.requires.blocked c.args.i c.args.x c.requires.i_bound _ c.greatest_of.ensures

pub returns-else-old-most : goal.returns-else-old-most
returns-else-old-most c = unchanged c.requires.blocked c.args.i c.args.x c.requires.i_bound (omega (arith, c.if-most-x.false)) c.if-old-most.false
