-- `note_homes` (src/ways.rt) keeps its contract.
use mathlib.Core.Path.{subst}
use native.Mathlib.Omega.{arith}
use Rattle.stepping_machine.specs.Loads.{NotedIs}
use Rattle.stepping_machine.proofs.Raising.{noted-starts, noted_more}
use Rattle.stepping_machine.proofs.ways.note_homes.Goals as goal

pub loop-t-init : goal.loop-t-init
loop-t-init c = noted-starts _

pub home-home-requires : goal.home-home-requires
home-home-requires c = let s = c.requires in let g = c.loop-t.invariant in (omega (arith, s.0, c.loop-t-test.true), omega (arith, s.1, g.long))

pub overflow_add-t : goal.overflow_add-t
overflow_add-t c = omega (arith, c.requires.0, c.loop-t-test.true)

pub put-requires : goal.put-requires
put-requires c = let s = c.requires in omega (arith, s.0, s.1, c.loop-t-test.true, c.loop-t.invariant.long)

pub loop-t-preserved : goal.loop-t-preserved
loop-t-preserved c =
    let s = c.requires in
    let here = c.home-home.ensures in
    let below = c.loop-t-test.true in
    noted_more _ _ _ _ _ (omega (arith, s.0, below)) s.1 c.loop-t.invariant here.0 here.1 c.put.ensures

pub shape_of-w : goal.shape_of-w
shape_of-w c = c.loop-t.invariant.long

pub returns : goal.returns
returns c = subst (NotedIs _ _) (omega (arith, c.loop-t.auto.t-end, c.loop-t-test.false)) c.loop-t.invariant
