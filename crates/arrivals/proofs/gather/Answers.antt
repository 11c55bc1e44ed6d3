-- `gather` (src/lib.rt) keeps its contract.
use native.Mathlib.Omega.{arith}
use Rattle.adjacency.proofs.Frames.{only_none, only-trans}
use Rattle.arrivals.proofs.Gathering.{gathers-at}
use Rattle.arrivals.proofs.gather.Goals as goal

pub loop-l-init : goal.loop-l-init
loop-l-init c = (only_none _ _ _, c.requires.gathered_to)

pub gather_one-requires : goal.gather_one-requires
gather_one-requires c =
    let v = c.loop-l.invariant in
    record { loaded = (c.requires.loaded.0, omega (arith, v.0.long, c.requires.loaded.1)); l_bound = omega (arith, c.loop-l-test.true, c.links-m.ensures.0); gathered_to = v.1 }

pub loop-l-preserved : goal.loop-l-preserved
loop-l-preserved c = let v = c.loop-l.invariant in let d = c.gather_one.ensures in (only-trans v.0 d.0, d.1)

pub shape_of-kept : goal.shape_of-kept
shape_of-kept c = c.loop-l.invariant.0.long

pub returns : goal.returns
returns c = (c.loop-l.invariant.0, gathers-at (omega (arith, c.loop-l.auto.l-end, c.loop-l-test.false, c.links-m.ensures.0)) c.loop-l.invariant.1)
