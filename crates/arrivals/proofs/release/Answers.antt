-- `release` (src/lib.rt) keeps its contract.
use mathlib.Core.Path.{refl}
use native.Mathlib.Omega.{arith}
use Rattle.arrivals.proofs.Settling.{released-at, released-more, released-none, released-sub}
use Rattle.arrivals.proofs.release.Goals as goal

pub loop-j-init : goal.loop-j-init
loop-j-init c = released-none _

pub overflow_sub-kept : goal.overflow_sub-kept
overflow_sub-kept c = released-sub (omega (arith, c.loop-j-test.true)) refl refl c.requires.enough c.loop-j.invariant

pub bounds-kept-j : goal.bounds-kept-j
bounds-kept-j c = omega (arith, c.loop-j-test.true, c.loop-j.invariant.long, c.requires.kept_length_in_bounds)

pub loop-j-preserved : goal.loop-j-preserved
loop-j-preserved c = released-more c.requires.kept_length_in_bounds (omega (arith, c.loop-j-test.true)) refl refl refl c.requires.enough c.loop-j.invariant

pub shape_of-kept : goal.shape_of-kept
shape_of-kept c = c.loop-j.invariant.long

pub returns : goal.returns
returns c = released-at (omega (arith, c.loop-j.auto.j-end, c.loop-j-test.false)) c.loop-j.invariant
