-- `load_programme` (src/load.rt) keeps its contract. `d` is behind the command that was decoded.
use Rattle.stepping_machine.proofs.Loading.{loading-ends, loading-more, loading-starts}
use mathlib.Core.Path.{◌∙◌}
use native.Mathlib.Omega.{arith}
use Rattle.stepping_machine.proofs.load.load_programme.Goals as goal

pub loop-from-init : goal.loop-from-init
loop-from-init c = loading-starts _ _ _ _ _ _ _ c.requires.0

pub decode-x-requires : goal.decode-x-requires
decode-x-requires c = (c.loop-from.invariant.decodable, c.loop-from-test.true)

pub overflow_add-store : goal.overflow_add-store
overflow_add-store c =
    let g = c.loop-from.invariant in
    omega (arith, g.small, g.slow, g.near, c.decode-x.ensures.small, c.loop-from-test.true, c.requires.1, c.requires.2)

pub overflow_add-from : goal.overflow_add-from
overflow_add-from c = omega (arith, c.decode-x.ensures.few, c.loop-from-test.true, c.requires.1)

pub overflow_add-to : goal.overflow_add-to
overflow_add-to c = omega (arith, c.loop-from.invariant.slow, c.loop-from-test.true, c.requires.1, c.requires.2)

pub loop-from-smaller : goal.loop-from-smaller
loop-from-smaller c = omega (arith, c.decode-x.ensures.some, c.loop-from-test.true)

pub loop-from-preserved : goal.loop-from-preserved
loop-from-preserved c = loading-more _ _ _ _ _ _ _ _ _ _ _ _ _ _ _ _ c.loop-from.invariant c.loop-from-test.true c.decode-x.ensures c.put.ensures c.saturating_sub-store.ensures c.max-highest.ensures

pub shape_of-w : goal.shape_of-w
shape_of-w c = c.put-2.auto.w ∙ c.loop-from.invariant.long

pub returns : goal.returns
returns c = loading-ends _ _ _ _ _ _ _ _ _ _ _ _ _ c.loop-from.invariant c.loop-from-test.false c.put-2.ensures
