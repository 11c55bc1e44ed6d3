-- `order_of` (src/choosing.rt) keeps its contract.
use native.Mathlib.Omega.{arith}
use lib.ListN.{length-take}
use Rattle.search.proofs.Keeping.{order-less, order-greater, order-equal}
use Rattle.search.proofs.choosing.order_of.Goals as goal

pub slice_bounds-cmp-end-in-Equal : goal.slice_bounds-cmp-end-in-Equal
slice_bounds-cmp-end-in-Equal c = omega (arith, length-take c.put_bundle-n.result c.put_bundle-n.new.buf, c.put_bundle-n.ensures.few)

pub slice_bounds-cmp-end-in-Equal-3 : goal.slice_bounds-cmp-end-in-Equal-3
slice_bounds-cmp-end-in-Equal-3 c = omega (arith, length-take c.put_bundle-m.result c.put_bundle-m.new.buf, c.put_bundle-m.ensures.few)

pub returns-in-Less : goal.returns-in-Less
returns-in-Less c = order-less _ _ _ _ c.requires.3 c.requires.4 _ _ _ c.cmp-programmes.ensures c.cmp.ensures c.then.ensures c.in-Less.is

pub returns-in-Greater : goal.returns-in-Greater
returns-in-Greater c = order-greater _ _ _ _ c.requires.3 c.requires.4 _ _ _ c.cmp-programmes.ensures c.cmp.ensures c.then.ensures c.in-Greater.is

pub returns-in-Equal : goal.returns-in-Equal
returns-in-Equal c =
    order-equal _ _ _ _ c.requires.3 c.requires.4 _ _ _ c.cmp-programmes.ensures c.cmp.ensures c.then.ensures c.in-Equal.is _ _ _ _ _ _
    c.put_bundle-n.ensures c.put_bundle-m.ensures _ c.cmp-in-Equal.ensures
