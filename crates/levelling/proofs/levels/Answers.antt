-- `levels` (src/lib.rt) keeps its contract.
use Rattle.levelling.proofs.Ends.{chains-stand, find-goes, levels-found, levels-free, peel-asks, source-asks}
use Rattle.topological_order.proofs.Frames.{held}
use Rattle.levelling.proofs.levels.Goals as goal

pub chain-requires-2 : goal.chain-requires-2
chain-requires-2 c = source-asks (held c.requires) c.chain.ensures

pub peel-k-requires : goal.peel-k-requires
peel-k-requires c =
    let h = held c.requires in
    let all = peel-asks h (chains-stand h c.chain.ensures c.chain-2.ensures) in
    record { held = all.0; chained = all.1 }

pub tasks-n-requires : goal.tasks-n-requires
tasks-n-requires c = let h = held c.requires in (find-goes h (chains-stand h c.chain.ensures c.chain-2.ensures) c.peel-k.ensures.0).0.loaded

pub returns-then-k-n : goal.returns-then-k-n
returns-then-k-n c =
    let h = held c.requires in
    let peeled = c.peel-k.ensures in
    levels-free h (chains-stand h c.chain.ensures c.chain-2.ensures) peeled.0 peeled.1 c.tasks-n.ensures.0 c.if-k-n.true

pub find-requires : goal.find-requires
find-requires c =
    let h = held c.requires in
    let all = find-goes h (chains-stand h c.chain.ensures c.chain-2.ensures) c.peel-k.ensures.0 in
    record { held = all.0; chained = all.1 }

pub returns : goal.returns
returns c =
    let h = held c.requires in
    let peeled = c.peel-k.ensures in
    levels-found h (chains-stand h c.chain.ensures c.chain-2.ensures).0 peeled.0 peeled.1 c.tasks-n.ensures.0 c.if-k-n.false c.find.ensures
