-- `peel` (src/peel.rt) keeps its contract.
use Rattle.topological_order.proofs.Frames.{outside_trans}
use Rattle.topological_order.proofs.Starts.{fill-turns}
use Rattle.topological_order.proofs.Turns.{filled-turns, peel-counts, peel-ends, peel-fills, peel-takes}
use Rattle.topological_order.proofs.peel.peel.Goals as goal

pub count-requires : goal.count-requires
count-requires c =
    let all = peel-counts c.requires.held c.blank.ensures in
    record { held = all.0; counted = all.1 }

pub fill-k-requires : goal.fill-k-requires
fill-k-requires c =
    let h = c.requires.held in
    let blank = c.blank.ensures in
    let all = peel-fills h (fill-turns h blank.0 c.count.ensures) in
    record { held = all.0; filled = all.1 }

pub take_all-requires : goal.take_all-requires
take_all-requires c =
    let blank = c.blank.ensures in
    let count = c.count.ensures in
    let all = peel-takes c.requires.held c.requires.chained (filled-turns c.requires.held (outside_trans blank.0 count.0) c.fill-k.ensures) in
    record { held = all.0; chained = all.1.0; peeled = all.1.1 }

pub returns : goal.returns
returns c =
    let blank = c.blank.ensures in
    let count = c.count.ensures in
    let fill = c.fill-k.ensures in
    peel-ends c.requires.held (outside_trans (outside_trans blank.0 count.0) fill.0) c.take_all.ensures
