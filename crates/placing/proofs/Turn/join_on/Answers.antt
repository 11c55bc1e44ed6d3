-- `join_on` (src/lib.rt) keeps its contract.
use mathlib.Core.Path.{◌∙◌}
use native.Mathlib.Omega.{arith}
use Rattle.placing.proofs.Joins.{join-begins, join-can, join-done, join_more, join-there}
use Rattle.placing.proofs.Starts.{start_small}
use Rattle.placing.proofs.Steps.{join_is}
use Rattle.placing.proofs.Turn.join_on.Goals as goal

pub first-l-requires : goal.first-l-requires
first-l-requires c =
    let d = c.args.self.now.choosing in
    record { loaded = d.kept.loaded; chained = d.kept.caches.inward; t_bound = d.task }

pub loop-i-init : goal.loop-i-init
loop-i-init c =
    let turn = c.args.self.now in
    join-begins turn.w.now turn.kept.now turn.t turn.choosing c.first-l.ensures.0 c.first-l.ensures.1

pub source-requires : goal.source-requires
source-requires c =
    let turn = c.args.self.now in
    record { loaded = turn.choosing.kept.loaded; l_bound = join-there turn.w.now turn.kept.now turn.t turn.choosing c.loop-i.invariant c.word-n.ensures.0 c.loop-i-test.true }

pub place-k-requires : goal.place-k-requires
place-k-requires c = record { loaded = c.args.self.now.choosing.kept.loaded; t_bound = c.source.ensures.1 }

pub join_key-requires : goal.join_key-requires
join_key-requires c =
    let turn = c.args.self.now in
    let g = c.loop-i.invariant in
    let m = join-there turn.w.now turn.kept.now turn.t turn.choosing g c.word-n.ensures.0 c.loop-i-test.true in
    record { k_holds = join-can turn.w.now turn.kept.now turn.t turn.choosing g m c.source.ensures.0 c.place-k.ensures.0; join_bars = c.requires }

pub next-l-requires : goal.next-l-requires
next-l-requires c =
    let turn = c.args.self.now in
    let d = turn.choosing.kept in
    record { loaded = d.loaded; chained = d.caches.inward; l_bound = join-there turn.w.now turn.kept.now turn.t turn.choosing c.loop-i.invariant c.word-n.ensures.0 c.loop-i-test.true }

pub loop-i-preserved : goal.loop-i-preserved
loop-i-preserved c =
    let turn = c.args.self.now in
    let g = c.loop-i.invariant in
    let m = join-there turn.w.now turn.kept.now turn.t turn.choosing g c.word-n.ensures.0 c.loop-i-test.true in
    join_more turn.w.now turn.kept.now turn.t turn.choosing g m c.next-l.ensures.0 c.next-l.ensures.2 c.next-l.ensures.1 c.source.ensures.0 c.place-k.ensures.0 c.join_key.ensures c.max-best.ensures

pub returns : goal.returns
returns c =
    let turn = c.args.self.now in
    let most = join-done turn.w.now turn.kept.now turn.t turn.choosing c.loop-i.invariant c.word-n.ensures.0 (omega (arith, c.loop-i-test.false)) in
    (c.processor_of.ensures.0 ∙ join_is _ _ turn.t turn.choosing.kept.few_opened (λ k l. start_small turn.w.now turn.kept.now turn.t k turn.choosing (omega (arith, turn.choosing.kept.few_opened))) most, c.processor_of.ensures.1)
