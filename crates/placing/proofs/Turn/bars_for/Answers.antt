-- `bars_for` (src/lib.rt) keeps its contract.
use Rattle.arrivals.proofs.Walks.{kept-arrived}
use Rattle.placing.proofs.Guards.{bars-busy, bars-never, main-of}
use Rattle.placing.proofs.Turn.bars_for.Goals as goal

pub arrival_of-a-requires : goal.arrival_of-a-requires
arrival_of-a-requires c = kept-arrived c.args.self.now.choosing.kept c.args.u c.requires

pub returns-then-a-eq0 : goal.returns-then-a-eq0
returns-then-a-eq0 c =
    let turn = c.args.self.now in
    let a = c.args in
    bars-never turn.w.now turn.kept.now turn.choosing.kept a.u c.requires turn.t c.arrival_of-a.ensures.0 c.if-a-eq0.true

pub end_of-requires : goal.end_of-requires
end_of-requires c =
    let turn = c.args.self.now in
    let a = c.args in
    main-of turn.w.now turn.kept.now turn.choosing.kept a.u c.requires c.arrival_of-a.ensures.0 c.if-a-eq0.false c.word-k.ensures.0

pub returns-then-a-end_of : goal.returns-then-a-end_of
returns-then-a-end_of c =
    let turn = c.args.self.now in
    let a = c.args in
    bars-busy turn.w.now turn.kept.now turn.choosing.kept a.u c.requires turn.t c.arrival_of-a.ensures.0 c.if-a-eq0.false c.word-k.ensures.0 c.end_of.ensures.0 c.if-a-end_of.true

pub bars_on-requires : goal.bars_on-requires
bars_on-requires c =
    let turn = c.args.self.now in
    let a = c.args in
    let arrival = c.arrival_of-a.ensures.0 in
    let late = c.if-a-eq0.false in
    let sender = c.word-k.ensures.0 in
    record { u_bound = (c.requires, arrival, late); k_value = (sender, main-of turn.w.now turn.kept.now turn.choosing.kept a.u c.requires arrival late sender) }
