-- `join_bars_for` (src/lib.rt) keeps its contract.
use native.Mathlib.Omega.{arith}
use Rattle.arrivals.proofs.Walks.{kept-arrived}
use Rattle.placing.proofs.Starts.{holds-none}
use Rattle.placing.proofs.Guards.{bars-apart, bars-never, join-bars, main-of}
use Rattle.placing.proofs.Turn.join_bars_for.Goals as goal

pub arrival_of-a-requires : goal.arrival_of-a-requires
arrival_of-a-requires c = kept-arrived c.args.self.now.choosing.kept c.args.u c.requires

pub returns-then-a-eq0 : goal.returns-then-a-eq0
returns-then-a-eq0 c =
    let turn = c.args.self.now in
    let a = c.args in
    join-bars (bars-never turn.w.now turn.kept.now turn.choosing.kept a.u c.requires turn.t c.arrival_of-a.ensures.0 c.if-a-eq0.true)

pub word-requires : goal.word-requires
word-requires c =
    let turn = c.args.self.now in
    let a = c.args in
    omega (arith, main-of turn.w.now turn.kept.now turn.choosing.kept a.u c.requires c.arrival_of-a.ensures.0 c.if-a-eq0.false c.word-k.ensures.0, turn.choosing.kept.long)

pub returns-then-word-eq0 : goal.returns-then-word-eq0
returns-then-word-eq0 c =
    let turn = c.args.self.now in
    let a = c.args in
    let arrival = c.arrival_of-a.ensures.0 in
    let late = c.if-a-eq0.false in
    let sender = c.word-k.ensures.0 in
    bars-apart turn.w.now turn.kept.now turn.choosing.kept a.u c.requires turn.t arrival late sender (holds-none turn.w.now turn.kept.now turn.t _ turn.choosing (main-of turn.w.now turn.kept.now turn.choosing.kept a.u c.requires arrival late sender) c.word.ensures.0 c.if-word-eq0.true)

pub returns : goal.returns
returns c = join-bars c.bars_for.ensures
