-- `due_of` (src/lib.rt) keeps its contract.
use Rattle.sheet.specs.Tables.{sheet_in}
use Rattle.schedule.specs.Layout.{schedule_in}
use Rattle.placing.proofs.Spent.{due-byte}
use Rattle.placing.proofs.Turn.due_of.Goals as goal

pub returns-then-d-lt256 : goal.returns-then-d-lt256
returns-then-d-lt256 c =
    let turn = c.args.self.now in
    due-byte (sheet_in turn.w.now) (schedule_in turn.w.now) turn.t c.requires.0 c.if-d-lt256.true c.args.k c.requires.1 c.four_of.ensures
