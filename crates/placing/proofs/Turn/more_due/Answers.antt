-- `more_due` (src/lib.rt) keeps its contract.
use native.Mathlib.Omega.{arith}
use Rattle.sheet.specs.Tables.{sheet_in}
use Rattle.schedule.specs.Layout.{schedule_in}
use Rattle.placing.proofs.Due.{added-due}
use Rattle.placing.proofs.Turn.more_due.Goals as goal

pub overflow_add-result : goal.overflow_add-result
overflow_add-result c = omega (arith, c.requires.2.most 0, c.known_into-a.ensures.1)

pub overflow_add-result-2 : goal.overflow_add-result-2
overflow_add-result-2 c = omega (arith, c.requires.2.most 1, c.known_into-b.ensures.1)

pub overflow_add-result-3 : goal.overflow_add-result-3
overflow_add-result-3 c = omega (arith, c.requires.2.most 2, c.known_into-c.ensures.1)

pub overflow_add-result-4 : goal.overflow_add-result-4
overflow_add-result-4 c = omega (arith, c.requires.2.most 3, c.known_into-d.ensures.1)

pub returns : goal.returns
returns c =
    let turn = c.args.self.now in
    added-due (sheet_in turn.w.now) (schedule_in turn.w.now) c.args.v c.args.x c.known_into-a.ensures c.known_into-b.ensures c.known_into-c.ensures c.known_into-d.ensures
