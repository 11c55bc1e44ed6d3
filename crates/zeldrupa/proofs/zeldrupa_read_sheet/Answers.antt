-- `zeldrupa_read_sheet` (src/lib.rt) keeps its contract.
use Rattle.folds.specs.Answers.{and_then}
use Rattle.graph.specs.Graph.{read_sheet}
use Rattle.zeldrupa.proofs.Gives.{gives-sheet, gives-sheet-short}
use Rattle.entry_points.specs.Values.{tabled}
use Rattle.zeldrupa.specs.Promises.{read_sheet_answer}
use lib.ListN.{length}
use Rattle.zeldrupa.proofs.zeldrupa_read_sheet.Goals as goal

pub returns-then-work-lt-LENGTH : goal.returns-then-work-lt-LENGTH
unfolding read_sheet_answer
returns-then-work-lt-LENGTH c = gives-sheet-short (and_then (read_sheet c.args.sheet.now) (tabled (length c.args.tasks.now) (length c.args.links.now))) c.args.work.now c.args.tasks.now c.args.links.now c.args.board.now c.if-work-lt-LENGTH.true

pub returns : goal.returns
unfolding read_sheet_answer
returns c = gives-sheet (and_then (read_sheet c.args.sheet.now) (tabled (length c.args.tasks.now) (length c.args.links.now))) c.args.work.now c.args.tasks.now c.args.links.now c.args.board.now _ _ _ _ _ _ _ _ c.if-work-lt-LENGTH.false c.read-o.ensures c.clear.ensures c.conclude.ensures
