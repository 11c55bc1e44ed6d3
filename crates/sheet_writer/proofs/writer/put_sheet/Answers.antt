-- `put_sheet` (src/writer.rt) keeps its contract.
use lib.ListN.{length-set}
use Rattle.sheet_writer.proofs.Stores.{sheet-stored}
use Rattle.numbers.proofs.Laws.{stored-lent}
use native.Mathlib.Omega.{arith}
use mathlib.Core.Path.{◌∙◌}
use Rattle.sheet_writer.proofs.writer.put_sheet.Goals as goal

pub shape_of-out : goal.shape_of-out
shape_of-out c = simp length-set (c.out-3-1.given.1 ∙ c.out-2-1.given.1 ∙ c.put_board.auto.out)

pub returns : goal.returns
returns c =
    let a = c.args in
    let start = c.front-start.ensures.0 in
    sheet-stored a.processors a.limit a.unpacking a.cube a.tasks.now a.links.now c.requires.tasks_len.0 c.requires.tasks_len.1 a.out.now _ _ _ _ start (omega (arith, start))
    c.put_board.ensures
    (stored-lent _ _ _ _ (omega (arith, start, c.requires.links_in_bounds.0, c.put_board.auto.out)) c.put_tasks.ensures)
    (stored-lent _ _ _ _ (omega (arith, start, c.requires.links_in_bounds.0, c.put_board.auto.out, c.out-2-1.given.1)) c.put_links.ensures)
    (omega (arith, c.put_board.auto.out, c.out-2-1.given.1, c.out-3-1.given.1))
