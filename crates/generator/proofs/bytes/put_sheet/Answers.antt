-- `put_sheet` (src/bytes.rt) keeps its contract.
use Rattle.std.proofs.Common.{ℕ, Bool, ◌∙◌, ap₂, arith, length-set}
use Rattle.numbers.specs.Number.{stored}
use Rattle.numbers.proofs.Laws.{stored-lent}
use Rattle.sheet.specs.Tables.{sheet_in}
use Rattle.sheet.specs.Sizes.{front_by}
use Rattle.sheet.specs.Writing.{board_bytes}
use Rattle.generator.proofs.Stores.{sheet-stored}
use Rattle.generator.proofs.bytes.put_sheet.Goals as goal

pub put_board-requires : goal.put_board-requires
put_board-requires c = omega (arith, c.requires.w_in_bounds, ap₂ front_by c.unpacking.ensures.0 c.cube.ensures)

pub shape_of-out : goal.shape_of-out
shape_of-out c = simp length-set (c.out-3-1.given.1 ∙ c.out-2-1.given.1 ∙ c.put_board.auto.out)

pub returns : goal.returns
returns c =
    let sheet = sheet_in c.args.w.now in
    let out = c.args.out.now in
    let start = c.front-start.ensures.0 in
    let n = c.tasks.ensures.0 in
    let m = c.links.ensures.0 in
    let long = c.put_board.auto.out in
    let board =
    c.put_board.ensures
    ∙ ap₂ (λ (p l : ℕ). stored out 0 (board_bytes p l c.unpacking.result c.cube.result)) c.processors.ensures.0 c.limit.ensures.0
    ∙ ap₂ (λ (u : ℕ) (c : Bool). stored out 0 (board_bytes sheet.processors sheet.limit u c)) c.unpacking.ensures.0 c.cube.ensures in
    sheet-stored sheet out _ _ _ _ _ _ start n m (omega (arith, start, n, m, c.requires.w_in_bounds)) board
    (stored-lent _ _ _ _ (omega (arith, start, c.requires.w_in_bounds, long)) c.put_tasks.ensures)
    (stored-lent _ _ _ _ (omega (arith, start, n, c.requires.w_in_bounds, long, c.out-2-1.given.1)) c.put_links.ensures)
    (omega (arith, long, c.out-2-1.given.1, c.out-3-1.given.1))
