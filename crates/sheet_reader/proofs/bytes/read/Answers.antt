-- `read` (src/bytes.rt) keeps its contract.
use Rattle.refusals.proofs.Results.{found-by}
use Rattle.sheet_reader.proofs.Scans.{open-go, open-refuse, open-room, read_through, walk-starts}
use Rattle.std.proofs.lemmas.Result.{err_from_is_err_and}
use mathlib.Core.Path.{◌∙◌, sym}
use native.Mathlib.Omega.{arith}
use Rattle.sheet_reader.proofs.bytes.read.Goals as goal

pub returns-in_err-at : goal.returns-in_err-at
returns-in_err-at c =
    let p = err_from_is_err_and c.from_residual.result c.from_residual.ensures.1 in
    rw (p.1, p.2) (open-refuse c.args.bytes.now _ _ _ c.opening.ensures (sym c.in_err-at.was ∙ c.at.ensures))

pub get8-requires : goal.get8-requires
get8-requires c =
    let r = open-room c.args.bytes.now (open-go c.args.bytes.now _ _ c.opening.ensures (found-by 0 _ _ (sym c.in_ok-at.was ∙ c.at.ensures))) in
    omega (arith, r.0)

pub get32-requires : goal.get32-requires
get32-requires c =
    let r = open-room c.args.bytes.now (open-go c.args.bytes.now _ _ c.opening.ensures (found-by 0 _ _ (sym c.in_ok-at.was ∙ c.at.ensures))) in
    omega (arith, r.0)

pub put_board-requires : goal.put_board-requires
put_board-requires c =
    let r = open-room c.args.bytes.now (open-go c.args.bytes.now _ _ c.opening.ensures (found-by 0 _ _ (sym c.in_ok-at.was ∙ c.at.ensures))) in
    (c.requires, omega (arith, r.1, c.get8.ensures.0))

pub walk-requires : goal.walk-requires
walk-requires c =
    let b = c.args.bytes.now in
    walk-starts b _ _ _ (open-go b _ _ c.opening.ensures (found-by 0 _ _ (sym c.in_ok-at.was ∙ c.at.ensures))) c.get8.ensures.0 c.get32.ensures _ c.put_board.ensures

pub returns : goal.returns
returns c = read_through c.walk.ensures c.put_board.ensures.long
