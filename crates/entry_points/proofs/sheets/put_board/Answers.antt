-- `put_board` (src/sheets.rt) keeps its contract.
use mathlib.Core.Bool.{Bool}
use mathlib.Core.Path.{◌∙◌, ap}
use Rattle.folds.specs.Folds.{pick}
use Rattle.entry_points.proofs.Opening.{board-is, cube-bit}
use Rattle.entry_points.proofs.sheets.put_board.Goals as goal

pub returns : goal.returns
returns c = board-is c.args.w.now _ (c.from.ensures ∙ cube-bit _ ∙ ap (λ (t : Bool). pick t 1 0) c.cube.ensures)
