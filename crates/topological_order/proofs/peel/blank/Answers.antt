-- `blank` (src/peel.rt) keeps its contract.
use mathlib.Core.Path.{refl}
use native.Mathlib.Omega.{arith}
use Rattle.sheet.specs.Tables.{sheet_in}
use Rattle.topological_order.proofs.Starts.{blanked, counted-at}
use Rattle.topological_order.proofs.peel.blank.Goals as goal

pub returns : goal.returns
returns c =
    let n = c.tasks-n.ensures in
    let b = blanked {s = sheet_in c.args.w.now} c.tasks-n.result (omega (arith, n.1)) c.clear_words.ensures in
    (b.0, counted-at b.1 n.0 refl)
