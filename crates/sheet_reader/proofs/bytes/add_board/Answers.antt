-- `add_board` (src/bytes.rt) keeps its contract.
use Rattle.sheet_reader.proofs.Scans.{cube-added, cube-comes, cube-none, walk-room}
use Rattle.sheet.specs.Format.{wire}
use mathlib.Core.Path.{◌∙◌, sym}
use native.Mathlib.Omega.{arith}
use Rattle.sheet_reader.proofs.bytes.add_board.Goals as goal

pub is_cube-requires : goal.is_cube-requires
is_cube-requires c =
    let s = c.add_unpacking-at.ensures.0 in
    record { loaded = s.scanning.loaded; task_count_at_value = (s.scanning.tasks, s.scanning.links, s.room) }

pub put_cube-requires : goal.put_cube-requires
put_cube-requires c = c.add_unpacking-at.ensures.0.scanning.loaded.long

pub overflow_add-result : goal.overflow_add-result
overflow_add-result c = omega (arith, walk-room c.add_unpacking-at.ensures.0 wire (cube-comes _ (sym c.is_cube.ensures ∙ c.if-is_cube.true)))

pub returns-then-is_cube : goal.returns-then-is_cube
returns-then-is_cube c = cube-added c.add_unpacking-at.ensures.0 _ (cube-comes _ (sym c.is_cube.ensures ∙ c.if-is_cube.true)) c.put_cube.ensures

pub returns : goal.returns
returns c =
    let s = c.add_unpacking-at.ensures in
    (s.0, record { no_unpacking = s.1; no_cube = cube-none s.0 (sym c.is_cube.ensures ∙ c.if-is_cube.false) })
