-- `load_board` (src/values.rt) keeps its contract.
use Rattle.sheet_reader.proofs.Given.{board-timed, board-unwired, board-wired}
use native.Mathlib.Omega.{arith}
use Rattle.sheet_reader.proofs.values.load_board.Goals as goal

pub put_unpacking-requires : goal.put_unpacking-requires
put_unpacking-requires c = c.put_board.ensures.loaded.long

pub put_cube-requires : goal.put_cube-requires
put_cube-requires c = (board-timed c.args.unpacking c.put_board.ensures c.put_unpacking.ensures (omega (arith, c.ranges.unpacking))).loaded.long

pub returns-then-cube : goal.returns-then-cube
returns-then-cube c =
    let t = board-timed c.args.unpacking c.put_board.ensures c.put_unpacking.ensures (omega (arith, c.ranges.unpacking)) in
    board-wired _ c.if-cube.true t c.put_cube.ensures

pub shape_of-w-then-cube : goal.shape_of-w-then-cube
shape_of-w-then-cube c = (returns-then-cube c).long

pub returns-else-cube : goal.returns-else-cube
returns-else-cube c =
    let t = board-timed c.args.unpacking c.put_board.ensures c.put_unpacking.ensures (omega (arith, c.ranges.unpacking)) in
    board-unwired _ c.if-cube.false t

pub shape_of-w-else-cube : goal.shape_of-w-else-cube
shape_of-w-else-cube c = (returns-else-cube c).long
