-- `put_cube` (src/writer.rt) keeps its contract.
use Rattle.sheet_writer.proofs.Stores.{cube-none, cube-room, cube-stored}
use Rattle.sheet_writer.proofs.writer.put_cube.Goals as goal

pub bounds-out-at : goal.bounds-out-at
bounds-out-at c = cube-room c.args.out.now c.args.at _ c.if-cube.true c.requires

pub returns-then-cube : goal.returns-then-cube
returns-then-cube c = cube-stored c.args.out.now c.args.at _ c.if-cube.true c.requires

pub returns-else-cube : goal.returns-else-cube
returns-else-cube c = cube-none c.args.out.now c.args.at _ c.if-cube.false
