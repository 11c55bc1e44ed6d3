-- `put_board` (src/writer.rt) keeps its contract.
use Prim.Native.Nat.{zero-le}
use Rattle.numbers.proofs.Laws.{stored-two, stored-then}
use Rattle.numbers.specs.Number.{number_bytes}
use Rattle.sheet.proofs.Fronts.{front-cube, front-least}
use Rattle.sheet.specs.Writing.{cube_bytes, unpacking_bytes}
use Rattle.sheet_writer.proofs.Stores.{timed-length}
use lib.ListN.{length-set}
use mathlib.Core.Path.{refl, sym, ◌∙◌}
use native.Mathlib.Nat.{zero-add}
use native.Mathlib.Omega.{arith}
use Rattle.sheet_writer.proofs.writer.put_board.Goals as goal

pub bounds-out-0 : goal.bounds-out-0
bounds-out-0 c = omega (arith, c.requires, front-least c.args.unpacking c.args.cube)

pub bounds-out-1 : goal.bounds-out-1
bounds-out-1 c = rw length-set (omega (arith, c.requires, front-least c.args.unpacking c.args.cube))

pub put32-requires : goal.put32-requires
put32-requires c = simp length-set (omega (arith, c.requires, front-least c.args.unpacking c.args.cube))

pub put_unpacking-requires : goal.put_unpacking-requires
put_unpacking-requires c = omega (arith, c.requires, front-cube c.args.unpacking c.args.cube, simp length-set at c.put32.auto.s)

pub put_cube-requires : goal.put_cube-requires
put_cube-requires c = omega (arith, c.requires, c.front.ensures.0, front-cube c.args.unpacking c.args.cube, c.put_unpacking.auto.out, simp length-set at c.put32.auto.s)

pub shape_of-out : goal.shape_of-out
shape_of-out c = c.put_cube.auto.out ∙ c.put_unpacking.auto.out ∙ c.put32.auto.s ∙ simp length-set

pub returns : goal.returns
returns c =
    let a = c.args in
    let first = stored-two a.out.now 0 0x4D a.processors (omega (arith, c.requires, front-least a.unpacking a.cube)) in
    let second = stored-then a.out.now _ _ 0 2 _ (number_bytes 4 a.limit) first c.put32.ensures refl zero-le in
    let third = stored-then a.out.now _ _ 0 6 _ (unpacking_bytes a.unpacking) second c.put_unpacking.ensures refl zero-le in
    stored-then a.out.now _ _ 0 _ _ (cube_bytes a.cube) third c.put_cube.ensures (c.front.ensures.0 ∙ sym (zero-add _ ∙ timed-length a.processors a.limit a.unpacking)) zero-le
