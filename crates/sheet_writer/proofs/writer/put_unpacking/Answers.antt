-- `put_unpacking` (src/writer.rt) keeps its contract.
use Rattle.numbers.proofs.Laws.{stored_one}
use Rattle.sheet.proofs.Fronts.{front-some}
use Rattle.sheet_writer.proofs.Stores.{unpacking-none, unpacking-stored}
use lib.ListN.{length-set}
use mathlib.Core.Path.{◌∙◌}
use native.Mathlib.Omega.{arith}
use Rattle.sheet_writer.proofs.writer.put_unpacking.Goals as goal

pub returns-then-unpacking-eq0 : goal.returns-then-unpacking-eq0
returns-then-unpacking-eq0 c = unpacking-none _ _ c.if-unpacking-eq0.true

pub bounds-out-6 : goal.bounds-out-6
bounds-out-6 c = omega (arith, c.requires, front-some c.args.unpacking c.if-unpacking-eq0.false)

pub put16-requires : goal.put16-requires
put16-requires c = rw length-set (omega (arith, c.requires, front-some c.args.unpacking c.if-unpacking-eq0.false))

pub shape_of-out : goal.shape_of-out
shape_of-out c = c.put16.auto.s ∙ length-set c.args.out.now 6 0x55

pub returns : goal.returns
returns c =
    let b = c.args.out.now in
    let some = c.if-unpacking-eq0.false in
    let long = front-some c.args.unpacking some in
    unpacking-stored b _ _ c.args.unpacking some (omega (arith, c.requires)) (stored_one b 6 0x55 (omega (arith, c.requires))) c.put16.ensures
