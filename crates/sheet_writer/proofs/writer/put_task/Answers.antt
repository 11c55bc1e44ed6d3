-- `put_task` (src/writer.rt) keeps its contract.
use Rattle.numbers.proofs.Laws.{stored_one, stored-then}
use Rattle.numbers.specs.Number.{number_bytes}
use lib.ListN.{length-set}
use mathlib.Core.Path.{refl, ◌∙◌}
use Prim.Native.Nat.{◌+◌}
use native.Mathlib.Omega.{arith}
use Rattle.sheet_writer.proofs.writer.put_task.Goals as goal

pub put16-requires : goal.put16-requires
put16-requires c = rw length-set (omega arith)

pub put16-requires-2 : goal.put16-requires-2
put16-requires-2 c = omega (arith, c.put16.auto.s, length-set c.args.out.now c.args.at 0x54)

pub shape_of-out : goal.shape_of-out
shape_of-out c = c.put16-2.auto.s ∙ c.put16.auto.s ∙ length-set c.args.out.now c.args.at 0x54

pub returns : goal.returns
returns c =
    let a = c.args in
    let first = stored_one a.out.now a.at 0x54 (omega arith) in
    let second = stored-then a.out.now _ _ a.at (a.at + 1) _ (number_bytes 2 a.work) first c.put16.ensures refl (omega arith) in
    stored-then a.out.now _ _ a.at (a.at + 3) _ (number_bytes 2 a.store) second c.put16-2.ensures refl (omega arith)
