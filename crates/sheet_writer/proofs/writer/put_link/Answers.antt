-- `put_link` (src/writer.rt) keeps its contract.
use Rattle.sheet_writer.proofs.Stores.{length_three}
use Rattle.numbers.proofs.Laws.{stored-three, stored-then}
use Rattle.numbers.specs.Number.{number_bytes}
use lib.ListN.{length-set}
use mathlib.Core.Path.{refl, ◌∙◌}
use Prim.Native.Nat.{◌+◌}
use native.Mathlib.Omega.{arith}
use Rattle.sheet_writer.proofs.writer.put_link.Goals as goal

pub bounds-out-at-2 : goal.bounds-out-at-2
bounds-out-at-2 c = rw length-set (omega arith)

pub bounds-out-at-3 : goal.bounds-out-at-3
bounds-out-at-3 c = simp length-set (omega arith)

pub put16-requires : goal.put16-requires
put16-requires c = omega (arith, length_three c.args.out.now c.args.at 0x45 c.args.source c.args.target)

pub put16-requires-2 : goal.put16-requires-2
put16-requires-2 c = omega (arith, c.put16.auto.s, length_three c.args.out.now c.args.at 0x45 c.args.source c.args.target)

pub shape_of-out : goal.shape_of-out
shape_of-out c = c.put16-2.auto.s ∙ c.put16.auto.s ∙ length_three c.args.out.now c.args.at 0x45 c.args.source c.args.target

pub returns : goal.returns
returns c =
    let a = c.args in
    let first = stored-three a.out.now a.at 0x45 a.source a.target (omega arith) in
    let second = stored-then a.out.now _ _ a.at (a.at + 3) _ (number_bytes 2 a.cost) first c.put16.ensures refl (omega arith) in
    stored-then a.out.now _ _ a.at (a.at + 5) _ (number_bytes 2 a.bytes) second c.put16-2.ensures refl (omega arith)
