-- `bundle::writer::put` meets its contract.
use Prim.Native.Nat.{ℕ, ◌+◌, ◌*◌}
use Rattle.bundle_writer.proofs.Plain.{Putting, putting-ends, putting-even, putting-last, putting-long, putting-next, putting-on, putting-starts}
use lib.ListN.{length-set}
use mathlib.Core.Path.{◌≡◌, ◌∙◌, subst}
use native.Mathlib.Omega.{arith}
use Rattle.bundle_writer.proofs.writer.put.Goals as goal

pub loop-j-init : goal.loop-j-init
loop-j-init c = putting-starts _ _ _ c.requires (λ i. omega (arith, c.type_inv.commands i)) (omega (arith, c.ranges.claim))

pub put_command-at-requires : goal.put_command-at-requires
put_command-at-requires c = (putting-next c.loop-j.invariant (omega (arith, c.loop-j-test.true))).1

pub loop-j-preserved : goal.loop-j-preserved
loop-j-preserved c =
    let j = c.loop-j.j in
    let e : 2 * j + 2 ≡ 2 * (j + 1) = omega arith in
    subst (λ (i : ℕ). Putting c.args.commands.now c.args.claim c.args.out.now c.put_command-at.new.out c.put_command-at.result i) e
    (putting-on c.loop-j.invariant _ _ (omega (arith, c.loop-j-test.true)) c.put_command-at.ensures)

pub bounds-out-at : goal.bounds-out-at
bounds-out-at c = omega (arith, putting-last c.loop-j.invariant (putting-even c.loop-j.invariant (omega (arith, c.loop-j-test.false))))

pub overflow_add-at : goal.overflow_add-at
overflow_add-at c = omega (arith, putting-last c.loop-j.invariant (putting-even c.loop-j.invariant (omega (arith, c.loop-j-test.false))), putting-long c.loop-j.invariant)

pub put32-requires : goal.put32-requires
put32-requires c = simp length-set (omega (arith, putting-last c.loop-j.invariant (putting-even c.loop-j.invariant (omega (arith, c.loop-j-test.false)))))

pub shape_of-out : goal.shape_of-out
shape_of-out c = simp length-set at c.put32.auto.s ∙ putting-long c.loop-j.invariant

pub returns : goal.returns
returns c = putting-ends c.loop-j.invariant _ (putting-even c.loop-j.invariant (omega (arith, c.loop-j-test.false))) c.put32.ensures
