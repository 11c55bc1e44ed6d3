-- `refusal` (src/writer.rt) keeps its contract.
use Prim.Native.Nat.{ℕ, ◌+◌, ◌*◌, ◌-◌}
use lib.ListN.{length, get_or}
use mathlib.Core.Path.{◌≡◌, ◌∙◌, ap, subst, sym}
use Rattle.std.proofs.lemmas.Result.{err_from_is_err_and}
use native.Mathlib.Omega.{arith}
use Rattle.bundle_writer.specs.Judges.{Judges}
use Rattle.bundle_writer.specs.Writes.{cut_number}
use Rattle.bundle_writer.proofs.Judging.{judges-start, judges-cut, judges-bare, judges-long}
use Rattle.bundle_writer.proofs.writer.refusal.Goals as goal

pub loop-k-init : goal.loop-k-init
loop-k-init c = judges-start _ _ _ _

pub next_at-requires : goal.next_at-requires
next_at-requires c = (c.loop-k.invariant, omega (arith, c.loop-k-test.true))

pub returns-in_err-spot : goal.returns-in_err-spot
returns-in_err-spot c =
    let p = err_from_is_err_and c.from_residual.result c.from_residual.ensures.1 in
    rw (p.1, p.2) (c.next_at.ensures.out _ c.in_err-spot.was)

pub loop-k-preserved : goal.loop-k-preserved
loop-k-preserved c =
    let a = c.args in
    let s = c.in_ok-spot.spot in
    let e : 2 * c.loop-k.k + 2 ≡ 2 * (c.loop-k.k + 1) = omega arith in
    subst (λ (i : ℕ). Judges a.commands.now a.processors a.tasks a.links s.opened s.at i) e (c.next_at.ensures.on _ c.in_ok-spot.was)

pub returns-then-commands-eq1 : goal.returns-then-commands-eq1
returns-then-commands-eq1 c =
    let a = c.args in
    let last : length a.commands.now - 1 ≡ 2 * c.loop-k.k = omega (arith, c.loop-k-test.false) in
    rw c.at.ensures (judges-cut c.loop-k.invariant _ (omega (arith, c.loop-k-test.false))
    (c.cut_fault.ensures ∙ ap (λ (i : ℕ). cut_number a.tasks c.loop-k.spot.opened (get_or a.commands.now i 0)) last))

pub returns-then-is_early : goal.returns-then-is_early
returns-then-is_early c =
    rw c.at-then-is_early.ensures (judges-bare c.loop-k.invariant (omega (arith, c.loop-k-test.false)) (sym c.is_early.ensures ∙ c.if-is_early.true))

pub returns-else-is_early : goal.returns-else-is_early
returns-else-is_early c = judges-long c.loop-k.invariant (omega (arith, c.loop-k-test.false)) (sym c.is_early.ensures ∙ c.if-is_early.false)
