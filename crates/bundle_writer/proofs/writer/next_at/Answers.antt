-- `next_at` (src/writer.rt) keeps its contract.
use Prim.Native.Nat.{◌+◌}
use mathlib.Core.Path.{◌∙◌, sym}
use Rattle.std.proofs.lemmas.Result.{err_from_is_err_and}
use native.Mathlib.Omega.{arith}
use Rattle.bundle_writer.proofs.Judging.{next-message, next-task, next-open, only_out, went-in, went-out, judges-strange, judges-claim-no, judges-tail}
use Rattle.bundle_writer.proofs.writer.next_at.Goals as goal

pub returns-in_err-at : goal.returns-in_err-at
returns-in_err-at c =
    let p = err_from_is_err_and c.from_residual.result c.from_residual.ensures.1 in
    rw (p.1, p.2) (next-message c.requires.0 c.requires.1 (omega (arith, c.shared_slice_known-3-1.given (c.args.i + 1))) (sym c.is_message.ensures ∙ c.if-is_message.true) c.known_fault.result c.known_fault.ensures (went-out _ _ _ _ _ (sym c.in_err-at.was ∙ c.at.ensures)))

pub returns-in_ok-at : goal.returns-in_ok-at
returns-in_ok-at c = next-message c.requires.0 c.requires.1 (omega (arith, c.shared_slice_known-3-1.given (c.args.i + 1))) (sym c.is_message.ensures ∙ c.if-is_message.true) c.known_fault.result c.known_fault.ensures (went-in _ _ _ _ (sym c.in_ok-at.was ∙ c.at.ensures))

pub returns-in_err-at-2 : goal.returns-in_err-at-2
returns-in_err-at-2 c =
    let p = err_from_is_err_and c.from_residual-in_err-at-2.result c.from_residual-in_err-at-2.ensures.1 in
    rw (p.1, p.2) (next-task c.requires.0 c.requires.1 (sym c.is_task.ensures ∙ c.if-is_task.true) c.known_fault-then-is_task.result c.known_fault-then-is_task.ensures (went-out _ _ _ _ _ (sym c.in_err-at-2.was ∙ c.at-then-is_task.ensures)))

pub returns-in_ok-at-2 : goal.returns-in_ok-at-2
returns-in_ok-at-2 c = next-task c.requires.0 c.requires.1 (sym c.is_task.ensures ∙ c.if-is_task.true) c.known_fault-then-is_task.result c.known_fault-then-is_task.ensures (went-in _ _ _ _ (sym c.in_ok-at-2.was ∙ c.at-then-is_task.ensures))

pub returns-in_err-at-3 : goal.returns-in_err-at-3
returns-in_err-at-3 c =
    let p = err_from_is_err_and c.from_residual-in_err-at-3.result c.from_residual-in_err-at-3.ensures.1 in
    rw (p.1, p.2) (next-open c.requires.0 c.requires.1 c.if-c-eq-OPEN_BYTE.true c.open_fault.result c.open_fault.ensures (went-out _ _ _ _ _ (sym c.in_err-at-3.was ∙ c.at-then-c-eq-OPEN_BYTE.ensures)))

pub returns-in_ok-at-3 : goal.returns-in_ok-at-3
returns-in_ok-at-3 c = next-open c.requires.0 c.requires.1 c.if-c-eq-OPEN_BYTE.true c.open_fault.result c.open_fault.ensures (went-in _ _ _ _ (sym c.in_ok-at-3.was ∙ c.at-then-c-eq-OPEN_BYTE.ensures))

pub returns-then-c-ne-CLAIM_BYTE : goal.returns-then-c-ne-CLAIM_BYTE
returns-then-c-ne-CLAIM_BYTE c =
    rw c.at-then-c-ne-CLAIM_BYTE.ensures (only_out (judges-strange c.requires.0 c.requires.1 (sym c.is_message.ensures ∙ c.if-is_message.false) (sym c.is_task.ensures ∙ c.if-is_task.false) c.if-c-eq-OPEN_BYTE.false c.if-c-ne-CLAIM_BYTE.true))

pub returns-then-is_early : goal.returns-then-is_early
returns-then-is_early c =
    rw c.at-then-is_early.ensures (only_out (judges-claim-no c.requires.0 c.requires.1 c.if-c-ne-CLAIM_BYTE.false (sym c.is_early.ensures ∙ c.if-is_early.true)))

pub returns-else-is_early : goal.returns-else-is_early
returns-else-is_early c =
    rw c.at-else-is_early.ensures (only_out (judges-tail c.requires.0 c.requires.1 c.if-c-ne-CLAIM_BYTE.false (sym c.is_early.ensures ∙ c.if-is_early.false)))
