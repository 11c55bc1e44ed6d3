-- `bundle_reader::bytes::next_at` meets its contract. Behind the byte that was read, `g`, stand the test of the length and the arguments.
use Rattle.commands.proofs.Going.{judge-end}
use Rattle.bundle.specs.Counts.{count_format}
use Rattle.bundle.specs.Format.{claiming, kind_of, opening}
use Rattle.refusals.specs.declared.Fault.{Fault}
use Rattle.bundle_reader.proofs.Scans.{known_next, message-next, strange-next, task-next}
use Rattle.bundle_reader.specs.Answers.{next_of, judged_of}
use Rattle.bundle_reader.specs.declared.bytes.Next.TheVariants.{Step, Open, Claim}
use Rattle.bundle.specs.Sizes.{short_size, long_size}
use Rattle.std.specs.Prelude.{ℕ, ⊤, Result}
use Rattle.std.proofs.lemmas.Result.{err_from_is_err_and}
use mathlib.Core.Path.{◌∙◌, ap, sym}
use native.Mathlib.Omega.{arith}
use Rattle.bundle_reader.proofs.bytes.next_at.Goals as goal

pub returns-then-bytes-at : goal.returns-then-bytes-at
returns-then-bytes-at c =
    let a = c.args in
    sym (ap next_of (judge-end (count_format a.processors a.tasks a.links) a.opened a.bytes.now a.at (omega (arith, c.if-bytes-at.true))))

pub returns-in_err-message_at : goal.returns-in_err-message_at
returns-in_err-message_at c =
    let a = c.args in
    let p = err_from_is_err_and c.from_residual.result c.from_residual.ensures.1 in
    rw (p.1, p.2) (ap (λ (r : Result ⊤ Fault). judged_of r (Step long_size)) (sym c.in_err-message_at.was) ∙ message-next a.processors a.tasks a.links a.opened a.bytes.now a.at c.if-bytes-at.false _ c.get8-c.ensures.0 c.message_at.result (sym c.is_message.ensures ∙ c.if-is_message.true) c.message_at.ensures)

pub returns-in_ok-message_at : goal.returns-in_ok-message_at
returns-in_ok-message_at c =
    let a = c.args in
    ap (λ (r : Result ⊤ Fault). judged_of r (Step long_size)) (sym c.in_ok-message_at.was) ∙ message-next a.processors a.tasks a.links a.opened a.bytes.now a.at c.if-bytes-at.false _ c.get8-c.ensures.0 c.message_at.result (sym c.is_message.ensures ∙ c.if-is_message.true) c.message_at.ensures

pub returns-in_err-task_at : goal.returns-in_err-task_at
returns-in_err-task_at c =
    let a = c.args in
    let p = err_from_is_err_and c.from_residual-in_err-task_at.result c.from_residual-in_err-task_at.ensures.1 in
    rw (p.1, p.2) (ap (λ (r : Result ⊤ Fault). judged_of r (Step short_size)) (sym c.in_err-task_at.was) ∙ task-next a.processors a.tasks a.links a.opened a.bytes.now a.at c.if-bytes-at.false _ c.get8-c.ensures.0 c.task_at.result (sym c.is_task.ensures ∙ c.if-is_task.true) c.task_at.ensures)

pub returns-in_ok-task_at : goal.returns-in_ok-task_at
returns-in_ok-task_at c =
    let a = c.args in
    ap (λ (r : Result ⊤ Fault). judged_of r (Step short_size)) (sym c.in_ok-task_at.was) ∙ task-next a.processors a.tasks a.links a.opened a.bytes.now a.at c.if-bytes-at.false _ c.get8-c.ensures.0 c.task_at.result (sym c.is_task.ensures ∙ c.if-is_task.true) c.task_at.ensures

pub returns-in_err-open_at : goal.returns-in_err-open_at
returns-in_err-open_at c =
    let a = c.args in
    let p = err_from_is_err_and c.from_residual-in_err-open_at.result c.from_residual-in_err-open_at.ensures.1 in
    rw (p.1, p.2) (ap (λ (r : Result ⊤ Fault). judged_of r (Open)) (sym c.in_err-open_at.was) ∙ known_next a.processors a.tasks a.links a.opened a.bytes.now a.at c.if-bytes-at.false _ c.get8-c.ensures.0 opening c.open_at.result (ap kind_of c.if-c-eq-OPEN_BYTE.true) c.open_at.ensures)

pub returns-in_ok-open_at : goal.returns-in_ok-open_at
returns-in_ok-open_at c =
    let a = c.args in
    ap (λ (r : Result ⊤ Fault). judged_of r (Open)) (sym c.in_ok-open_at.was) ∙ known_next a.processors a.tasks a.links a.opened a.bytes.now a.at c.if-bytes-at.false _ c.get8-c.ensures.0 opening c.open_at.result (ap kind_of c.if-c-eq-OPEN_BYTE.true) c.open_at.ensures

pub returns-in_err-claim_at : goal.returns-in_err-claim_at
returns-in_err-claim_at c =
    let a = c.args in
    let p = err_from_is_err_and c.from_residual-in_err-claim_at.result c.from_residual-in_err-claim_at.ensures.1 in
    rw (p.1, p.2) (ap (λ (r : Result ⊤ Fault). judged_of r (Claim)) (sym c.in_err-claim_at.was) ∙ known_next a.processors a.tasks a.links a.opened a.bytes.now a.at c.if-bytes-at.false _ c.get8-c.ensures.0 claiming c.claim_at.result (ap kind_of c.if-c-eq-CLAIM_BYTE.true) c.claim_at.ensures)

pub returns-in_ok-claim_at : goal.returns-in_ok-claim_at
returns-in_ok-claim_at c =
    let a = c.args in
    ap (λ (r : Result ⊤ Fault). judged_of r (Claim)) (sym c.in_ok-claim_at.was) ∙ known_next a.processors a.tasks a.links a.opened a.bytes.now a.at c.if-bytes-at.false _ c.get8-c.ensures.0 claiming c.claim_at.result (ap kind_of c.if-c-eq-CLAIM_BYTE.true) c.claim_at.ensures

pub returns-else-c-eq-CLAIM_BYTE : goal.returns-else-c-eq-CLAIM_BYTE
returns-else-c-eq-CLAIM_BYTE c =
    let a = c.args in
    strange-next a.processors a.tasks a.links a.opened a.bytes.now a.at c.if-bytes-at.false _ c.get8-c.ensures.0 (sym c.is_message.ensures ∙ c.if-is_message.false) (sym c.is_task.ensures ∙ c.if-is_task.false) c.if-c-eq-OPEN_BYTE.false c.if-c-eq-CLAIM_BYTE.false
