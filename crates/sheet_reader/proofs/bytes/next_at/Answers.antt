-- `next_at` (src/bytes.rt) keeps its contract.
use Rattle.commands.proofs.Going.{judge-end}
use Rattle.commands.specs.Commands.{verdict}
use Rattle.sheet.proofs.Judging.{fault-board, fault-end, judge-known, judge-strange}
use Rattle.sheet.specs.Faults.{begun}
use Rattle.sheet.specs.Format.{board, end, sheet_format}
use Rattle.sheet.specs.Tables.{sheet_in}
use Rattle.std.proofs.lemmas.Result.{err_from_is_err_and}
use mathlib.Core.Path.{◌∙◌, ap, sym}
use native.Mathlib.Omega.{arith}
use Rattle.sheet_reader.proofs.bytes.next_at.Goals as goal

pub returns-then-bytes-at : goal.returns-then-bytes-at
returns-then-bytes-at c = sym (judge-end sheet_format (begun (sheet_in c.args.w.now)) c.args.bytes.now c.args.at (omega arith))

pub returns-in_err-task_at-in-84 : goal.returns-in_err-task_at-in-84
returns-in_err-task_at-in-84 c =
    let p = err_from_is_err_and c.from_residual.result c.from_residual.ensures.1 in
    rw (p.1, p.2) (c.in_err-task_at-in-84.ensures ∙ sym (judge-known (begun (sheet_in c.args.w.now)) c.args.bytes.now c.args.at 0x54 c.if-bytes-at.false (sym c.get8.ensures.0 ∙ c.in-84.is)))

pub returns-in_ok-task_at-in-84 : goal.returns-in_ok-task_at-in-84
returns-in_ok-task_at-in-84 c = c.in_ok-task_at-in-84.ensures ∙ sym (judge-known (begun (sheet_in c.args.w.now)) c.args.bytes.now c.args.at 0x54 c.if-bytes-at.false (sym c.get8.ensures.0 ∙ c.in-84.is))

pub returns-in_err-link_at-in-69 : goal.returns-in_err-link_at-in-69
returns-in_err-link_at-in-69 c =
    let p = err_from_is_err_and c.from_residual-in_err-link_at-in-69.result c.from_residual-in_err-link_at-in-69.ensures.1 in
    rw (p.1, p.2) (c.in_err-link_at-in-69.ensures ∙ sym (judge-known (begun (sheet_in c.args.w.now)) c.args.bytes.now c.args.at 0x45 c.if-bytes-at.false (sym c.get8.ensures.0 ∙ c.in-69.is)))

pub returns-in_ok-link_at-in-69 : goal.returns-in_ok-link_at-in-69
returns-in_ok-link_at-in-69 c = c.in_ok-link_at-in-69.ensures ∙ sym (judge-known (begun (sheet_in c.args.w.now)) c.args.bytes.now c.args.at 0x45 c.if-bytes-at.false (sym c.get8.ensures.0 ∙ c.in-69.is))

pub returns-in_err-unpacking_at-in-85 : goal.returns-in_err-unpacking_at-in-85
returns-in_err-unpacking_at-in-85 c =
    let p = err_from_is_err_and c.from_residual-in_err-unpacking_at-in-85.result c.from_residual-in_err-unpacking_at-in-85.ensures.1 in
    rw (p.1, p.2) (c.in_err-unpacking_at-in-85.ensures ∙ sym (judge-known (begun (sheet_in c.args.w.now)) c.args.bytes.now c.args.at 0x55 c.if-bytes-at.false (sym c.get8.ensures.0 ∙ c.in-85.is)))

pub returns-in_ok-unpacking_at-in-85 : goal.returns-in_ok-unpacking_at-in-85
returns-in_ok-unpacking_at-in-85 c = c.in_ok-unpacking_at-in-85.ensures ∙ sym (judge-known (begun (sheet_in c.args.w.now)) c.args.bytes.now c.args.at 0x55 c.if-bytes-at.false (sym c.get8.ensures.0 ∙ c.in-85.is))

pub returns-in_err-cube_at-in-72 : goal.returns-in_err-cube_at-in-72
returns-in_err-cube_at-in-72 c =
    let p = err_from_is_err_and c.from_residual-in_err-cube_at-in-72.result c.from_residual-in_err-cube_at-in-72.ensures.1 in
    rw (p.1, p.2) (c.in_err-cube_at-in-72.ensures ∙ sym (judge-known (begun (sheet_in c.args.w.now)) c.args.bytes.now c.args.at 0x48 c.if-bytes-at.false (sym c.get8.ensures.0 ∙ c.in-72.is)))

pub returns-in_ok-cube_at-in-72 : goal.returns-in_ok-cube_at-in-72
returns-in_ok-cube_at-in-72 c = c.in_ok-cube_at-in-72.ensures ∙ sym (judge-known (begun (sheet_in c.args.w.now)) c.args.bytes.now c.args.at 0x48 c.if-bytes-at.false (sym c.get8.ensures.0 ∙ c.in-72.is))

pub returns-in-81 : goal.returns-in-81
returns-in-81 c = sym (judge-known (begun (sheet_in c.args.w.now)) c.args.bytes.now c.args.at 0x51 c.if-bytes-at.false (sym c.get8.ensures.0 ∙ c.in-81.is) ∙ ap (verdict sheet_format end) (fault-end (sheet_in c.args.w.now) _))

pub returns-in-77 : goal.returns-in-77
returns-in-77 c = sym (judge-known (begun (sheet_in c.args.w.now)) c.args.bytes.now c.args.at 0x4D c.if-bytes-at.false (sym c.get8.ensures.0 ∙ c.in-77.is) ∙ ap (verdict sheet_format board) (fault-board (sheet_in c.args.w.now) _))

pub returns-in_default : goal.returns-in_default
returns-in_default c =
    sym (judge-strange (begun (sheet_in c.args.w.now)) c.args.bytes.now c.args.at c.if-bytes-at.false (λ q. omega (arith, q, c.get8.ensures.0)) (λ q. omega (arith, q, c.get8.ensures.0)) (λ q. omega (arith, q, c.get8.ensures.0)) (λ q. omega (arith, q, c.get8.ensures.0)) (λ q. omega (arith, q, c.get8.ensures.0)) (λ q. omega (arith, q, c.get8.ensures.0)))
