-- `opening` (src/bytes.rt) keeps its contract.
use Rattle.commands.proofs.Going.{judge-end}
use Rattle.commands.specs.Commands.{verdict}
use Rattle.sheet.proofs.Judging.{judge-known, judge-strange, out-of-turn}
use Rattle.sheet.specs.Format.{end, fresh, link, sheet_format, task, unpack, wire}
use mathlib.Core.Path.{◌∙◌, ap, refl, sym}
use native.Mathlib.Omega.{arith}
use Rattle.sheet_reader.proofs.bytes.opening.Goals as goal

pub returns-then-bytes-eq0 : goal.returns-then-bytes-eq0
returns-then-bytes-eq0 c = sym (judge-end sheet_format fresh c.args.bytes.now 0 (omega arith))

pub returns-in-77 : goal.returns-in-77
returns-in-77 c = c.board_at.ensures ∙ sym (judge-known fresh c.args.bytes.now 0 0x4D (omega (arith, c.if-bytes-eq0.false)) (sym c.get8.ensures.0 ∙ c.in-77.is))

pub returns-in-84 : goal.returns-in-84
returns-in-84 c = sym (judge-known fresh c.args.bytes.now 0 0x54 (omega (arith, c.if-bytes-eq0.false)) (sym c.get8.ensures.0 ∙ c.in-84.is) ∙ ap (verdict sheet_format task) (out-of-turn task _ refl))

pub returns-in-69 : goal.returns-in-69
returns-in-69 c = sym (judge-known fresh c.args.bytes.now 0 0x45 (omega (arith, c.if-bytes-eq0.false)) (sym c.get8.ensures.0 ∙ c.in-69.is) ∙ ap (verdict sheet_format link) (out-of-turn link _ refl))

pub returns-in-81 : goal.returns-in-81
returns-in-81 c = sym (judge-known fresh c.args.bytes.now 0 0x51 (omega (arith, c.if-bytes-eq0.false)) (sym c.get8.ensures.0 ∙ c.in-81.is) ∙ ap (verdict sheet_format end) (out-of-turn end _ refl))

pub returns-in-85 : goal.returns-in-85
returns-in-85 c = sym (judge-known fresh c.args.bytes.now 0 0x55 (omega (arith, c.if-bytes-eq0.false)) (sym c.get8.ensures.0 ∙ c.in-85.is) ∙ ap (verdict sheet_format unpack) (out-of-turn unpack _ refl))

pub returns-in-72 : goal.returns-in-72
returns-in-72 c = sym (judge-known fresh c.args.bytes.now 0 0x48 (omega (arith, c.if-bytes-eq0.false)) (sym c.get8.ensures.0 ∙ c.in-72.is) ∙ ap (verdict sheet_format wire) (out-of-turn wire _ refl))

pub returns-in_default : goal.returns-in_default
returns-in_default c =
    sym (judge-strange fresh c.args.bytes.now 0 (omega (arith, c.if-bytes-eq0.false)) (λ q. omega (arith, q, c.get8.ensures.0)) (λ q. omega (arith, q, c.get8.ensures.0)) (λ q. omega (arith, q, c.get8.ensures.0)) (λ q. omega (arith, q, c.get8.ensures.0)) (λ q. omega (arith, q, c.get8.ensures.0)) (λ q. omega (arith, q, c.get8.ensures.0)))
