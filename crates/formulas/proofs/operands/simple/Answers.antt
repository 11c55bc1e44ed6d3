-- `simple` (src/operands.rt) keeps its contract.
use mathlib.Core.Path.{sym, ◌∙◌}
use Rattle.formulas.proofs.Bytes.{digit-first}
use Rattle.formulas.proofs.Atoms.{atom-out, atom-letter, atom-dead}
use Rattle.formulas.proofs.operands.simple.Goals as goal

pub returns-then-text-at : goal.returns-then-text-at
returns-then-text-at c = λ n. atom-out _ _ n c.if-text-at.true

pub number-requires : goal.number-requires
number-requires c = let a = c.args in digit-first a.text.now a.at c.if-text-at.false (sym c.is_digit.ensures ∙ c.if-is_digit.true)

pub returns-then-is_digit : goal.returns-then-is_digit
returns-then-is_digit c = λ n. c.number.ensures _ n

pub letter_value-requires : goal.letter_value-requires
letter_value-requires c = sym c.is_letter.ensures ∙ c.if-is_letter.true

pub returns-then-is_letter : goal.returns-then-is_letter
returns-then-is_letter c =
    let inside = c.if-text-at.false in
    λ n. atom-letter _ _ _ n _ inside (sym c.is_digit.ensures ∙ c.if-is_digit.false) (sym c.is_letter.ensures ∙ c.if-is_letter.true) (c.from.ensures ∙ c.letter_value.ensures)

pub returns-else-is_letter : goal.returns-else-is_letter
returns-else-is_letter c =
    let inside = c.if-text-at.false in
    λ n. atom-dead _ _ n inside (sym c.is_digit.ensures ∙ c.if-is_digit.false) (sym c.is_letter.ensures ∙ c.if-is_letter.false) c.requires
