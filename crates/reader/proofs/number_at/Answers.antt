-- `reader::number_at` meets its contract.
use Prim.Native.Nat.{ℕ}
use Rattle.numbers.specs.Number.{number_at}
use Rattle.reader.proofs.Widths.{is-four, number-one}
use mathlib.Core.Path.{◌∙◌, ap, sym}
use native.Mathlib.Omega.{arith}
use Rattle.reader.proofs.number_at.Goals as goal

pub returns-then-width-eq1 : goal.returns-then-width-eq1
returns-then-width-eq1 c =
    let a = c.args in
    c.get8.ensures.0 ∙ sym (number-one a.bytes.now a.at) ∙ ap (λ (w : ℕ). number_at w a.bytes.now a.at) (sym c.if-width-eq1.true)

pub returns-then-width-eq2 : goal.returns-then-width-eq2
returns-then-width-eq2 c =
    let a = c.args in
    c.get16.ensures ∙ ap (λ (w : ℕ). number_at w a.bytes.now a.at) (sym c.if-width-eq2.true)

pub get32-requires : goal.get32-requires
get32-requires c = omega (arith, c.requires.room, is-four c.requires c.if-width-eq1.false c.if-width-eq2.false)

pub returns : goal.returns
returns c = c.get32.ensures ∙ ap (λ (w : ℕ). number_at w c.args.bytes.now c.args.at) (sym (is-four c.requires c.if-width-eq1.false c.if-width-eq2.false))
