-- What a fault's number says, where there is one and where there is none.
use Prim.Native.Nat.{ℕ}
use mathlib.Core.Path.{◌≡◌, sym, ◌∙◌}
use mathlib.Core.Option.{Option, none, some}
use mathlib.Core.Logic.{◌≢◌}
use borrow.Author.Tests.{ne_eqb, eq-eqb}
use Rattle.commands.specs.Commands.{numbered}

pub numbered-some : (r : ℕ) (o : Option ℕ) → numbered r ≡ o → r ≢ 0 → o ≡ some r
numbered-some r o e h = sym e ∙ simp (ne_eqb r 0 h)

pub numbered-none : (r : ℕ) (o : Option ℕ) → numbered r ≡ o → r ≡ 0 → o ≡ none
numbered-none r o e h = sym e ∙ simp (eq-eqb r 0 h)
