-- A state of reading from which what is still to be read gives the answer w: the invariant of every loop that reads.
use Rattle.std.specs.Prelude.{ℕ, ◌<◌, ◌≡◌, List, length}
use Rattle.folds.specs.Answers.{Answer}
use Rattle.commands.specs.Commands.{Format, read_from}

pub record Going {P K A : Type 0} (F : Format P K A) (w : Answer A) (p : P) (e : ℕ) (b : List ℕ) : Type 0 where
  pub fuel : ℕ
  pub enough : length b < fuel
  pub same : read_from F fuel p e b ≡ w
