-- A bundle's commands judged by the counts of a sheet alone: p processors, t tasks, l links; n programmes are open.
use Rattle.std.specs.Prelude.{ℕ, suc, ◌+◌, ◌≡◌, Bool, false, not, List, [], ◌∷◌, length, get_or, ltb, leb, eqb}
use Rattle.std.proofs.Math.Option.{Option}
use Rattle.folds.specs.Folds.{pick, both, either, first_of}
use Rattle.folds.specs.Answers.{Answer, value, refused}
use Rattle.numbers.specs.Number.{number_at}
use Rattle.commands.specs.Commands.{Format}
use Rattle.sheet.specs.Sheet.{Sheet, task_count, link_count}
use Rattle.bundle.specs.Bundle.{Command, Bundle}
use Rattle.bundle.specs.Sizes.{claim_size}
use Rattle.bundle.specs.Format.{Kind, opening, running, sending, receiving, releasing, discarding, claiming, kind_of, width, inside, closes}

-- the sheet s has these counts
pub record Sized (s : Sheet) (p t l : ℕ) : Type 0 where
  pub processors : s.processors ≡ p
  pub tasks : task_count s ≡ t
  pub links : link_count s ≡ l

-- what refuses a command whose operand has to be below m, and a claim of a sheet with m tasks
abbrev wrong_below : ℕ → ℕ → Kind → List ℕ → Bool
wrong_below m n opening b = either (not (eqb (get_or b 0 0) n)) (leb m (get_or b 0 0))
wrong_below m n running b = false
wrong_below m n sending b = false
wrong_below m n receiving b = false
wrong_below m n releasing b = false
wrong_below m n discarding b = false
wrong_below m n claiming b = false

abbrev unknown_below : ℕ → Kind → List ℕ → Bool
unknown_below m opening b = false
unknown_below m running b = leb m (get_or b 0 0)
unknown_below m sending b = leb m (number_at 2 b 0)
unknown_below m receiving b = leb m (number_at 2 b 0)
unknown_below m releasing b = leb m (get_or b 0 0)
unknown_below m discarding b = leb m (number_at 2 b 0)
unknown_below m claiming b = false

unfoldable pub fault_below : ℕ → ℕ → Kind → List ℕ → Option ℕ
fault_below m n k b =
    first_of ((both (inside m k) (eqb n 0), 23) ∷ (ltb (length b) (width k), 21) ∷ (wrong_below m n k b, 23) ∷ (unknown_below m k b, 25) ∷ [])

module _ (p t l : ℕ) where
  abbrev pub limit_of : Kind → ℕ
  limit_of opening = p
  limit_of running = t
  limit_of sending = l
  limit_of receiving = l
  limit_of releasing = t
  limit_of discarding = l
  limit_of claiming = t

  -- what refuses a command: `fault` of any sheet with these counts
  abbrev pub fault_by : ℕ → Kind → List ℕ → Option ℕ
  fault_by n k b = fault_below (limit_of k) n k b

  abbrev opened_by : ℕ → Kind → List ℕ → ℕ
  opened_by n opening b = suc n
  opened_by n running b = n
  opened_by n sending b = n
  opened_by n receiving b = n
  opened_by n releasing b = n
  opened_by n discarding b = n
  opened_by n claiming b = n

  abbrev ended_by : ℕ → ℕ → List ℕ → Answer ℕ
  ended_by n e b = pick (ltb 4 (length b)) (refused 24 (e + claim_size)) (value n)

  -- a bundle of which the programmes are only counted
  abbrev pub count_format : Format ℕ Kind ℕ
  count_format =
      record { cut = 21; strange = 22; kind_of = kind_of; width = width; fault = fault_by; after = opened_by; closes = closes; ended = ended_by }

-- the commands that stand in programmes
abbrev pub commands_in : List (List Command) → ℕ
commands_in [] = 0
commands_in (p ∷ ps) = length p + commands_in ps

unfoldable pub command_count : Bundle → ℕ
command_count b = commands_in b.programmes
