-- What the recorded run notes: who made each step, and when each task's run ended.
use Rattle.std.specs.Prelude.{ℕ, ◌+◌, ◌-◌, ◌≤◌, ◌<◌, ◌≡◌, List, [], ◌∷◌, length, get_or, set, eqb}
use Rattle.folds.specs.Folds.{pick}
use Rattle.sheet.specs.Sheet.{Sheet}
use Rattle.bundle.specs.Bundle.{Bundle}
use Rattle.admission.specs.Counting.{each}
use Rattle.machine.specs.Machine.{State}
use Rattle.machine.specs.Runs.{left}
use Rattle.stepping_machine.specs.Layout as lay
use Rattle.stepping_machine.specs.Words.{clock_in, kind_in, number_in}
use Rattle.stepping_machine.specs.Represents.{Represents}
use Rattle.drift.specs.Tails.{Steps}
use Rattle.drift.specs.Following.{Trail, end_of}

-- room for the notes: as many steps as the machine's words have room for commands, and as many ends as a sheet has tasks at most
abbrev pub most_steps : ℕ
most_steps = 3600

abbrev pub most_ends : ℕ
most_ends = 256

-- the ends after processor k did the command of the word x
unfoldable pub ends_with : List ℕ → List ℕ → ℕ → ℕ → List ℕ
ends_with w ends k x = pick (eqb (kind_in x) 1) (set ends (number_in x - lay.tasks) (clock_in w k)) ends

-- of the steps, the last one first, the bytes have who made them, the first one first
abbrev pub Ordered : Steps → List ℕ → Type 0
Ordered [] order = Unit {0}
Ordered (e ∷ es) order = (get_or order (length es) 0 ≡ e.0) × Ordered es order

-- words after n steps from the fresh state, and the notes of these
pub record Noted (s : Sheet) (b : Bundle) (w order ends : List ℕ) (n : ℕ) : Type 0 where
  pub steps : Steps
  pub state : State
  pub trail : Trail s b steps state
  pub represents : Represents s b w state
  pub count : length steps ≡ n
  pub ordered : Ordered steps order
  pub ended : (t : ℕ) → t < most_ends → get_or ends t 0 ≡ end_of trail t
  -- the notes have room for all steps and all tasks
  pub room : n + left b state each ≤ length order
  pub long : most_ends ≤ length ends

-- the notes are kept up
pub record NoteIs (w order ends : List ℕ) (n : ℕ) (last order' ends' : List ℕ) (m : ℕ) : Type 0 where
  pub long : length last ≡ length w
  pub order_long : length order' ≡ length order
  pub ends_long : length ends' ≡ length ends
  pub notes : (s : Sheet) (b : Bundle) → Noted s b w order ends n → Noted s b last order' ends' m
