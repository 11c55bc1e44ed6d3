-- What it means that words represent a state of the machine, and what the machine's code promises of them.
use Rattle.std.specs.Prelude.{ℕ, ◌+◌, ◌*◌, ◌≤◌, ◌<◌, ◌≡◌, Bool, false, List, ◌⊎◌, length, get_or}
use Rattle.std.proofs.Math.Option.{some}
use Rattle.sheet.specs.Sheet.{Sheet, task_count, link_count, store_of}
use Rattle.sheet.specs.Tables.{Ranged}
use Rattle.bundle.specs.Bundle.{Command, run, Bundle, programme_count, programme_of}
use Rattle.bundle.specs.Fits.{Known}
use Rattle.admission.specs.Counting.{each}
use Rattle.machine.specs.Machine.{State, processor_of, stamp_of, stamp_in}
use Rattle.machine.specs.Runs.{left}
use Rattle.machine.specs.Kept.{StepIs}
use Rattle.stepping_machine.specs.Layout as lay
use Rattle.stepping_machine.specs.Words.{Blank, next_in, clock_in, store_in, first_in, last_in, count_in, links_in, unpacking_in, stamped_in, need_in, amount_of, word_by}

-- the commands cs stand in the words w from the index a on, each by its word, and a 0 behind them
pub record Decoded (s : Sheet) (amount : Command → ℕ) (w : List ℕ) (a : ℕ) (cs : List Command) : Type 0 where
  pub known : (i : ℕ) → i < length cs → Known s (get_or cs i (run 0))
  pub word : (i : ℕ) → i < length cs → get_or w (a + i) 0 ≡ word_by amount (get_or cs i (run 0))
  pub end : get_or w (a + length cs) 0 ≡ 0

-- the programmes of b stand in the words w: every processor has one, though it may be empty
pub record Programmed (s : Sheet) (b : Bundle) (w : List ℕ) : Type 0 where
  pub long : lay.extent ≤ length w
  pub few : programme_count b ≤ 16
  pub ranged : Ranged s
  pub programmes : count_in w ≡ programme_count b
  pub links : links_in w ≡ link_count s
  pub unpacks : unpacking_in w ≡ s.unpacking
  pub needs : (t : ℕ) → t < task_count s → need_in w t ≡ store_of s t
  -- beside the stamps; an empty programme may stand at the word before them
  pub low : (k : ℕ) → k < 16 → lay.idle ≤ first_in w k
  pub apart : (k : ℕ) → k < 16 → (first_in w k + length (programme_of b k) < lay.stamps) ⊎ (lay.needs ≤ first_in w k)
  pub high : (k : ℕ) → k < 16 → first_in w k + length (programme_of b k) < lay.extent
  pub last : (k : ℕ) → k < 16 → last_in w k ≡ first_in w k + length (programme_of b k)
  pub decoded : (k : ℕ) → k < 16 → Decoded s (amount_of s b k) w (first_in w k) (programme_of b k)

-- words w represent the state σ
pub record Represents (s : Sheet) (b : Bundle) (w : List ℕ) (σ : State) : Type 0 where
  pub programmed : Programmed s b w
  pub processors : length σ.processors ≡ programme_count b
  pub stamps : length σ.stamps ≡ link_count s
  pub inside : (k : ℕ) → k < 16 → (processor_of σ k).position ≤ length (programme_of b k)
  pub next : (k : ℕ) → k < 16 → next_in w k ≡ first_in w k + (processor_of σ k).position
  pub clock : (k : ℕ) → k < 16 → clock_in w k ≡ (processor_of σ k).clock
  pub store : (k : ℕ) → k < 16 → store_in w k ≡ (processor_of σ k).store
  pub stamp : (l : ℕ) → l < link_count s → stamp_in (stamped_in w l) ≡ stamp_of σ l
  -- all that is still to come fits the words
  pub room : (k : ℕ) → k < 16 → ((processor_of σ k).clock + lay.most * left b σ each ≤ lay.full) × ((processor_of σ k).store + lay.most * left b σ each ≤ lay.full)
  pub roomy : (l x : ℕ) → stamp_of σ l ≡ some x → x + lay.most * left b σ each ≤ lay.full

-- all programmes stand before the stamps or between the first command's index and the index e
pub record Within (b : Bundle) (w : List ℕ) (e : ℕ) : Type 0 where
  pub within : (k : ℕ) → k < 16 → (first_in w k + length (programme_of b k) < lay.stamps) ⊎ ((lay.commands ≤ first_in w k) × (first_in w k + length (programme_of b k) < e))

-- one choice: as the definition's step, and nobody steps in words that are all 0
pub record ChoiceIs (w last : List ℕ) (k : ℕ) (r : Bool) : Type 0 where
  pub steps : StepIs Represents w last k r
  pub blank : Blank w → r ≡ false

-- what is asked of such words: the commands still to do, none in words that are all 0; the numbers of any processor; one more than the stamp of any link, or 0
pub record LeftIs (w : List ℕ) (r : ℕ) : Type 0 where
  pub is : (s : Sheet) (b : Bundle) (σ : State) → Represents s b w σ → r ≡ left b σ each
  pub blank : Blank w → r ≡ 0

pub record ClockIs (w : List ℕ) (k r : ℕ) : Type 0 where
  pub is : (s : Sheet) (b : Bundle) (σ : State) → Represents s b w σ → r ≡ (processor_of σ k).clock

pub record PositionIs (w : List ℕ) (k r : ℕ) : Type 0 where
  pub is : (s : Sheet) (b : Bundle) (σ : State) → Represents s b w σ → r ≡ (processor_of σ k).position

pub record StoreIs (w : List ℕ) (k r : ℕ) : Type 0 where
  pub is : (s : Sheet) (b : Bundle) (σ : State) → Represents s b w σ → r ≡ (processor_of σ k).store

pub record StampIs (w : List ℕ) (l r : ℕ) : Type 0 where
  pub is : (s : Sheet) (b : Bundle) (σ : State) → Represents s b w σ → stamp_in r ≡ stamp_of σ l
