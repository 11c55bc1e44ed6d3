-- 26, 31 to 33, 37 and 28 together: what a bundle must pass for the machine to start on it; and what the code promises that reads a bundle and tries all but 28.
use Rattle.std.specs.Prelude.{Result}
use Rattle.bundle_reader.specs.Answers.{outline_of}
use Rattle.bundle_reader.specs.declared.bytes.Outline.{Outline}
use Rattle.refusals.specs.Refusals.{result_of}
use Rattle.refusals.specs.declared.Refusal.{Refusal}
use Rattle.std.specs.Prelude.{ℕ, ◌≤◌, ◌<◌, ◌≡◌, List, length}
use Rattle.std.proofs.Math.Option.{none}
use Rattle.folds.specs.Answers.{Answer, value, unless, unless_at, and_then}
use Rattle.numbers.specs.Number.{Bytes}
use Rattle.sheet.specs.Sheet.{Sheet, task_count, link_count}
use Rattle.bundle.specs.Bundle.{run, Bundle, programme_count}
use Rattle.bundle.specs.Format.{read_bundle}
use Rattle.bundle.specs.Counts.{command_count}
use Rattle.bundle.specs.Lies.{Laid}
use Rattle.admission.specs.Messages.{home, at26, at_message, at28}
use Rattle.admission.specs.Releases.{at37}
use Rattle.admission.specs.Fields.{Known}
use Rattle.admission.specs.Notes.{home_in, slots_end, Kept, Apart}
use Rattle.admission.specs.Rules.{Given}
use Rattle.admission.specs.declared.view.View.{View}

unfoldable pub freed : Sheet → Bundle → Answer Bundle
freed s b = unless 37 (at37 s b) (value b)

unfoldable pub messaged : Sheet → Bundle → Answer Bundle
messaged s b = unless_at (at_message s b) (freed s b)

-- the bundle, or the first refusal of 26, 31 to 33 and 37
unfoldable pub published : Sheet → Bundle → Answer Bundle
published s b = unless 26 (at26 s b) (messaged s b)

-- the bundle, or the first refusal of 26, 31 to 33 and 37, and of 28 behind them
unfoldable pub admitted : Sheet → Bundle → Answer Bundle
admitted s b = unless 26 (at26 s b) (unless_at (at_message s b) (unless 37 (at37 s b) (unless 28 (at28 s b) (value b))))

-- of bytes, for a sheet: the first refusal of 21 to 26, 31 to 33 and 37, and of 28 behind them
unfoldable pub published_bytes : Sheet → List ℕ → Answer Bundle
published_bytes s bundle = and_then (read_bundle s bundle) (published s)

unfoldable pub admitted_bytes : Sheet → List ℕ → Answer Bundle
admitted_bytes s bundle = and_then (read_bundle s bundle) (admitted s)

-- the code's answer: how many programmes, how many commands in them and the claim, or the refusal
abbrev pub judged_of : Answer Bundle → Result Outline Refusal
judged_of a = result_of outline_of a

-- a bundle of m programmes with c commands, read from these bytes, its programmes' offsets in the words w
pub record Told (s : Sheet) (b : Bundle) (sheet bundle w : List ℕ) (v : View) (m c claim : ℕ) : Type 0 where
  pub known : Known s sheet v
  pub programmes : programme_count b ≡ m
  pub few : programme_count b ≤ 16
  pub commands : command_count b ≡ c
  pub claimed : b.claim ≡ claim
  pub bytes : Bytes bundle
  pub read : read_bundle s bundle ≡ value b
  pub laid : length bundle < 4294967296 → Laid (task_count s) (link_count s) bundle w b.programmes
  pub long : slots_end ≤ length w

module _ (sheet bundle w last : List ℕ) (v : View) (m c claim : ℕ) (r : Result Outline Refusal) where
  -- `met` runs, sends and receives were met
  pub record FreedIs (met : ℕ) : Type 0 where
    pub kept : Apart w last
    pub is : (s : Sheet) (b : Bundle) → Told s b sheet bundle w v m c claim → (g : Given s b sheet w v) → g.count ≡ met → at26 s b ≡ none → at_message s b ≡ none → r ≡ judged_of (freed s b)

  pub record MessagesIs (met : ℕ) : Type 0 where
    pub kept : Apart w last
    pub is : (s : Sheet) (b : Bundle) → Told s b sheet bundle w v m c claim → (g : Given s b sheet w v) → g.count ≡ met → at26 s b ≡ none → r ≡ judged_of (messaged s b)

  pub record RulesIs : Type 0 where
    pub kept : Kept w last
    pub is : (s : Sheet) (b : Bundle) → Told s b sheet bundle w v m c claim → r ≡ judged_of (published s b)
    pub homes : (s : Sheet) (b : Bundle) → Told s b sheet bundle w v m c claim → at26 s b ≡ none → (t : ℕ) → t < task_count s → home_in last t ≡ home b (run t)

-- bytes of any kind: 21 to 26, 31 to 33 and 37; of a bundle that passes them, where the programmes lie, and which of them runs each task
pub record JudgeIs (sheet bundle w last : List ℕ) (v : View) (r : Result Outline Refusal) : Type 0 where
  pub long : length last ≡ length w
  pub is : (s : Sheet) → Known s sheet v → r ≡ judged_of (published_bytes s bundle)
  pub laid : (s : Sheet) → Known s sheet v → (b : Bundle) → published_bytes s bundle ≡ value b → Laid (task_count s) (link_count s) bundle last b.programmes
  pub homes : (s : Sheet) → Known s sheet v → (b : Bundle) → published_bytes s bundle ≡ value b → (t : ℕ) → t < task_count s → home_in last t ≡ home b (run t)
