-- What is kept for releases: of each result, and of each message that is received, the note of the last command of its programme that gets or uses it; 0 where it is not
-- held, or no more. A release is right behind that command, and wrong before it.
use Rattle.std.specs.Prelude.{ℕ, ◌+◌, ◌/◌, ◌≤◌, ◌<◌, max, ◌≡◌, Bool, List, get_or, set, eqb}
use Rattle.std.proofs.Math.Option.{none}
use Rattle.folds.specs.Folds.{pick, greatest}
use Rattle.folds.specs.Answers.{value}
use Rattle.numbers.specs.Number.{Bytes, number_at}
use Rattle.workspace.specs.Found.{found_of}
use Rattle.workspace.specs.Found.{Found}
use Rattle.sheet.specs.Sheet.{Sheet, task_count, link_count, source_of, target_of}
use Rattle.bundle.specs.Bundle.{Command, run, send, Bundle, programme_count}
use Rattle.bundle.specs.Format.{read_bundle}
use Rattle.admission.specs.Releases.{at37}
use Rattle.admission.specs.Messages.{at26, at_message}
use Rattle.admission.specs.Fields.{Known}
use Rattle.admission.specs.Notes.{slots_at, releases_at, discards_at, slot_of, Apart}
use Rattle.admission.specs.Rules.{Given}
use Rattle.admission.specs.declared.view.View.{View}

abbrev pub note_of : List ℕ → Command → ℕ
note_of w c = get_or w (slots_at + slot_of c) 0

-- link l, by the notes of its source and of its target: whether both run in one programme; the use of its source's result, by its target's run or by its send; and the use
-- of its message
abbrev pub together : Sheet → List ℕ → ℕ → Bool
together s w l = eqb (note_of w (run (source_of s l)) / 4096) (note_of w (run (target_of s l)) / 4096)

unfoldable pub use_of : Sheet → List ℕ → ℕ → ℕ
use_of s w l = pick (together s w l) (note_of w (run (target_of s l))) (note_of w (send l))

unfoldable pub message_of : Sheet → List ℕ → ℕ → ℕ
message_of s w l = pick (together s w l) 0 (note_of w (run (target_of s l)))

-- how link l uses the result of t, and the last use of it by the links below n
abbrev pub used_by : Sheet → List ℕ → ℕ → ℕ → ℕ
used_by s w t l = pick (eqb (source_of s l) t) (use_of s w l) 0

unfoldable pub last_of : Sheet → List ℕ → ℕ → ℕ → ℕ
last_of s w t n = max (note_of w (run t)) (greatest n (used_by s w t))

-- the notes of n runs are copied
pub record CopyIs (w last : List ℕ) (n : ℕ) : Type 0 where
  pub apart : Apart w last
  pub copied : (t : ℕ) → t < n → get_or last (releases_at + t) 0 ≡ get_or w (slots_at + t) 0

-- link l, of which x is the source: a use of that result more, and the use of its message
abbrev pub kept_words : Sheet → List ℕ → ℕ → ℕ → List ℕ
kept_words s w l x = set (set w (releases_at + x) (max (get_or w (releases_at + x) 0) (use_of s w l))) (discards_at + l) (message_of s w l)

pub record LastIs (sheet w last : List ℕ) (v : View) (l : ℕ) : Type 0 where
  pub apart : Apart w last
  pub is : (s : Sheet) → Known s sheet v → l < link_count s → last ≡ kept_words s w l (source_of s l)

-- all links below n
pub record Lasts (s : Sheet) (w last : List ℕ) (n : ℕ) : Type 0 where
  pub results : (t : ℕ) → t < task_count s → get_or last (releases_at + t) 0 ≡ last_of s w t n
  pub messages : (l : ℕ) → l < n → get_or last (discards_at + l) 0 ≡ message_of s w l

pub record LastsIs (sheet w last : List ℕ) (v : View) : Type 0 where
  pub apart : Apart w last
  pub is : (s : Sheet) → Known s sheet v → Lasts s w last (link_count s)

-- the word of what the release at an offset gives back
unfoldable pub free_at : List ℕ → ℕ → ℕ
free_at b at = pick (eqb (get_or b at 0) 0x46) (releases_at + get_or b (at + 1) 0) (discards_at + number_at 2 b (at + 1))

-- 37 of a bundle, by the notes of its commands
pub record WrongIs (sheet bundle w last : List ℕ) (v : View) (r : Found) : Type 0 where
  pub kept : Apart w last
  pub is_37 : (s : Sheet) (b : Bundle) → Given s b sheet w v → programme_count b ≤ 16 → Bytes bundle → read_bundle s bundle ≡ value b → at26 s b ≡ none → at_message s b ≡ none
      → found_of r ≡ at37 s b
