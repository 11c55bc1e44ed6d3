-- How the pass writes: a command's bytes, and behind them the releases that are due there. What was lent may be too short; bytes behind its end are not kept, and count all the same.
use Rattle.std.specs.Prelude.{ℕ, suc, ◌+◌, ◌*◌, ◌-◌, ◌<◌, ◌≤◌, ◌≡◌, Bool, not, List, [], ◌++◌, map, length, get_or, take, drop, eqb, ltb}
use Rattle.std.proofs.Math.Option.{none}
use Rattle.std.proofs.lemmas.List.Edits.{sets}
use Rattle.folds.specs.Folds.{pick, gather}
use Rattle.folds.specs.Answers.{value}
use Rattle.numbers.specs.Number.{Bytes}
use Rattle.sheet.specs.Sheet.{Sheet, task_count, link_count}
use Rattle.bundle.specs.Bundle.{Command, release, discard, Bundle, programme_count, programme_of}
use Rattle.bundle.specs.Format.{read_bundle}
use Rattle.bundle.specs.Writing.{command_bytes}
use Rattle.admission.specs.Counting.{whole}
use Rattle.admission.specs.Releases.{frees}
use Rattle.admission.specs.Messages.{at26, at_message}
use Rattle.admission.specs.Notes.{releases_at, discards_at, rank}
use Rattle.releasing.specs.Releasing.{earliest, is_at, released}

-- these bytes were laid over `old` from an offset on, as far as it reaches, and r is the offset behind them
pub record Lay (old : List ℕ) (at : ℕ) (bytes last : List ℕ) (r : ℕ) : Type 0 where
  pub left : last ≡ sets old at bytes
  pub next : r ≡ at + length bytes

-- the bytes of b from an offset up to another
abbrev pub part : List ℕ → ℕ → ℕ → List ℕ
part b from to = take (to - from) (drop from b)

-- the things that are released, in the order of their words: the results, then the messages
unfoldable pub thing : ℕ → Command
thing x = pick (ltb x 256) (release x) (discard (x - 256))

-- the release of thing x, if it belongs behind the command with this note; and of the n things from a on
unfoldable pub due_bytes : List ℕ → ℕ → ℕ → List ℕ
due_bytes w note x = pick (eqb (get_or w (releases_at + x) 0) note) (command_bytes (thing x)) []

unfoldable pub due_from : List ℕ → ℕ → ℕ → ℕ → List ℕ
due_from w note a n = gather n (λ i. due_bytes w note (a + i))

-- "results before messages, both in rising number": of n tasks and m links
unfoldable pub behind_bytes : List ℕ → ℕ → ℕ → ℕ → List ℕ
behind_bytes w note n m = due_from w note 0 n ++ due_from w note 256 m

-- the word of each thing is the note of the command behind which its release belongs
pub record Marked (s : Sheet) (b : Bundle) (w : List ℕ) : Type 0 where
  pub results : (t : ℕ) → t < task_count s → (k i : ℕ) → i < length (programme_of b k)
      → eqb (get_or w (releases_at + t) 0) (4096 * suc k + rank b k i) ≡ is_at (earliest s (programme_of b k) (release t)) (suc i)
  pub messages : (l : ℕ) → l < link_count s → (k i : ℕ) → i < length (programme_of b k)
      → eqb (get_or w (discards_at + l) 0) (4096 * suc k + rank b k i) ≡ is_at (earliest s (programme_of b k) (discard l)) (suc i)

-- a bundle without releases, to which 26 and 31 to 33 do not apply
pub record Bare (s : Sheet) (b : Bundle) (bundle : List ℕ) : Type 0 where
  pub few_tasks : task_count s ≤ 256
  pub few_links : link_count s ≤ 1024
  pub few : programme_count b ≤ 16
  pub bytes : Bytes bundle
  pub read : read_bundle s bundle ≡ value b
  pub once : at26 s b ≡ none
  pub messages : at_message s b ≡ none
  pub plain : whole b frees ≡ 0

-- .. with its releases
abbrev pub with_releases : Sheet → Bundle → Bundle
with_releases s b = record { programmes = map (released s) b.programmes; claim = b.claim }

-- whether a bundle has a release
pub record FreesIs (bundle : List ℕ) (r : Bool) : Type 0 where
  pub is : (s : Sheet) (b : Bundle) → link_count s ≤ 1024 → Bytes bundle → read_bundle s bundle ≡ value b → r ≡ not (eqb (whole b frees) 0)
