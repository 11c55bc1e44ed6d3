-- What reading a bundle promises: the definition's answer, and where the programmes lie.
use Rattle.std.specs.Prelude.{ℕ, ◌+◌, ◌*◌, ◌≤◌, ◌<◌, ◌≡◌, List, length, get_or}
use Rattle.folds.specs.Answers.{value}
use Rattle.sheet.specs.Sheet.{Sheet}
use Rattle.bundle.specs.Bundle.{Bundle}
use Rattle.bundle.specs.Format.{read_bundle}
use Rattle.bundle.specs.Counts.{Sized}
use Rattle.bundle.specs.Lies.{Laid}
use Rattle.bundle_reader.specs.Answers.{reading_of}
use Rattle.bundle_reader.specs.declared.bytes.Outline.{Outline}
use Rattle.refusals.specs.declared.Refusal.{Refusal}
use Rattle.std.specs.Prelude.{Result, Ok}

-- bytes b, a sheet of p processors, t tasks and l links, words v before and last after
pub record ReadIs (b : List ℕ) (p t l : ℕ) (v last : List ℕ) (r : Result Outline Refusal) : Type 0 where
  pub answer : (s : Sheet) → Sized s p t l → r ≡ reading_of (read_bundle s b)
  -- a word holds an offset below 2^32
  pub laid : (s : Sheet) → Sized s p t l → length b < 4294967296 → (x : Bundle) → read_bundle s b ≡ value x → Laid t l b last x.programmes
  pub long : length last ≡ length v
  -- words behind the first p + 1 are as they were
  pub rest : (i : ℕ) → p < i → get_or last i 0 ≡ get_or v i 0
  -- two values for each programme and command are no more than the bytes
  pub fits : (o : Outline) → r ≡ Ok o → 2 * (o.programmes + o.commands) + 5 ≤ length b
