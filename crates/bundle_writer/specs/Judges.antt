-- Values judged as the reader would judge their bytes: how far that has come, and what the next command makes of it.
use Rattle.std.specs.Prelude.{ℕ, ◌+◌, ◌*◌, ◌<◌, ◌≤◌, ◌≡◌, List, length, drop}
use Rattle.commands.specs.Reading.{Going}
use Rattle.sheet.specs.Sheet.{Sheet}
use Rattle.bundle.specs.Bundle.{Command}
use Rattle.bundle.specs.Format.{bundle_format, read_bundle}
use Rattle.bundle.specs.Writing.{value_bytes}
use Rattle.bundle.specs.Counts.{Sized}
use Rattle.bundle_writer.specs.Writes.{RefusalIs}
use Rattle.std.specs.Prelude.{⊤, Result, Ok, Err}
use Rattle.refusals.specs.Refusals.{number, refusal}
use Rattle.refusals.specs.declared.Refusal.{Refusal}
use Rattle.refusals.specs.declared.Fault.{Fault}
use Rattle.bundle_writer.specs.declared.writer.Spot.{Spot}

-- for one sheet and one claim: the programmes of the values so far, and that reading on gives the whole answer
pub record Judging (s : Sheet) (vs : List ℕ) (claim n at i : ℕ) : Type 0 where
  pub ps : List (List Command)
  pub count : length ps ≡ n
  pub going : Going (bundle_format s) (read_bundle s (value_bytes vs claim)) ps at (value_bytes (drop i vs) claim)
  pub size : at + length (value_bytes (drop i vs) claim) ≡ length (value_bytes vs claim)

-- for every sheet with these counts, and every claim: the values below i have at bytes and n programmes
pub record Judges (vs : List ℕ) (p t l n at i : ℕ) : Type 0 where
  pub place : i ≤ length vs
  pub near : at ≤ 2 * i
  pub few : n ≤ i
  pub each : (s : Sheet) → Sized s p t l → (claim : ℕ) → claim < 4294967296 → Judging s vs claim n at i

-- what the command of the values at i makes of it
pub record NextIs (vs : List ℕ) (p t l i : ℕ) (q : Result Spot Refusal) : Type 0 where
  pub on : (x : Spot) → q ≡ Ok x → Judges vs p t l x.opened x.at (i + 2)
  pub out : (r : Refusal) → q ≡ Err r → RefusalIs vs p t l (Err r)

abbrev pub spot : ℕ → ℕ → Spot
spot at n = record { at = at; opened = n }

-- the command at an offset, by the test of it: behind it stand so many bytes, and so many programmes are open there
abbrev pub went_on : Result ⊤ Fault → ℕ → ℕ → ℕ → Result Spot Refusal
went_on (Ok x) at behind opened = Ok (spot behind opened)
went_on (Err f) at behind opened = Err (refusal (number f) at)
