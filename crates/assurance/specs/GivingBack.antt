-- The pass that gives back store, of the functions of the interface: what zeldrupa_release refuses, and what is true of the bundle that it writes.
use Rattle.std.specs.Prelude.{ℕ, ◌+◌, ◌≤◌, ◌<◌, true, false, not, ◌≡◌, List, length, take, drop}
use Rattle.std.proofs.Math.Option.{some}
use Rattle.std.proofs.Math.ListN.{get_elem?}
use Rattle.folds.specs.Folds.{bit}
use Rattle.folds.specs.Answers.{value}
use Rattle.numbers.specs.Number.{Bytes}
use Rattle.workspace.specs.Area.{fixed}
use Rattle.sheet.specs.Sheet.{Sheet}
use Rattle.bundle.specs.Bundle.{Command, Bundle, programme_of}
use Rattle.bundle.specs.Format.{read_bundle}
use Rattle.bundle.specs.Fits.{Known}
use Rattle.admission.specs.Counting.{weigh, whole, is, in_use}
use Rattle.admission.specs.Releases.{is_release, frees, gets, right}
use Rattle.machine.specs.Machine.{processor_of}
use Rattle.machine.specs.Runs.{Choice, early_of}
use Rattle.zeldrupa.specs.Promises.{GivesCheck, GivesRelease}
use Rattle.assurance.specs.Demand.{Read}

-- 1 at "runs, sends and receives"
abbrev pub own : Command → ℕ
own c = bit (not (is_release c))

-- how many of them stand among the first i commands of a programme
abbrev pub own_before : List Command → ℕ → ℕ
own_before p i = weigh own (take i p)

-- of a bundle b for the sheet s, and of the bundle b' that the pass makes of it where b has no release
pub record Inserted (s : Sheet) (b b' : Bundle) : Type 0 where
  -- every result and every received message gets its release
  pub all : (k : ℕ) (x : Command) → is_release x ≡ true → Known s x → 0 < weigh (is (gets x)) (programme_of b k) → weigh (is x) (programme_of b' k) ≡ 1
  -- "at its earliest right position": behind fewer runs, sends and receives of its programme it would be wrong
  pub earliest : (k j m : ℕ) (x : Command) → get_elem? (programme_of b' k) j ≡ some x → is_release x ≡ true → own_before (programme_of b' k) m < own_before (programme_of b' k) j
      → right s (take m (programme_of b' k)) x (drop m (programme_of b' k)) ≡ false

-- zeldrupa_release wrote these bytes
pub record Passed {sheet bundle : List ℕ} (x : Read sheet bundle) (bytes : List ℕ) : Type 0 where
  pub b' : Bundle
  pub read : read_bundle x.s bytes ≡ value b'
  -- "the passed bundle is accepted with the same claim"
  pub accepted : (area area' : List ℕ) (q r : ℕ) → fixed ≤ length area → GivesCheck sheet bytes area area' q r → r ≡ 0
  pub claim : b'.claim ≡ x.b.claim
  -- the greatest length of a bundle with all its releases
  pub short : length bytes ≤ 10277
  -- "and never needs more store": after any choices with any times, no more is in use than in the bundle behind as many runs, sends and receives of that programme
  pub never_more : (cs : List Choice) (k : ℕ) → let p = processor_of (early_of x.s b' cs).state k in
      (i : ℕ) × ((own_before (programme_of b' k) p.position ≡ own_before (programme_of x.b k) i) × (p.store ≤ in_use x.s (programme_of x.b k) i))
  pub inserted : whole x.b frees ≡ 0 → Inserted x.s x.b b'
  -- "an accepted bundle that already has releases comes out as it went in"
  pub same : 0 < whole x.b frees → bytes ≡ bundle
  -- passing twice is passing once
  pub twice : (work work' out out' : List ℕ) (n r : ℕ) → fixed ≤ length work → length bytes ≤ length out → GivesRelease sheet bytes work work' out out' n r → (r ≡ 0) × (take n out' ≡ bytes)

pub record GivingBack : Type 0 where
  -- "a refused one gets the checker's refusal"
  pub refused :
      (sheet bundle area area' work work' out out' : List ℕ) (q r p n : ℕ) → fixed ≤ length area → fixed ≤ length work → GivesCheck sheet bundle area area' q r → 0 < r
      → GivesRelease sheet bundle work work' out out' p n → (n ≡ r) × (p ≡ q) × (out' ≡ out)
  -- what it wrote was made of a bundle that was read
  pub reads : (sheet bundle work work' out out' : List ℕ) (n : ℕ) → GivesRelease sheet bundle work work' out out' n 0 → Read sheet bundle
  pub passed : {sheet bundle : List ℕ} (x : Read sheet bundle) → Bytes bundle → (work work' out out' : List ℕ) (n : ℕ) → GivesRelease sheet bundle work work' out out' n 0 → Passed x (take n out')
