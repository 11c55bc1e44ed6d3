-- The form of a bundle is refused with 21 to 25.
use Prim.Native.Nat.{ℕ, ◌+◌, ◌≤◌}
use mathlib.Core.Bool.{Bool, true, false}
use mathlib.Core.Option.{some}
use mathlib.Core.Path.{◌≡◌}
use mathlib.Core.List.{List, [], ◌∷◌}
use native.Mathlib.Omega.{arith}
use lib.ListN.{length}
use lib.Dec.{ltb, eqb}
use Rattle.folds.specs.Folds.{pick, both}
use Rattle.folds.specs.Answers.{value, refused}
use Rattle.folds.proofs.Firsts.{first_of-between}
use Rattle.numbers.specs.Number.{number_at}
use Rattle.commands.proofs.Reading.{Told, told-value, told-refused, reads-told}
use Rattle.sheet.specs.Sheet.{Sheet, task_count}
use Rattle.bundle.specs.Bundle.{Command, Bundle}
use Rattle.bundle.specs.Format.{Kind, width, inside, wrong_number, unknown, fault, ended, bundle_format, read_bundle}

module _ (s : Sheet) where
  fault-told : (ps : List (List Command)) (k : Kind) (b : List ℕ) (r : ℕ) → fault s ps k b ≡ some r → (21 ≤ r) × (r ≤ 25)
  unfolding fault
  fault-told ps k b r =
      first_of-between 21 25 r
      ((both (inside (task_count s) k) (eqb (length ps) 0), 23) ∷
      (ltb (length b) (width k), 21) ∷ (wrong_number s (length ps) k b, 23) ∷ (unknown s k b, 25) ∷ [])
      ((omega arith, omega arith), ((omega arith, omega arith), ((omega arith, omega arith), ((omega arith, omega arith), tt))))

  ended-told : (ps : List (List Command)) (e : ℕ) (b : List ℕ) → Told 21 25 (ended ps e b)
  unfolding ended
  ended-told ps e b = by (ltb 4 (length b))
    where
      by : (x : Bool) → Told {A = Bundle} 21 25 (pick x (refused 24 (e + 5)) (value (record { programmes = ps; claim = number_at 4 b 0 })))
      by true = told-refused 21 25 24 (e + 5) (omega arith, omega arith)
      by false = told-value 21 25 _

  pub bundle-numbered : (b : List ℕ) (n at : ℕ) → read_bundle s b ≡ refused n at → (21 ≤ n) × (n ≤ 25)
  unfolding read_bundle
  bundle-numbered b = (reads-told (bundle_format s) 21 25 (omega arith, omega arith) (omega arith, omega arith) fault-told ended-told [] b).between
