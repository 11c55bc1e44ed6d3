-- The form of a sheet is refused with 1 to 8.
use Prim.Native.Nat.{ℕ, ◌+◌, ◌≤◌}
use mathlib.Core.Bool.{Bool, true, false}
use mathlib.Core.Option.{some}
use mathlib.Core.Path.{◌≡◌}
use mathlib.Core.List.{List, [], ◌∷◌}
use mathlib.Core.Bool.{not}
use native.Mathlib.Omega.{arith}
use lib.ListN.{length}
use lib.Dec.{ltb}
use Rattle.folds.specs.Folds.{pick}
use Rattle.folds.specs.Answers.{value, refused}
use Rattle.folds.proofs.Firsts.{first_of-between}
use Rattle.commands.proofs.Reading.{Told, told-value, told-refused, reads-told}
use Rattle.sheet.specs.Format.{Kind, width, Progress, fresh, in_turn, full, out_of_range, loose, doubled, fault, ended, sheet_format, read_form}

fault-told : (p : Progress) (k : Kind) (b : List ℕ) (r : ℕ) → fault p k b ≡ some r → (1 ≤ r) × (r ≤ 8)
unfolding fault
fault-told p k b r =
    first_of-between 1 8 r
    ((not (in_turn p k), 3) ∷
    (ltb (length b) (width k), 1) ∷
    (full p.sheet k, 5) ∷ (out_of_range k b, 6) ∷ (loose p.sheet k b, 7) ∷ (doubled p.sheet k b, 8) ∷ [])
    ((omega arith, omega arith), ((omega arith, omega arith), ((omega arith, omega arith), ((omega arith, omega arith), ((omega arith, omega arith), ((omega arith, omega arith), tt))))))

ended-told : (p : Progress) (e : ℕ) (b : List ℕ) → Told 1 8 (ended p e b)
unfolding ended
ended-told p e b = by (ltb 0 (length b))
  where
    by : (x : Bool) → Told 1 8 (pick x (refused 4 (e + 1)) (value p.sheet))
    by true = told-refused 1 8 4 (e + 1) (omega arith, omega arith)
    by false = told-value 1 8 p.sheet

pub form-numbered : (b : List ℕ) (n at : ℕ) → read_form b ≡ refused n at → (1 ≤ n) × (n ≤ 8)
unfolding read_form
form-numbered b = (reads-told sheet_format 1 8 (omega arith, omega arith) (omega arith, omega arith) fault-told ended-told fresh b).between
