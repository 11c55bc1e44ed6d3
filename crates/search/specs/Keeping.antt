-- What is kept of the best arrangement found so far, and what a part of the search makes of it.
use Rattle.std.specs.Prelude.{ℕ, true, ◌≡◌, List, Some, None}
use Rattle.std.specs.Prelude.{Option as Maybe}
use Rattle.std.proofs.Math.Option.{Option, none, some}
use Rattle.sheet.specs.Sheet.{Sheet}
use Rattle.bundle.specs.Bundle.{Bundle}
use Rattle.admission.specs.declared.view.View.{View}
use Rattle.checker.specs.Checker.{checked}
use Rattle.std.specs.declared.cmp.Ordering.{Ordering}
use Rattle.least.specs.Ranking.{order, choice}
use Rattle.least.specs.Least.{In, candidates, bundle_in, is_value, best_from}
use Rattle.search.specs.Codes.{arranged, opens_of, Coded}
use Rattle.search.specs.Judging.{Sought}
use Rattle.search.specs.declared.choosing.Best.{Best}

-- b keeps the candidate whose bundle is a, and that is accepted
pub record Keeps (s : Sheet) (v : View) (b : Best) (a : Bundle) : Type 0 where
  pub candidate : In (arranged v.tasks b.code) (candidates s)
  pub accepted : is_value (checked s (bundle_in s (arranged v.tasks b.code))) ≡ true
  pub is : a ≡ bundle_in s (arranged v.tasks b.code)
  pub claim : b.claim ≡ a.claim
  pub programmes : b.programmes ≡ opens_of v.tasks b.code

-- or nothing, where none was found
abbrev pub KeepsOf : Sheet → View → Maybe Best → Option Bundle → Type 0
KeepsOf s v None none = Unit {0}
KeepsOf s v None (some a) = ⊥
KeepsOf s v (Some b) none = ⊥
KeepsOf s v (Some b) (some a) = Keeps s v b a

-- what is kept can be written
pub record Right (v : View) (o : Maybe Best) : Type 0 where
  pub coded : (b : Best) → o ≡ Some b → Coded v.tasks b.code

-- the order of two that were found, and the better of them
pub record OrderIs (sheet : List ℕ) (v : View) (a b : Best) (r : Ordering) : Type 0 where
  pub is : (s : Sheet) → Sought s sheet v → (x y : Bundle) → Keeps s v a x → Keeps s v b y → r ≡ order x y

pub record ChoiceIs (sheet : List ℕ) (v : View) (a b r : Best) : Type 0 where
  pub coded : Coded v.tasks r.code
  pub is : (s : Sheet) → Sought s sheet v → (x y : Bundle) → Keeps s v a x → Keeps s v b y → Keeps s v r (choice x y)

-- whatever b keeps, r keeps the best of it and of the candidates cs
pub record FoldIs (sheet : List ℕ) (v : View) (cs : Sheet → List (List (List ℕ))) (b r : Maybe Best) : Type 0 where
  pub right : Right v r
  pub is : (s : Sheet) → Sought s sheet v → ((x : List (List ℕ)) → In x (cs s) → In x (candidates s)) → (o : Option Bundle) → KeepsOf s v b o → KeepsOf s v r (best_from s (cs s) o)
