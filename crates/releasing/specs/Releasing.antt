-- The pass that gives back store: each release at its earliest right position, results before messages, both in rising number.
use Rattle.std.specs.Prelude.{ℕ, suc, Bool, false, List, [], ◌∷◌, ◌++◌, map, length, take, drop, eqb}
use Rattle.std.proofs.Math.Option.{Option, none, some}
use Rattle.folds.specs.Folds.{pick, first, gather}
use Rattle.folds.specs.Answers.{Answer, value, and_then}
use Rattle.sheet.specs.Sheet.{Sheet, task_count, link_count}
use Rattle.bundle.specs.Bundle.{Command, release, discard, Bundle}
use Rattle.admission.specs.Counting.{whole}
use Rattle.admission.specs.Releases.{frees, right}
use Rattle.checker.specs.Checker.{checked}

-- x would be right behind the first i commands of p
unfoldable pub right_at : Sheet → List Command → Command → ℕ → Bool
right_at s p x i = right s (take i p) x (drop i p)

-- "at its earliest right position"
unfoldable pub earliest : Sheet → List Command → Command → Option ℕ
earliest s p x = first (suc (length p)) (right_at s p x)

abbrev pub is_at : Option ℕ → ℕ → Bool
is_at none i = false
is_at (some j) i = eqb j i

-- x, if its release belongs behind the first i commands of p
unfoldable pub due_at : Sheet → List Command → ℕ → Command → List Command
due_at s p i x = pick (is_at (earliest s p x) i) (x ∷ []) []

-- "results before messages, both in rising number"
unfoldable pub releases_at : Sheet → List Command → ℕ → List Command
releases_at s p i = gather (task_count s) (λ t. due_at s p i (release t)) ++ gather (link_count s) (λ l. due_at s p i (discard l))

-- the commands r of p that follow the first i, with the releases behind each; and all of p
abbrev pub rest_with : (ℕ → List Command) → ℕ → List Command → List Command
rest_with f i [] = []
rest_with f i (c ∷ r) = c ∷ (f (suc i) ++ rest_with f (suc i) r)

unfoldable pub released : Sheet → List Command → List Command
released s p = releases_at s p 0 ++ rest_with (releases_at s p) 0 p

-- of a bundle: "one that already has releases comes out as it went in"
unfoldable pub releasing : Sheet → Bundle → Bundle
releasing s b = pick (eqb (whole b frees) 0) (record { programmes = map (released s) b.programmes; claim = b.claim }) b

-- "a refused one gets the checker's refusal"
unfoldable pub passed : Sheet → Bundle → Answer Bundle
passed s b = and_then (checked s b) (λ a. value (releasing s a))
