-- The least time for small sheets: the best of all arrangements that are accepted.
use Rattle.std.specs.Prelude.{ℕ, zero, suc, ◌-◌, Bool, true, false, ◌≡◌, ◌⊎◌, List, [], ◌∷◌, ◌++◌, length, ltb}
use Rattle.std.proofs.Math.Option.{Option, none, some}
use Rattle.folds.specs.Folds.{pick, either, gather}
use Rattle.folds.specs.Answers.{Answer, value, refused, and_then}
use Rattle.sheet.specs.Sheet.{Sheet, task_count}
use Rattle.graph.specs.Graph.{read_sheet}
use Rattle.bundle.specs.Bundle.{Bundle}
use Rattle.bundle.specs.Writing.{bundle_bytes}
use Rattle.machine.specs.Runs.{settled, latest}
use Rattle.checker.specs.Checker.{checked}
use Rattle.least.specs.Written.{among, programmes_in}
use Rattle.least.specs.Ranking.{choice}

-- an arrangement with t in a programme of its own, and at the end of the last one
unfoldable pub opens : List (List ℕ) → ℕ → List (List ℕ)
opens a t = a ++ (t ∷ []) ∷ []

unfoldable pub joins : List (List ℕ) → ℕ → List (List ℕ)
joins [] t = []
joins (ts ∷ []) t = (ts ++ t ∷ []) ∷ []
joins (ts ∷ us ∷ a) t = ts ∷ joins (us ∷ a) t

unfoldable pub among_all : ℕ → List (List ℕ) → Bool
among_all t [] = false
among_all t (ts ∷ a) = either (among t ts) (among_all t a)

-- p processors, n tasks: what m more tasks can make of the arrangement a
module _ (p n : ℕ) where
  unfoldable pub extended : (List (List ℕ) → List (List (List ℕ))) → List (List ℕ) → ℕ → List (List (List ℕ))
  extended more a t =
      pick (among_all t a) []
      (pick (ltb (length a) p) (more (opens a t)) [] ++ pick (ltb 0 (length a)) (more (joins a t)) [])

  unfoldable pub completions : ℕ → List (List ℕ) → List (List (List ℕ))
  completions zero a = a ∷ []
  completions (suc m) a = gather n (extended (completions m) a)

unfoldable pub candidates : Sheet → List (List (List ℕ))
candidates s = completions s.processors (task_count s) (task_count s) []

-- x is one of a list
abbrev pub In : {A : Type 0} → A → List A → Type 0
In x [] = ⊥
In x (y ∷ ys) = (x ≡ y) ⊎ In x ys

-- the bundle of an arrangement, claiming its latest clock
abbrev pub unclaimed : Sheet → List (List ℕ) → Bundle
unclaimed s a = record { programmes = programmes_in s a; claim = 0 }

unfoldable pub bundle_in : Sheet → List (List ℕ) → Bundle
bundle_in s a = record { programmes = programmes_in s a; claim = latest (settled s (unclaimed s a)) }

abbrev pub is_value : {A : Type 0} → Answer A → Bool
is_value (value a) = true
is_value (refused n at) = false

-- the better of what was found and an accepted bundle
abbrev pub better : Option Bundle → Bundle → Option Bundle
better none b = some b
better (some a) b = some (choice a b)

unfoldable pub consider : Sheet → Option Bundle → List (List ℕ) → Option Bundle
consider s o a = pick (is_value (checked s (bundle_in s a))) (better o (bundle_in s a)) o

unfoldable pub best_from : Sheet → List (List (List ℕ)) → Option Bundle → Option Bundle
best_from s [] o = o
best_from s (a ∷ more) o = best_from s more (consider s o a)

unfoldable pub best : Sheet → Option Bundle
best s = best_from s (candidates s) none

-- "for up to six tasks"
abbrev pub most : ℕ
most = 6

-- 11 if no candidate is accepted, with the last task as place; or the bytes
abbrev pub best_or11 : Sheet → Option Bundle → Answer (List ℕ)
best_or11 s none = refused 11 (task_count s - 1)
best_or11 s (some b) = value (bundle_bytes b)

-- "38 for a seventh task or a sheet with `48`, place the task count"
unfoldable pub least_time : Sheet → Answer (List ℕ)
least_time s = pick (either (ltb most (task_count s)) s.cube) (refused 38 (task_count s)) (best_or11 s (best s))

-- of the bytes of a sheet
unfoldable pub least_bundle : List ℕ → Answer (List ℕ)
least_bundle sheet = and_then (read_sheet sheet) least_time
