-- The candidates that the code looks at: branches of `completions` that cannot hold an accepted rising arrangement are left out.
use Rattle.std.specs.Prelude.{ℕ, zero, suc, ◌+◌, Bool, true, not, List, [], ◌∷◌, ◌++◌, length, ltb, leb, eqb}
use Rattle.folds.specs.Folds.{pick, both, any, gather}
use Rattle.sheet.specs.Sheet.{Sheet, task_count, link_count, source_of, target_of, store_of}
use Rattle.least.specs.Written.{among}
use Rattle.least.specs.Ranking.{lower}
use Rattle.least.specs.Heads.{head_bytes, head_of}
use Rattle.least.specs.Least.{opens, joins, among_all}

module _ (p n : ℕ) (okOpen okJoin : List (List ℕ) → ℕ → Bool) where
  unfoldable pub pruned_at : (List (List ℕ) → List (List (List ℕ))) → List (List ℕ) → ℕ → List (List (List ℕ))
  pruned_at more a t =
      pick (among_all t a) []
      (pick (both (ltb (length a) p) (okOpen a t)) (more (opens a t)) [] ++ pick (both (ltb 0 (length a)) (okJoin a t)) (more (joins a t)) [])

  unfoldable pub pruned : ℕ → List (List ℕ) → List (List (List ℕ))
  pruned zero a = a ∷ []
  pruned (suc m) a = gather n (pruned_at (pruned m) a)

unfoldable pub last_of : List (List ℕ) → List ℕ
last_of [] = []
last_of (ts ∷ []) = ts
last_of (ts ∷ us ∷ a) = last_of (us ∷ a)

-- the sum of f over tasks
unfoldable pub total : (ℕ → ℕ) → List ℕ → ℕ
total f [] = 0
total f (t ∷ ts) = f t + total f ts

module _ (s : Sheet) where
  -- a programme that t opens begins later than the last one
  abbrev pub heads_rise : List (List ℕ) → ℕ → Bool
  heads_rise [] t = true
  heads_rise (ts ∷ a) t = lower (head_bytes s (head_of (last_of (ts ∷ a)))) (head_bytes s t)

  abbrev pub feeds : ℕ → List ℕ → ℕ → Bool
  feeds t ts l = both (eqb (source_of s l) t) (among (target_of s l) ts)

  -- no link leads from t back into the last programme
  abbrev pub in_order : List (List ℕ) → ℕ → Bool
  in_order a t = not (any (link_count s) (feeds t (last_of a)))

  abbrev pub store_fits : List ℕ → Bool
  store_fits ts = leb (total (store_of s) ts) s.limit

  unfoldable pub may_open : List (List ℕ) → ℕ → Bool
  may_open a t = both (heads_rise a t) (store_fits (t ∷ []))

  unfoldable pub may_join : List (List ℕ) → ℕ → Bool
  may_join a t = both (in_order a t) (store_fits (last_of a ++ t ∷ []))

-- what m more tasks can make of the arrangement a, and with t as the next of them; all that is looked at
unfoldable pub looked_from : Sheet → ℕ → List (List ℕ) → List (List (List ℕ))
looked_from s m a = pruned s.processors (task_count s) (may_open s) (may_join s) m a

unfoldable pub looked_at : Sheet → ℕ → List (List ℕ) → ℕ → List (List (List ℕ))
looked_at s m a t = pruned_at s.processors (task_count s) (may_open s) (may_join s) (looked_from s m) a t

unfoldable pub looked : Sheet → List (List (List ℕ))
looked s = looked_from s (task_count s) []
