-- An arrangement of tasks as one number: a digit for each task, the newest lowest. A digit is the task's number, and more by `mark` where the task opens a programme.
use Rattle.std.specs.Prelude.{ℕ, zero, suc, ◌+◌, ◌/◌, ◌%◌, ◌<◌, ◌≡◌, List, [], ◌∷◌, ◌++◌, eqb}
use Rattle.folds.specs.Folds.{pick}
use Rattle.least.specs.Least.{opens, joins}
use Rattle.search.specs.declared.codes.Last.{Last}

abbrev pub base : ℕ
base = 16

abbrev pub mark : ℕ
mark = 8

unfoldable pub arranged : ℕ → ℕ → List (List ℕ)
arranged zero c = []
arranged (suc n) c = pick (eqb (c / mark % 2) 1) (opens (arranged n (c / base)) (c % mark)) (joins (arranged n (c / base)) (c % mark))

-- its tasks, the newest first
unfoldable pub tasks_of : ℕ → ℕ → List ℕ
tasks_of zero c = []
tasks_of (suc n) c = c % mark ∷ tasks_of n (c / base)

-- how many programmes it has
unfoldable pub opens_of : ℕ → ℕ → ℕ
opens_of zero c = 0
opens_of (suc n) c = c / mark % 2 + opens_of n (c / base)

-- the first task opens a programme
unfoldable pub Coded : ℕ → ℕ → Type 0
Coded zero c = Unit {0}
Coded (suc n) c = Coded n (c / base) × (0 < c / mark % 2 + opens_of n (c / base))

-- the j newest tasks, the oldest of them first
unfoldable pub order_of : ℕ → ℕ → List ℕ
order_of zero c = []
order_of (suc j) c = order_of j (c / base) ++ (c % mark ∷ [])

-- the last programme: how many tasks it has, and the number without it
unfoldable pub last_length : ℕ → ℕ → ℕ
last_length zero c = 0
last_length (suc n) c = pick (eqb (c / mark % 2) 1) 1 (last_length n (c / base) + 1)

unfoldable pub front_of : ℕ → ℕ → ℕ
front_of zero c = c
front_of (suc n) c = pick (eqb (c / mark % 2) 1) (c / base) (front_of n (c / base))

pub record LastIs (code len : ℕ) (r : Last) : Type 0 where
  pub tasks : r.tasks ≡ last_length len code
  pub front : r.front ≡ front_of len code
