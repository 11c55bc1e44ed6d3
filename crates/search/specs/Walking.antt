-- What is carried along the search of an arrangement that is begun, and the tests by which a branch is left out.
use Rattle.std.specs.Prelude.{ℕ, ◌+◌, ◌*◌, ◌^◌, ◌≤◌, ◌<◌, Bool, false, ◌≡◌, List, [], ◌∷◌, length, ltb, Some, None}
use Rattle.std.specs.Prelude.{Option as Maybe}
use Rattle.folds.specs.Folds.{pick, both, any}
use Rattle.sheet.specs.Sheet.{Sheet, link_count, work_of, store_of}
use Rattle.admission.specs.Fields.{Known, Seen}
use Rattle.admission.specs.declared.view.View.{View}
use Rattle.stepping_machine.specs.Layout.{extent}
use Rattle.least.specs.Heads.{head_of, receives, head_key}
use Rattle.least.specs.Least.{opens, joins, most}
use Rattle.least.specs.Pruned.{last_of, total, feeds, may_open, may_join, looked_from}
use Rattle.search.specs.Codes.{base, mark, arranged, tasks_of, opens_of, Coded, last_length}
use Rattle.search.specs.Laying.{most_links, room, Small}
use Rattle.search.specs.declared.walking.Begun.{Begun}
use Rattle.search.specs.declared.choosing.Best.{Best}

-- what every part of the search is lent: the sheet's bytes, words for the checker, and room for two bundles
pub record Ready (sheet w buf other : List ℕ) (v : View) : Type 0 where
  pub seen : Seen sheet v
  pub small : Small v
  pub area : extent ≤ length w
  pub first : room ≤ length buf
  pub second : room ≤ length other

-- a work or a store
abbrev pub most_load : ℕ
most_load = 65535

-- numbers of a sheet that is seen by v
pub record LoadIs (f : Sheet → ℕ → ℕ) (sheet : List ℕ) (v : View) (t r : ℕ) : Type 0 where
  pub few : r ≤ most_load
  pub is : (s : Sheet) → Known s sheet v → r ≡ f s t

pub record KeyIs (sheet : List ℕ) (v : View) (t r : ℕ) : Type 0 where
  pub few : r < receives + most_links
  pub is : (s : Sheet) → Known s sheet v → r ≡ head_key s t

pub record FeedIs (sheet : List ℕ) (v : View) (code own t l : ℕ) (r : Bool) : Type 0 where
  pub is : (s : Sheet) → Known s sheet v → r ≡ feeds s t (tasks_of own code) l

pub record FeedsIs (sheet : List ℕ) (v : View) (code own t : ℕ) (r : Bool) : Type 0 where
  pub is : (s : Sheet) → Known s sheet v → r ≡ any (link_count s) (feeds s t (tasks_of own code))

-- the least key of a programme behind those of an arrangement
unfoldable pub floor_of : Sheet → List (List ℕ) → ℕ
floor_of s [] = 0
floor_of s (ts ∷ a) = head_key s (head_of (last_of (ts ∷ a))) + 1

-- the arrangement that is begun
abbrev pub begun : Begun → List (List ℕ)
begun b = arranged b.tasks b.code

-- of its last programme: how many tasks it has, and their stores and works
pub record Begins (sheet : List ℕ) (v : View) (b : Begun) : Type 0 where
  pub few : b.tasks ≤ most
  pub coded : Coded b.tasks b.code
  pub small : b.code < base ^ b.tasks
  pub programmes : b.programmes ≡ opens_of b.tasks b.code
  pub own : b.own ≡ last_length b.tasks b.code
  pub low : b.floor ≤ receives + most_links
  pub light : b.store ≤ most_load * b.tasks
  pub short : b.work ≤ most_load * b.tasks
  pub floor : (s : Sheet) → Known s sheet v → b.floor ≡ floor_of s (begun b)
  pub store : (s : Sheet) → Known s sheet v → b.store ≡ total (store_of s) (last_of (begun b))
  pub work : (s : Sheet) → Known s sheet v → b.work ≡ total (work_of s) (last_of (begun b))

-- b with t as the next task: in a programme of its own, or at the end of the last one
pub record OpenedIs (sheet : List ℕ) (v : View) (b : Begun) (t : ℕ) (r : Begun) : Type 0 where
  pub begins : Begins sheet v r
  pub more : r.tasks ≡ b.tasks + 1
  pub code : r.code ≡ b.code * base + mark + t

pub record JoinedIs (sheet : List ℕ) (v : View) (b : Begun) (t : ℕ) (r : Begun) : Type 0 where
  pub begins : Begins sheet v r
  pub more : r.tasks ≡ b.tasks + 1
  pub code : r.code ≡ b.code * base + t

-- whether these are looked at
abbrev pub opens_right : Sheet → List (List ℕ) → ℕ → Bool
opens_right s a t = both (ltb (length a) s.processors) (may_open s a t)

abbrev pub joins_right : Sheet → List (List ℕ) → ℕ → Bool
joins_right s a t = both (ltb 0 (length a)) (may_join s a t)

pub record TestIs (f : Sheet → List (List ℕ) → ℕ → Bool) (sheet : List ℕ) (v : View) (b : Begun) (t : ℕ) (r : Bool) : Type 0 where
  pub is : (s : Sheet) → Known s sheet v → r ≡ f s (begun b) t

-- the candidates behind them, with m more tasks
unfoldable pub opened_from : Sheet → ℕ → List (List ℕ) → ℕ → List (List (List ℕ))
opened_from s m a t = pick (opens_right s a t) (looked_from s m (opens a t)) []

unfoldable pub joined_from : Sheet → ℕ → List (List ℕ) → ℕ → List (List (List ℕ))
joined_from s m a t = pick (joins_right s a t) (looked_from s m (joins a t)) []

-- what is kept claims less than so much work takes
abbrev pub is_late : Maybe Best → ℕ → Bool
is_late None work = false
is_late (Some b) work = ltb b.claim work

pub record LateIs (best : Maybe Best) (work : ℕ) (r : Bool) : Type 0 where
  pub is : r ≡ is_late best work
