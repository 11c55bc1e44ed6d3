-- Which of two bundles is handed back, and how.
use Rattle.std.specs.Prelude.{ℕ, ◌≡◌, List, [], length}
use Rattle.std.proofs.Math.Option.{Option, none, some}
use Rattle.std.specs.Borrow.{Bor}
use Rattle.folds.specs.Answers.{Answer, value, refused, and_then, long_enough, number, place_or, cleared}
use Rattle.workspace.specs.Area.{fixed}
use Rattle.graph.specs.Graph.{read_sheet}
use Rattle.better.specs.Orders.{Rank, by_rank}
use Rattle.better.specs.Ranks.{rank_of}
use Rattle.std.specs.declared.cmp.Ordering.{Ordering}
use Rattle.std.specs.declared.cmp.Ordering.TheVariants.{Less, Equal, Greater}

-- the bundle that was lent first, or the one that was lent second
pub data Side : Type 0 where
  firstLent secondLent : Side

abbrev pub of_side : {X : Type 0} → X → X → Side → X
of_side x y firstLent = x
of_side x y secondLent = y

-- "equal bundles give the first lent"
abbrev pub ahead : Ordering → Side
ahead Less = firstLent
ahead Equal = firstLent
ahead Greater = secondLent

-- the better of two things, by an order of them; and of two ranks
abbrev pub chosen_by : {A : Type 0} → (A → A → Ordering) → A → A → A
chosen_by order a b = of_side a b (ahead (order a b))

abbrev pub chosen : Rank → Rank → Rank
chosen = chosen_by by_rank

-- "accepted before refused", and 34 "when both are refused, place 0"
abbrev pub choice : Option Rank → Option Rank → Answer Side
choice none none = refused 34 0
choice (some a) none = value firstLent
choice none (some b) = value secondLent
choice (some a) (some b) = value (ahead (by_rank a b))

-- of the bytes of a sheet and of two bundles: "after all sheet refusals"
unfoldable pub better : List ℕ → List ℕ → List ℕ → Answer Side
better sheet first second = and_then (read_sheet sheet) (λ s. choice (rank_of sheet first) (rank_of sheet second))

-- of the same bytes, with a work area of so many words
unfoldable pub better_answer : List ℕ → List ℕ → List ℕ → ℕ → Answer Side
better_answer sheet first second work = long_enough fixed work (better sheet first second)

-- "as the caller's own bytes and not a copy": the very reference that was lent, its address and its length; "a refusal hands back the empty front of the first": its
-- address, and no byte
abbrev pub Handed : Bor (List ℕ) → Bor (List ℕ) → Answer Side → Bor (List ℕ) → Type 0
Handed first second (value x) r = r ≡ of_side first second x
Handed first second (refused n at) r = (r.ref_ptr ≡ first.ref_ptr) × (r.now ≡ [])

-- the number n, the place p, which is the length of what is handed back, the work area afterwards, and what is handed back
pub record BetterIs (sheet : List ℕ) (first second : Bor (List ℕ)) (work work' : List ℕ) (n p : ℕ) (r : Bor (List ℕ)) : Type 0 where
  pub returns : n ≡ number (better_answer sheet first.now second.now (length work))
  pub place : p ≡ place_or (of_side (length first.now) (length second.now)) (better_answer sheet first.now second.now (length work))
  pub area : work' ≡ cleared fixed work
  pub handed : Handed first second (better_answer sheet first.now second.now (length work)) r
