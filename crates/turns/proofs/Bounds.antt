-- Times stay small: no finish is past the load of the tasks placed.
use Prim.Native.Nat.{ℕ, ◌+◌, ◌≤◌, ◌<◌}
use mathlib.Core.Path.{◌≡◌}
use native.Mathlib.Omega.{arith}
use Rattle.sheet.specs.Sheet.{Sheet, task_count, link_count, work_of}
use Rattle.sheet.specs.Tables.{Ranged}
use Rattle.planner.specs.Schedule.{Schedule, latest_start, empty, put}
use Rattle.planner.specs.Placing.{start_on}
use Rattle.planner.proofs.Finishes.{start-early, into-le, finish-le, empty-load, load-small}
use Rattle.arrivals.specs.Lanes.{Early}
use Rattle.arrivals.specs.Steps.{Placeable}
use Rattle.arrivals.proofs.Placing.{free_off}
use Rattle.turns.specs.Turns.{Timely}

pub put-timely : (s : Sheet) (σ : Schedule) (t k a f : ℕ) → Placeable s σ t k → f ≡ start_on s σ t k + work_of s t → Timely s σ → Timely s (put σ t k a f)
put-timely s σ t k a f p e timely = record { early = finish-le s σ t k a f (free_off s σ t k a f p) p.task p.on_long p.on p.finish_long e timely.early }

pub empty-timely : (s : Sheet) → Timely s (empty s)
empty-timely s = record { early = empty-load s }

module _ {s : Sheet} {σ : Schedule} (ranged : Ranged s) (timely : Timely s σ) where
  pub early : Early σ
  early =
      record {
        early =
            λ u. omega (
              arith,
              timely.early u,
              load-small s ranged.few_links (λ l m. omega (arith, ranged.costs l m)) (omega (arith, ranged.unpacks)) ranged.few_tasks (λ t h. omega (arith, ranged.works t h)) σ,
            );
      }

  pub finish-small : (t k : ℕ) {a b : ℕ} → k < 16 → a ≡ start_on s σ t k → b ≡ work_of s t → t < task_count s → a + b ≤ latest_start + 65535
  finish-small t k board ea eb h =
      omega (
        arith,
        start-early s σ t _ early.early k board,
        into-le s ranged.few_links (λ l m. omega (arith, ranged.costs l m)) (omega (arith, ranged.unpacks)) t (link_count s) (omega arith),
        ranged.works t h,
      )
