-- What the search for circles and levels gives.
use Rattle.std.specs.Prelude.{ℕ, ◌+◌, ◌<◌, true, ◌≡◌, List, get_or}
use Rattle.std.proofs.Math.Option.{none}
use Rattle.workspace.specs.Area.{levels_at, opened_at}
use Rattle.workspace.specs.Found.{found_of}
use Rattle.workspace.specs.Found.{Found}
use Rattle.sheet.specs.Sheet.{Sheet, task_count}
use Rattle.sheet.specs.Tables.{sheet_in}
use Rattle.graph.specs.Graph.{on_circle, circle, level}
use Rattle.adjacency.specs.Chains.{Chained}
use Rattle.adjacency.specs.Frames.{Only}
use Rattle.adjacency.specs.declared.End.TheVariants.{Target}
use Rattle.topological_order.specs.Peeling.{Searched}
use Rattle.std.specs.Prelude.{Some, None}

-- what the search leaves where there is no circle: the level of each task, and the chains of the links into it
pub record Levelled (s : Sheet) (w : List ℕ) : Type 0 where
  pub inward : Chained Target s w
  pub levels : (t : ℕ) → t < task_count s → get_or w (levels_at + t) 0 ≡ level s t

-- the answer for the sheet that stands in w, the levels where there is no circle, and all else as it was
pub record LevelsAre (w w' : List ℕ) (r : Found) : Type 0 where
  pub answer : found_of r ≡ circle (sheet_in w)
  pub levels : circle (sheet_in w) ≡ none → Levelled (sheet_in w) w'
  pub kept : Only levels_at opened_at w w'

-- after the links into one more task of the search, of which i are looked at: none where a circle through the goal was closed
pub record SpreadIs (s : Sheet) (goal i : ℕ) (w : List ℕ) (r : Found) : Type 0 where
  pub back : r ≡ None → on_circle s goal ≡ true
  pub on : (k : ℕ) → r ≡ Some k → Searched s goal i k w
