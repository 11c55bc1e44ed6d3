-- Words that are cleared.
use Prim.Native.Nat.{ℕ}
use mathlib.Core.Logic.{inl, inr}
use mathlib.Core.List.{List}
use Rattle.workspace.specs.Area.{ClearIs}
use Rattle.adjacency.specs.Frames.{Only}
use Rattle.arrivals.specs.Steps.{Zero}

pub cleared : {a e : ℕ} {w w' : List ℕ} → ClearIs w w' a e → Only a e w w' × Zero a e w'
cleared c = (record { long = c.long; low = λ i l. c.other i (inl l); high = λ i l. c.other i (inr l) }, record { at = c.zeros })
