-- `find` (src/search.rt) keeps its contract: its loops.
use Rattle.topological_order.specs.Words.{Outside}
use mathlib.Core.Path.{◌≡◌}
use Rattle.folds.specs.Folds.{first}
use mathlib.Core.Option.{none}
use Rattle.graph.specs.Graph.{on_circle}
use Rattle.sheet.specs.Tables.{sheet_in}
use Rattle.levelling.proofs.search.find.Given as goal

abbrev pub invariant-loop-t : goal.invariant-loop-t
invariant-loop-t l = Outside l.initial.w l.w × (first l.t (on_circle (sheet_in l.initial.w)) ≡ none)
