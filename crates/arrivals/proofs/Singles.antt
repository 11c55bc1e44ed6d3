-- No link stands twice in a sheet that is read.
use Prim.Native.Nat.{ℕ}
use mathlib.Core.Path.{◌≡◌}
use mathlib.Core.List.{List}
use Rattle.folds.specs.Answers.{value}
use Rattle.sheet.specs.Sheet.{Sheet}
use Rattle.graph.specs.Graph.{read_sheet}
use Rattle.graph.proofs.Proper.{proper}
use Rattle.arrivals.specs.Kept.{Single}

pub read-single : (b : List ℕ) (s : Sheet) → read_sheet b ≡ value s → Single s
read-single b s e = record { once = (proper b s e).form.single }
