-- `links` (src/unload.rt) keeps its contract: its loops.
use Rattle.folds.specs.Folds.{listed}
use Rattle.numbers.specs.Number.{stored}
use Rattle.sheet.specs.Tables.{link_in}
use Rattle.sheet.specs.Writing.{link_values}
use lib.ListN.{length}
use mathlib.Core.Path.{◌≡◌}
use Rattle.sheet_writer.proofs.unload.links.Given as goal

abbrev pub invariant-loop-l : goal.invariant-loop-l
invariant-loop-l l = (length l.out ≡ length l.initial.out) × (l.out ≡ stored l.initial.out 0 (link_values (listed l.l (link_in l.w))))
