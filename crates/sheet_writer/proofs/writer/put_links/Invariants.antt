-- `put_links` (src/writer.rt) keeps its contract: its loops.
use Rattle.sheet.specs.Writing.{link_value}
use Rattle.sheet.specs.Writing.{link_bytes}
use Rattle.folds.specs.Folds.{listed}
use Rattle.numbers.specs.Number.{stored}
use lib.ListN.{length}
use mathlib.Core.Path.{◌≡◌}
use Rattle.sheet_writer.proofs.writer.put_links.Given as goal

abbrev pub invariant-loop-j : goal.invariant-loop-j
invariant-loop-j l = (length l.out ≡ length l.initial.out) × (l.out ≡ stored l.initial.out 0 (link_bytes (listed l.j (link_value l.links))))
