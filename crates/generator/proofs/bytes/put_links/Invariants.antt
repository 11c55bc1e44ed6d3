-- `put_links` (src/bytes.rt) keeps its contract: its loops.
use Rattle.std.proofs.Common.{◌≡◌, length}
use Rattle.folds.specs.Folds.{listed}
use Rattle.numbers.specs.Number.{stored}
use Rattle.sheet.specs.Tables.{link_in}
use Rattle.sheet.specs.Writing.{link_bytes}
use Rattle.generator.proofs.bytes.put_links.Given as goal

abbrev pub invariant-loop-l : goal.invariant-loop-l
invariant-loop-l l = (length l.out ≡ length l.initial.out) × (l.out ≡ stored l.initial.out 0 (link_bytes (listed l.l (link_in l.w))))
