-- `put_slots` (src/reports.rt) keeps its contract: its loops.
use mathlib.Core.Path.{◌≡◌}
use lib.ListN.{length}
use Rattle.numbers.specs.Number.{stored}
use Rattle.drift.specs.Reporting.{slot_bytes}
use Rattle.drift.proofs.reports.put_slots.Given as goal

abbrev pub invariant-loop-t : goal.invariant-loop-t
invariant-loop-t l = (length l.out ≡ length l.initial.out) × (l.out ≡ stored l.initial.out 0 (slot_bytes l.slots l.t))
