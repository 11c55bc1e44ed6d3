-- `refusal` (src/writer.rt) keeps its contract: its loops.
use Prim.Native.Nat.{◌*◌}
use Rattle.bundle_writer.specs.Judges.{Judges}
use Rattle.bundle_writer.proofs.writer.refusal.Given as goal

abbrev pub invariant-loop-k : goal.invariant-loop-k
invariant-loop-k l = Judges l.commands l.processors l.tasks l.links l.spot.opened l.spot.at (2 * l.k)
