-- `bundle::writer::put` meets its contract: its loops.
use Prim.Native.Nat.{◌*◌}
use Rattle.bundle_writer.proofs.Plain.{Putting}
use Rattle.bundle_writer.proofs.writer.put.Given as goal

abbrev pub invariant-loop-j : goal.invariant-loop-j
invariant-loop-j l = Putting l.commands l.claim l.initial.out l.out l.at (2 * l.j)
