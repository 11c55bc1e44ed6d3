-- `bundle::values::copy` meets its contract: its loops.
use Prim.Native.Nat.{◌-◌}
use Rattle.bundle_writer.proofs.Copying.{Copying}
use lib.ListN.{length}
use Rattle.bundle_writer.proofs.values.copy.Given as goal

abbrev pub invariant-loop-at : goal.invariant-loop-at
invariant-loop-at l = Copying l.bytes l.initial.out l.out l.end l.at l.i

abbrev pub decreases-loop-at : goal.decreases-loop-at
decreases-loop-at l = length l.bytes - l.at
