-- `bundle_reader::bytes::read` meets its contract: its loops.
use Prim.Native.Nat.{◌-◌, ◌<◌}
use Rattle.bundle_reader.proofs.Scans.{Scan}
use lib.ListN.{length}
use Rattle.bundle_reader.proofs.bytes.read.Given as goal

abbrev pub invariant-loop-size : goal.invariant-loop-size
invariant-loop-size l = Scan l.bytes l.processors l.tasks l.links l.initial.words l.words l.opened l.commands l.at × (l.processors < length l.initial.words)

abbrev pub decreases-loop-size : goal.decreases-loop-size
decreases-loop-size l = length l.bytes - l.at
