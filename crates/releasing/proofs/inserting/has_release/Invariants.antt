-- `has_release` (src/inserting.rt) keeps its contract: its loops.
use Prim.Native.Nat.{◌-◌}
use Rattle.releasing.proofs.Finding.{Finding}
use Rattle.releasing.proofs.inserting.has_release.Given as goal

abbrev pub invariant-loop-at : goal.invariant-loop-at
invariant-loop-at l = Finding l.bundle l.at

abbrev pub decreases-loop-at : goal.decreases-loop-at
decreases-loop-at l = l.end - l.at
