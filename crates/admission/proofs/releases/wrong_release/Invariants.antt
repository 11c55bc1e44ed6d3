-- `wrong_release` (src/releases.rt) keeps its contract: its loops. `g` is the loop, `z` its size.
use Prim.Native.Nat.{◌-◌}
use Rattle.admission.proofs.Freeing.{Freeing}
use Rattle.admission.proofs.releases.wrong_release.Given as goal

abbrev pub invariant-loop-at : goal.invariant-loop-at
invariant-loop-at l = Freeing l.bundle l.initial.w l.w l.at l.k l.r

abbrev pub decreases-loop-at : goal.decreases-loop-at
decreases-loop-at l = l.end - l.at
