-- `keep_lasts` (src/releases.rt) keeps its contract: its loops.
use Prim.Native.Nat.{◌≤◌}
use lib.ListN.{length}
use Rattle.admission.specs.Notes.{slots_end}
use Rattle.admission.proofs.Keeping.{Keeping}
use Rattle.admission.proofs.releases.keep_lasts.Given as goal

abbrev pub invariant-loop-l : goal.invariant-loop-l
invariant-loop-l l = Keeping l.sheet l.initial.w l.w l.v l.l × (slots_end ≤ length l.initial.w)
