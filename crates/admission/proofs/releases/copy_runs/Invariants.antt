-- `copy_runs` (src/releases.rt) keeps its contract: its loops.
use Prim.Native.Nat.{◌≤◌}
use lib.ListN.{length}
use Rattle.admission.specs.Lasts.{CopyIs}
use Rattle.admission.specs.Notes.{slots_end}
use Rattle.admission.proofs.releases.copy_runs.Given as goal

abbrev pub invariant-loop-t : goal.invariant-loop-t
invariant-loop-t l = CopyIs l.initial.w l.w l.t × (l.n ≤ 256) × (slots_end ≤ length l.initial.w)
