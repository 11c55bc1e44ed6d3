-- `note_all` (src/notes.rt) keeps its contract: its loops.
use Prim.Native.Nat.{◌-◌}
use Rattle.admission.proofs.Noted.{Noting}
use Rattle.admission.proofs.notes.note_all.Given as goal

abbrev pub invariant-loop-at : goal.invariant-loop-at
invariant-loop-at l = Noting l.n l.l l.bundle l.initial.w l.w l.at l.k l.r

abbrev pub decreases-loop-at : goal.decreases-loop-at
decreases-loop-at l = l.end - l.at
