-- `advance` (src/recording.rt) keeps its contract: its loops.
use Prim.Native.Nat.{◌+◌}
use Rattle.stepping_machine.proofs.Going.{Advancing}
use Rattle.drift.specs.Recording.{NoteIs}
use Rattle.drift.proofs.recording.advance.Given as goal

abbrev pub invariant-loop-m : goal.invariant-loop-m
invariant-loop-m l = (Advancing l.initial.w l.w l.m) × NoteIs l.initial.w l.initial.order l.initial.ends l.n l.w l.order l.ends (l.n + l.m)
