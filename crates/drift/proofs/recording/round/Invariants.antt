-- `round` (src/recording.rt) keeps its contract: its loops.
use Prim.Native.Nat.{◌+◌, ◌≤◌}
use Rattle.stepping_machine.proofs.Going.{Rounding}
use Rattle.drift.specs.Recording.{NoteIs}
use Rattle.drift.proofs.recording.round.Given as goal

abbrev pub invariant-loop-k : goal.invariant-loop-k
invariant-loop-k l = (Rounding l.initial.w l.w l.k l.m) × (l.count ≤ 16) × NoteIs l.initial.w l.initial.order l.initial.ends l.n l.w l.order l.ends (l.n + l.m)
