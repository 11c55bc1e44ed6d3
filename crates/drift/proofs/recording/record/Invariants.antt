-- `record` (src/recording.rt) keeps its contract: its loops.
use Prim.Native.Nat.{◌*◌, ◌≤◌}
use Rattle.stepping_machine.proofs.Going.{Rounds}
use Rattle.drift.specs.Recording.{NoteIs}
use Rattle.drift.proofs.recording.record.Given as goal

abbrev pub invariant-loop : goal.invariant-loop
invariant-loop l = (Rounds l.initial.w l.w l.counter) × (l.n ≤ 262144 * l.counter) × NoteIs l.initial.w l.initial.order l.initial.ends 0 l.w l.order l.ends l.n
