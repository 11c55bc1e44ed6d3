-- `trace_all` (src/tracing.rt) keeps its contract: its loops.
use Rattle.drift.proofs.Backwards.{Tracing}
use Rattle.drift.proofs.tracing.trace_all.Given as goal

abbrev pub invariant-loop-i : goal.invariant-loop-i
invariant-loop-i l = Tracing l.initial.w l.order l.initial.slots l.w l.slots l.n l.i l.claim
