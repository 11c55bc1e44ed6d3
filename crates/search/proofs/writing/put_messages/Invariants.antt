-- `put_messages` (src/writing.rt) keeps its contract: its loops.
use Rattle.search.proofs.Fronts.{Passed}
use Rattle.search.proofs.writing.put_messages.Given as goal

abbrev pub invariant-loop-l : goal.invariant-loop-l
invariant-loop-l l = Passed l.sheet l.v l.initial.buf l.e l.start l.part l.len l.t l.l l.buf l.at
