-- `unchain` (src/lib.rt) keeps its contract: its loops.
use Rattle.adjacency.specs.Chains.{Rechained}
use Rattle.adjacency.proofs.Building.{Headed}
use Rattle.adjacency.proofs.unchain.Given as goal

abbrev pub invariant-loop-t : goal.invariant-loop-t
invariant-loop-t l = Rechained l.e l.initial.w l.w × Headed l.e l.m l.t l.w
