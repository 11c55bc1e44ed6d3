-- `chain_all` (src/lib.rt) keeps its contract: its loops.
use Rattle.adjacency.specs.Chains.{ChainedFrom, Rechained}
use Prim.Native.Nat.{◌≤◌}
use Rattle.sheet.specs.Sheet.{link_count}
use Rattle.sheet.specs.Tables.{sheet_in}
use Rattle.adjacency.proofs.chain_all.Given as goal

abbrev pub invariant-loop-l : goal.invariant-loop-l
invariant-loop-l l = (l.l ≤ link_count (sheet_in l.initial.w)) × Rechained l.e l.initial.w l.w × ChainedFrom l.e (sheet_in l.initial.w) l.l l.w
