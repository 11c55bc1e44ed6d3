-- `copy` (src/laying.rt) keeps its contract: its loops.
use Prim.Native.Nat.{◌+◌}
use mathlib.Core.Path.{◌≡◌}
use Rattle.releasing.specs.Inserting.{Lay, part}
use Rattle.releasing.proofs.laying.copy.Given as goal

abbrev pub invariant-loop-i : goal.invariant-loop-i
invariant-loop-i l = (l.at + l.from ≡ l.start + l.i) × Lay l.initial.out l.start (part l.bundle l.from l.i) l.out l.at
