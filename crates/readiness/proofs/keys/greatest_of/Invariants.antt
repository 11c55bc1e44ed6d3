-- `greatest_of` (src/lib.rt) keeps its contract: its loops.
use Prim.Native.Nat.{◌+◌}
use mathlib.Core.Path.{◌≡◌}
use Rattle.folds.specs.Folds.{greatest}
use Rattle.readiness.specs.Keys.{key_by}
use Rattle.readiness.proofs.keys.greatest_of.Given as goal

abbrev pub invariant-loop-i : goal.invariant-loop-i
invariant-loop-i l = (l.a ≡ greatest l.i (key_by l.q l.at)) × (l.b ≡ greatest l.i (key_by l.q (l.at + 4))) × (l.c ≡ greatest l.i (key_by l.q (l.at + 8))) × (l.d ≡ greatest l.i (key_by l.q (l.at + 12)))
