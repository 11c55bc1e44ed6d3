-- `run_all` (src/steps.rt) keeps its contract: its loops.
use Prim.Native.Nat.{◌≤◌}
use lib.ListN.{take}
use Rattle.machine.specs.Kept.{RunIs}
use Rattle.stepping_machine.specs.Represents.{Represents}
use Rattle.stepping_machine.proofs.steps.run_all.Given as goal

abbrev pub invariant-loop-choice : goal.invariant-loop-choice
invariant-loop-choice l = (RunIs Represents (take l.choice-index l.choices) l.initial.w l.w l.n) × (l.n ≤ l.choice-index)
