-- `stands` (src/codes.rt) keeps its contract: its loops.
use Prim.Native.Nat.{◌-◌}
use mathlib.Core.Path.{◌≡◌}
use Rattle.least.specs.Written.{among}
use Rattle.search.specs.Codes.{tasks_of}
use Rattle.search.proofs.codes.stands.Given as goal

abbrev pub invariant-loop : goal.invariant-loop
invariant-loop l = among l.t (tasks_of (l.len - l.counter) l.c) ≡ among l.t (tasks_of l.len l.code)
