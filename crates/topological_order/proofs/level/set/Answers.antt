-- `set` (src/level.rt) keeps its contract.
use Prim.Native.Nat.{ℕ, ◌+◌}
use mathlib.Core.Path.{ap, ap₂}
use native.Mathlib.Omega.{arith}
use lib.ListN.{set}
use Rattle.workspace.specs.Area.{levels_at}
use Rattle.topological_order.proofs.Turns.{set-fits}
use Rattle.topological_order.proofs.level.set.Goals as goal

pub work-requires : goal.work-requires
work-requires c = record { loaded = c.requires.held.loaded; t_bound = c.requires.chained.1 }

pub overflow_add-w : goal.overflow_add-w
overflow_add-w c = omega (arith, set-fits c.args.w.now c.args.v c.requires.held c.requires.moderate c.beyond-x.ensures c.work.ensures.1)

pub overflow_cast-w : goal.overflow_cast-w
overflow_cast-w c = omega (arith, set-fits c.args.w.now c.args.v c.requires.held c.requires.moderate c.beyond-x.ensures c.work.ensures.1)

pub overflow_add-w-2 : goal.overflow_add-w-2
overflow_add-w-2 c = omega (arith, c.requires.chained.1, c.requires.held.few_tasks)

pub offset_bounds-w-v : goal.offset_bounds-w-v
offset_bounds-w-v c = omega (arith, c.requires.chained.1, c.requires.held.few_tasks)

pub bounds-w-v : goal.bounds-w-v
bounds-w-v c = omega (arith, c.requires.chained.1, c.requires.held.few_tasks, c.requires.held.long)

pub returns : goal.returns
returns c = ap (λ (x : ℕ). set c.args.w.now (levels_at + c.args.v) x) (ap₂ ◌+◌ c.work.ensures.0 c.beyond-x.ensures)
