-- `put_programmes` (src/writing.rt) keeps its contract.
use Prim.Native.Nat.{ℕ}
use mathlib.Core.Path.{ap}
use lib.ListN.{replicate}
use Rattle.plan_writer.proofs.writing.put_programmes.Goals as goal

pub queue_all-requires : goal.queue_all-requires
queue_all-requires c = record { scheduled = c.requires.scheduled; queues_value = ap (λ (x : ℕ). replicate 272 x) (c.placed-none.ensures.0) }
