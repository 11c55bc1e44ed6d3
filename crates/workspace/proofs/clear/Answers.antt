-- `clear` (src/lib.rt) keeps its contract.
use mathlib.Core.Path.{◌∙◌}
use native.Mathlib.Omega.{arith}
use Rattle.workspace.proofs.Clearing.{cleared-none, cleared-then, cleared-all}
use Rattle.workspace.proofs.clear.Goals as goal

pub loop-work-init : goal.loop-work-init
loop-work-init c = (omega arith, cleared-none _ 0)

pub overflow_sub-work : goal.overflow_sub-work
overflow_sub-work c = omega (arith, c.loop-work.invariant.1.long)

pub clear_words-requires : goal.clear_words-requires
clear_words-requires c = omega (arith, c.loop-work-test.true)

pub clear_used-requires : goal.clear_used-requires
clear_used-requires c = (omega arith, omega (arith, c.loop-work-test.true, c.clear_words.ensures.long))

pub loop-work-preserved : goal.loop-work-preserved
loop-work-preserved c =
    let inv = c.loop-work.invariant in (
      omega (arith, c.loop-work-test.true, inv.1.long),
      cleared-then (omega arith) (omega arith) inv.1 (cleared-then (omega arith) (omega arith) c.clear_words.ensures c.clear_used.ensures),
    )

pub clear_words-requires-2 : goal.clear_words-requires-2
clear_words-requires-2 c = omega arith

pub shape_of-work : goal.shape_of-work
shape_of-work c = c.clear_words-2.ensures.long ∙ c.loop-work.invariant.1.long

pub returns : goal.returns
returns c = let inv = c.loop-work.invariant in cleared-all inv.1.long (cleared-then (omega arith) (omega arith) inv.1 c.clear_words-2.ensures)
