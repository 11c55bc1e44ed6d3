-- `write_link` (src/lib.rt) keeps its contract.
use native.Mathlib.Omega.{arith}
use Rattle.arrivals.specs.Steps.{count_words}
use lib.ListN.{length-set}
use mathlib.Core.Path.{refl}
use Rattle.arrivals.proofs.write_link.Goals as goal

pub bounds-kept-v-2 : goal.bounds-kept-v-2
bounds-kept-v-2 c = simp length-set (omega arith)

pub bounds-kept-v-3 : goal.bounds-kept-v-3
bounds-kept-v-3 c = simp length-set (omega arith)

pub bounds-kept-k : goal.bounds-kept-k
bounds-kept-k c = simp length-set (omega arith)

pub bounds-kept-v-4 : goal.bounds-kept-v-4
bounds-kept-v-4 c = simp length-set (omega arith)

pub shape_of-kept : goal.shape_of-kept
shape_of-kept c = simp length-set

pub returns : goal.returns
unfolding count_words
returns c = refl
