-- `first` (src/lib.rt) keeps its contract.
use mathlib.Core.Path.{◌∙◌, ap}
use native.Mathlib.Omega.{arith}
use Rattle.sheet.proofs.Rows.{task-index}
use Rattle.adjacency.specs.Chains.{half, head_of}
use Rattle.adjacency.proofs.first.Goals as goal

pub overflow_add-t : goal.overflow_add-t
overflow_add-t c = omega (arith, task-index c.args.w.now c.args.t c.requires.loaded c.requires.t_bound)

pub word-requires : goal.word-requires
word-requires c = omega (arith, task-index c.args.w.now c.args.t c.requires.loaded c.requires.t_bound, c.requires.loaded.long)

pub returns : goal.returns
unfolding head_of
returns c =
    let q = c.half.ensures ∙ ap (half c.args.e) c.word.ensures.0 in
    (q, rw q (c.requires.chained.head_few c.args.t c.requires.t_bound))
