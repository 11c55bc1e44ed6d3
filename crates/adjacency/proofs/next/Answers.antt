-- `next` (src/lib.rt) keeps its contract.
use mathlib.Core.Path.{◌∙◌, ap}
use native.Mathlib.Omega.{arith}
use Rattle.sheet.proofs.Rows.{link-index}
use Rattle.adjacency.specs.Chains.{half, next_of}
use Rattle.adjacency.proofs.next.Goals as goal

pub overflow_add-l : goal.overflow_add-l
overflow_add-l c = omega (arith, link-index c.args.w.now c.args.l c.requires.loaded c.requires.l_bound)

pub word-requires : goal.word-requires
word-requires c = omega (arith, link-index c.args.w.now c.args.l c.requires.loaded c.requires.l_bound, c.requires.loaded.long)

pub returns : goal.returns
unfolding next_of
returns c =
    let q = c.half.ensures ∙ ap (half c.args.e) c.word.ensures.0 in
    (q, rw q (c.requires.chained.next_few c.args.l c.requires.l_bound), rw q (c.requires.chained.next_more c.args.l c.requires.l_bound))
