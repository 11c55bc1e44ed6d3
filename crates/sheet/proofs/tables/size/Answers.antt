-- `size` (src/tables.rt) keeps its contract.
use native.Mathlib.Omega.{arith}
use Rattle.sheet.proofs.Rows.{bytes-in, field-small, link-below, link-index}
use Rattle.sheet.proofs.tables.size.Goals as goal

pub overflow_add-l : goal.overflow_add-l
overflow_add-l c = omega (arith, link-index c.args.w.now c.args.l c.requires.loaded c.requires.l_bound)

pub word-requires : goal.word-requires
word-requires c = omega (arith, link-index c.args.w.now c.args.l c.requires.loaded c.requires.l_bound, c.requires.loaded.long)

pub returns : goal.returns
returns c = field-small c.word.ensures.0 (bytes-in c.args.w.now c.args.l c.requires.l_bound) (c.requires.loaded.sizes c.args.l (link-below c.args.w.now c.args.l c.requires.l_bound))
