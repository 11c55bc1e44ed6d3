-- `look` (src/search.rt) keeps its contract.
use native.Mathlib.Omega.{arith}
use Rattle.levelling.proofs.Spreads.{look-index, look_is, search-next}
use Rattle.sheet.specs.Tables.{sheet_in}
use Rattle.levelling.proofs.search.look.Goals as goal

pub overflow_add-i : goal.overflow_add-i
overflow_add-i c = omega (arith, look-index c.requires.searched c.requires.i_lt_k)

pub word-v-requires : goal.word-v-requires
word-v-requires c = omega (arith, look-index c.requires.searched c.requires.i_lt_k)

pub walk_into-requires : goal.walk_into-requires
walk_into-requires c = record { held = c.requires.held; chained = c.requires.chained; spreading = (search-next (sheet_in c.args.w.now) c.args.w.now c.args.goal c.args.i c.args.k c.requires.searched c.requires.i_lt_k c.word-v.ensures.0).0 }

pub returns : goal.returns
returns c = (c.walk_into.ensures.0, look_is (search-next (sheet_in c.args.w.now) c.args.w.now c.args.goal c.args.i c.args.k c.requires.searched c.requires.i_lt_k c.word-v.ensures.0).1 c.walk_into.ensures.1)
