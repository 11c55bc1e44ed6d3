-- `trace` (src/tracing.rt) keeps its contract.
use native.Mathlib.Omega.{arith}
use mathlib.Core.Path.{◌∙◌}
use Rattle.drift.proofs.Backwards.{traced-all}
use Rattle.drift.proofs.tracing.trace.Goals as goal

pub clear_words-requires : goal.clear_words-requires
clear_words-requires c = omega (arith, c.requires)

pub clear_words-requires-2 : goal.clear_words-requires-2
clear_words-requires-2 c = omega (arith, c.requires, c.clear_words.ensures.long)

pub shape_of-w : goal.shape_of-w
shape_of-w c = c.trace_all.ensures.long ∙ c.clear_words-2.ensures.long ∙ c.clear_words.ensures.long

pub shape_of-slots : goal.shape_of-slots
shape_of-slots c = c.trace_all.ensures.slots_long

pub returns : goal.returns
returns c = traced-all c.clear_words.ensures c.clear_words-2.ensures c.trace_all.ensures
