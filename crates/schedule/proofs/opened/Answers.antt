-- `opened` (src/lib.rt) keeps its contract.
use Rattle.sheet.proofs.Rows.{field-most}
use mathlib.Core.Path.{refl}
use Rattle.schedule.specs.Layout.{schedule_in}
use Rattle.schedule.proofs.opened.Goals as goal

pub returns : goal.returns
unfolding schedule_in
returns c = field-most c.word.ensures.0 refl c.requires.w_bound
