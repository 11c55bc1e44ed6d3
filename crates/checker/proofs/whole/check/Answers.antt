-- `check` (src/whole.rt) keeps its contract.
use Rattle.checker.proofs.Areas.{checked-in}
use Rattle.stepping_machine.proofs.Starting.{part-extent}
use Rattle.admission.proofs.Areas.{seen-in}
use Rattle.checker.proofs.whole.check.Goals as goal

pub of_tables-v-requires : goal.of_tables-v-requires
of_tables-v-requires c = c.requires.loaded

pub judgement-requires : goal.judgement-requires
judgement-requires c = (seen-in _ _ _ c.requires c.of_tables-v.ensures, part-extent c.args.work.now c.requires.loaded.long)

pub shape_of-work : goal.shape_of-work
shape_of-work c = c.work-1.given.1

pub returns : goal.returns
returns c = checked-in _ _ _ _ _ _ _ c.requires c.of_tables-v.ensures c.judgement.ensures c.work-1.given.1
