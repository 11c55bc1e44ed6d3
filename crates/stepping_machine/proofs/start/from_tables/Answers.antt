-- `from_tables` (src/start.rt) keeps its contract.
use Rattle.stepping_machine.proofs.Starting.{opened_in, part-extent}
use Rattle.admission.proofs.Areas.{seen-in}
use Rattle.stepping_machine.proofs.start.from_tables.Goals as goal

pub of_tables-v-requires : goal.of_tables-v-requires
of_tables-v-requires c = c.requires.0.loaded

pub begin-requires : goal.begin-requires
begin-requires c = (seen-in _ _ _ c.requires.0 c.of_tables-v.ensures, part-extent c.args.work.now c.requires.0.loaded.long, c.requires.1)

pub shape_of-work : goal.shape_of-work
shape_of-work c = c.work-1.given.1

pub shape_of-state : goal.shape_of-state
shape_of-state c = c.begin.ensures.state_long

pub returns : goal.returns
returns c = opened_in _ _ _ _ _ _ _ _ _ c.requires.0 c.of_tables-v.ensures c.begin.ensures c.work-1.given.1
