-- `place_task` (src/lib.rt) keeps its contract.
use Rattle.turns.proofs.Bounds.{early}
use Rattle.turns.proofs.Going.{surveyed-going}
use Rattle.turns.proofs.place_task.Goals as goal

pub survey-starts-requires : goal.survey-starts-requires
survey-starts-requires c = record { kept = c.requires.going.kept; t_bound = (c.requires.j_bound.1, c.requires.t_value); early = early c.requires.going.kept.ranged c.requires.going.timely }

pub place_surveyed-requires : goal.place_surveyed-requires
place_surveyed-requires c =
    let v = c.survey-starts.ensures in
    record { going = surveyed-going c.requires.going v.0; j_bound = c.requires.j_bound; t_value = (c.requires.t_value, v.1, v.2); keyed = c.requires.keyed }
