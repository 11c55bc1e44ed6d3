-- `survey` (src/lib.rt) keeps its contract.
use native.Mathlib.Omega.{arith}
use Rattle.adjacency.proofs.Frames.{only-trans}
use Rattle.arrivals.proofs.Clearing.{cleared}
use Rattle.arrivals.proofs.Surveys.{survey-gathered, survey-ends, survey-none}
use Rattle.arrivals.proofs.survey.Goals as goal

pub survey_links-requires : goal.survey_links-requires
survey_links-requires c =
    let h = c.requires.kept in
    let z = cleared c.clear_words.ensures in
    record { loaded = (h.loaded, omega (arith, z.0.long, h.long)); chained = h.caches.inward; t_bound = c.requires.t_bound; gathered = (survey-gathered h z.0, survey-none _ z.1); ends = (survey-ends h z.0, c.requires.early) }

pub returns : goal.returns
returns c =
    let d = c.survey_links.ensures in
    (only-trans (cleared c.clear_words.ensures).0 d.0, d.1, d.2)
