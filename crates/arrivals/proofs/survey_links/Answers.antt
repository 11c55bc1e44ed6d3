-- `survey_links` (src/lib.rt) keeps its contract.
use native.Mathlib.Omega.{arith}
use Rattle.sheet.proofs.Rows.{task-index, ranged}
use Rattle.arrivals.proofs.Surveys.{survey-begins, survey-done, survey-more, there-link, there-more, there-soon}
use Rattle.arrivals.proofs.survey_links.Goals as goal

pub word-n-requires : goal.word-n-requires
word-n-requires c = omega (arith, task-index c.args.w.now c.args.t c.requires.loaded.0 c.requires.t_bound.0, c.requires.loaded.1)

pub loop-i-init : goal.loop-i-init
loop-i-init c = survey-begins c.requires.chained c.requires.gathered.0 c.args.t c.requires.t_bound.0 c.first-l.ensures.0 c.first-l.ensures.1 c.requires.gathered.1 c.requires.ends.0 c.begun-starts.ensures

pub starts_with-starts-requires : goal.starts_with-starts-requires
starts_with-starts-requires c =
    let g = c.loop-i.invariant in
    let m = there-more c.requires.chained c.requires.gathered.0 c.args.t c.requires.t_bound.0 g c.word-n.ensures.0 c.loop-i-test.true in
    let l = there-link c.requires.chained c.requires.gathered.0 c.args.t c.requires.t_bound.0 g c.requires.t_bound.1 m in
    let soon = there-soon c.requires.chained c.requires.gathered.0 c.args.t c.requires.t_bound.0 g (ranged c.args.w.now c.requires.loaded.0) c.requires.ends.1 in
    record { loaded = (c.requires.loaded.0, l.0, l.2); early = (c.requires.ends.1, soon, c.cube-cube.ensures, c.unpacking-unpacking.ensures.0) }

pub survey_link-requires : goal.survey_link-requires
survey_link-requires c =
    let g = c.loop-i.invariant in
    let m = there-more c.requires.chained c.requires.gathered.0 c.args.t c.requires.t_bound.0 g c.word-n.ensures.0 c.loop-i-test.true in
    record { loaded = (c.requires.loaded.0, omega (arith, g.only.long, c.requires.loaded.1)); l_bound = there-link c.requires.chained c.requires.gathered.0 c.args.t c.requires.t_bound.0 g c.requires.t_bound.1 m; surveyed_to = g.surveyed }

pub next-l-requires : goal.next-l-requires
next-l-requires c =
    let m = there-more c.requires.chained c.requires.gathered.0 c.args.t c.requires.t_bound.0 c.loop-i.invariant c.word-n.ensures.0 c.loop-i-test.true in
    record { loaded = c.requires.loaded.0; chained = c.requires.chained; l_bound = m }

pub loop-i-preserved : goal.loop-i-preserved
loop-i-preserved c =
    let g = c.loop-i.invariant in
    let e = c.survey_link.ensures in
    let m = there-more c.requires.chained c.requires.gathered.0 c.args.t c.requires.t_bound.0 g c.word-n.ensures.0 c.loop-i-test.true in
    survey-more c.requires.chained c.requires.gathered.0 c.args.t c.requires.t_bound.0 g c.requires.t_bound.1 e.0 m c.next-l.ensures.0 c.next-l.ensures.1 c.next-l.ensures.2 e.1 (ranged c.args.w.now c.requires.loaded.0) c.starts_with-starts.ensures

pub shape_of-kept : goal.shape_of-kept
shape_of-kept c = c.loop-i.invariant.only.long

pub returns : goal.returns
returns c = survey-done c.requires.chained c.requires.gathered.0 c.args.t c.requires.t_bound.0 c.loop-i.invariant (ranged c.args.w.now c.requires.loaded.0) c.word-n.ensures.0 (omega (arith, c.loop-i-test.false))
