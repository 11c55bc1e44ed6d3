-- `survey_link` (src/lib.rt) keeps its contract.
use Prim.Native.Nat.{◌+◌}
use native.Mathlib.Omega.{arith}
use mathlib.Core.Path.{ap, refl, ◌∙◌}
use lib.ListN.{get_or, length-set}
use lib.Seq.{get_or-set_other}
use Rattle.sheet.specs.Tables.{sheet_in}
use Rattle.schedule.specs.Layout.{schedule_in}
use Rattle.sheet.proofs.Rows.{ranged}
use Rattle.planner.specs.Schedule.{place_of}
use Rattle.arrivals.specs.Layout.{turn_bytes_from, turn_links_from}
use Rattle.arrivals.proofs.Surveys.{survey-small, surveyed-by}
use Rattle.arrivals.proofs.survey_link.Goals as goal

pub overflow_add-kept-2 : goal.overflow_add-kept-2
overflow_add-kept-2 c =
    let w = c.args.w.now in
    let z = survey-small (sheet_in w) (schedule_in w) c.args.kept.now c.args.t c.args.l c.requires.loaded.1 (ranged w c.requires.loaded.0) c.requires.l_bound.0 c.requires.l_bound.1 c.requires.l_bound.2 c.requires.surveyed_to c.place-k.result (c.place-k.ensures.0 ∙ ap (place_of (schedule_in w)) c.source.ensures.0) in
    omega (arith, z.1, c.size.ensures.1)

pub bounds-kept-k : goal.bounds-kept-k
bounds-kept-k c =
    let w = c.args.w.now in
    let z = survey-small (sheet_in w) (schedule_in w) c.args.kept.now c.args.t c.args.l c.requires.loaded.1 (ranged w c.requires.loaded.0) c.requires.l_bound.0 c.requires.l_bound.1 c.requires.l_bound.2 c.requires.surveyed_to c.place-k.result (c.place-k.ensures.0 ∙ ap (place_of (schedule_in w)) c.source.ensures.0) in
    omega (arith, z.0, c.requires.loaded.1)

pub bounds-kept-k-2 : goal.bounds-kept-k-2
bounds-kept-k-2 c =
    let w = c.args.w.now in
    let z = survey-small (sheet_in w) (schedule_in w) c.args.kept.now c.args.t c.args.l c.requires.loaded.1 (ranged w c.requires.loaded.0) c.requires.l_bound.0 c.requires.l_bound.1 c.requires.l_bound.2 c.requires.surveyed_to c.place-k.result (c.place-k.ensures.0 ∙ ap (place_of (schedule_in w)) c.source.ensures.0) in
    omega (arith, z.0, c.requires.loaded.1)

pub overflow_add-kept-4 : goal.overflow_add-kept-4
overflow_add-kept-4 c =
    let w = c.args.w.now in
    let k = c.place-k.result in
    let own = c.args.kept.now in
    let z = survey-small (sheet_in w) (schedule_in w) own c.args.t c.args.l c.requires.loaded.1 (ranged w c.requires.loaded.0) c.requires.l_bound.0 c.requires.l_bound.1 c.requires.l_bound.2 c.requires.surveyed_to k (c.place-k.ensures.0 ∙ ap (place_of (schedule_in w)) c.source.ensures.0) in
    let e = get_or-set_other own (turn_bytes_from + k) (turn_links_from + k) (get_or own (turn_bytes_from + k) 0 + c.size.result) 0 (omega arith) in
    omega (arith, z.2, e)

pub bounds-kept-k-3 : goal.bounds-kept-k-3
bounds-kept-k-3 c =
    let w = c.args.w.now in
    let z = survey-small (sheet_in w) (schedule_in w) c.args.kept.now c.args.t c.args.l c.requires.loaded.1 (ranged w c.requires.loaded.0) c.requires.l_bound.0 c.requires.l_bound.1 c.requires.l_bound.2 c.requires.surveyed_to c.place-k.result (c.place-k.ensures.0 ∙ ap (place_of (schedule_in w)) c.source.ensures.0) in
    simp length-set (omega (arith, z.0, c.requires.loaded.1))

pub bounds-kept-k-4 : goal.bounds-kept-k-4
bounds-kept-k-4 c =
    let w = c.args.w.now in
    let z = survey-small (sheet_in w) (schedule_in w) c.args.kept.now c.args.t c.args.l c.requires.loaded.1 (ranged w c.requires.loaded.0) c.requires.l_bound.0 c.requires.l_bound.1 c.requires.l_bound.2 c.requires.surveyed_to c.place-k.result (c.place-k.ensures.0 ∙ ap (place_of (schedule_in w)) c.source.ensures.0) in
    simp length-set (omega (arith, z.0, c.requires.loaded.1))

pub shape_of-kept : goal.shape_of-kept
shape_of-kept c = simp length-set

pub returns : goal.returns
returns c =
    let w = c.args.w.now in
    let k = c.place-k.result in
    let own = c.args.kept.now in
    let e = get_or-set_other own (turn_bytes_from + k) (turn_links_from + k) (get_or own (turn_bytes_from + k) 0 + c.size.result) 0 (omega arith) in
    surveyed-by (sheet_in w) (schedule_in w) own c.args.t c.args.l c.requires.loaded.1 (ranged w c.requires.loaded.0) c.requires.l_bound.0 c.requires.l_bound.1 c.requires.l_bound.2 c.requires.surveyed_to k (c.place-k.ensures.0 ∙ ap (place_of (schedule_in w)) c.source.ensures.0) _ c.size.ensures.0 refl e refl refl refl
