-- `put_on` (src/lib.rt) keeps its contract.
use Prim.Native.Nat.{◌+◌, ℕ}
use mathlib.Core.Path.{◌∙◌, ap₂}
use native.Mathlib.Omega.{arith}
use Rattle.planner.specs.Schedule.{put}
use Rattle.schedule.specs.Layout.{schedule_in}
use Rattle.turns.proofs.Going.{putting, t-small, enough₁, schedule₃, walks₃, going₄}
use Rattle.turns.proofs.put_on.Goals as goal

pub settle-requires : goal.settle-requires
settle-requires c =
    let work = c.work.ensures.0 in
    let u = putting c.requires.going c.requires.j_bound.0 c.requires.j_bound.1 c.requires.j_bound.2 c.requires.t_value.0 c.requires.t_value.1 c.requires.j_bound.3 work c.placed-n.ensures.1 c.opened.ensures.0 c.max-open.ensures in
    record { kept = c.requires.going.kept; placeable = (u.can, u.surveyed); f_bound = (omega (arith, u.small), u.late) }

pub release-requires : goal.release-requires
release-requires c =
    let work = c.work.ensures.0 in
    let u = putting c.requires.going c.requires.j_bound.0 c.requires.j_bound.1 c.requires.j_bound.2 c.requires.t_value.0 c.requires.t_value.1 c.requires.j_bound.3 work c.placed-n.ensures.1 c.opened.ensures.0 c.max-open.ensures in
    let ends = c.settle.ensures in
    let all = enough₁ u ends.0 ends.1 in
    record { kept_length_in_bounds = all.0; enough = all.1 }

pub put-requires : goal.put-requires
put-requires c =
    let work = c.work.ensures.0 in
    let u = putting c.requires.going c.requires.j_bound.0 c.requires.j_bound.1 c.requires.j_bound.2 c.requires.t_value.0 c.requires.t_value.1 c.requires.j_bound.3 work c.placed-n.ensures.1 c.opened.ensures.0 c.max-open.ensures in
    let ends = c.settle.ensures in
    record {
      fixed_in_bounds = c.requires.going.kept.loaded.long;
      t_bound = (
        t-small u ends.0 ends.1,
        omega (arith, c.requires.j_bound.2),
        omega (arith, u.small),
        omega (arith, u.placed_is, u.going.placed, u.turn),
        omega (arith, u.opened_is, u.going.kept.few_opened, c.requires.j_bound.2),
      );
    }

pub count_links-requires : goal.count_links-requires
count_links-requires c =
    let work = c.work.ensures.0 in
    let u = putting c.requires.going c.requires.j_bound.0 c.requires.j_bound.1 c.requires.j_bound.2 c.requires.t_value.0 c.requires.t_value.1 c.requires.j_bound.3 work c.placed-n.ensures.1 c.opened.ensures.0 c.max-open.ensures in
    let ends = c.settle.ensures in
    let all = walks₃ u ends.0 ends.1 c.release.ensures c.put.ensures c.requires.keyed in
    record { loaded = all.0; chained = all.1.0; k_bound = all.1.1.0; single = all.1.1.1.0; gathered = all.1.1.1.1.0; levelled = all.1.1.1.1.1.0; keyed_beside = all.1.1.1.1.1.1 }

pub returns : goal.returns
returns c =
    let work = c.work.ensures.0 in
    let u = putting c.requires.going c.requires.j_bound.0 c.requires.j_bound.1 c.requires.j_bound.2 c.requires.t_value.0 c.requires.t_value.1 c.requires.j_bound.3 work c.placed-n.ensures.1 c.opened.ensures.0 c.max-open.ensures in
    let ends = c.settle.ensures in
    let released = c.release.ensures in
    let written = c.put.ensures in
    let counted = c.count_links.ensures in (
      schedule₃ u ends.0 ends.1 released written ∙ ap₂ (λ (x y : ℕ). put (schedule_in c.args.w.now) c.args.t c.args.k x (x + y)) c.requires.j_bound.3 work,
      going₄ u ends.0 ends.1 released written counted.0 counted.1,
      counted.2,
    )
