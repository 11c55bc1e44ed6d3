-- `dues_of` (src/lib.rt) keeps its contract.
use Prim.Native.Nat.{◌<◌}
use native.Mathlib.Omega.{arith}
use Rattle.sheet.specs.Sheet.{link_count}
use Rattle.sheet.specs.Tables.{sheet_in}
use Rattle.schedule.specs.Layout.{schedule_in}
use Rattle.adjacency.proofs.Walks.{own_first, own-next}
use Rattle.placing.specs.Choosing.{due_by}
use Rattle.placing.specs.declared.Senders.TheVariants.{Four}
use Rattle.placing.proofs.Spent.{due-else, target_free}
use Rattle.placing.proofs.Due.{dues-first, dues-next, dues-at, small-dues}
use Rattle.placing.proofs.Turn.dues_of.Goals as goal

pub links-m-requires : goal.links-m-requires
links-m-requires c = c.args.self.now.choosing.kept.loaded

pub first-l-requires : goal.first-l-requires
first-l-requires c =
    let turn = c.args.self.now in
    record { loaded = turn.choosing.kept.loaded; chained = turn.choosing.kept.caches.outward; t_bound = turn.choosing.task }

pub loop-l-init : goal.loop-l-init
loop-l-init c =
    let turn = c.args.self.now in
    let x = sheet_in turn.w.now in
    let y = schedule_in turn.w.now in
    let o = turn.choosing.kept.caches.outward in
    let n = turn.choosing.task in (
      omega (arith, c.first-l.ensures.1, c.links-m.ensures.0),
      own_first o turn.t n (due_by x y turn.t (Four 0)) (λ l h. due-else x y turn.t (Four 0) l) c.first-l.ensures.0,
      dues-first o turn.t n c.first-l.ensures.0 c.first-l.ensures.1,
    )

pub target-requires : goal.target-requires
target-requires c = record { loaded = c.args.self.now.choosing.kept.loaded; l_bound = omega (arith, c.loop-l-test.true, c.links-m.ensures.0) }

pub more_due-x-requires : goal.more_due-x-requires
more_due-x-requires c =
    let turn = c.args.self.now in
    let h : c.loop-l.l < link_count (sheet_in turn.w.now) = omega (arith, c.loop-l-test.true, c.links-m.ensures.0) in
    (c.target.ensures.1, target_free turn.choosing c.loop-l.l h (c.loop-l.invariant.1 h) c.target.ensures.0, small-dues c.loop-l.invariant.2 (omega (arith, c.links-m.ensures.1, c.links-m.ensures.0, h)))

pub next-l-requires : goal.next-l-requires
next-l-requires c =
    let turn = c.args.self.now in
    record { loaded = turn.choosing.kept.loaded; chained = turn.choosing.kept.caches.outward; l_bound = omega (arith, c.loop-l-test.true, c.links-m.ensures.0) }

pub loop-l-smaller : goal.loop-l-smaller
loop-l-smaller c = omega (arith, c.loop-l-test.true, c.next-l.ensures.2)

pub loop-l-preserved : goal.loop-l-preserved
loop-l-preserved c =
    let turn = c.args.self.now in
    let x = sheet_in turn.w.now in
    let y = schedule_in turn.w.now in
    let o = turn.choosing.kept.caches.outward in
    let n = turn.choosing.task in
    let h : c.loop-l.l < link_count x = omega (arith, c.loop-l-test.true, c.links-m.ensures.0) in
    let own = c.loop-l.invariant.1 h in (
      omega (arith, c.next-l.ensures.1, c.links-m.ensures.0),
      own-next o turn.t n (due_by x y turn.t (Four 0)) (λ l g. due-else x y turn.t (Four 0) l) h own c.next-l.ensures.0 c.next-l.ensures.2 c.next-l.ensures.1,
      dues-next o turn.t n h own c.next-l.ensures.0 c.next-l.ensures.2 c.next-l.ensures.1 c.target.ensures.0 c.loop-l.invariant.2 c.more_due-x.ensures,
    )

pub returns : goal.returns
returns c = dues-at c.loop-l.invariant.2 (omega (arith, c.loop-l.invariant.0, c.loop-l-test.false, c.links-m.ensures.0))
