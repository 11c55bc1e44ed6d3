-- `due_from` (src/lib.rt) keeps its contract.
use Prim.Native.Nat.{◌<◌}
use native.Mathlib.Omega.{arith}
use Rattle.placing.proofs.Spent.{due-else, due-own, target_free}
use Rattle.placing.specs.Choosing.{due_by}
use Rattle.sheet.specs.Sheet.{link_count}
use Rattle.adjacency.proofs.Walks.{own_first, own-next, sum_first, sum-next}
use Rattle.schedule.specs.Layout.{schedule_in}
use Rattle.sheet.specs.Tables.{sheet_in}
use Rattle.folds.proofs.Loops.{sum-at}
use Rattle.placing.proofs.Turn.due_from.Goals as goal

pub links-m-requires : goal.links-m-requires
links-m-requires c = c.args.self.now.choosing.kept.loaded

pub first-l-requires : goal.first-l-requires
first-l-requires c =
    let turn = c.args.self.now in
    record { loaded = turn.choosing.kept.loaded; chained = turn.choosing.kept.caches.outward; t_bound = turn.choosing.task }

pub loop-l-init : goal.loop-l-init
loop-l-init c =
    let turn = c.args.self.now in
    let x = sheet_in turn.w.now in
    let y = schedule_in turn.w.now in
    let d = turn.choosing.kept.caches.outward in
    let f = due_by x y turn.t c.args.from in (
      omega (arith, c.first-l.ensures.1, c.links-m.ensures.0),
      own_first d turn.t turn.choosing.task f (λ l h. due-else x y turn.t c.args.from l) c.first-l.ensures.0,
      sum_first d turn.t turn.choosing.task f (λ l h. due-else x y turn.t c.args.from l) c.first-l.ensures.0 c.first-l.ensures.1,
      omega arith,
    )

pub target-requires : goal.target-requires
target-requires c = record { loaded = c.args.self.now.choosing.kept.loaded; l_bound = omega (arith, c.loop-l-test.true, c.links-m.ensures.0) }

pub known_into-due-requires : goal.known_into-due-requires
known_into-due-requires c = (c.target.ensures.1, target_free c.args.self.now.choosing c.loop-l.l (omega (arith, c.loop-l-test.true, c.links-m.ensures.0)) (c.loop-l.invariant.1 (omega (arith, c.loop-l-test.true, c.links-m.ensures.0))) c.target.ensures.0, c.requires)

pub overflow_add-due : goal.overflow_add-due
overflow_add-due c = omega (arith, c.loop-l.invariant.0, c.loop-l.invariant.3, c.links-m.ensures.1, c.known_into-due.ensures.1)

pub next-l-requires : goal.next-l-requires
next-l-requires c =
    let turn = c.args.self.now in
    record { loaded = turn.choosing.kept.loaded; chained = turn.choosing.kept.caches.outward; l_bound = omega (arith, c.loop-l-test.true, c.links-m.ensures.0) }

pub loop-l-smaller : goal.loop-l-smaller
loop-l-smaller c = omega (arith, c.loop-l-test.true, c.next-l.ensures.2)

pub loop-l-preserved : goal.loop-l-preserved
loop-l-preserved c =
    let turn = c.args.self.now in
    let x = sheet_in turn.w.now in
    let y = schedule_in turn.w.now in
    let d = turn.choosing.kept.caches.outward in
    let f = due_by x y turn.t c.args.from in
    let h : c.loop-l.l < link_count x = omega (arith, c.loop-l-test.true, c.links-m.ensures.0) in
    let own = c.loop-l.invariant.1 h in (
      omega (arith, c.next-l.ensures.1, c.links-m.ensures.0),
      own-next d turn.t turn.choosing.task f (λ l h. due-else x y turn.t c.args.from l) h own c.next-l.ensures.0 c.next-l.ensures.2 c.next-l.ensures.1,
      sum-next d turn.t turn.choosing.task f (λ l h. due-else x y turn.t c.args.from l) h own c.next-l.ensures.0 c.next-l.ensures.2 c.next-l.ensures.1 c.loop-l.invariant.2
          (due-own x y turn.t c.args.from _ own c.target.ensures.0 c.known_into-due.ensures.0),
      omega (arith, c.loop-l.invariant.3, c.known_into-due.ensures.1, c.next-l.ensures.2),
    )

pub returns : goal.returns
returns c = sum-at _ _ _ c.loop-l.invariant.2 (omega (arith, c.loop-l.invariant.0, c.loop-l-test.false, c.links-m.ensures.0))
