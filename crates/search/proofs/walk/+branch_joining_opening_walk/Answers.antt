-- The functions branch, joining, opening, walk (src/walk.rt), which call each other, keep their contracts: fewer tasks are left at each call of `walk`.
use mathlib.Core.Path.{refl}
use Rattle.search.proofs.Folds.{ready_on, leaf-coded}
use native.Mathlib.Omega.{arith}
use Rattle.search.proofs.Folds.{leaf-done, none-turned, more-turned, all-turned, used-done, free-done, opening-skip, opening-done, joining-none, joining-skip, joining-done, late-done}
use Rattle.search.proofs.walk.+branch_joining_opening_walk.Goals as goal

pub branch-returns-then-stands : goal.branch-returns-then-stands
branch-returns-then-stands t c = used-done _ _ _ _ _ _ c.requires.1 c.requires.4 c.stands.ensures c.if-stands.true

pub branch-opening-k-requires : goal.branch-opening-k-requires
branch-opening-k-requires t c = (omega (arith, c.decreases), c.requires)

pub branch-joining-requires : goal.branch-joining-requires
branch-joining-requires t c =
    let R = c.requires.0 in (
      omega (arith, c.decreases),
      (
        record { seen = R.seen; small = R.small; area = omega (arith, R.area); first = omega (arith, R.first); second = omega (arith, R.second) },
        c.requires.1,
        c.requires.2,
        c.requires.3,
        c.opening-k.ensures.right,
      ),
    )

pub branch-returns : goal.branch-returns
branch-returns t c = free-done _ _ _ _ _ _ c.requires.1 _ _ c.stands.ensures c.if-stands.false c.opening-k.ensures c.joining.ensures

pub joining-returns-then-b-eq0 : goal.joining-returns-then-b-eq0
joining-returns-then-b-eq0 t c = joining-none _ _ _ _ _ _ c.requires.1 c.requires.4 (omega (arith, c.if-b-eq0.true))

pub joining-joined-a-requires : goal.joining-joined-a-requires
joining-joined-a-requires t c =
    let p = c.requires in
    (p.0.seen, p.0.small, p.1, omega (arith, p.2, p.0.small.tasks), p.3, omega (arith, c.if-b-eq0.false))

pub joining-may_join-requires : goal.joining-may_join-requires
joining-may_join-requires t c = let p = c.requires in (p.0.small, p.1, c.joined-a.ensures, p.3, omega (arith, c.if-b-eq0.false))

pub joining-returns-then-not-may_join : goal.joining-returns-then-not-may_join
joining-returns-then-not-may_join t c = joining-skip _ _ _ _ _ _ c.requires.1 c.requires.4 c.may_join.ensures c.if-not-may_join.true

pub joining-returns-then-is_late : goal.joining-returns-then-is_late
joining-returns-then-is_late t c =
    let p = c.requires in
    let j = c.joined-a.ensures in
    joining-done _ _ _ _ _ _ p.1 _ _ (omega (arith, p.3, p.0.small.tasks)) c.may_join.ensures c.if-not-may_join.false j (late-done _ _ _ _ _ p.4 j.begins c.is_late.ensures c.if-is_late.true)

pub joining-walk-requires : goal.joining-walk-requires
joining-walk-requires t c =
    let p = c.requires in
    let j = c.joined-a.ensures in
    (omega (arith, c.decreases), (p.0, j.begins, omega (arith, j.more, p.2), p.4))

pub joining-returns-else-is_late : goal.joining-returns-else-is_late
joining-returns-else-is_late t c =
    let p = c.requires in
    joining-done _ _ _ _ _ _ p.1 _ _ (omega (arith, p.3, p.0.small.tasks)) c.may_join.ensures c.if-not-may_join.false c.joined-a.ensures c.walk.ensures

pub opening-opened-a-requires : goal.opening-opened-a-requires
opening-opened-a-requires t c = let p = c.requires in (p.0.seen, p.0.small, p.1, omega (arith, p.2, p.0.small.tasks), p.3)

pub opening-may_open-requires : goal.opening-may_open-requires
opening-may_open-requires t c = let p = c.requires in (p.0.small, p.1, c.opened-a.ensures, p.3)

pub opening-returns-then-not-may_open : goal.opening-returns-then-not-may_open
opening-returns-then-not-may_open t c = opening-skip _ _ _ _ _ _ c.requires.1 c.requires.4 c.may_open.ensures c.if-not-may_open.true

pub opening-returns-then-is_late : goal.opening-returns-then-is_late
opening-returns-then-is_late t c =
    let p = c.requires in
    let j = c.opened-a.ensures in
    opening-done _ _ _ _ _ _ p.1 _ _ (omega (arith, p.3, p.0.small.tasks)) c.may_open.ensures c.if-not-may_open.false j (late-done _ _ _ _ _ p.4 j.begins c.is_late.ensures c.if-is_late.true)

pub opening-walk-requires : goal.opening-walk-requires
opening-walk-requires t c =
    let p = c.requires in
    let j = c.opened-a.ensures in
    (omega (arith, c.decreases), (p.0, j.begins, omega (arith, j.more, p.2), p.4))

pub opening-returns-else-is_late : goal.opening-returns-else-is_late
opening-returns-else-is_late t c =
    let p = c.requires in
    opening-done _ _ _ _ _ _ p.1 _ _ (omega (arith, p.3, p.0.small.tasks)) c.may_open.ensures c.if-not-may_open.false c.opened-a.ensures c.walk.ensures

pub walk-consider-requires : goal.walk-consider-requires
walk-consider-requires t c =
    let p = c.requires in
    let z = leaf-coded p.1 (omega (arith, c.if-left-eq0.true)) p.2 in
    record { seen = (p.0.seen, p.0.small, p.0.area, p.0.first, p.0.second); coded = (z.0, z.1, p.3) }

pub walk-returns-then-left-eq0 : goal.walk-returns-then-left-eq0
walk-returns-then-left-eq0 t c = leaf-done _ _ c.args.b _ _ _ (omega (arith, c.if-left-eq0.true)) c.requires.2 c.consider.ensures

pub walk-loop-t-init : goal.walk-loop-t-init
walk-loop-t-init t c = (none-turned _ _ c.args.b _ _ c.requires.3, refl, refl, refl)

pub walk-overflow_sub-left : goal.walk-overflow_sub-left
walk-overflow_sub-left t c = omega (arith, c.if-left-eq0.false)

pub walk-branch-k-requires : goal.walk-branch-k-requires
walk-branch-k-requires t c =
    let p = c.requires in
    let i = c.loop-t.invariant in (
      omega (arith, c.decreases, c.if-left-eq0.false),
      (ready_on p.0 i.1 i.2 i.3, p.1, omega (arith, p.2, c.if-left-eq0.false), omega (arith, c.loop-t-test.true), i.0.right),
    )

pub walk-loop-t-preserved : goal.walk-loop-t-preserved
walk-loop-t-preserved t c =
    let i = c.loop-t.invariant in (
      more-turned _ _ c.args.b _ _ _ _ _ i.0 c.branch-k.ensures,
      omega (arith, i.1),
      omega (arith, i.2),
      omega (arith, i.3),
    )

pub walk-shape_of-w : goal.walk-shape_of-w
walk-shape_of-w t c = c.loop-t.invariant.1

pub walk-shape_of-buf : goal.walk-shape_of-buf
walk-shape_of-buf t c = c.loop-t.invariant.2

pub walk-shape_of-other : goal.walk-shape_of-other
walk-shape_of-other t c = c.loop-t.invariant.3

pub walk-returns : goal.walk-returns
walk-returns t c = all-turned _ _ c.args.b _ _ _ _ (omega (arith, c.if-left-eq0.false)) (omega (arith, c.loop-t-test.false, c.loop-t.auto.t-end)) c.loop-t.invariant.0
