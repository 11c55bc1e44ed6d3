-- `beyond` (src/level.rt) keeps its contract.
use Prim.Native.Nat.{◌<◌}
use mathlib.Core.Path.{◌≡◌, sym}
use native.Mathlib.Omega.{arith}
use Rattle.sheet.specs.Sheet.{link_count}
use Rattle.sheet.specs.Tables.{sheet_in}
use Rattle.graph.specs.Graph.{level_by}
use Rattle.adjacency.proofs.Walks.{own_first, own-next, greatest-first, greatest-next}
use Rattle.topological_order.specs.Peeling.{level_in}
use Rattle.topological_order.proofs.Lights.{level-other}
use Rattle.topological_order.proofs.Levels.{beyond-own}
use Rattle.topological_order.proofs.level.beyond.Goals as goal

pub links-m-requires : goal.links-m-requires
links-m-requires c = c.requires.held.loaded

pub first-l-requires : goal.first-l-requires
first-l-requires c = record { loaded = c.requires.held.loaded; chained = c.requires.chained; t_bound = c.requires.v_bound }

pub loop-l-init : goal.loop-l-init
loop-l-init c =
    let x = sheet_in c.args.w.now in
    let d = c.requires.chained in
    let first = c.first-l.ensures in (
      omega (arith, first.1, c.links-m.ensures.0),
      own_first d c.args.v c.requires.v_bound (level_by x (level_in c.args.w.now) c.args.v) (λ l h e. level-other x (level_in c.args.w.now) c.args.v l e) first.0,
      omega (arith, greatest-first d c.args.v c.requires.v_bound (level_by x (level_in c.args.w.now) c.args.v) (λ l h e. level-other x (level_in c.args.w.now) c.args.v l e) first.0 first.1),
    )

pub target-requires : goal.target-requires
target-requires c = record { loaded = c.requires.held.loaded; l_bound = omega (arith, c.loop-l-test.true, c.links-m.ensures.0) }

pub cost-c-requires : goal.cost-c-requires
cost-c-requires c = record { loaded = c.requires.held.loaded; l_bound = omega (arith, c.loop-l-test.true, c.links-m.ensures.0) }

pub next-l-requires : goal.next-l-requires
next-l-requires c = record { loaded = c.requires.held.loaded; chained = c.requires.chained; l_bound = omega (arith, c.loop-l-test.true, c.links-m.ensures.0) }

pub loop-l-smaller : goal.loop-l-smaller
loop-l-smaller c = omega (arith, c.loop-l-test.true, c.next-l.ensures.2)

pub loop-l-preserved : goal.loop-l-preserved
loop-l-preserved c =
    let x = sheet_in c.args.w.now in
    let d = c.requires.chained in
    let in-loop = c.loop-l in
    let next = c.next-l.ensures in
    let h : in-loop.l < link_count x = omega (arith, c.loop-l-test.true, c.links-m.ensures.0) in
    let out = in-loop.invariant.1 h in
    let value = beyond-own x c.args.w.now c.args.v in-loop.l out c.target.ensures.0 c.word-x.ensures.0 c.cost-c.ensures.0 in (
      omega (arith, next.1, c.links-m.ensures.0),
      own-next d c.args.v c.requires.v_bound (level_by x (level_in c.args.w.now) c.args.v) (λ l h e. level-other x (level_in c.args.w.now) c.args.v l e) h out next.0 next.2 next.1,
      omega (arith, c.max-best.ensures, in-loop.invariant.2, value, greatest-next d c.args.v c.requires.v_bound (level_by x (level_in c.args.w.now) c.args.v) (λ l h e. level-other x (level_in c.args.w.now) c.args.v l e) h out next.0 next.2 next.1),
    )

pub returns : goal.returns
returns c =
    let end : c.loop-l.l ≡ link_count (sheet_in c.args.w.now) = omega (arith, c.loop-l.invariant.0, c.loop-l-test.false, c.links-m.ensures.0) in
    rw (sym end) c.loop-l.invariant.2
