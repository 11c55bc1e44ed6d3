-- `on_circle` (src/search.rt) keeps its contract.
use native.Mathlib.Omega.{arith}
use Rattle.topological_order.proofs.Frames.{outside-held}
use Rattle.levelling.proofs.Spreads.{blank-empties, goal-asks, goal-ends, goal-first}
use Rattle.levelling.proofs.search.on_circle.Goals as goal

pub push-requires : goal.push-requires
push-requires c = ((outside-held c.requires.held c.blank.ensures.0).long, omega arith, omega (arith, c.requires.held.few_tasks, c.requires.goal_bound))

pub look_all-requires : goal.look_all-requires
look_all-requires c =
    let all = goal-asks c.requires.held c.requires.chained c.requires.goal_bound (goal-first c.requires.held c.requires.goal_bound (blank-empties c.blank.ensures) c.push.ensures) in
    record { held = all.0; chained = all.1.0; goal_bound = all.1.1.0; searched = all.1.1.1 }

pub returns : goal.returns
returns c = goal-ends c.args.goal c.requires.held (goal-first c.requires.held c.requires.goal_bound (blank-empties c.blank.ensures) c.push.ensures).0 c.look_all.ensures
