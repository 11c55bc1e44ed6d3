-- `offer` (src/peel.rt) keeps its contract.
use native.Mathlib.Omega.{arith}
use Rattle.topological_order.proofs.Frames.{loaded-declared}
use Rattle.topological_order.proofs.Starts.{offer-goes, offer-room, offer-stays}
use Rattle.sheet.specs.Tables.{sheet_in}
use Rattle.topological_order.proofs.peel.offer.Goals as goal

pub push-requires : goal.push-requires
push-requires c = (c.requires.held.long, offer-room (sheet_in c.args.w.now) c.args.w.now c.args.k c.args.t (loaded-declared c.requires.held.loaded) c.requires.held.few_tasks c.requires.held.long c.requires.t_bound c.requires.filled, omega (arith, c.requires.held.few_tasks, c.requires.t_bound))

pub overflow_add-result : goal.overflow_add-result
overflow_add-result c = omega (arith, offer-room (sheet_in c.args.w.now) c.args.w.now c.args.k c.args.t (loaded-declared c.requires.held.loaded) c.requires.held.few_tasks c.requires.held.long c.requires.t_bound c.requires.filled)

pub returns-then-word-eq0 : goal.returns-then-word-eq0
returns-then-word-eq0 c = offer-goes (sheet_in c.args.w.now) c.args.w.now c.args.k c.args.t (loaded-declared c.requires.held.loaded) c.requires.held.few_tasks c.requires.held.long c.requires.t_bound c.requires.filled _ c.word.ensures.0 c.if-word-eq0.true c.push.ensures

pub returns-else-word-eq0 : goal.returns-else-word-eq0
returns-else-word-eq0 c = offer-stays (sheet_in c.args.w.now) c.args.w.now c.args.k c.args.t (loaded-declared c.requires.held.loaded) c.requires.held.few_tasks c.requires.held.long c.requires.t_bound c.requires.filled c.word.ensures.0 c.if-word-eq0.false
