-- `count_one` (src/peel.rt) keeps its contract.
use native.Mathlib.Omega.{arith}
use Rattle.topological_order.proofs.Starts.{count_small, counted}
use Rattle.topological_order.proofs.Frames.{loaded-declared}
use mathlib.Core.Path.{refl}
use Rattle.sheet.specs.Tables.{sheet_in}
use Rattle.topological_order.proofs.peel.count_one.Goals as goal

pub overflow_cast-w : goal.overflow_cast-w
overflow_cast-w c = omega (arith, c.requires.held.few_links, c.requires.l_bound, count_small (sheet_in c.args.w.now) c.args.w.now c.args.l (loaded-declared c.requires.held.loaded) c.requires.held.few_tasks c.requires.held.few_links c.requires.held.long c.requires.l_bound c.requires.counted c.source-u.ensures.0 c.word-d.ensures.0)

pub returns : goal.returns
returns c = counted (sheet_in c.args.w.now) c.args.w.now c.args.l (loaded-declared c.requires.held.loaded) c.requires.held.few_tasks c.requires.held.few_links c.requires.held.long c.requires.l_bound c.requires.counted _ c.source-u.ensures.0 c.word-d.ensures.0 refl refl
