-- `note` (src/search.rt) keeps its contract.
use native.Mathlib.Omega.{arith}
use Rattle.levelling.proofs.Spreads.{note-goes, note-room, note-stays}
use Rattle.levelling.proofs.search.note.Goals as goal

pub returns-then-word-ge65536 : goal.returns-then-word-ge65536
returns-then-word-ge65536 c = note-stays c.args.w.now c.requires.held c.args.k c.args.u c.requires.u_bound c.requires.queued c.word.ensures.0 c.if-word-ge65536.true

pub push-requires : goal.push-requires
push-requires c = (c.requires.held.long, note-room c.args.w.now c.requires.held c.args.k c.args.u c.requires.u_bound c.requires.queued c.word.ensures.0 c.if-word-ge65536.false, omega (arith, c.requires.held.few_tasks, c.requires.u_bound))

pub overflow_add-result : goal.overflow_add-result
overflow_add-result c = omega (arith, note-room c.args.w.now c.requires.held c.args.k c.args.u c.requires.u_bound c.requires.queued c.word.ensures.0 c.if-word-ge65536.false)

pub returns-else-word-ge65536 : goal.returns-else-word-ge65536
returns-else-word-ge65536 c = note-goes c.args.w.now c.requires.held c.args.k c.args.u c.requires.u_bound c.requires.queued c.word.ensures.0 c.if-word-ge65536.false _ c.push.ensures
