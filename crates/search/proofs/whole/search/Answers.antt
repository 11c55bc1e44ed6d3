-- `search` (src/whole.rt) keeps its contract.
use native.Mathlib.Omega.{arith}
use Rattle.search.proofs.Ends.{search-none, search-short, search-done, copied}
use borrow.Author.Rules.{rules}
use Rattle.search.proofs.whole.search.Goals as goal

pub returns-in_default : goal.returns-in_default
returns-in_default c =
    rw c.at.ensures (search-none _ _ _ _ c.best_of.ensures _ c.saturating_sub.ensures c.in_default.is)

pub put_bundle-n-requires : goal.put_bundle-n-requires
put_bundle-n-requires c = (c.requires.1, search rules, c.requires.1.tasks, c.best_of.ensures.right.coded _ c.in-Some.is)

pub returns-then-out-n : goal.returns-then-out-n
returns-then-out-n c =
    rw c.at-then-out-n.ensures (search-short _ _ _ _ c.best_of.ensures _ c.in-Some.is _ _ _ c.put_bundle-n.ensures (omega (arith, c.if-out-n.true)))

pub returns : goal.returns
returns c = search-done _ _ _ _ c.best_of.ensures _ c.in-Some.is _ _ _ c.put_bundle-n.ensures _ (omega (arith, c.if-out-n.false)) (copied _ c.args.out.now _ _ (omega (arith, c.put_bundle-n.ensures.few)) c.copy_from_slice.ensures.after)
