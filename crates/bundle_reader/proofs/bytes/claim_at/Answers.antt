-- `bundle_reader::bytes::claim_at` meets its contract.
use Rattle.bundle.proofs.Faults.{fault-claim}
use borrow.Author.Tests.{le-ltb, lt-ltb}
use mathlib.Core.Path.{sym, ◌∙◌}
use Rattle.bundle_reader.proofs.bytes.claim_at.Goals as goal

pub returns-then-is_early : goal.returns-then-is_early
returns-then-is_early c = simp (fault-claim, sym c.is_early.ensures ∙ c.if-is_early.true)

pub returns-then-bytes-at-lt4 : goal.returns-then-bytes-at-lt4
returns-then-bytes-at-lt4 c = simp (fault-claim, sym c.is_early.ensures ∙ c.if-is_early.false, lt-ltb _ _ c.if-bytes-at-lt4.true)

pub returns-else-bytes-at-lt4 : goal.returns-else-bytes-at-lt4
returns-else-bytes-at-lt4 c = simp (fault-claim, sym c.is_early.ensures ∙ c.if-is_early.false, le-ltb _ _ c.if-bytes-at-lt4.false)
