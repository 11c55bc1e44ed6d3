-- `bundle_reader::bytes::message_at` meets its contract.
use Rattle.bundle.proofs.Faults.{fault-send}
use borrow.Author.Tests.{eq-eqb, le-leb, le-ltb, lt-leb, lt-ltb, ne_eqb}
use Rattle.bundle_reader.proofs.bytes.message_at.Goals as goal

pub returns-then-opened-eq0 : goal.returns-then-opened-eq0
returns-then-opened-eq0 c = simp (fault-send, eq-eqb _ _ c.if-opened-eq0.true)

pub returns-then-bytes-at-lt2 : goal.returns-then-bytes-at-lt2
returns-then-bytes-at-lt2 c = simp (fault-send, ne_eqb _ _ c.if-opened-eq0.false, lt-ltb _ _ c.if-bytes-at-lt2.true)

pub returns-then-links-get16 : goal.returns-then-links-get16
returns-then-links-get16 c = simp (fault-send, ne_eqb _ _ c.if-opened-eq0.false, le-ltb _ _ c.if-bytes-at-lt2.false, ← c.get16.ensures, le-leb _ _ c.if-links-get16.true)

pub returns-else-links-get16 : goal.returns-else-links-get16
returns-else-links-get16 c = simp (fault-send, ne_eqb _ _ c.if-opened-eq0.false, le-ltb _ _ c.if-bytes-at-lt2.false, ← c.get16.ensures, lt-leb _ _ c.if-links-get16.false)
