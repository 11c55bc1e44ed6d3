-- `bundle_reader::bytes::open_at` meets its contract.
use Rattle.bundle.proofs.Faults.{fault-open}
use borrow.Author.Tests.{eq-eqb, le-ltb, lt-leb, lt-ltb}
use Rattle.std.proofs.lemmas.Bool.Decides.{nat_tests}
use native.Mathlib.Omega.{arith}
use Rattle.bundle_reader.proofs.bytes.open_at.Goals as goal

pub returns-then-bytes-at-lt1 : goal.returns-then-bytes-at-lt1
returns-then-bytes-at-lt1 c = simp (fault-open, lt-ltb _ _ c.if-bytes-at-lt1.true)

pub returns-then-processors-k : goal.returns-then-processors-k
returns-then-processors-k c = simp (fault-open, le-ltb _ _ c.if-bytes-at-lt1.false, ← c.get8-k.ensures.0) (grind (arith, nat_tests))

pub returns-else-processors-k : goal.returns-else-processors-k
returns-else-processors-k c = let f = c.if-processors-k.false in simp (fault-open, le-ltb _ _ c.if-bytes-at-lt1.false, ← c.get8-k.ensures.0, eq-eqb _ _ f.0, lt-leb _ _ f.1)
