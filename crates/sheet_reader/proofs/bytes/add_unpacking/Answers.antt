-- `add_unpacking` (src/bytes.rt) keeps its contract.
use Rattle.sheet_reader.proofs.Scans.{unpacking-added, unpacking-comes, unpacking-none, walk-room}
use Rattle.sheet.specs.Format.{unpack}
use mathlib.Core.Path.{◌∙◌, sym}
use native.Mathlib.Omega.{arith}
use Rattle.sheet_reader.proofs.bytes.add_unpacking.Goals as goal

pub get16-requires : goal.get16-requires
get16-requires c = omega (arith, walk-room c.requires unpack (unpacking-comes _ (sym c.is_unpacking.ensures ∙ c.if-is_unpacking.true)))

pub returns-then-is_unpacking : goal.returns-then-is_unpacking
returns-then-is_unpacking c = unpacking-added c.requires _ _ (unpacking-comes _ (sym c.is_unpacking.ensures ∙ c.if-is_unpacking.true)) (λ i. omega (arith, c.type_inv.bytes i)) c.get16.ensures c.put_unpacking.ensures

pub returns : goal.returns
returns c = (c.requires, unpacking-none c.requires (sym c.is_unpacking.ensures ∙ c.if-is_unpacking.false))
