-- `is_unpacking` (src/bytes.rt) keeps its contract.
use Rattle.commands.proofs.Going.{judge-end}
use Rattle.sheet.specs.Faults.{begun}
use Rattle.sheet.specs.Format.{unpack, sheet_format}
use Rattle.sheet.specs.Tables.{sheet_in}
use Rattle.sheet_reader.specs.Answers.{is_unpacking}
use Rattle.sheet_reader.proofs.Scans.{other_byte, its-byte, unpacking-comes}
use Rattle.std.specs.Prelude.{Ok, Err}
use mathlib.Core.Path.{◌∙◌, ap, refl, sym}
use native.Mathlib.Omega.{arith}
use Rattle.sheet_reader.proofs.bytes.is_unpacking.Goals as goal

pub returns-then-bytes-at : goal.returns-then-bytes-at
returns-then-bytes-at c = sym (ap is_unpacking (judge-end sheet_format (begun (sheet_in c.args.w.now)) c.args.bytes.now c.args.at (omega arith)))

pub returns-then-get8-ne-UNPACKING_BYTE : goal.returns-then-get8-ne-UNPACKING_BYTE
returns-then-get8-ne-UNPACKING_BYTE c = sym (other_byte is_unpacking (begun (sheet_in c.args.w.now)) c.args.bytes.now c.args.at refl unpack unpacking-comes (λ q. c.if-get8-ne-UNPACKING_BYTE.true (c.get8.ensures.0 ∙ q)))

pub returns : goal.returns
returns c =
    c.is_ok.ensures.value
    ∙ its-byte is_unpacking (begun (sheet_in c.args.w.now)) c.args.bytes.now c.args.at unpack (elim [ Ok x ↦ refl | Err n ↦ refl ]) refl c.if-bytes-at.false (sym c.get8.ensures.0 ∙ c.if-get8-ne-UNPACKING_BYTE.false) c.unpacking_at.result c.unpacking_at.ensures
