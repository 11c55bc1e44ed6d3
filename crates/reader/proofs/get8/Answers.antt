-- `reader::get8` meets its contract.
use Rattle.reader.proofs.Widths.{number-one, whole-one}
use mathlib.Core.Path.{◌∙◌}
use native.Mathlib.Omega.{arith}
use Rattle.reader.proofs.get8.Goals as goal

pub get-requires : goal.get-requires
get-requires c = whole-one c.requires

pub returns : goal.returns
returns c =
    let a = c.args in
    let e = c.get.ensures ∙ number-one a.bytes.now a.at in
    (e, omega (arith, e, c.shared_slice_known-1.given a.at))
