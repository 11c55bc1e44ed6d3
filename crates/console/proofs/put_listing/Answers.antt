-- `console::put_listing` meets its contract.
use native.Mathlib.Omega.{arith}
use Rattle.std.specs.Prelude.{is_ok}
use mathlib.Core.Path.{ap}
use Rattle.console.proofs.Pieces.{written-whole, put}
use Rattle.console.proofs.put_listing.Goals as goal

pub unwrap-requires : goal.unwrap-requires
unwrap-requires c = ap is_ok (written-whole c.list.ensures.fit (omega (arith, c.well_formed)))

pub returns : goal.returns
returns c = let a = c.args in put a.sheet.now a.out.now _ _ c.list.ensures.fit (omega (arith, c.well_formed)) c.unwrap.ensures
