-- The whole checker: its part of the work area is lent.
use Prim.Native.Nat.{ℕ, ◌-◌}
use mathlib.Core.Path.{◌≡◌}
use mathlib.Core.List.{List}
use lib.ListN.{length}
use borrow.Rule.Slice.PartMut.{mid_of}
use Rattle.sheet.specs.Tables.{sheet_in}
use Rattle.admission.specs.Views.{ViewIs, Shown}
use Rattle.admission.specs.declared.view.View.{View}
use Rattle.admission.proofs.Areas.{known_in}
use Rattle.stepping_machine.specs.Layout as lay
use Rattle.checker.specs.Verdicts.{JudgementIs, CheckIs}
use Rattle.std.specs.Prelude.{⊤, Result}
use Rattle.refusals.specs.declared.Refusal.{Refusal}

pub checked-in : (w sheet bundle last after : List ℕ) (v : View) (r : Result ⊤ Refusal) → Shown sheet w → ViewIs w v → JudgementIs sheet bundle (mid_of lay.board (length w - lay.board) w) last v r → length after ≡ length w
    → CheckIs bundle w after r
checked-in w sheet bundle last after v r h y g e = record { long = e; is = g.is (sheet_in w) (known_in w sheet v h y) }
