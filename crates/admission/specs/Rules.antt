-- What the passes over a bundle's notes promise: the place of 26, and the number and the place of 31 to 33.
use Rattle.std.specs.Prelude.{ℕ, ◌<◌, ◌≡◌, List}
use Rattle.std.proofs.Math.Option.{none}
use Rattle.workspace.specs.Found.{found_of}
use Rattle.workspace.specs.Found.{Found}
use Rattle.refusals.specs.Refusals.{fault_of, refusal_of}
use Rattle.refusals.specs.declared.Refusal.{Refusal}
use Rattle.refusals.specs.declared.Fault.{Fault}
use Rattle.std.specs.Prelude.{⊤, Result}
use Rattle.sheet.specs.Sheet.{Sheet, task_count, link_count}
use Rattle.bundle.specs.Bundle.{Bundle, programme_count}
use Rattle.admission.specs.Messages.{at26, message_fault, at_message}
use Rattle.admission.specs.Fields.{Known}
use Rattle.admission.specs.Notes.{Notes}
use Rattle.admission.specs.declared.view.View.{View}

-- a sheet seen by v in these bytes; and notes of a whole bundle
pub record Given (s : Sheet) (b : Bundle) (sheet w : List ℕ) (v : View) : Type 0 where
  pub known : Known s sheet v
  pub count : ℕ
  pub notes : Notes s b (programme_count b) 0 count w

-- n tasks
pub record OnceIs (w : List ℕ) (n : ℕ) (r : Found) : Type 0 where
  pub is_26 : (s : Sheet) (b : Bundle) (count : ℕ) → task_count s ≡ n → Notes s b (programme_count b) 0 count w → found_of r ≡ at26 s b

-- link l
pub record LinkIs (sheet w : List ℕ) (v : View) (l : ℕ) (r : Result ⊤ Fault) : Type 0 where
  pub is_fault : (s : Sheet) (b : Bundle) → l < link_count s → Given s b sheet w v → at26 s b ≡ none → fault_of r ≡ message_fault s b l

-- all links
pub record MessageIs (sheet w : List ℕ) (v : View) (r : Result ⊤ Refusal) : Type 0 where
  pub is_lowest : (s : Sheet) (b : Bundle) → Given s b sheet w v → at26 s b ≡ none → refusal_of r ≡ at_message s b
