-- What a view of the sheet in the tables says.
use Rattle.std.specs.Prelude.{ℕ, ◌≡◌, List}
use Rattle.sheet.specs.Sheet.{task_count, link_count}
use Rattle.sheet.specs.Sizes.{front_of, middle_of}
use Rattle.sheet.specs.Tables.{sheet_in, Loaded}
use Rattle.admission.specs.Fields.{Fields}
use Rattle.admission.specs.declared.view.View.{View}

pub record ViewIs (w : List ℕ) (v : View) : Type 0 where
  pub processors : v.processors ≡ (sheet_in w).processors
  pub limit : v.limit ≡ (sheet_in w).limit
  pub unpacking : v.unpacking ≡ (sheet_in w).unpacking
  pub cube : v.cube ≡ (sheet_in w).cube
  pub tasks : v.tasks ≡ task_count (sheet_in w)
  pub links : v.links ≡ link_count (sheet_in w)
  pub front : v.front ≡ front_of (sheet_in w)

-- the sheet in the tables lies in these bytes too
pub record Shown (sheet w : List ℕ) : Type 0 where
  pub loaded : Loaded w
  pub fields : Fields (sheet_in w) sheet (front_of (sheet_in w)) (middle_of (sheet_in w))
