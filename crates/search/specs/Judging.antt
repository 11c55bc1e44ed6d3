-- What judging one arrangement gives.
use Rattle.std.specs.Prelude.{ℕ, false, ◌≡◌, List}
use Rattle.folds.specs.Answers.{value}
use Rattle.numbers.specs.Number.{Bytes}
use Rattle.sheet.specs.Sheet.{Sheet}
use Rattle.graph.specs.Graph.{read_sheet}
use Rattle.admission.specs.Fields.{Known}
use Rattle.admission.specs.declared.view.View.{View}
use Rattle.checker.specs.Checker.{checked}
use Rattle.least.specs.Least.{In, candidates, bundle_in, is_value}
use Rattle.search.specs.Codes.{arranged}
use Rattle.std.specs.Prelude.{Some, is_some}
use Rattle.std.specs.Prelude.{Option as Maybe}

-- the sheet s, which is no cube, was read from these bytes, and is seen by v
pub record Sought (s : Sheet) (sheet : List ℕ) (v : View) : Type 0 where
  pub known : Known s sheet v
  pub bytes : Bytes sheet
  pub read : read_sheet sheet ≡ value s
  pub flat : s.cube ≡ false

pub record JudgeIs (sheet : List ℕ) (v : View) (code : ℕ) (r : Maybe ℕ) : Type 0 where
  pub accepts : (s : Sheet) → Sought s sheet v → In (arranged v.tasks code) (candidates s) → is_some r ≡ is_value (checked s (bundle_in s (arranged v.tasks code)))
  pub claims : (s : Sheet) → Sought s sheet v → In (arranged v.tasks code) (candidates s) → (c : ℕ) → r ≡ Some c → c ≡ (bundle_in s (arranged v.tasks code)).claim
