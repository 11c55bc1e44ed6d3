-- Of a sheet without `48` every listing is what it was before C-20.
use Prim.Native.Nat.{ℕ}
use mathlib.Core.Bool.{false}
use mathlib.Core.List.{List}
use mathlib.Core.Path.{◌≡◌, refl, ap, sym, ◌∙◌}
use Rattle.folds.specs.Answers.{Answer, value, refused, and_then}
use Rattle.sheet.specs.Sheet.{Sheet}
use Rattle.graph.specs.Graph.{read_sheet}
use Rattle.graph.proofs.Proper.{Proper, proper}
use Rattle.planner.specs.Schedule.{Schedule}
use Rattle.planner.specs.Planner.{planned, running}
use Rattle.planner.specs.Flat.{planned_flat}
use Rattle.planner.proofs.Flat.{flat-plans, flat-running}
use Rattle.listing.specs.Listing.{plan_line, schedule_lines, refusal_line, lines_of, listing}
use Rattle.listing.specs.Flat.{lines_flat, lines_of_flat, listing_flat}

module _ (s : Sheet) (fair : Proper s) (flat : s.cube ≡ false) where
  lines_same : (σ : Schedule) → planned s ≡ value σ → schedule_lines s σ ≡ lines_flat s σ
  unfolding schedule_lines plan_line lines_flat
  lines_same σ e = rw (flat-running s fair flat σ e)

  listed_same : (a : Answer Schedule) → planned s ≡ a → lines_of (and_then a (λ σ. value (s, σ))) ≡ lines_of_flat s a
  listed_same (value σ) e = lines_same σ e
  listed_same (refused n at) e = refl

pub flat-listings : (sheet : List ℕ) (s : Sheet) → read_sheet sheet ≡ value s → s.cube ≡ false → listing sheet ≡ listing_flat s
unfolding listing listing_flat
flat-listings sheet s e flat =
    rw e (listed_same s (proper sheet s e) flat (planned s) refl ∙ ap (lines_of_flat s) (flat-plans s (proper sheet s e) flat))
