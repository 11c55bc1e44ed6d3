-- The listing before C-20 of document 02: `PLAN` told the highest processor used.
use Rattle.std.specs.Prelude.{List, ◌++◌, ℕ}
use Rattle.folds.specs.Folds.{gather}
use Rattle.folds.specs.Answers.{Answer, value, refused, and_then}
use Rattle.sheet.specs.Sheet.{Sheet, task_count}
use Rattle.graph.specs.Graph.{read_sheet}
use Rattle.planner.specs.Schedule.{Schedule}
use Rattle.planner.specs.Planner.{claim_of}
use Rattle.planner.specs.Flat.{planned_flat}
use Rattle.listing.specs.Listing.{plan_word, field, line_end, task_line, refusal_line}

unfoldable pub lines_flat : Sheet → Schedule → List ℕ
lines_flat s σ = (plan_word ++ (field σ.opened ++ (field (claim_of s σ) ++ line_end))) ++ gather (task_count s) (task_line σ)

abbrev pub lines_of_flat : Sheet → Answer Schedule → List ℕ
lines_of_flat s (value σ) = lines_flat s σ
lines_of_flat s (refused n at) = refusal_line n at

-- of a sheet that is not refused
unfoldable pub listing_flat : Sheet → List ℕ
listing_flat s = lines_of_flat s (planned_flat s)
