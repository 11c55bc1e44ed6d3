-- The checker's answer: 26, 31 to 33, 37 and 28 to 30 behind the readers, or the bundle.
use Rattle.std.specs.Prelude.{ℕ, Bool, List, length, ltb, eqb}
use Rattle.std.proofs.Math.Option.{Option, none, some}
use Rattle.folds.specs.Folds.{pick, first}
use Rattle.folds.specs.Answers.{Answer, value, unless, unless_at, and_then}
use Rattle.sheet.specs.Sheet.{Sheet}
use Rattle.graph.specs.Graph.{read_sheet}
use Rattle.bundle.specs.Bundle.{Bundle, programme_count, programme_of}
use Rattle.bundle.specs.Format.{read_bundle}
use Rattle.admission.specs.Messages.{at26, at_message, at28}
use Rattle.admission.specs.Releases.{at37}
use Rattle.machine.specs.Machine.{State, processor_of}
use Rattle.machine.specs.Runs.{settled, latest}

unfoldable pub unfinished : Bundle → State → ℕ → Bool
unfinished b σ k = ltb (processor_of σ k).position (length (programme_of b k))

-- 29: "no one can step, commands left", at the lowest unfinished processor
unfoldable pub at29 : Bundle → State → Option ℕ
at29 b σ = first (programme_count b) (unfinished b σ)

-- 30: "claim is not the latest clock", at that clock
unfoldable pub at30 : Bundle → State → Option ℕ
at30 b σ = pick (eqb b.claim (latest σ)) none (some (latest σ))

unfoldable pub closing : Bundle → State → Answer Bundle
closing b σ = unless 29 (at29 b σ) (unless 30 (at30 b σ) (value b))

unfoldable pub checked : Sheet → Bundle → Answer Bundle
checked s b = unless 26 (at26 s b) (unless_at (at_message s b) (unless 37 (at37 s b) (unless 28 (at28 s b) (closing b (settled s b)))))

-- of the bytes of a sheet and a bundle
unfoldable pub check : List ℕ → List ℕ → Answer Bundle
check sheet bundle = and_then (read_sheet sheet) (λ s. and_then (read_bundle s bundle) (checked s))
