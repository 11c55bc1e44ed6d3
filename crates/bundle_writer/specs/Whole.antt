-- Reading and writing a bundle's values whole: the refusals of its form, then 12, or the result.
use Rattle.std.specs.Prelude.{ℕ, List}
use Rattle.folds.specs.Answers.{Answer, and_then, fitting}
use Rattle.sheet.specs.Sheet.{Sheet}
use Rattle.bundle.specs.Format.{read_bundle}
use Rattle.bundle.specs.Writing.{bundle_values, value_bytes}

-- the values of the bundle in bytes b, where room for so many is lent
unfoldable pub read_values : Sheet → List ℕ → ℕ → Answer (List ℕ)
read_values s b lent = and_then (read_bundle s b) (λ x. fitting lent (bundle_values x))

-- the bytes of the values vs and a claim, where room for so many is lent
unfoldable pub write_values : Sheet → List ℕ → ℕ → ℕ → Answer (List ℕ)
write_values s vs claim lent = and_then (read_bundle s (value_bytes vs claim)) (λ x. fitting lent (value_bytes vs claim))
