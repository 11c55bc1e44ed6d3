-- The order of accepted bundles.
use Rattle.std.specs.Prelude.{ℕ, List, [], ◌∷◌, ltb}
use Rattle.folds.specs.Folds.{pick}
use Rattle.std.specs.declared.cmp.Ordering.{Ordering}
use Rattle.std.specs.declared.cmp.Ordering.TheVariants.{Less, Equal, Greater}

abbrev pub by_number : ℕ → ℕ → Ordering
by_number a b = pick (ltb a b) Less (pick (ltb b a) Greater Equal)

-- the first order, and the second where that tells nothing
abbrev pub then_by : Ordering → Ordering → Ordering
then_by Less o = Less
then_by Equal o = o
then_by Greater o = Greater

-- "the first differing byte lower, a shorter bundle before a longer one that begins with it"
unfoldable pub by_bytes : List ℕ → List ℕ → Ordering
by_bytes [] [] = Equal
by_bytes [] (y ∷ b) = Less
by_bytes (x ∷ a) [] = Greater
by_bytes (x ∷ a) (y ∷ b) = then_by (by_number x y) (by_bytes a b)

-- what an accepted bundle is ranked by
pub record Rank : Type 0 where
  pub claim : ℕ
  pub runners : ℕ
  pub bytes : List ℕ

-- "the smaller claim, then fewer processors that run a task, then the first differing byte lower"
unfoldable pub by_rank : Rank → Rank → Ordering
by_rank a b = then_by (by_number a.claim b.claim) (then_by (by_number a.runners b.runners) (by_bytes a.bytes b.bytes))
