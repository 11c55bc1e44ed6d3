-- Words written behind the tables leave the sheet as it was.
use Prim.Native.Nat.{ℕ, ◌≤◌, ◌<◌}
use mathlib.Core.Path.{◌≡◌, refl, ◌∙◌}
use mathlib.Core.List.{List}
use native.Mathlib.Omega.{arith}
use lib.ListN.{length, get_or, set, length-set}
use lib.Seq.{get_or-set_other}
use Rattle.workspace.specs.Area.{levels_at, marks_at}
use Rattle.sheet.specs.Tables.{sheet_in, Loaded}
use Rattle.sheet.proofs.Rows.{sheet-frame, loaded-frame}
use Rattle.adjacency.specs.Frames.{Only}

pub only_none : (a b : ℕ) (w : List ℕ) → Only a b w w
only_none a b w = record { long = refl; low = λ i h. refl; high = λ i h. refl }

pub only-trans : {a b : ℕ} {u v w : List ℕ} → Only a b u v → Only a b v w → Only a b u w
only-trans p q = record { long = q.long ∙ p.long; low = λ i h. q.low i h ∙ p.low i h; high = λ i h. q.high i h ∙ p.high i h }

-- what was written within narrower bounds
pub only_wider : {a b c d : ℕ} {w w' : List ℕ} → c ≤ a → b ≤ d → Only a b w w' → Only c d w w'
only_wider h g p = record { long = p.long; low = λ i k. p.low i (omega arith); high = λ i k. p.high i (omega arith) }

pub only_set : {a b : ℕ} {w w' : List ℕ} (j v : ℕ) → a ≤ j → j < b → Only a b w w' → Only a b w (set w' j v)
only_set {a} {b} {w} {w'} j v h g p =
    record {
      long = length-set w' j v ∙ p.long;
      low = λ i k. get_or-set_other w' j i v 0 (omega arith) ∙ p.low i k;
      high = λ i k. get_or-set_other w' j i v 0 (omega arith) ∙ p.high i k;
    }

pub same-sheet : (w w' : List ℕ) → Loaded w → ((i : ℕ) → i < marks_at → get_or w' i 0 ≡ get_or w i 0) → sheet_in w' ≡ sheet_in w
same-sheet w w' h f = sheet-frame w w' (λ i k. f i (omega arith)) h.tasks h.links

pub same-loaded : (w w' : List ℕ) → Loaded w → ((i : ℕ) → i < marks_at → get_or w' i 0 ≡ get_or w i 0) → length w' ≡ length w → Loaded w'
same-loaded w w' h f e = loaded-frame w w' (λ i k. f i (omega arith)) h e

pub only-sheet : {a b : ℕ} {w w' : List ℕ} → levels_at ≤ a → Loaded w → Only a b w w' → sheet_in w' ≡ sheet_in w
only-sheet {a} {b} {w} {w'} h l p = sheet-frame w w' (λ i k. p.low i (omega arith)) l.tasks l.links

pub only-loaded : {a b : ℕ} {w w' : List ℕ} → levels_at ≤ a → Loaded w → Only a b w w' → Loaded w'
only-loaded {a} {b} {w} {w'} h l p = loaded-frame w w' (λ i k. p.low i (omega arith)) l p.long
