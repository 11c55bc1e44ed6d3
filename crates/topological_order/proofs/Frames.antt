-- What the words that the search leaves alone carry over: the sheet, and the chains.
use Prim.Native.Nat.{ℕ, ◌+◌, ◌≤◌, ◌<◌}
use mathlib.Core.Path.{◌≡◌, refl, sym, ◌∙◌, subst}
use mathlib.Core.List.{List}
use native.Mathlib.Omega.{arith}
use lib.ListN.{set}
use lib.Seq.{get_or-set_other}
use Rattle.workspace.specs.Area.{heads_at, levels_at, marks_at, opened_at}
use Rattle.sheet.specs.Sheet.{Sheet, task_count, link_count}
use Rattle.sheet.specs.Tables.{sheet_in, Loaded}
use Rattle.sheet.proofs.Rows.{ranged}
use Rattle.adjacency.specs.Frames.{Only}
use Rattle.adjacency.specs.Chains.{Chained}
use Rattle.adjacency.specs.declared.End.{End}
use Rattle.adjacency.proofs.Frames.{only_none, only-trans, only_wider, only_set, only-sheet, only-loaded}
use Rattle.adjacency.proofs.Walks.{chained-frame}
use Rattle.topological_order.specs.Words.{Held, Outside, Grown}
use Rattle.graph.proofs.Reaches.{Declared}

-- what writes the chains alone
pub only_kept : {w w' : List ℕ} → Only heads_at marks_at w w' → Only levels_at opened_at w w'
only_kept o = only_wider (omega arith) (omega arith) o

pub kept-sheet : {w w' : List ℕ} → Held w → Only levels_at opened_at w w' → sheet_in w' ≡ sheet_in w
kept-sheet h k = only-sheet (omega arith) h.loaded k

pub held : {w : List ℕ} → Loaded w → Held w
held {w} h = let r = ranged w h in record { loaded = h; long = h.long; few_tasks = r.few_tasks; few_links = r.few_links }

pub kept-held : {w w' : List ℕ} → Held w → Only levels_at opened_at w w' → Held w'
kept-held h k = held (only-loaded (omega arith) h.loaded k)

pub outside-held : {w w' : List ℕ} → Held w → Outside w w' → Held w'
outside-held h b = kept-held h b.kept

pub loaded-declared : {w : List ℕ} → Loaded w → Declared (sheet_in w)
loaded-declared {w} h = let r = ranged w h in record { source = r.source; target = r.target }

pub outside-none : (w : List ℕ) → Outside w w
outside-none w = record { kept = only_none levels_at opened_at w; chains = λ i h k. refl }

pub outside_trans : {u v w : List ℕ} → Outside u v → Outside v w → Outside u w
outside_trans p q = record { kept = only-trans p.kept q.kept; chains = λ i h k. q.chains i h k ∙ p.chains i h k }

-- a store into the levels, and one behind the chains
pub outside-level : {w w' : List ℕ} (t v : ℕ) → t < 256 → Outside w w' → Outside w (set w' (levels_at + t) v)
outside-level {w} {w'} t v h b =
    record { kept = only_set (levels_at + t) v (omega arith) (omega arith) b.kept; chains = λ i p q. get_or-set_other w' (levels_at + t) i v 0 (omega arith) ∙ b.chains i p q }

pub outside_set : {w w' : List ℕ} (j v : ℕ) → marks_at ≤ j → j < opened_at → Outside w w' → Outside w (set w' j v)
outside_set {w} {w'} j v l h b =
    record { kept = only_set j v (omega arith) h b.kept; chains = λ i p q. get_or-set_other w' j i v 0 (omega arith) ∙ b.chains i p q }

pub outside-sheet : {w w' : List ℕ} → Held w → Outside w w' → sheet_in w' ≡ sheet_in w
outside-sheet h b = kept-sheet h b.kept

-- the chains of an area whose chains are as they were
pub outside-chained : {e : End} (s : Sheet) (w w' : List ℕ) → task_count s ≤ 256 → link_count s ≤ 1024 → Outside w w' → Chained e s w → Chained e s w'
outside-chained {e} s w w' n m b = chained-frame n m (λ i h k. b.chains i h k)

-- what is said of the sheet before holds of the sheet after, and the other way round
pub outside-own : (P : Sheet → Type 0) {w w' : List ℕ} → Held w → Outside w w' → P (sheet_in w) → P (sheet_in w')
outside-own P h b p = subst P (sym (outside-sheet h b)) p

pub outside-from : (P : Sheet → Type 0) {w w' : List ℕ} → Held w → Outside w w' → P (sheet_in w') → P (sheet_in w)
outside-from P h b p = subst P (outside-sheet h b) p

-- what writes the marks and the queue alone
pub grown-none : (k : ℕ) (w : List ℕ) → Grown k k w w
grown-none k w = record { only = only_none marks_at opened_at w; more = omega arith; queue = λ j h. refl }

pub grown-trans : {k q r : ℕ} {u v w : List ℕ} → Grown k q u v → Grown q r v w → Grown k r u w
grown-trans a b = let x = a.more in let y = b.more in record { only = only-trans a.only b.only; more = omega arith; queue = λ j h. b.queue j (omega arith) ∙ a.queue j h }

pub grown-outside : {k r : ℕ} {w w' : List ℕ} → Grown k r w w' → Outside w w'
grown-outside g = record { kept = only_wider (omega arith) (omega arith) g.only; chains = λ i h k. g.only.low i k }
