-- What is due from each processor, counted in one walk over the links from a task.
use Prim.Native.Nat.{ℕ, zero, suc, ◌+◌, ◌≤◌, ◌<◌}
use mathlib.Core.Path.{◌≡◌, refl, ap, subst, ◌∙◌}
use mathlib.Core.List.{List}
use native.Mathlib.Omega.{arith}
use Rattle.sheet.specs.Sheet.{Sheet, task_count, link_count, source_of, target_of}
use Rattle.planner.specs.Schedule.{Schedule}
use Rattle.adjacency.specs.Chains.{head_of, next_of, Chained}
use Rattle.adjacency.specs.declared.End.TheVariants.{Source}
use Rattle.adjacency.proofs.Walks.{sum_first, sum-next}
use Rattle.placing.specs.Choosing.{known_into, due_by, four_in, Small, MoreDue, DuesTo}
use Rattle.placing.specs.declared.Counts.{Counts}
use Rattle.placing.specs.declared.Senders.TheVariants.{Four}
use Rattle.placing.proofs.Spent.{due-else, due-own}

pub last-four : (x : Counts) (j : ℕ) → (j ≡ 0 → ⊥) → (j ≡ 1 → ⊥) → (j ≡ 2 → ⊥) → x.d ≡ four_in x j
last-four x zero p q r = absurd (p refl)
last-four x (suc zero) p q r = absurd (q refl)
last-four x (suc (suc zero)) p q r = absurd (r refl)
last-four x (suc (suc (suc j))) p q r = refl

abbrev pub no_counts : Counts
no_counts = record { a = 0; b = 0; c = 0; d = 0 }

none-counted : (j : ℕ) → four_in no_counts j ≡ 0
none-counted zero = refl
none-counted (suc zero) = refl
none-counted (suc (suc zero)) = refl
none-counted (suc (suc (suc j))) = refl

-- as the code adds
module _ (s : Sheet) (σ : Schedule) (v : ℕ) where
  abbrev pub Known : ℕ → ℕ → Type 0
  Known j x = (x ≡ known_into s σ v (Four j)) × (x < 4294967296)

  module _ (x : Counts) {a b c d : ℕ} (ha : Known 0 a) (hb : Known 1 b) (hc : Known 2 c) (hd : Known 3 d) where
    abbrev sums : Counts
    sums = record { a = x.a + a; b = x.b + b; c = x.c + c; d = x.d + d }

    each-due : (j : ℕ) → j < 4 → four_in sums j ≡ four_in x j + known_into s σ v (Four j)
    each-due zero h = ap (λ (y : ℕ). x.a + y) ha.0
    each-due (suc zero) h = ap (λ (y : ℕ). x.b + y) hb.0
    each-due (suc (suc zero)) h = ap (λ (y : ℕ). x.c + y) hc.0
    each-due (suc (suc (suc zero))) h = ap (λ (y : ℕ). x.d + y) hd.0
    each-due (suc (suc (suc (suc j)))) h = absurd (omega arith)

    few-due : (j : ℕ) → four_in sums j ≤ four_in x j + 4294967295
    few-due zero = omega (arith, ha.1)
    few-due (suc zero) = omega (arith, hb.1)
    few-due (suc (suc zero)) = omega (arith, hc.1)
    few-due (suc (suc (suc j))) = omega (arith, hd.1)

    pub added-due : MoreDue s σ v x sums
    added-due = record { each = each-due; few = few-due }

module _ {s : Sheet} {σ : Schedule} {w : List ℕ} (d : Chained Source s w) (t : ℕ) (t-in : t < task_count s) where
  pub dues-first : {l : ℕ} → l ≡ head_of Source w t → l ≤ link_count s → DuesTo s σ t l no_counts
  dues-first {l} q few =
      record {
        each = λ j h. none-counted j ∙ sum_first d t t-in (due_by s σ t (Four j)) (λ i g. due-else s σ t (Four j) i) q few;
        few = λ j. omega (arith, none-counted j);
      }

  pub dues-next : {l l' v : ℕ} {x y : Counts} → l < link_count s → source_of s l ≡ t → l' ≡ next_of Source w l → l < l' → l' ≤ link_count s → v ≡ target_of s l
      → DuesTo s σ t l x → MoreDue s σ v x y → DuesTo s σ t l' y
  dues-next {l} {l'} {v} {x} {y} l-in own q more few ev h m =
      record {
        each =
            λ j i.
            m.each j i ∙ sum-next d t t-in (due_by s σ t (Four j)) (λ k g. due-else s σ t (Four j) k) l-in own q more few (h.each j i) (due-own s σ t (Four j) l own ev refl);
        few = λ j. omega (arith, m.few j, h.few j);
      }

pub small-dues : {s : Sheet} {σ : Schedule} {t l : ℕ} {x : Counts} → DuesTo s σ t l x → l ≤ 1024 → Small x
small-dues h few = record { most = λ j. omega (arith, h.few j) }

pub dues-at : {s : Sheet} {σ : Schedule} {t l n : ℕ} {x : Counts} → DuesTo s σ t l x → l ≡ n → DuesTo s σ t n x
dues-at {s} {σ} {t} {l} {n} {x} h e = subst (λ (i : ℕ). DuesTo s σ t i x) e h
