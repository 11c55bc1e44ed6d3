-- A walk over the links into t, in rising number, that receives what they bring.
use Prim.Native.Nat.{ℕ, ◌+◌, ◌-◌, ◌≤◌, ◌<◌, max}
use mathlib.Core.Bool.{Bool, false}
use mathlib.Core.Path.{◌≡◌, refl, ap, ap₂, sym, ◌∙◌}
use mathlib.Core.Logic.{◌≢◌}
use mathlib.Core.List.{List}
use native.Mathlib.Omega.{arith}
use borrow.Author.Tests.{eq-eqb, ne_eqb}
use lib.Dec.{ltb}
use Rattle.folds.specs.Folds.{pick}
use Rattle.sheet.specs.Sheet.{Sheet, task_count, link_count, source_of, target_of, cost_of}
use Rattle.sheet.specs.Tables.{Ranged}
use Rattle.planner.specs.Schedule.{Schedule, latest_start, placed, place_of, finish_of}
use Rattle.planner.specs.Placing.{comes, reach_by, arrival, unpacked, ready_arrival}
use Rattle.planner.proofs.Unpacking.{unpacked-one, unpacked-skip, arrival-le}
use Rattle.planner.proofs.Finishes.{fresh-early, arrival-early, into-le}
use Rattle.adjacency.specs.Chains.{head_of, next_of, Chained}
use Rattle.adjacency.specs.declared.End.TheVariants.{Target}
use Rattle.arrivals.specs.Lanes.{fresh_past, Early}

module _ {s : Sheet} {w : List ℕ} (chained : Chained Target s w) (t : ℕ) (t-in : t < task_count s) (test : ℕ → Bool) (else : (l : ℕ) → l < link_count s → target_of s l ≢ t → test l ≡ false) (x : ℕ → ℕ) (e : ℕ) where
  pub unpacked-first : {l : ℕ} → l ≡ head_of Target w t → l ≤ link_count s → e ≡ unpacked s test x e l
  unfolding unpacked
  unpacked-first {l} q h =
      let z : 0 + l ≡ l = omega arith in
      sym (unpacked-skip s test x e 0 l (λ i a b. else i (omega arith) (chained.head_none t t-in i (omega arith)))) ∙ ap (unpacked s test x e) z

  pub unpacked-next : {l l' : ℕ} → l < link_count s → target_of s l ≡ t → l' ≡ next_of Target w l → l < l' → l' ≤ link_count s
      → pick (test l) (max (unpacked s test x e l) (x l) + s.unpacking) (unpacked s test x e l) ≡ unpacked s test x e l'
  unpacked-next {l} {l'} h own q more few =
      let z : l + 1 + (l' - (l + 1)) ≡ l' = omega arith in
      sym (unpacked-one s test x e l) ∙ sym (unpacked-skip s test x e (l + 1) (l' - (l + 1)) (λ i a b. else i (omega arith) (λ g. chained.next_none l h i (omega arith) (omega arith) (g ∙ sym own)))) ∙ ap (unpacked s test x e) z

-- on a fresh processor
pub comes-else : (s : Sheet) (σ : Schedule) (t l : ℕ) → l < link_count s → target_of s l ≢ t → comes s σ t l ≡ false
unfolding comes
comes-else s σ t l h d = rw (ne_eqb (target_of s l) t d)

-- the numbers of a link as the code reads them
pub fresh-by : (s : Sheet) (σ : Schedule) (l x : ℕ) {at f c y u r : ℕ} → at ≡ place_of σ (source_of s l) → f ≡ finish_of σ (source_of s l) → c ≡ cost_of s l → y ≡ max x (f + c) → u ≡ s.unpacking → r ≡ pick (ltb at 16) (y + u) x → r ≡ fresh_past s σ (target_of s l) l x
unfolding fresh_past comes placed
fresh-by s σ l x ea ef ec ey eu er = er ∙ rw (eq-eqb (target_of s l) (target_of s l) refl, ← ea, ← ef, ← ec, ey, eu)

-- the walk, at link l
pub record Receiving (s : Sheet) (σ : Schedule) (t l x : ℕ) : Type 0 where
  pub here : l ≤ link_count s
  pub own : l < link_count s → target_of s l ≡ t
  pub is : x ≡ unpacked s (comes s σ t) (reach_by s σ) 0 l

module _ {s : Sheet} {σ : Schedule} {w : List ℕ} (chained : Chained Target s w) (t : ℕ) (t-in : t < task_count s) where
  pub receive-begins : {l : ℕ} → l ≡ head_of Target w t → l ≤ link_count s → Receiving s σ t l 0
  receive-begins q h =
      record { here = h; own = λ m. rw q (chained.head_own t t-in (rw q at m)); is = unpacked-first chained t t-in (comes s σ t) (comes-else s σ t) (reach_by s σ) 0 q h }

  pub receive-more : {l l' x y : ℕ} → Receiving s σ t l x → l < link_count s → l' ≡ next_of Target w l → l < l' → l' ≤ link_count s → y ≡ fresh_past s σ (target_of s l) l x → Receiving s σ t l' y
  unfolding fresh_past
  receive-more {l} {l'} {x} {y} g h q more few e =
      let own = g.own h in
      record {
        here = few;
        own = λ m. rw q (chained.next_own l h (rw q at m)) ∙ own;
        is =
            e ∙ ap₂ (λ (u a : ℕ). pick (comes s σ u l) (max a (reach_by s σ l) + s.unpacking) a) own g.is ∙
            unpacked-next chained t t-in (comes s σ t) (comes-else s σ t) (reach_by s σ) 0 h own q more few;
      }

-- arrivals are small
pub ready-small : (s : Sheet) (σ : Schedule) (t : ℕ) → Ranged s → Early σ → ready_arrival s σ t ≤ latest_start
ready-small s σ t ranged early =
    omega (
      arith,
      arrival-early s σ t _ early.early,
      into-le s ranged.few_links (λ i m. omega (arith, ranged.costs i m)) (omega (arith, ranged.unpacks)) t (link_count s) (omega arith),
    )

pub arrival-small : (s : Sheet) (σ : Schedule) (t : ℕ) → Ranged s → Early σ → arrival s σ t ≤ latest_start
arrival-small s σ t ranged early = omega (arith, arrival-le s σ t, ready-small s σ t ranged early)

-- the walk's time stays small
pub receive-small : {s : Sheet} {σ : Schedule} {t l x : ℕ} → Receiving s σ t l x → Ranged s → Early σ → x ≤ latest_start
receive-small {s} {σ} {t} {l} g ranged early =
    omega (
      arith,
      g.is,
      fresh-early s σ t _ early.early l,
      into-le s ranged.few_links (λ i m. omega (arith, ranged.costs i m)) (omega (arith, ranged.unpacks)) t l g.here,
    )

pub receive-done : {s : Sheet} {σ : Schedule} {t l x : ℕ} → Receiving s σ t l x → link_count s ≤ l → x ≡ ready_arrival s σ t
unfolding ready_arrival
receive-done {s} {σ} {t} {l} g h = let z : l ≡ link_count s = omega (arith, g.here) in g.is ∙ ap (unpacked s (comes s σ t) (reach_by s σ) 0) z
