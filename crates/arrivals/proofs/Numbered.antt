-- A walk over the links into a task that ends by their number, which is known before they are.
use Prim.Native.Nat.{ℕ, ◌+◌, ◌≤◌, ◌<◌}
use mathlib.Core.Bool.{true}
use mathlib.Core.Path.{◌≡◌, ap}
use mathlib.Core.Logic.{◌≢◌}
use mathlib.Core.List.{List}
use native.Mathlib.Omega.{arith}
use native.Mathlib.Decide.{dec_lt}
use borrow.Author.Tests.{eq-eqb, ne_eqb}
use lib.ListN.{get_or}
use Rattle.folds.specs.Folds.{sum}
use Rattle.folds.proofs.Laws.{sum-rises}
use Rattle.folds.proofs.Loops.{sum_one}
use Rattle.sheet.specs.Sheet.{Sheet, task_count, link_count, target_of}
use Rattle.adjacency.specs.Chains.{head_of, next_of, Chained}
use Rattle.adjacency.specs.declared.End.TheVariants.{Target}
use Rattle.adjacency.proofs.Walks.{own_first, own-next, sum_first, sum-next}
use Rattle.arrivals.specs.Kept.{counted_by, into, one_by, Gathered}

-- the walk, at link l, after i links
pub record Walking (s : Sheet) (t i l : ℕ) : Type 0 where
  pub here : l ≤ link_count s
  pub own : l < link_count s → target_of s l ≡ t
  pub walked : i ≡ sum l (counted_by (into s t) one_by (λ l. true))

module _ {s : Sheet} {w kept : List ℕ} (chained : Chained Target s w) (gathered : Gathered s kept) (t : ℕ) (t-in : t < task_count s) where
  -- 1 for a link into t
  abbrev leads : ℕ → ℕ
  leads = counted_by (into s t) one_by (λ l. true)

  leads-else : (l : ℕ) → l < link_count s → target_of s l ≢ t → leads l ≡ 0
  unfolding counted_by
  leads-else l h d = rw (ne_eqb (target_of s l) t d)

  leads-own : (l : ℕ) → target_of s l ≡ t → 1 ≡ leads l
  unfolding counted_by
  leads-own l e = rw (eq-eqb (target_of s l) t e)

  pub walk_begins : {l : ℕ} → l ≡ head_of Target w t → l ≤ link_count s → Walking s t 0 l
  walk_begins e h = record { here = h; own = own_first chained t t-in leads leads-else e; walked = sum_first chained t t-in leads leads-else e h }

  module _ {i l : ℕ} (g : Walking s t i l) where
    -- there is a link more
    pub walk-there : {n : ℕ} → n ≡ get_or kept t 0 → i < n → l < link_count s
    walk-there e h = go (dec_lt l (link_count s))
      where
        go : Dec (l < link_count s) → l < link_count s
        go (yes p) = p
        go (no p) = absurd (omega (arith, g.walked, gathered.number t t-in, ap (λ (x : ℕ). sum x leads) (the_end p)))
          where
            the_end : (l < link_count s → ⊥) → l ≡ link_count s
            the_end q = omega (arith, g.here)

    pub walk_more : {l' : ℕ} → l < link_count s → l' ≡ next_of Target w l → l < l' → l' ≤ link_count s → Walking s t (i + 1) l'
    walk_more h e more f =
        record {
          here = f;
          own = own-next chained t t-in leads leads-else h (g.own h) e more f;
          walked = sum-next chained t t-in leads leads-else h (g.own h) e more f g.walked (leads-own l (g.own h));
        }

    -- all of t's links were walked, and so there is none at l
    pub walk-ended : {n : ℕ} → n ≡ get_or kept t 0 → n ≤ i → l ≡ link_count s
    walk-ended e h = go (dec_lt l (link_count s))
      where
        go : Dec (l < link_count s) → l ≡ link_count s
        go (yes p) =
            absurd (omega (arith, g.walked, gathered.number t t-in, sum_one l leads, leads-own l (g.own p), sum-rises (l + 1) (link_count s) leads (omega arith)))
        go (no p) = omega (arith, g.here)
