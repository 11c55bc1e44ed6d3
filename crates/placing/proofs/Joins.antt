-- The greatest key of step 1 is one of a processor that a link into the task comes from.
use Prim.Native.Nat.{ℕ, ◌+◌, ◌≤◌, ◌<◌, max}
use mathlib.Core.Bool.{Bool, true, false}
use mathlib.Core.Path.{◌≡◌, refl, ap, ap₂, sym, ◌∙◌}
use mathlib.Core.Logic.{◌≢◌}
use mathlib.Core.List.{List}
use native.Mathlib.Omega.{arith}
use native.Mathlib.Decide.{ℕ_discrete}
use borrow.Author.Tests.{eq-eqb, ne_eqb, eqb-true}
use lib.ListN.{get_or}
use lib.Dec.{eqb}
use Rattle.folds.specs.Folds.{greatest}
use Rattle.folds.proofs.Loops.{greatest-at}
use Rattle.folds.proofs.Laws.{any_found, any_some, greatest-le, term-le-greatest}
use Rattle.folds.proofs.Tests.{both-parts, parts-both}
use Rattle.sheet.specs.Sheet.{Sheet, link_count, source_of, target_of}
use Rattle.sheet.specs.Tables.{sheet_in}
use Rattle.adjacency.specs.Chains.{head_of, next_of}
use Rattle.adjacency.specs.declared.End.TheVariants.{Target}
use Rattle.adjacency.proofs.Walks.{greatest-first, greatest-next}
use Rattle.planner.specs.Schedule.{Schedule, stands, place_of}
use Rattle.planner.specs.Placing.{holds_by, holds_predecessor}
use Rattle.planner.proofs.Ready.{ready-source}
use Rattle.schedule.specs.Layout.{schedule_in}
use Rattle.arrivals.specs.Kept.{counted_by, into}
use Rattle.arrivals.proofs.Numbered.{Walking, walk_begins, walk-ended, walk_more, walk-there}
use Rattle.placing.specs.Choosing.{Choosing}
use Rattle.placing.specs.Ranks.{join_key}
use Rattle.placing.proofs.Steps.{join-none}

-- what link l gives, if it leads to t: the key of the processor that it comes from
pub link_key : Sheet → Schedule → ℕ → ℕ → ℕ
link_key s σ t = counted_by (into s t) (λ l. join_key s σ t (place_of σ (source_of s l))) (λ l. true)

-- the walk over the links into t, at link l, after i links
pub record Joining (s : Sheet) (σ : Schedule) (t i l best : ℕ) : Type 0 where
  pub walk : Walking s t i l
  pub most : best ≡ greatest l (link_key s σ t)

module _ (w own : List ℕ) (t : ℕ) (c : Choosing w own t) where
  abbrev s : Sheet
  s = sheet_in w

  abbrev σ : Schedule
  σ = schedule_in w

  -- the processor that link l comes from
  abbrev at : ℕ → ℕ
  at l = place_of σ (source_of s l)

  own_key : (l : ℕ) → target_of s l ≡ t → link_key s σ t l ≡ join_key s σ t (at l)
  unfolding counted_by link_key
  own_key l e = rw (eq-eqb (target_of s l) t e)

  else-key : (l : ℕ) → target_of s l ≢ t → link_key s σ t l ≡ 0
  unfolding counted_by link_key
  else-key l e = rw (ne_eqb (target_of s l) t e)

  link-open : (l : ℕ) → l < link_count s → target_of s l ≡ t → at l < σ.opened
  link-open l h e = c.kept.standing (source_of s l) (ready-source s σ t l c.is_ready h e)

  link-holds : (l : ℕ) → l < link_count s → target_of s l ≡ t → holds_predecessor s σ t (at l) ≡ true
  unfolding holds_predecessor holds_by stands
  link-holds l h e =
      any_found (link_count s) (holds_by s σ t (at l)) l h (parts-both (eqb (target_of s l) t) (eqb (at l) (at l)) (eq-eqb (target_of s l) t e) (eq-eqb (at l) (at l) refl))

  link-le : (l : ℕ) → l < link_count s → link_key s σ t l ≤ greatest σ.opened (join_key s σ t)
  link-le l h = go (ℕ_discrete (target_of s l) t)
    where
      go : Dec (target_of s l ≡ t) → link_key s σ t l ≤ greatest σ.opened (join_key s σ t)
      go (yes e) = omega (arith, own_key l e, term-le-greatest σ.opened (join_key s σ t) (at l) (link-open l h e))
      go (no e) = omega (arith, else-key l e)

  key-le : (k : ℕ) → join_key s σ t k ≤ greatest (link_count s) (link_key s σ t)
  unfolding holds_predecessor holds_by stands
  key-le k = go (holds_predecessor s σ t k) refl
    where
      go : (b : Bool) → holds_predecessor s σ t k ≡ b → join_key s σ t k ≤ greatest (link_count s) (link_key s σ t)
      go true e =
          let m = any_some (link_count s) (holds_by s σ t k) e in
          let b = both-parts (eqb (target_of s m.0) t) (eqb (at m.0) k) m.2 in
          omega (
            arith,
            own_key m.0 (eqb-true (target_of s m.0) t b.0),
            ap (join_key s σ t) (eqb-true (at m.0) k b.1),
            term-le-greatest (link_count s) (link_key s σ t) m.0 m.1,
          )
      go false e = omega (arith, join-none s σ t k e)

  link-keys : greatest (link_count s) (link_key s σ t) ≡ greatest σ.opened (join_key s σ t)
  link-keys =
      omega (
        arith,
        greatest-le (link_count s) (link_key s σ t) (greatest σ.opened (join_key s σ t)) link-le,
        greatest-le σ.opened (join_key s σ t) (greatest (link_count s) (link_key s σ t)) (λ k h. key-le k),
      )

  pub join-begins : {l : ℕ} → l ≡ head_of Target w t → l ≤ link_count s → Joining s σ t 0 l 0
  join-begins {l} e h =
      record {
        walk = walk_begins c.kept.caches.inward c.kept.caches.gathered t c.task e h;
        most = sym (greatest-first c.kept.caches.inward t c.task (link_key s σ t) (λ i m. else-key i) e h);
      }

  module _ {i l best : ℕ} (g : Joining s σ t i l best) where
    -- there is a link more
    pub join-there : {n : ℕ} → n ≡ get_or own t 0 → i < n → l < link_count s
    join-there e h = walk-there c.kept.caches.inward c.kept.caches.gathered t c.task g.walk e h

    -- and the processor that it comes from holds a predecessor
    pub join-can : {u k : ℕ} → l < link_count s → u ≡ source_of s l → k ≡ place_of σ u → (k < 16) × (holds_predecessor s σ t k ≡ true)
    join-can h eu ek =
        let e = ek ∙ ap (place_of σ) eu in
        (omega (arith, e, link-open l h (g.walk.own h), c.kept.few_opened), rw e (link-holds l h (g.walk.own h)))

    pub join_more : {l' u k v best' : ℕ} → l < link_count s → l' ≡ next_of Target w l → l < l' → l' ≤ link_count s → u ≡ source_of s l → k ≡ place_of σ u → v ≡ join_key s σ t k → best' ≡ max best v → Joining s σ t (i + 1) l' best'
    join_more {l'} h e more f eu ek ev eb =
        record {
          walk = walk_more c.kept.caches.inward c.kept.caches.gathered t c.task g.walk h e more f;
          most =
              eb ∙ ap₂ max g.most (ev ∙ ap (join_key s σ t) (ek ∙ ap (place_of σ) eu) ∙ sym (own_key l (g.walk.own h)))
              ∙ sym (greatest-next c.kept.caches.inward t c.task (link_key s σ t) (λ i m. else-key i) h (g.walk.own h) e more f);
        }

    pub join-done : {n : ℕ} → n ≡ get_or own t 0 → n ≤ i → best ≡ greatest σ.opened (join_key s σ t)
    join-done e h =
        greatest-at (link_key s σ t) l (link_count s) g.most (walk-ended c.kept.caches.inward c.kept.caches.gathered t c.task g.walk e h) ∙ link-keys
