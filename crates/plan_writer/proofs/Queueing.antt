-- Queues built from the last turn to the first, and walked.
use Prim.Native.Nat.{ℕ, ◌+◌, ◌-◌, ◌≤◌, ◌<◌}
use mathlib.Core.Path.{◌≡◌, refl, sym, ap, subst, ◌∙◌}
use mathlib.Core.Bool.{true}
use mathlib.Core.Logic.{◌≢◌}
use mathlib.Core.List.{List, []}
use native.Mathlib.Omega.{arith}
use native.Mathlib.Decide.{ℕ_discrete}
use lib.ListN.{length, get_or, set, replicate, length-set, length-replicate, get_or-replicate}
use lib.Seq.{get_or-set_same, get_or-set_other}
use Rattle.folds.specs.Folds.{gather}
use Rattle.sheet.specs.Sheet.{Sheet, task_count}
use Rattle.sheet.specs.Tables.{sheet_in}
use Rattle.planner.specs.Schedule.{Schedule, place_of, stands}
use Rattle.schedule.specs.Layout.{schedule_in}
use Rattle.plan_writer.specs.Scheduled.{Scheduled}
use Rattle.plan_writer.specs.Bytes.{turn_bytes}
use Rattle.plan_writer.specs.Queues.{place_at, Onward, Queued}
use Rattle.plan_writer.specs.Laid.{Laid}
use Rattle.plan_writer.proofs.Lays.{laid_as}
use Rattle.plan_writer.proofs.Gathers.{gather-skip}
use Rattle.plan_writer.proofs.Parts.{block-away}
use Rattle.plan_writer.proofs.Measures.{stands_here, stands-else}
use Rattle.plan_writer.proofs.Puts.{Filled, filled_none, filled_more}

pub place_is : (σ : Schedule) (i : ℕ) {t k : ℕ} → t ≡ get_or σ.order i 0 → k ≡ place_of σ t → k ≡ place_at σ i
unfolding place_at
place_is σ i p q = q ∙ ap (place_of σ) p

pub turn-task : {w : List ℕ} → Scheduled w → (i : ℕ) {t : ℕ} → i < length (schedule_in w).order → t ≡ get_or (schedule_in w).order i 0 → t < task_count (sheet_in w)
turn-task h i few e = rw e (h.tasks i few)

pub place-few : {w : List ℕ} → Scheduled w → (t : ℕ) {k : ℕ} → t < task_count (sheet_in w) → k ≡ place_of (schedule_in w) t → k < 16
place-few h t below e = omega (arith, h.standing t below, h.few_opened, e)

-- a turn at which k was found, and its task
pub turn-stands : (σ : Schedule) (i k : ℕ) {t : ℕ} → t ≡ get_or σ.order i 0 → place_at σ i ≡ k → stands σ t k ≡ true
unfolding place_at
turn-stands σ i k {t} e h = stands_here σ t k refl (ap (place_of σ) e ∙ h)

-- no turn is in a queue
pub queued-none : (σ : Schedule) (q : List ℕ) (p : ℕ) → p ≡ length σ.order → q ≡ replicate 272 p → Queued σ p q
queued-none σ q p e f =
    record {
      long = ap length f ∙ length-replicate 272 p;
      first =
          λ k h. let v : get_or q k 0 ≡ p = ap (λ (x : List ℕ). get_or x k 0) f ∙ get_or-replicate 272 k p 0 (omega arith) in
          record { low = omega (arith, v); few = omega (arith, v, e); own = λ g. absurd (omega (arith, v, e, g)); others = λ i g l. absurd (omega (arith, v, g, l)) };
      next = λ j g l. absurd (omega (arith, e, g, l));
    }

-- turn i goes before the queue of its processor
module _ (σ : Schedule) (q : List ℕ) (i : ℕ) (few : i < length σ.order) (small : length σ.order ≤ 256) (d : Queued σ (i + 1) q) (k : ℕ) (at : k ≡ place_at σ i) (k-in : k < 16) where
  abbrev new : List ℕ
  new = set (set q (16 + i) (get_or q k 0)) k i

  first-here : get_or new k 0 ≡ i
  first-here = get_or-set_same (set q (16 + i) (get_or q k 0)) k i 0 (omega (arith, length-set q (16 + i) (get_or q k 0), d.long))

  first_else : (j : ℕ) → j < 16 → j ≢ k → get_or new j 0 ≡ get_or q j 0
  first_else j h n = get_or-set_other (set q (16 + i) (get_or q k 0)) k j i 0 n ∙ get_or-set_other q (16 + i) j (get_or q k 0) 0 (omega arith)

  next_here : get_or new (16 + i) 0 ≡ get_or q k 0
  next_here = get_or-set_other (set q (16 + i) (get_or q k 0)) k (16 + i) i 0 (omega arith) ∙ get_or-set_same q (16 + i) (get_or q k 0) 0 (omega (arith, d.long))

  next-else : (j : ℕ) → j ≢ i → get_or new (16 + j) 0 ≡ get_or q (16 + j) 0
  next-else j n = get_or-set_other (set q (16 + i) (get_or q k 0)) k (16 + j) i 0 (omega arith) ∙ get_or-set_other q (16 + i) (16 + j) (get_or q k 0) 0 (λ e. n (omega arith))

  first-new : (j : ℕ) → j < 16 → Dec (j ≡ k) → Onward σ j i (get_or new j 0)
  first-new j h (yes e) =
      let v : get_or new j 0 ≡ i = ap (λ (x : ℕ). get_or new x 0) e ∙ first-here in
      record {
        low = omega (arith, v);
        few = omega (arith, v);
        own = λ g. ap (place_at σ) v ∙ sym at ∙ sym e;
        others = λ x g l. absurd (omega (arith, v, g, l));
      }
  first-new j h (no n) =
      let o = d.first j h in
      let v = first_else j h n in
      record {
        low = omega (arith, v, o.low);
        few = omega (arith, v, o.few);
        own = λ g. ap (place_at σ) v ∙ o.own (omega (arith, v, g));
        others = λ x g l. before x g (omega (arith, v, l)) (ℕ_discrete x i);
      }
    where
      before : (x : ℕ) → i ≤ x → x < get_or q j 0 → Dec (x ≡ i) → place_at σ x ≢ j
      before x g l (yes e) f = n (sym f ∙ ap (place_at σ) e ∙ sym at)
      before x g l (no e) f = (d.first j h).others x (omega arith) l f

  next-new : (j : ℕ) → i ≤ j → j < length σ.order → Dec (j ≡ i) → Onward σ (place_at σ j) (j + 1) (get_or new (16 + j) 0)
  next-new j g h (yes e) =
      subst (λ (x : ℕ). Onward σ (place_at σ x) (x + 1) (get_or new (16 + x) 0)) (sym e)
      (subst (λ (v : ℕ). Onward σ (place_at σ i) (i + 1) v) (sym next_here) (subst (λ (c : ℕ). Onward σ c (i + 1) (get_or q k 0)) at (d.first k k-in)))
  next-new j g h (no e) = subst (Onward σ (place_at σ j) (j + 1)) (sym (next-else j e)) (d.next j (omega arith) h)

  pub queued-more : (last : List ℕ) {x y : ℕ} → x ≡ get_or q k 0 → y ≡ i → last ≡ set (set q (16 + i) x) k y → Queued σ i last
  queued-more last {x} {y} ex ey e =
      let z : last ≡ new = e ∙ ap (λ (v : ℕ). set (set q (16 + i) v) k y) ex ∙ ap (λ (v : ℕ). set (set q (16 + i) (get_or q k 0)) k v) ey in
      subst (Queued σ i) (sym z)
      record {
        long = length-set (set q (16 + i) (get_or q k 0)) k i ∙ length-set q (16 + i) (get_or q k 0) ∙ d.long;
        first = λ j h. first-new j h (ℕ_discrete j k);
        next = λ j g h. next-new j g h (ℕ_discrete j i);
      }

-- the turns of other processors give nothing to the programme of k
module _ (s : Sheet) (σ : Schedule) (k : ℕ) where
  turn-none : (i : ℕ) → place_at σ i ≢ k → turn_bytes s σ k i ≡ []
  unfolding turn_bytes place_at
  turn-none i h = block-away s σ k (get_or σ.order i 0) (stands-else σ (get_or σ.order i 0) k refl h)

  pub filled-onward : {old out : List ℕ} {start at a b : ℕ} → Filled (turn_bytes s σ k) old start a out at → Onward σ k a b → Filled (turn_bytes s σ k) old start b out at
  filled-onward {old} {out} {start} {at} {a} {b} g o =
      let z : a + (b - a) ≡ b = omega (arith, o.low) in
      record {
        laid =
            laid_as
            (sym (gather-skip (turn_bytes s σ k) a (b - a) (λ i x y. turn-none i (o.others i x (omega (arith, y, z))))) ∙ ap (λ (n : ℕ). gather n (turn_bytes s σ k)) z)
            g.laid;
        long = g.long;
      }

  -- the blocks of the turns on k below i stand from start on, and turn i is on k
  pub record Blocks (old : List ℕ) (start i : ℕ) (out : List ℕ) (at : ℕ) : Type 0 where
    pub few : i ≤ length σ.order
    pub own : i < length σ.order → place_at σ i ≡ k
    pub filled : Filled (turn_bytes s σ k) old start i out at

  pub blocks-first : {q : List ℕ} (old : List ℕ) (start : ℕ) {i : ℕ} → Queued σ 0 q → k < 16 → i ≡ get_or q k 0 → Blocks old start i old start
  blocks-first {q} old start {i} d h e =
      let o = d.first k h in
      record {
        few = omega (arith, o.few, e);
        own = λ g. ap (place_at σ) e ∙ o.own (omega (arith, e, g));
        filled = subst (λ (x : ℕ). Filled (turn_bytes s σ k) old start x old start) (sym e) (filled-onward (filled_none (turn_bytes s σ k) old start) o);
      }

  pub blocks_more : {q old out last : List ℕ} {start i j at r : ℕ} → Queued σ 0 q → Blocks old start i out at → i < length σ.order
      → Laid out at (turn_bytes s σ k i) last r → length last ≡ length out → j ≡ get_or q (16 + i) 0 → Blocks old start j last r
  blocks_more {q} {old} {out} {last} {start} {i} {j} {at} {r} d g h p l e =
      let o : Onward σ k (i + 1) (get_or q (16 + i) 0) = subst (λ (x : ℕ). Onward σ x (i + 1) (get_or q (16 + i) 0)) (g.own h) (d.next i (omega arith) h) in
      record {
        few = omega (arith, o.few, e);
        own = λ f. ap (place_at σ) e ∙ o.own (omega (arith, e, f));
        filled = subst (λ (x : ℕ). Filled (turn_bytes s σ k) old start x last r) (sym e) (filled-onward (filled_more (turn_bytes s σ k) old start g.filled p l) o);
      }
