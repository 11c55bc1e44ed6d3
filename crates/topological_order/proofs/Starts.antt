-- The beginning of peeling: blank marks, the links counted at their sources, and the tasks without links in the queue.
use Prim.Native.Nat.{ℕ, ◌+◌, ◌-◌, ◌/◌, ◌%◌, ◌≤◌, ◌<◌}
use mathlib.Core.Bool.{Bool, false, not, true≢false}
use mathlib.Core.Path.{◌≡◌, refl, ap, sym, ◌∙◌, subst}
use mathlib.Core.Logic.{◌≢◌, inl, inr}
use mathlib.Core.List.{List}
use native.Mathlib.Omega.{arith}
use native.Mathlib.Decide.{ℕ_discrete}
use borrow.Author.Tests.{le-ltb}
use lib.ListN.{length, get_or, set}
use lib.Dec.{eqb}
use Rattle.workspace.specs.Area.{fixed, marks_at, ClearIs}
use Rattle.folds.specs.Folds.{both, sum}
use Rattle.folds.proofs.Tests.{bit_le}
use Rattle.folds.proofs.Loops.{sum-zero, sum_one}
use Rattle.folds.proofs.Laws.{sum-le, sum-cong, sum_zeros}
use Rattle.sheet.specs.Sheet.{Sheet, task_count, link_count, source_of, target_of}
use Rattle.sheet.specs.Tables.{sheet_in}
use Rattle.topological_order.specs.Words.{Held, Outside, place_in, degree_in, Queued, in_queue, pushed, done_by}
use Rattle.topological_order.specs.Peeling.{due_by, never, Peeled, Counted, Filled}
use Rattle.graph.proofs.Reaches.{Declared}
use Rattle.topological_order.proofs.Frames.{outside-none, outside_trans, outside_set, outside-held, outside-own, outside-from}
use Rattle.topological_order.proofs.Places.{place-far, degree-far, place_none, degree-put, word-is}
use Rattle.topological_order.proofs.Pushes.{off-queue, queued-room, push_else, push-outside}
use Rattle.topological_order.proofs.Lights.{due-unlit, due-other, due-cong, peel-same, peel-push}

-- blank marks
pub blanked : {s : Sheet} {w w' : List ℕ} (n : ℕ) → n ≤ 256 → ClearIs w w' marks_at (marks_at + n) → Outside w w' × Counted s n 0 w'
unfolding degree_in place_in
blanked {s} {w} {w'} n few c = (
  record { kept = record { long = c.long; low = λ i h. c.other i (inl (omega arith)); high = λ i h. c.other i (inr (omega arith)) }; chains = λ i h k. c.other i (inl k) },
  record {
    degree = λ t h. ap (λ (x : ℕ). x % 65536) (c.zeros (marks_at + t) (omega arith) (omega arith)) ∙ sym (sum-zero (due_by s never t));
    place = λ t h. ap (λ (x : ℕ). 256 - x / 65536) (c.zeros (marks_at + t) (omega arith) (omega arith));
  },
)

pub counted-at : {s : Sheet} {n n' l l' : ℕ} {w : List ℕ} → Counted s n l w → n ≡ n' → l ≡ l' → Counted s n' l' w
counted-at {s} {n} {n'} {l} {l'} {w} d e f = subst (λ (x : ℕ). Counted s n' x w) f (subst (λ (x : ℕ). Counted s x l w) e d)

-- one link more
due-le : (s : Sheet) (c : ℕ → Bool) (t l : ℕ) → due_by s c t l ≤ 1
unfolding due_by
due-le s c t l = bit_le (both (eqb (source_of s l) t) (not (c l)))

never-is : (l : ℕ) → never l ≡ false
unfolding never
never-is l = refl

module _ (s : Sheet) (w : List ℕ) (l : ℕ) (declared : Declared s) (few : task_count s ≤ 256) (few_links : link_count s ≤ 1024) (long : fixed ≤ length w) (l-in : l < link_count s) (p : Counted s (task_count s) l w) where
  count_word : {u d : ℕ} → u ≡ source_of s l → d ≡ get_or w (marks_at + u) 0 → d ≡ degree_in w (source_of s l)
  count_word eu ed = ed ∙ ap (λ (z : ℕ). get_or w (marks_at + z) 0) eu ∙ word-is w (source_of s l) (omega (arith, p.place (source_of s l) (declared.source l l-in)))

  pub count_small : {u d : ℕ} → u ≡ source_of s l → d ≡ get_or w (marks_at + u) 0 → d ≤ l
  count_small {u} {d} eu ed =
      omega (arith, count_word eu ed, p.degree (source_of s l) (declared.source l l-in), sum-le l 1 (due_by s never (source_of s l)) (λ j h. due-le s never (source_of s l) j))

  pub counted : {u d e : ℕ} (w' : List ℕ) → u ≡ source_of s l → d ≡ get_or w (marks_at + u) 0 → e ≡ d + 1 → w' ≡ set w (marks_at + u) e → Outside w w' × Counted s (task_count s) (l + 1) w'
  counted {u} {d} {e} w' eu ed ee ew =
      let h = declared.source l l-in in
      let new : w' ≡ set w (marks_at + source_of s l) e = ew ∙ ap (λ (z : ℕ). set w (marks_at + z) e) eu in
      let e-is : e ≡ degree_in w (source_of s l) + 1 = ee ∙ ap (λ (z : ℕ). z + 1) (count_word eu ed) in
      let short : e < 65536 = omega (arith, count_small eu ed) in
      subst (λ (x : List ℕ). Outside w x × Counted s (task_count s) (l + 1) x) (sym new) (
        outside_set (marks_at + source_of s l) e (omega arith) (omega arith) (outside-none w),
        record {
          degree = λ t k. at t k short e-is (ℕ_discrete t (source_of s l));
          place = λ t k. off t k short (ℕ_discrete t (source_of s l));
        },
      )
    where
      at : (t : ℕ) → t < task_count s → e < 65536 → e ≡ degree_in w (source_of s l) + 1 → Dec (t ≡ source_of s l) → degree_in (set w (marks_at + source_of s l) e) t ≡ sum (l + 1) (due_by s never t)
      at t k short e-is (yes q) =
          let h = declared.source l l-in in
          rw q (degree-put w (source_of s l) (omega arith) e short ∙ e-is ∙ omega (arith, p.degree (source_of s l) h, sum_one l (due_by s never (source_of s l)), due-unlit s never (source_of s l) l refl (never-is l)))
      at t k short e-is (no q) =
          degree-far w (marks_at + source_of s l) e t (λ x. q (omega arith)) ∙ omega (arith, p.degree t k, sum_one l (due_by s never t), due-other s never t l (λ x. q (sym x)))

      off : (t : ℕ) → t < task_count s → e < 65536 → Dec (t ≡ source_of s l) → place_in (set w (marks_at + source_of s l) e) t ≡ 256
      off t k short (yes q) = let h = declared.source l l-in in rw q (place_none w (source_of s l) (omega arith) e short)
      off t k short (no q) = place-far w (marks_at + source_of s l) e t (λ x. q (omega arith)) ∙ p.place t k

-- nothing is in the queue yet
pub done_none : (s : Sheet) (w : List ℕ) (l : ℕ) → done_by s 0 w l ≡ false
unfolding done_by
done_none s w l = le-ltb (place_in w (target_of s l)) 0 (omega arith)

pub queued-none : {n : ℕ} {w : List ℕ} → ((t : ℕ) → t < n → place_in w t ≡ 256) → Queued n 0 w
queued-none {n} {w} place =
    record {
      task = λ j h. absurd (omega arith);
      place = λ j h. absurd (omega arith);
      few = λ t h l. absurd (omega (arith, place t h));
      back = λ t h l. absurd (omega (arith, place t h));
      count = sym (sum_zeros n (in_queue w) (λ t h. off-queue w t (omega (arith, place t h))));
    }

pub filled_none : (s : Sheet) (w : List ℕ) → Declared s → Counted s (task_count s) (link_count s) w → Filled s 0 0 w
filled_none s w declared p =
    record {
      peeled = record {
        peel =
            record {
              queued = queued-none p.place;
              early = omega arith;
              lit = λ l h q. absurd (true≢false (sym q ∙ done_none s w l));
              degree = λ t h. p.degree t h ∙ sum-cong (link_count s) (due_by s never t) (due_by s (done_by s 0 w) t) (λ l k. due-cong s never (done_by s 0 w) t l (never-is l ∙ sym (done_none s w l)));
              ready = λ t h g. absurd (omega (arith, p.place t h));
              waits = λ t h x g. absurd (x (omega arith) h);
              falls = λ l h g. absurd (omega (arith, p.place (source_of s l) (declared.source l h)));
            };
      };
      rest = λ u a h. omega (arith, p.place u h);
    }

-- one task more is asked
module _ (s : Sheet) (w : List ℕ) (k t : ℕ) (declared : Declared s) (few : task_count s ≤ 256) (long : fixed ≤ length w) (t-in : t < task_count s) (p : Filled s k t w) where
  pub offer-room : k < 256
  offer-room = omega (arith, queued-room t p.peeled.peel.queued t-in (p.rest t (omega arith) t-in))

  offer-word : {d : ℕ} → d ≡ get_or w (marks_at + t) 0 → d ≡ degree_in w t
  offer-word e = e ∙ word-is w t (p.rest t (omega arith) t-in)

  pub offer-stays : {d : ℕ} → d ≡ get_or w (marks_at + t) 0 → (d ≡ 0 → ⊥) → Outside w w × Filled s k (t + 1) w
  offer-stays {d} e n =
      let q = p.peeled.peel in (
        outside-none w,
        record {
          peeled = record { peel = record { queued = q.queued; early = q.early; lit = q.lit; degree = q.degree; ready = q.ready; waits = λ u h x g. wait u h x g (ℕ_discrete u t); falls = q.falls } };
          rest = λ u a h. p.rest u (omega arith) h;
        },
      )
    where
      wait : (u : ℕ) → u < task_count s → (t + 1 ≤ u → u < task_count s → ⊥) → degree_in w u ≡ 0 → Dec (u ≡ t) → place_in w u < 256
      wait u h x g (yes q) = absurd (n (offer-word e ∙ ap (degree_in w) (sym q) ∙ g))
      wait u h x g (no q) = p.peeled.peel.waits u h (λ a b. x (omega arith) b) g

  pub offer-goes : {d : ℕ} (w' : List ℕ) → d ≡ get_or w (marks_at + t) 0 → d ≡ 0 → w' ≡ pushed w k t → Outside w w' × Filled s (k + 1) (t + 1) w'
  offer-goes {d} w' e n ew =
      let q = p.peeled.peel in
      let free : 256 ≤ place_in w t = p.rest t (omega arith) t-in in
      subst (λ (x : List ℕ). Outside w x × Filled s (k + 1) (t + 1) x) (sym ew) (
        push-outside (task_count s) k t w few long t-in free q.queued,
        record {
          peeled = record {
            peel = peel-same (done_by s 0 w) (done_by s 0 (pushed w k t)) (λ l h. done_none s w l ∙ sym (done_none s (pushed w k t) l))
                (peel-push s w declared few long (done_by s 0 w) 0 k t (task_count s) (t + 1) (task_count s) t q t-in free (sym (offer-word e) ∙ n) (λ u a b c d. b (let z : u ≢ t = a in omega arith) d));
          };
          rest = λ u a h. rw (push_else (task_count s) k t w few long t-in free q.queued u h (omega arith)) (p.rest u (omega arith) h);
        },
      )

pub filled-done : {s : Sheet} {k t : ℕ} {w : List ℕ} → Filled s k t w → task_count s ≤ t → Peeled s 0 k 0 0 w
filled-done p h =
    let q = p.peeled.peel in
    record { peel = record { queued = q.queued; early = q.early; lit = q.lit; degree = q.degree; ready = q.ready; waits = λ u a x g. q.waits u a (λ b c. absurd (omega arith)) g; falls = q.falls } }

-- the same, for the sheet that stands in a work area
pub count-asks : {w₀ w : List ℕ} {l : ℕ} → Held w₀ → Outside w₀ w → l < link_count (sheet_in w₀) → Counted (sheet_in w₀) (task_count (sheet_in w₀)) l w → Held w × ((l < link_count (sheet_in w)) × Counted (sheet_in w) (task_count (sheet_in w)) l w)
count-asks {w₀} {w} {l} h b g d = (outside-held h b, outside-own (λ (s : Sheet). (l < link_count s) × Counted s (task_count s) l w) h b (g, d))

pub count-turns : {w₀ w w' : List ℕ} {l : ℕ} → Held w₀ → Outside w₀ w → Outside w w' × Counted (sheet_in w) (task_count (sheet_in w)) l w' → Outside w₀ w' × Counted (sheet_in w₀) (task_count (sheet_in w₀)) l w'
count-turns {w₀} {w} {w'} {l} h b d = (outside_trans b d.0, outside-from (λ (s : Sheet). Counted s (task_count s) l w') h b d.1)

pub fill-asks : {w₀ w : List ℕ} {k t : ℕ} → Held w₀ → Outside w₀ w → t < task_count (sheet_in w₀) → Filled (sheet_in w₀) k t w → Held w × ((t < task_count (sheet_in w)) × Filled (sheet_in w) k t w)
fill-asks {w₀} {w} {k} {t} h b g d = (outside-held h b, outside-own (λ (s : Sheet). (t < task_count s) × Filled s k t w) h b (g, d))

pub fill-turns : {w₀ w w' : List ℕ} {k t : ℕ} → Held w₀ → Outside w₀ w → Outside w w' × Filled (sheet_in w) k t w' → Outside w₀ w' × Filled (sheet_in w₀) k t w'
fill-turns {w₀} {w} {w'} {k} {t} h b d = (outside_trans b d.0, outside-from (λ (s : Sheet). Filled s k t w') h b d.1)
