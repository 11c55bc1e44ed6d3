-- Chains built from the last link to the first.
use Prim.Native.Nat.{ℕ, ◌+◌, ◌*◌, ◌%◌, ◌≤◌, ◌<◌}
use mathlib.Core.Path.{◌≡◌, refl, ap, sym, ◌∙◌, subst}
use mathlib.Core.Logic.{◌≢◌}
use mathlib.Core.List.{List}
use native.Mathlib.Omega.{arith}
use native.Mathlib.Decide.{ℕ_discrete}
use lib.ListN.{length, get_or, set, length-set}
use lib.Seq.{get_or-set_same, get_or-set_other}
use Rattle.workspace.specs.Area.{fixed, heads_at, marks_at, nexts_at}
use Rattle.sheet.specs.Sheet.{Sheet, task_count, link_count}
use Rattle.sheet.specs.Tables.{sheet_in, Loaded, Ranged}
use Rattle.sheet.proofs.Rows.{ranged}
use Rattle.adjacency.specs.Chains.{end_by, half, rest, head_of, next_of, Rechained, Chained, ChainedFrom}
use Rattle.adjacency.specs.declared.End.{End}
use Rattle.adjacency.specs.declared.End.TheVariants.{Source, Target}
use Rattle.adjacency.proofs.Frames.{only_none, only_set, only-trans, only-sheet}

pub end_below : (e : End) {s : Sheet} → Ranged s → (l : ℕ) → l < link_count s → end_by e s l < task_count s
end_below Source r = r.source
end_below Target r = r.target

pub rechained-none : (e : End) (w : List ℕ) → Rechained e w w
rechained-none e w = record { only = only_none heads_at marks_at w; under = λ i. refl }

pub rechained-trans : {e : End} {u v w : List ℕ} → Rechained e u v → Rechained e v w → Rechained e u w
rechained-trans p q = record { only = only-trans p.only q.only; under = λ i. q.under i ∙ p.under i }

pub rechained-set : {e : End} {w w' : List ℕ} (j v : ℕ) → heads_at ≤ j → j < marks_at → j < length w' → rest e v ≡ rest e (get_or w' j 0) → Rechained e w w' → Rechained e w (set w' j v)
rechained-set {e} {w} {w'} j v h g l q p = record { only = only_set j v h g p.only; under = λ i. under' i (ℕ_discrete i j) }
  where
    under' : (i : ℕ) → Dec (i ≡ j) → rest e (get_or (set w' j v) i 0) ≡ rest e (get_or w i 0)
    under' i (yes d) = ap (λ (x : ℕ). rest e (get_or (set w' j v) x 0)) d ∙ ap (rest e) (get_or-set_same w' j v 0 l) ∙ q ∙ ap (λ (x : ℕ). rest e (get_or w' x 0)) (sym d) ∙ p.under i
    under' i (no d) = ap (rest e) (get_or-set_other w' j i v 0 d) ∙ p.under i

-- a word with y in the half of the chains of e
pub upper-half : {e : End} (x y : ℕ) → e ≡ Source → y < 65536 → (half e (x % 65536 + 65536 * y) ≡ y) × (rest e (x % 65536 + 65536 * y) ≡ rest e x) × (x % 65536 + 65536 * y < 4294967296)
upper-half x y q h = rw q (omega arith, omega arith, omega arith)

pub lower-half : {e : End} (x y : ℕ) → e ≡ Target → y < 65536 → (half e y ≡ y) × (rest e y ≡ rest e x) × (y < 4294967296)
lower-half x y q h = rw q (omega arith, refl, omega arith)

-- the first links of the tasks below n are all m
pub record Headed (e : End) (m n : ℕ) (w : List ℕ) : Type 0 where
  pub is : (t : ℕ) → t < n → head_of e w t ≡ m

pub headed-none : (e : End) (m : ℕ) (w : List ℕ) → Headed e m 0 w
headed-none e m w = record { is = λ t h. absurd (omega arith) }

pub headed-more : {e : End} {w : List ℕ} {m n : ℕ} (v : ℕ) → half e v ≡ m → heads_at + n < length w → Headed e m n w → Headed e m (n + 1) (set w (heads_at + n) v)
unfolding head_of
headed-more {e} {w} {m} {n} v q l z = record { is = λ i h. go i h (ℕ_discrete i n) }
  where
    go : (i : ℕ) → i < n + 1 → Dec (i ≡ n) → half e (get_or (set w (heads_at + n) v) (heads_at + i) 0) ≡ m
    go i h (yes d) = ap (λ (x : ℕ). half e (get_or (set w (heads_at + n) v) (heads_at + x) 0)) d ∙ ap (half e) (get_or-set_same w (heads_at + n) v 0 l) ∙ q
    go i h (no d) = ap (half e) (get_or-set_other w (heads_at + n) (heads_at + i) v 0 (λ x. d (omega arith))) ∙ z.is i (omega arith)

-- then no link is in a chain
pub chain-none : {e : End} {s : Sheet} {w : List ℕ} {m n : ℕ} → m ≡ link_count s → task_count s ≤ n → Headed e m n w → ChainedFrom e s (link_count s) w
chain-none {e} {s} {w} {m} {n} q r z =
    record {
      head_few = λ t h. omega (arith, z.is t (omega arith));
      head_low = λ t h. omega (arith, z.is t (omega arith));
      head_own = λ t h k. absurd (omega (arith, z.is t (omega arith)));
      head_none = λ t h i k g. absurd (omega (arith, z.is t (omega arith)));
      next_few = λ i h k. absurd (omega arith);
      next_more = λ i h k. absurd (omega arith);
      next_own = λ i h k. absurd (omega arith);
      next_none = λ i h k. absurd (omega arith);
    }

-- the first link of a task fits a half
pub head_small : {e : End} {w : List ℕ} {l t r : ℕ} → Loaded w → ChainedFrom e (sheet_in w) l w → t < task_count (sheet_in w) → r ≡ half e (get_or w (heads_at + t) 0) → r < 65536
unfolding head_of
head_small {e} {w} {l} {t} h d t-in q = omega (arith, d.head_few t t-in, (ranged w h).few_links)

pub chain-whole : {e : End} {s : Sheet} {l : ℕ} {w : List ℕ} → l ≡ 0 → ChainedFrom e s l w → Chained e s w
chain-whole q d =
    record {
      head_few = d.head_few;
      head_own = d.head_own;
      head_none = λ t h i k. d.head_none t h i (omega arith) k;
      next_few = λ i h. d.next_few i (omega arith) h;
      next_more = λ i h. d.next_more i (omega arith) h;
      next_own = λ i h. d.next_own i (omega arith) h;
      next_none = λ i h. d.next_none i (omega arith) h;
    }

-- link l put before the chain of a
module _ {e : End} {s : Sheet} {w : List ℕ} (new : List ℕ) {l a : ℕ} (l-in : l < link_count s) (a-is : a ≡ end_by e s l) (a_in : a < task_count s) (d : ChainedFrom e s (l + 1) w)
    (head-here : head_of e new a ≡ l) (head-else : (t : ℕ) → t < task_count s → t ≢ a → head_of e new t ≡ head_of e w t)
    (next_here : next_of e new l ≡ head_of e w a) (next-else : (i : ℕ) → i ≢ l → next_of e new i ≡ next_of e w i) where
  few : (t : ℕ) → t < task_count s → Dec (t ≡ a) → head_of e new t ≤ link_count s
  few t k (yes q) = rw (q, head-here) (omega arith)
  few t k (no q) = rw (head-else t k q) (d.head_few t k)

  low : (t : ℕ) → t < task_count s → Dec (t ≡ a) → l ≤ head_of e new t
  low t k (yes q) = rw (q, head-here) (omega arith)
  low t k (no q) = rw (head-else t k q) (omega (arith, d.head_low t k))

  own : (t : ℕ) → t < task_count s → Dec (t ≡ a) → head_of e new t < link_count s → end_by e s (head_of e new t) ≡ t
  own t k (yes q) g = ap (λ (x : ℕ). end_by e s (head_of e new x)) q ∙ ap (end_by e s) head-here ∙ sym (q ∙ a-is)
  own t k (no q) g = ap (end_by e s) (head-else t k q) ∙ d.head_own t k (rw (head-else t k q) at g)

  none : (t : ℕ) → t < task_count s → Dec (t ≡ a) → (i : ℕ) → l ≤ i → i < head_of e new t → Dec (i ≡ l) → end_by e s i ≢ t
  none t k (yes q) i p g r f = absurd (omega (arith, head-here, ap (head_of e new) q))
  none t k (no q) i p g (yes r) f = q (sym f ∙ ap (end_by e s) r ∙ sym a-is)
  none t k (no q) i p g (no r) f = d.head_none t k i (omega arith) (rw (head-else t k q) at g) f

  nfew : (i : ℕ) → l ≤ i → i < link_count s → Dec (i ≡ l) → next_of e new i ≤ link_count s
  nfew i p k (yes q) = rw (q, next_here) (d.head_few a a_in)
  nfew i p k (no q) = rw (next-else i q) (d.next_few i (omega arith) k)

  nmore : (i : ℕ) → l ≤ i → i < link_count s → Dec (i ≡ l) → i < next_of e new i
  nmore i p k (yes q) = rw (q, next_here) (omega (arith, d.head_low a a_in))
  nmore i p k (no q) = rw (next-else i q) (d.next_more i (omega arith) k)

  nown : (i : ℕ) → l ≤ i → i < link_count s → Dec (i ≡ l) → next_of e new i < link_count s → end_by e s (next_of e new i) ≡ end_by e s i
  nown i p k (yes q) g =
      let z : next_of e new i ≡ head_of e w a = ap (next_of e new) q ∙ next_here in
      ap (end_by e s) z ∙ d.head_own a a_in (rw z at g) ∙ a-is ∙ ap (end_by e s) (sym q)
  nown i p k (no q) g = ap (end_by e s) (next-else i q) ∙ d.next_own i (omega arith) k (rw (next-else i q) at g)

  nnone : (i : ℕ) → l ≤ i → i < link_count s → Dec (i ≡ l) → (j : ℕ) → i < j → j < next_of e new i → end_by e s j ≢ end_by e s i
  nnone i p k (yes q) j x y f =
      d.head_none a a_in j (omega arith) (omega (arith, next_here, ap (next_of e new) q)) (f ∙ ap (end_by e s) q ∙ sym a-is)
  nnone i p k (no q) j x y f = d.next_none i (omega arith) k j x (rw (next-else i q) at y) f

  chain_more : ChainedFrom e s l new
  chain_more =
      record {
        head_few = λ t k. few t k (ℕ_discrete t a);
        head_low = λ t k. low t k (ℕ_discrete t a);
        head_own = λ t k. own t k (ℕ_discrete t a);
        head_none = λ t k i p g. none t k (ℕ_discrete t a) i p g (ℕ_discrete i l);
        next_few = λ i p k. nfew i p k (ℕ_discrete i l);
        next_more = λ i p k. nmore i p k (ℕ_discrete i l);
        next_own = λ i p k. nown i p k (ℕ_discrete i l);
        next_none = λ i p k. nnone i p k (ℕ_discrete i l);
      }

-- as the code writes it: a is the end, x and y were the words of a and l, and v and u are
pub chained-by : {e : End} {s : Sheet} {w : List ℕ} {l a x y : ℕ} (u v : ℕ) → fixed ≤ length w → Ranged s → l < link_count s → a ≡ end_by e s l → a < task_count s → ChainedFrom e s (l + 1) w
    → x ≡ get_or w (heads_at + a) 0 → y ≡ get_or w (nexts_at + l) 0 → half e u ≡ half e x → rest e u ≡ rest e y → half e v ≡ l → rest e v ≡ rest e x
    → Rechained e w (set (set w (nexts_at + l) u) (heads_at + a) v) × ChainedFrom e s l (set (set w (nexts_at + l) u) (heads_at + a) v)
unfolding head_of next_of
chained-by {e} {s} {w} {l} {a} {x} {y} u v long r l-in a-is a_in d ex ey uh ur vh vr = (
  rechained-set (heads_at + a) v (omega arith) (omega (arith, r.few_tasks)) (simp length-set (omega (arith, r.few_tasks))) (vr ∙ ap (rest e) (ex ∙ sym (away (heads_at + a) (omega (arith, r.few_tasks)))))
      (rechained-set (nexts_at + l) u (omega arith) (omega (arith, r.few_links)) (omega (arith, r.few_links)) (ur ∙ ap (rest e) ey) (rechained-none e w)),
  chain_more _ l-in a-is a_in d
      (ap (half e) (get_or-set_same (set w (nexts_at + l) u) (heads_at + a) v 0 (simp length-set (omega (arith, r.few_tasks)))) ∙ vh)
      (λ t k n. ap (half e) (get_or-set_other (set w (nexts_at + l) u) (heads_at + a) (heads_at + t) v 0 (λ q. n (omega arith)) ∙ away (heads_at + t) (omega (arith, r.few_tasks))))
      (ap (half e) (get_or-set_other (set w (nexts_at + l) u) (heads_at + a) (nexts_at + l) v 0 (omega (arith, r.few_tasks)) ∙ get_or-set_same w (nexts_at + l) u 0 (omega (arith, r.few_links))) ∙ uh ∙ ap (half e) ex)
      (λ i n. ap (half e) (get_or-set_other (set w (nexts_at + l) u) (heads_at + a) (nexts_at + i) v 0 (omega (arith, r.few_tasks)) ∙ away (nexts_at + i) (λ q. n (omega arith)))),
)
  where
    away : (i : ℕ) → i ≢ nexts_at + l → get_or (set w (nexts_at + l) u) i 0 ≡ get_or w i 0
    away i n = get_or-set_other w (nexts_at + l) i u 0 n

-- the chains of an area whose sheet is as it was
pub chains-still : {e : End} {l l' : ℕ} {w w' : List ℕ} → Loaded w → Rechained e w w' → l ≡ l' → ChainedFrom e (sheet_in w) l w' → ChainedFrom e (sheet_in w') l' w'
chains-still {e} {l} {l'} {w} {w'} h o q d =
    subst (λ (s : Sheet). ChainedFrom e s l' w') (sym (only-sheet (omega arith) h o.only)) (subst (λ (x : ℕ). ChainedFrom e (sheet_in w) x w') q d)

-- a link more in the chains
pub chains-more : {e : End} {l : ℕ} {w w' w'' : List ℕ} → Loaded w → Rechained e w w' → Rechained e w' w'' × ChainedFrom e (sheet_in w') l w'' → Rechained e w w'' × ChainedFrom e (sheet_in w) l w''
chains-more {e} {l} {w} {w'} {w''} h o d = (rechained-trans o d.0, subst (λ (s : Sheet). ChainedFrom e s l w'') (only-sheet (omega arith) h o.only) d.1)

-- unchained, and then chained
pub chains-done : {e : End} {w w' w'' : List ℕ} → Loaded w → Rechained e w w' → Rechained e w' w'' × Chained e (sheet_in w') w'' → Rechained e w w'' × Chained e (sheet_in w) w''
chains-done {e} {w} {w'} {w''} h o d = (rechained-trans o d.0, subst (λ (s : Sheet). Chained e s w'') (only-sheet (omega arith) h o.only) d.1)
