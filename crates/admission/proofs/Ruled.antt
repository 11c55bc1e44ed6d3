-- 26 and 31 to 33 by the notes of a whole bundle.
use Prim.Native.Nat.{ℕ, ◌+◌, ◌/◌, ◌<◌, ◌≤◌}
use mathlib.Core.Path.{◌≡◌, refl, sym, ap, ap₂, ◌∙◌, subst}
use mathlib.Core.Bool.{Bool, true, false, not}
use mathlib.Core.Option.{none}
use mathlib.Core.Logic.{⊎_elim}
use mathlib.Core.List.{List}
use native.Mathlib.Omega.{arith}
use native.Mathlib.Numerals.{add-one}
use native.Mathlib.Decide.{dec_lt}
use borrow.Author.Tests.{eqb-true, eq-eqb, ne_eqb, lt-ltb, le-ltb, lt-leb, le-leb}
use lib.ListN.{get_or}
use lib.Dec.{eqb, ltb, leb}
use Rattle.folds.specs.Folds.{both}
use Rattle.folds.proofs.Tests.{below_suc}
use Rattle.folds.proofs.Laws.{none_first, first_found, none-with, with-found}
use Rattle.sheet.specs.Sheet.{Sheet, task_count, link_count, source_of, target_of}
use Rattle.bundle.specs.Bundle.{Command, run, send, receive, Bundle, programme_count, programme_of}
use Rattle.admission.specs.Counting.{whole, is}
use Rattle.admission.specs.Messages.{not_once, home, before, inside, send_fault, receive_fault, order_fault, message_fault, at26, at_message}
use Rattle.admission.specs.Notes.{slots_at, Notable, slot_of, sofar, Noted, never, again, once, Notes, ahead, send_by, receive_by, order_by, fault_by}
use Rattle.admission.specs.Fields.{source_at, target_at}
use Rattle.admission.specs.declared.view.View.{View}
use Rattle.admission.specs.Rules.{Given, OnceIs, LinkIs, MessageIs}
use Rattle.std.specs.Prelude.{Some, None}
use Rattle.refusals.specs.Refusals.{number, fault_of}
use Rattle.refusals.specs.Refusals.{placed as at_place}
use Rattle.refusals.specs.declared.Refusal.{Refusal}
use Rattle.refusals.specs.declared.Fault.{Fault}
use Rattle.refusals.proofs.Results.{fault-by, found-by}
use Rattle.std.specs.Prelude.{⊤, Result, Ok, Err}
use Rattle.admission.proofs.Messages.{run-once}
use Rattle.admission.proofs.Ranks.{sofar-whole}
use Rattle.admission.proofs.Places.{Placed, placed-home, same-programme, before-first, before-second}

-- notes of a whole bundle
module _ (s : Sheet) (b : Bundle) (w : List ℕ) (count : ℕ) (h : Notes s b (programme_count b) 0 count w) (c : Command) (k : Notable s c) where
  abbrev x : ℕ
  x = get_or w (slots_at + slot_of c) 0

  n : ℕ
  n = whole b (is c)

  -- it stands once
  pub once_by : ltb 1 x ≡ eqb (whole b (is c)) 1
  once_by = by (h.note c k)
    where
      e : sofar b (programme_count b) 0 c ≡ whole b (is c)
      e = sofar-whole b c

      by : Noted b (programme_count b) 0 c x → ltb 1 x ≡ eqb (whole b (is c)) 1
      by (never u v) = le-ltb 1 x (omega arith) ∙ sym (ne_eqb (whole b (is c)) 1 (λ q. omega (arith, e)))
      by (again u v) = le-ltb 1 x (omega arith) ∙ sym (ne_eqb (whole b (is c)) 1 (λ q. omega (arith, e)))
      by (once j p u v g) = lt-ltb 1 x (omega arith) ∙ sym (eq-eqb (whole b (is c)) 1 (omega (arith, e)))

  -- it does not stand anywhere
  pub none-by : eqb x 0 ≡ eqb (whole b (is c)) 0
  none-by = by (h.note c k)
    where
      e : sofar b (programme_count b) 0 c ≡ whole b (is c)
      e = sofar-whole b c

      by : Noted b (programme_count b) 0 c x → eqb x 0 ≡ eqb (whole b (is c)) 0
      by (never u v) = eq-eqb x 0 u ∙ sym (eq-eqb (whole b (is c)) 0 (omega (arith, e)))
      by (again u v) = ne_eqb x 0 (λ q. omega arith) ∙ sym (ne_eqb (whole b (is c)) 0 (λ q. omega (arith, e)))
      by (once j p u v g) = ne_eqb x 0 (λ q. omega arith) ∙ sym (ne_eqb (whole b (is c)) 0 (λ q. omega (arith, e)))

  pub placed : whole b (is c) ≡ 1 → (j : ℕ) × (i : ℕ) × Placed b c j i x
  placed o = by (h.note c k)
    where
      e : sofar b (programme_count b) 0 c ≡ whole b (is c)
      e = sofar-whole b c

      by : Noted b (programme_count b) 0 c x → (j : ℕ) × (i : ℕ) × Placed b c j i x
      by (never u v) = absurd (omega (arith, e))
      by (again u v) = absurd (omega (arith, e))
      by (once j p u v g) = (j, p, record { one = o; here = g; note = u })

-- 26
pub record Onces (w : List ℕ) (t : ℕ) : Type 0 where
  pub ones : (j : ℕ) → j < t → 2 ≤ get_or w (slots_at + j) 0

once-test : (s : Sheet) (b : Bundle) (w : List ℕ) (count : ℕ) → Notes s b (programme_count b) 0 count w → (t : ℕ) → t < task_count s → not_once b t ≡ not (ltb 1 (get_or w (slots_at + t) 0))
unfolding not_once
once-test s b w count h t l = ap not (sym (once_by s b w count h (run t) l))

pub once-starts : (w : List ℕ) → Onces w 0
once-starts w = record { ones = λ j l. absurd (omega arith) }

pub once_more : {w : List ℕ} {t : ℕ} → Onces w t → 2 ≤ get_or w (slots_at + t) 0 → Onces w (t + 1)
once_more {w} {t} g e =
    record {
      ones = λ j l. ⊎_elim (λ (k : j < t). g.ones j k) (λ (q : j ≡ t). subst (λ (i : ℕ). 2 ≤ get_or w (slots_at + i) 0) (sym q) e) (below_suc (rw add-one at l));
    }

pub once-found : (w : List ℕ) (t n : ℕ) → Onces w t → t < n → get_or w (slots_at + t) 0 < 2 → OnceIs w n (Some t)
unfolding at26
once-found w t n g l e =
    record {
      is_26 =
          λ s b count c h.
          sym
          (first_found (task_count s) (not_once b) t
          (λ j k. once-test s b w count h j (omega arith) ∙ ap not (lt-ltb 1 (get_or w (slots_at + j) 0) (g.ones j k)))
          (once-test s b w count h t (omega arith) ∙ ap not (le-ltb 1 (get_or w (slots_at + t) 0) (omega arith))) (omega arith));
    }

pub once-none : (w : List ℕ) (t n : ℕ) → Onces w t → n ≤ t → OnceIs w n None
unfolding at26
once-none w t n g l =
    record {
      is_26 =
          λ s b count c h.
          sym (none_first (task_count s) (not_once b) (λ j k. once-test s b w count h j k ∙ ap not (lt-ltb 1 (get_or w (slots_at + j) 0) (g.ones j (omega arith)))));
    }

-- 31 to 33
module _ (s : Sheet) (b : Bundle) (sheet w : List ℕ) (v : View) (h : Given s b sheet w v) (l : ℕ) (kl : l < link_count s) (once : at26 s b ≡ none) where
  abbrev note_of : Command → ℕ
  note_of c = get_or w (slots_at + slot_of c) 0

  abbrev source : Command
  source = run (source_of s l)

  abbrev target : Command
  target = run (target_of s l)

  abbrev together : Bool
  together = eqb (note_of source / 4096) (note_of target / 4096)

  from : (j : ℕ) × (i : ℕ) × Placed b source j i (note_of source)
  from = placed s b w h.count h.notes source (h.known.ranged.source l kl) (run-once s b once (source_of s l) (h.known.ranged.source l kl))

  to : (j : ℕ) × (i : ℕ) × Placed b target j i (note_of target)
  to = placed s b w h.count h.notes target (h.known.ranged.target l kl) (run-once s b once (target_of s l) (h.known.ranged.target l kl))

  -- both tasks run in one programme
  pub inside-by : together ≡ inside s b l
  unfolding inside
  inside-by =
      same-programme s h.known.ranged.few_tasks h.known.ranged.few_links (h.known.ranged.source l kl) from.2 to.2
      ∙ sym (ap₂ eqb (placed-home from.2) (placed-home to.2))

  -- a message that stands once, behind its source or before its target
  sent-by : both (ltb 1 (note_of (send l))) (ahead (note_of source) (note_of (send l))) ≡ both (eqb (whole b (is (send l))) 1) (before source (send l) (programme_of b (home b source)))
  sent-by = rw (once_by s b w h.count h.notes (send l) kl, placed-home from.2) (by (eqb (whole b (is (send l))) 1) refl)
    where
      by : (p : Bool) → eqb (whole b (is (send l))) 1 ≡ p → both p (ahead (note_of source) (note_of (send l))) ≡ both p (before source (send l) (programme_of b from.0))
      by false e = refl
      by true e =
          let ps = placed s b w h.count h.notes (send l) kl (eqb-true (whole b (is (send l))) 1 e) in
          sym (before-first s h.known.ranged.few_tasks h.known.ranged.few_links (h.known.ranged.source l kl) from.2 ps.2)

  got-by : both (ltb 1 (note_of (receive l))) (ahead (note_of (receive l)) (note_of target)) ≡ both (eqb (whole b (is (receive l))) 1) (before (receive l) target (programme_of b (home b target)))
  got-by = rw (once_by s b w h.count h.notes (receive l) kl, placed-home to.2) (by (eqb (whole b (is (receive l))) 1) refl)
    where
      by : (p : Bool) → eqb (whole b (is (receive l))) 1 ≡ p → both p (ahead (note_of (receive l)) (note_of target)) ≡ both p (before (receive l) target (programme_of b to.0))
      by false e = refl
      by true e =
          let pr = placed s b w h.count h.notes (receive l) kl (eqb-true (whole b (is (receive l))) 1 e) in
          sym (before-second s h.known.ranged.few_tasks h.known.ranged.few_links kl pr.2 to.2)

  send-is : send_by together (note_of source) (note_of (send l)) ≡ send_fault s b l
  unfolding send_by send_fault
  send-is = rw (inside-by, sent-by, none-by s b w h.count h.notes (send l) kl)

  receive-is : receive_by together (note_of (receive l)) (note_of target) ≡ receive_fault s b l
  unfolding receive_by receive_fault
  receive-is = rw (inside-by, got-by, none-by s b w h.count h.notes (receive l) kl)

  order_is : order_by together (note_of source) (note_of target) ≡ order_fault s b l
  unfolding order_by order_fault ahead
  order_is = by together refl
    where
      last : before source target (programme_of b (home b target)) ≡ both together (ltb (note_of source) (note_of target))
      last =
          ap (λ (k : ℕ). before source target (programme_of b k)) (placed-home to.2)
          ∙ before-second s h.known.ranged.few_tasks h.known.ranged.few_links (h.known.ranged.source l kl) from.2 to.2

      by : (i : Bool) → together ≡ i → both together (not (ltb (note_of source) (note_of target))) ≡ both (inside s b l) (not (before source target (programme_of b (home b target))))
      by true e = rw (← inside-by, last, e)
      by false e = rw (← inside-by, e)

  pub fault-is : fault_by (note_of source) (note_of target) (note_of (send l)) (note_of (receive l)) ≡ message_fault s b l
  unfolding fault_by message_fault
  fault-is = rw (send-is, receive-is, order_is)

pub leb-not : (a b : ℕ) → leb b a ≡ not (ltb a b)
leb-not a b = elim (dec_lt a b) [ yes h ↦ rw (lt-ltb a b h, lt-leb b a h) | no h ↦ rw (le-ltb a b (omega arith), le-leb b a (omega arith)) ]

-- a byte at an offset that is told
pub byte-there : (b : List ℕ) (i j x : ℕ) → x ≡ get_or b i 0 → i ≡ j → x ≡ get_or b j 0
byte-there b i j x e f = e ∙ ap (λ (k : ℕ). get_or b k 0) f

-- by the numbers that the code reads
pub link-by :
    (sheet w : List ℕ) (v : View) (l source target a t sent got : ℕ) (r : Result ⊤ Fault) → source ≡ get_or sheet (source_at v.middle l) 0 → target ≡ get_or sheet (target_at v.middle l) 0
    → a ≡ get_or w (slots_at + source) 0 → t ≡ get_or w (slots_at + target) 0 → sent ≡ get_or w (slots_at + (256 + l)) 0 → got ≡ get_or w (slots_at + (1280 + l)) 0 → fault_of r ≡ fault_by a t sent got
    → LinkIs sheet w v l r
link-by sheet w v l source target a t sent got r es et ea eb ec ed e =
    record {
      is_fault =
          λ s b kl h o.
          let x : a ≡ get_or w (slots_at + source_of s l) 0 = ea ∙ ap (λ (i : ℕ). get_or w (slots_at + i) 0) (es ∙ h.known.fields.source l kl) in
          let y : t ≡ get_or w (slots_at + target_of s l) 0 = eb ∙ ap (λ (i : ℕ). get_or w (slots_at + i) 0) (et ∙ h.known.fields.target l kl) in
          e ∙ ap₂ (λ (i j : ℕ). fault_by i j sent got) x y ∙ ap₂ (λ (i j : ℕ). fault_by (get_or w (slots_at + source_of s l) 0) (get_or w (slots_at + target_of s l) 0) i j) ec ed
          ∙ fault-is s b sheet w v h l kl o;
    }

-- the pass over the links: those below l have no fault
pub record Clear (sheet w : List ℕ) (v : View) (l : ℕ) : Type 0 where
  pub clear : (i : ℕ) → i < l → LinkIs sheet w v i (Ok tt)

pub clear-start : (sheet w : List ℕ) (v : View) → Clear sheet w v 0
clear-start sheet w v = record { clear = λ i l. absurd (omega arith) }

pub clear-more : {sheet w : List ℕ} {v : View} {l : ℕ} (r : Result ⊤ Fault) → Clear sheet w v l → Ok tt ≡ at_place l r → LinkIs sheet w v l r → Clear sheet w v (l + 1)
clear-more {sheet} {w} {v} {l} r g e h =
    record {
      clear =
          λ i m.
          ⊎_elim (λ (k : i < l). g.clear i k) (λ (q : i ≡ l). subst (λ (x : ℕ). LinkIs sheet w v x (Ok tt)) (sym q) (subst (LinkIs sheet w v l) (found-by l r tt e) h)) (below_suc (rw add-one at m));
    }

pub clear-found : (sheet w : List ℕ) (v : View) (l : ℕ) (r : Result ⊤ Fault) (x : Refusal) → Clear sheet w v l → l < v.links → Err x ≡ at_place l r → LinkIs sheet w v l r → MessageIs sheet w v (Err x)
unfolding at_message
clear-found sheet w v l r x g k e h =
    let f = fault-by l r x e in
    subst (λ (y : Refusal). MessageIs sheet w v (Err y)) (sym f.is)
    (record {
      is_lowest =
          λ s b i o.
          let d = i.known.links in
          sym
          (with-found (link_count s) (message_fault s b) l (number f.fault) (λ j q. sym ((g.clear j q).is_fault s b (omega arith) i o))
          (sym (h.is_fault s b (omega arith) i o) ∙ ap fault_of f.found) (omega arith));
    })

pub clear_none : (sheet w : List ℕ) (v : View) (l : ℕ) → Clear sheet w v l → v.links ≤ l → MessageIs sheet w v (Ok tt)
unfolding at_message
clear_none sheet w v l g k =
    record {
      is_lowest = λ s b i o. let d = i.known.links in sym (none-with (link_count s) (message_fault s b) (λ j q. sym ((g.clear j (omega arith)).is_fault s b q i o)));
    }
