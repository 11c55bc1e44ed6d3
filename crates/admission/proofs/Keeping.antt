-- What is kept for releases, link by link.
use Prim.Native.Nat.{ℕ, ◌+◌, ◌/◌, ◌%◌, ◌≤◌, ◌<◌, max}
use mathlib.Core.Path.{◌≡◌, refl, sym, ap, ap₂, ◌∙◌, subst}
use mathlib.Core.Bool.{Bool, true, false}
use mathlib.Core.Logic.{◌⊎◌, inl, inr, ⊎_elim}
use mathlib.Core.List.{List}
use native.Mathlib.Omega.{arith}
use native.Mathlib.Numerals.{add-one}
use native.Mathlib.Decide.{ℕ_discrete}
use borrow.Author.Tests.{eq-eqb, ne_eqb}
use lib.ListN.{length, get_or, set, length-set}
use lib.Seq.{get_or-set_same, get_or-set_other}
use lib.Dec.{eqb}
use Rattle.folds.specs.Folds.{pick, greatest}
use Rattle.folds.proofs.Tests.{below_suc}
use Rattle.folds.proofs.Laws.{greatest-cong}
use Rattle.folds.proofs.Loops.{greatest-zero, greatest-one}
use Rattle.sheet.specs.Sheet.{Sheet, task_count, link_count, source_of, target_of}
use Rattle.bundle.specs.Bundle.{run, send, Bundle, programme_count}
use Rattle.admission.specs.Fields.{source_at, target_at, Known}
use Rattle.admission.specs.Notes.{slots_at, sends_at, releases_at, discards_at, slots_end, slot_of, Apart, Noted}
use Rattle.admission.specs.Lasts.{note_of, together, use_of, message_of, used_by, last_of, CopyIs, kept_words, LastIs, Lasts, LastsIs}
use Rattle.admission.specs.Rules.{Given}
use Rattle.admission.specs.declared.view.View.{View}
use Rattle.admission.proofs.Ranks.{slot_small}

pub apart-start : (w : List ℕ) → Apart w w
apart-start w = record { long = refl; low = λ i l. refl }

apart-set : {v w : List ℕ} (i x : ℕ) → releases_at ≤ i → Apart v w → Apart v (set w i x)
apart-set {v} {w} i x h g = record { long = length-set w i x ∙ g.long; low = λ j l. get_or-set_other w i j x 0 (λ q. omega arith) ∙ g.low j l }

-- the notes of the runs
pub copy_start : (w : List ℕ) → CopyIs w w 0
copy_start w = record { apart = apart-start w; copied = λ t l. absurd (omega arith) }

pub copy_more : {v w : List ℕ} {t : ℕ} (u : List ℕ) (x : ℕ) → CopyIs v w t → t < 256 → slots_end ≤ length v → x ≡ get_or w (slots_at + t) 0 → x < 4294967296
    → u ≡ set w (releases_at + t) (x % 4294967296) → CopyIs v u (t + 1)
copy_more {v} {w} {t} u x g few long ex small eu =
    let value-is : x % 4294967296 ≡ x = omega arith in
    rw (eu, value-is)
    (record {
      apart = apart-set (releases_at + t) x (omega arith) g.apart;
      copied =
          λ i l.
          ⊎_elim (λ (m : i < t). get_or-set_other w (releases_at + t) (releases_at + i) x 0 (λ q. omega arith) ∙ g.copied i m)
          (λ (m : i ≡ t). subst (λ (j : ℕ). get_or (set w (releases_at + t) x) (releases_at + j) 0 ≡ get_or v (slots_at + j) 0) (sym m)
          (get_or-set_same w (releases_at + t) x 0 (omega (arith, g.apart.long)) ∙ ex ∙ g.apart.low (slots_at + t) (omega arith)))
          (below_suc (rw add-one at l));
    })

-- by the numbers that the code reads
pub keep-by :
    (sheet w u last : List ℕ) (v : View) (l source target a t sent old most kept : ℕ) (inside : Bool) → source ≡ get_or sheet (source_at v.middle l) 0 → source < 256
    → target ≡ get_or sheet (target_at v.middle l) 0 → (a ≡ get_or w (slots_at + source) 0) × (a < 4294967296) → (t ≡ get_or w (slots_at + target) 0) × (t < 4294967296)
    → (sent ≡ get_or w (sends_at + l) 0) × (sent < 4294967296) → inside ≡ eqb (a / 4096) (t / 4096) → (old ≡ get_or w (releases_at + source) 0) × (old < 4294967296)
    → most ≡ max old (pick inside t sent) → u ≡ set w (releases_at + source) (most % 4294967296) → kept ≡ pick inside 0 t → last ≡ set u (discards_at + l) (kept % 4294967296)
    → LastIs sheet w last v l
unfolding use_of message_of
keep-by sheet w u last v l source target a t sent old most kept inside es small et ea eb ec ei eo eu e1 ek e2 =
    record {
      apart = rw (e2, e1) (apart-set (discards_at + l) (kept % 4294967296) (omega arith) (apart-set (releases_at + source) (most % 4294967296) (omega arith) (apart-start w)));
      is = λ s k kl. by s k kl;
    }
  where
    fits-pick : (y : Bool) → pick y t sent < 4294967296
    fits-pick true = eb.1
    fits-pick false = ec.1

    fits_kept : (y : Bool) → pick y 0 t < 4294967296
    fits_kept true = omega arith
    fits_kept false = eb.1

    by : (s : Sheet) → Known s sheet v → l < link_count s → last ≡ kept_words s w l (source_of s l)
    by s k kl =
        let x : source ≡ source_of s l = es ∙ k.fields.source l kl in
        let y : target ≡ target_of s l = et ∙ k.fields.target l kl in
        let na : a ≡ note_of w (run (source_of s l)) = ea.0 ∙ ap (λ (i : ℕ). get_or w (slots_at + i) 0) x in
        let nt : t ≡ note_of w (run (target_of s l)) = eb.0 ∙ ap (λ (i : ℕ). get_or w (slots_at + i) 0) y in
        let place : sends_at + l ≡ slots_at + slot_of (send l) = omega arith in
        let ns : sent ≡ note_of w (send l) = ec.0 ∙ ap (λ (i : ℕ). get_or w i 0) place in
        let ni : inside ≡ together s w l = ei ∙ ap₂ (λ (i j : ℕ). eqb (i / 4096) (j / 4096)) na nt in
        let used : most % 4294967296 ≡ max (get_or w (releases_at + source_of s l) 0) (pick (together s w l) (note_of w (run (target_of s l))) (note_of w (send l))) =
        omega (arith, eu, eo.1, fits-pick inside)
        ∙ eu ∙ ap₂ max (eo.0 ∙ ap (λ (i : ℕ). get_or w (releases_at + i) 0) x) (ap (λ (z : Bool). pick z t sent) ni ∙ ap₂ (λ (i j : ℕ). pick (together s w l) i j) nt ns)
        in
        let got : kept % 4294967296 ≡ pick (together s w l) 0 (note_of w (run (target_of s l))) =
        omega (arith, ek, fits_kept inside) ∙ ek ∙ ap (λ (z : Bool). pick z 0 t) ni ∙ ap (λ (i : ℕ). pick (together s w l) 0 i) nt
        in
        e2 ∙ ap₂ (λ (z : List ℕ) (i : ℕ). set z (discards_at + l) i) (e1 ∙ ap₂ (λ (i j : ℕ). set w (releases_at + i) j) x used) got

-- the links below l
pub record Keeping (sheet v w : List ℕ) (view : View) (l : ℕ) : Type 0 where
  pub apart : Apart v w
  pub is : (s : Sheet) → Known s sheet view → Lasts s v w l

pub keeping-starts : (sheet v w : List ℕ) (view : View) → CopyIs v w view.tasks → view.tasks ≤ 256 → Keeping sheet w w view 0
unfolding last_of
keeping-starts sheet v w view g few =
    record {
      apart = apart-start w;
      is =
          λ s k.
          record {
            results = λ t l. g.copied t (omega (arith, k.tasks)) ∙ sym (g.apart.low (slots_at + t) (omega (arith, k.tasks))) ∙ omega (arith, greatest-zero (used_by s w t));
            messages = λ l m. absurd (omega arith);
          };
    }

-- notes that are the same are used alike
module _ {sheet v w : List ℕ} {view : View} (g : Apart v w) (s : Sheet) (k : Known s sheet view) where
  note-same : (i : ℕ) → i < 2304 → get_or w (slots_at + i) 0 ≡ get_or v (slots_at + i) 0
  note-same i h = g.low (slots_at + i) (omega arith)

  module _ (l : ℕ) (kl : l < link_count s) where
    from : note_of w (run (source_of s l)) ≡ note_of v (run (source_of s l))
    from = note-same (source_of s l) (omega (arith, k.ranged.source l kl, k.ranged.few_tasks))

    to : note_of w (run (target_of s l)) ≡ note_of v (run (target_of s l))
    to = note-same (target_of s l) (omega (arith, k.ranged.target l kl, k.ranged.few_tasks))

    use-same : use_of s w l ≡ use_of s v l
    unfolding use_of
    use-same = rw (from, to, note-same (slot_of (send l)) (omega (arith, k.ranged.few_links)))

    message-same : message_of s w l ≡ message_of s v l
    unfolding message_of
    message-same = rw (from, to)

  last-same : (t : ℕ) → t < task_count s → last_of s w t (link_count s) ≡ last_of s v t (link_count s)
  unfolding last_of
  last-same t l =
      ap₂ max (note-same t (omega (arith, k.ranged.few_tasks)))
      (greatest-cong (link_count s) (used_by s w t) (used_by s v t) (λ i m. ap (λ (x : ℕ). pick (eqb (source_of s i) t) x 0) (use-same i m)))

module _ {sheet v w : List ℕ} {view : View} {l : ℕ} (g : Keeping sheet v w view l) where
  pub keeping-more : (u : List ℕ) → l < view.links → slots_end ≤ length v → LastIs sheet w u view l → Keeping sheet v u view (l + 1)
  unfolding last_of
  keeping-more u less long h =
      record {
        apart = record { long = h.apart.long ∙ g.apart.long; low = λ i m. h.apart.low i m ∙ g.apart.low i m };
        is = λ s k. by s k (omega (arith, k.links));
      }
    where
      by : (s : Sheet) → Known s sheet view → l < link_count s → Lasts s v u (l + 1)
      by s k kl = rw (h.is s k kl) (record { results = λ t m. result t m (ℕ_discrete t (source_of s l)); messages = λ i m. message i (below_suc (rw add-one at m)) })
        where
          x : ℕ
          x = source_of s l

          set_first : List ℕ
          set_first = set w (releases_at + source_of s l) (max (get_or w (releases_at + source_of s l) 0) (use_of s w l))

          last_more : (t y : ℕ) → get_or w (releases_at + t) 0 ≡ max (note_of v (run t)) (greatest l (used_by s v t)) → y ≡ used_by s v t l
              → max (get_or w (releases_at + t) 0) y ≡ max (note_of v (run t)) (greatest (l + 1) (used_by s v t))
          last_more t y e f = omega (arith, greatest-one l (used_by s v t))

          result : (t : ℕ) → t < task_count s → Dec (t ≡ source_of s l) → get_or (kept_words s w l (source_of s l)) (releases_at + t) 0 ≡ max (note_of v (run t)) (greatest (l + 1) (used_by s v t))
          result t m (yes e) =
              get_or-set_other set_first (discards_at + l) (releases_at + t) (message_of s w l) 0 (λ q. omega (arith, k.ranged.few_tasks))
              ∙ ap (λ (i : ℕ). get_or set_first (releases_at + i) 0) e
              ∙ get_or-set_same w (releases_at + source_of s l) _ 0 (omega (arith, g.apart.long, k.ranged.few_tasks))
              ∙ ap (λ (i : ℕ). max (get_or w (releases_at + i) 0) (use_of s w l)) (sym e)
              ∙ last_more t (use_of s w l) ((g.is s k).results t m) (use-same g.apart s k l kl ∙ sym (ap (λ (y : Bool). pick y (use_of s v l) 0) (eq-eqb (source_of s l) t (sym e))))
          result t m (no d) =
              get_or-set_other set_first (discards_at + l) (releases_at + t) (message_of s w l) 0 (λ q. omega (arith, k.ranged.few_tasks))
              ∙ get_or-set_other w (releases_at + source_of s l) (releases_at + t) _ 0 (λ q. d (omega arith))
              ∙ omega (arith, last_more t 0 ((g.is s k).results t m) (sym (ap (λ (y : Bool). pick y (use_of s v l) 0) (ne_eqb (source_of s l) t (λ q. d (sym q))))))

          message : (i : ℕ) → (i < l) ⊎ (i ≡ l) → get_or (kept_words s w l (source_of s l)) (discards_at + i) 0 ≡ message_of s v i
          message i (inl m) =
              get_or-set_other set_first (discards_at + l) (discards_at + i) (message_of s w l) 0 (λ q. omega arith)
              ∙ get_or-set_other w (releases_at + source_of s l) (discards_at + i) _ 0 (λ q. omega (arith, k.ranged.source l kl, k.ranged.few_tasks))
              ∙ (g.is s k).messages i m
          message i (inr m) =
              ap (λ (j : ℕ). get_or (kept_words s w l (source_of s l)) (discards_at + j) 0) m
              ∙ get_or-set_same set_first (discards_at + l) (message_of s w l) 0
              (omega (arith, length-set w (releases_at + source_of s l) (max (get_or w (releases_at + source_of s l) 0) (use_of s w l)), g.apart.long, k.ranged.few_links))
              ∙ message-same g.apart s k l kl ∙ ap (message_of s v) (sym m)

  pub keeping-ends : view.links ≤ l → l ≤ view.links → LastsIs sheet v w view
  keeping-ends h m = record { apart = g.apart; is = λ s k. let e : l ≡ link_count s = omega (arith, k.links) in subst (Lasts s v w) e (g.is s k) }

-- the notes were copied first
pub from-copy : {sheet v w u : List ℕ} {view : View} {n : ℕ} → CopyIs v w n → LastsIs sheet w u view → LastsIs sheet v u view
from-copy g h =
    record {
      apart = record { long = h.apart.long ∙ g.apart.long; low = λ i m. h.apart.low i m ∙ g.apart.low i m };
      is =
          λ s k.
          let e = h.is s k in
          record { results = λ t l. e.results t l ∙ last-same g.apart s k t l; messages = λ l m. e.messages l m ∙ message-same g.apart s k l m };
    }

-- what is kept by the notes of v is so by those that are left
pub lasts-self : {sheet v w : List ℕ} {view : View} → LastsIs sheet v w view → LastsIs sheet w w view
lasts-self {w = w} h =
    record {
      apart = apart-start w;
      is =
          λ s k.
          let e = h.is s k in
          record { results = λ t l. e.results t l ∙ sym (last-same h.apart s k t l); messages = λ l m. e.messages l m ∙ sym (message-same h.apart s k l m) };
    }

pub given-apart : {s : Sheet} {b : Bundle} {sheet v w : List ℕ} {view : View} → Apart v w → Given s b sheet v view → Given s b sheet w view
given-apart {s} {b} {sheet} {v} {w} g h =
    record {
      known = h.known;
      count = h.count;
      notes =
          record {
            note =
                λ c n.
                subst (Noted b (programme_count b) 0 c) (sym (g.low (slots_at + slot_of c) (omega (arith, slot_small s h.known.ranged.few_tasks h.known.ranged.few_links c n))))
                (h.notes.note c n);
            count = h.notes.count;
          };
    }
