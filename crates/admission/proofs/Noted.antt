-- The pass that notes a bundle's commands: one command more, the next programme, and its end.
use Prim.Native.Nat.{ℕ, suc, ◌+◌, ◌*◌, ◌-◌, ◌%◌, ◌<◌, ◌≤◌}
use mathlib.Core.Path.{◌≡◌, refl, sym, ap, ◌∙◌, subst}
use mathlib.Core.Bool.{Bool, true, false}
use mathlib.Core.Option.{some}
use mathlib.Core.Logic.{inl, ⊎_elim}
use mathlib.Core.List.{List}
use native.Mathlib.Omega.{arith}
use native.Mathlib.Numerals.{add-one}
use borrow.Author.Tests.{eq-eqb, ne_eqb}
use lib.ListN.{length, get_or, set, get_elem?, length-set}
use lib.Seq.{get_or-set_same, get_or-set_other}
use lib.Dec.{eqb}
use Rattle.folds.specs.Folds.{pick, bit}
use Rattle.folds.proofs.Tests.{bit_le}
use Rattle.folds.specs.Answers.{value}
use Rattle.sheet.specs.Sheet.{Sheet, task_count, link_count}
use Rattle.bundle.specs.Bundle.{Command, run, send, receive, release, discard, Bundle, programme_count, programme_of}
use Rattle.bundle.specs.Format.{read_bundle}
use Rattle.bundle.specs.Fits.{Known}
use Rattle.bundle.specs.Sizes.{short_size, long_size, claim_size}
use Rattle.bundle.specs.Kinds.{size_by}
use Rattle.bundle.specs.Lies.{size_of, Stands}
use Rattle.bundle.proofs.Lying.{stands-sized}
use Rattle.admission.specs.Releases.{is_release}
use Rattle.admission.specs.Counting.{is}
use Rattle.workspace.specs.Area.{ClearIs}
use Rattle.admission.specs.Notes.{slots_at, sends_at, receives_at, slots_end, Notable, slot_of, sofar, rank, Noted, never, again, once, Notes, message_at, slot_at, size_at, noted_words, Kept, BlankIs, NotesIs}
use Rattle.admission.proofs.Weights.{is-refl}
use Rattle.admission.proofs.Ranks.{is-or, slot_small, slot_same, sofar-more, sofar-next, sofar-none, rank-small, rank-more, rank-idle, rank-next, rank-none}
use Rattle.admission.proofs.Rows.{rows}
use Rattle.admission.proofs.Rights.{plain-release}
use Rattle.admission.proofs.Passes.{Pass, pass-first, pass_on, pass-open, pass-here, pass-ends}

-- a run, or another command
module _ (b : List ℕ) (at c : ℕ) (e : c ≡ get_or b at 0) where
  pub run-slot : c ≡ 0x52 → (x : ℕ) → x ≡ get_or b (at + 1) 0 → (x ≡ slot_at b at) × (short_size ≡ size_at b at)
  unfolding slot_at size_at
  run-slot q x h = rw (eq-eqb (get_or b at 0) 0x52 (sym e ∙ q)) (h, refl)

  pub message-slot : (c ≡ 0x52 → ⊥) → (x : ℕ) → x ≡ message_at b at → (x ≡ slot_at b at) × (long_size ≡ size_at b at)
  unfolding slot_at size_at
  message-slot q x h = rw (ne_eqb (get_or b at 0) 0x52 (λ f. q (e ∙ f))) (h, refl)

-- what stands at an offset: a release has a byte below that of a 50
module _ (s : Sheet) (b : List ℕ) where
  pub stands-slot : (o : ℕ) (c : Command) → 0x50 ≤ get_or b o 0 → Stands (task_count s) (link_count s) b o c → (slot_at b o ≡ slot_of c) × (size_at b o ≡ size_of c) × Notable s c
  unfolding slot_at message_at size_at
  stands-slot o (run x) m h = (rw h.0 h.1, rw h.0, h.2)
  stands-slot o (send x) m h = (rw h.0 (omega (arith, h.1)), rw h.0, h.2)
  stands-slot o (receive x) m h = (rw h.0 (omega (arith, h.1)), rw h.0, h.2)
  stands-slot o (release x) m h = absurd (omega (arith, h.0))
  stands-slot o (discard x) m h = absurd (omega (arith, h.0))

  pub stands-release : (o : ℕ) (c : Command) → get_or b o 0 < 0x50 → Stands (task_count s) (link_count s) b o c → is_release c ≡ true
  stands-release o (run x) m h = absurd (omega (arith, h.0))
  stands-release o (send x) m h = absurd (omega (arith, h.0))
  stands-release o (receive x) m h = absurd (omega (arith, h.0))
  stands-release o (release x) m h = refl
  stands-release o (discard x) m h = refl

  pub stands-known : (o : ℕ) (c : Command) → Stands (task_count s) (link_count s) b o c → Known s c
  stands-known o (run x) h = h.2
  stands-known o (send x) h = h.2
  stands-known o (receive x) h = h.2
  stands-known o (release x) h = h.2
  stands-known o (discard x) h = h.2

-- a note stays where its command is not counted any further
noted-same : {b : Bundle} {k i k' i' x y : ℕ} {c : Command} → y ≡ x → sofar b k' i' c ≡ sofar b k i c → Noted b k i c x → Noted b k' i' c y
noted-same q e (never u v) = never (q ∙ u) (e ∙ v)
noted-same q e (again u v) = again (q ∙ u) (omega arith)
noted-same q e (once j p u v h) = once j p (q ∙ u) (e ∙ v) h

-- the note tells whether the command was met
noted-met : {b : Bundle} {k i x : ℕ} {c : Command} → Noted b k i c x → eqb x 0 ≡ eqb (sofar b k i c) 0
noted-met {b} {k} {i} {x} {c} (never u v) = eq-eqb x 0 u ∙ sym (eq-eqb (sofar b k i c) 0 v)
noted-met {b} {k} {i} {x} {c} (again u v) = ne_eqb x 0 (λ q. omega arith) ∙ sym (ne_eqb (sofar b k i c) 0 (λ q. omega arith))
noted-met {b} {k} {i} {x} {c} (once j p u v h) = ne_eqb x 0 (λ q. omega arith) ∙ sym (ne_eqb (sofar b k i c) 0 (λ q. omega arith))

module _ (s : Sheet) (b : Bundle) (few : task_count s ≤ 256) (less : link_count s ≤ 1024) where
  -- the command d is met
  noted_more : (k i r : ℕ) (w : List ℕ) (d : Command) → k < 16 → slots_end ≤ length w → Notable s d → get_elem? (programme_of b k) i ≡ some d → r ≡ rank b k i
      → Noted b k i d (get_or w (slots_at + slot_of d) 0) → Noted b k (suc i) d (get_or (noted_words w (slot_of d) k r) (slots_at + slot_of d) 0)
  unfolding noted_words
  noted_more k i r w d small long h e q n = rw put (by n)
    where
      x : ℕ
      x = get_or w (slots_at + slot_of d) 0

      put : get_or (set w (slots_at + slot_of d) (pick (eqb x 0) ((4096 * (k % 16 + 1) + r) % 4294967296) 1)) (slots_at + slot_of d) 0 ≡ pick (eqb x 0) ((4096 * (k % 16 + 1) + r) % 4294967296) 1
      put = get_or-set_same w (slots_at + slot_of d) _ 0 (omega (arith, slot_small s few less d h))

      more : sofar b k (suc i) d ≡ sofar b k i d + 1
      more = sofar-more b k i d d e ∙ ap (λ (y : ℕ). sofar b k i d + y) (is-refl d)

      by : Noted b k i d x → Noted b k (suc i) d (pick (eqb x 0) ((4096 * (k % 16 + 1) + r) % 4294967296) 1)
      by (never u v) = rw (eq-eqb x 0 u) (once k i (omega (arith, rank-small b k i)) (omega (arith, more)) e)
      by (again u v) = rw (ne_eqb x 0 (λ z. omega arith)) (again refl (omega (arith, more)))
      by (once j p u v g) = rw (ne_eqb x 0 (λ z. omega arith)) (again refl (omega (arith, more)))

  pub notes-more : (k i r x : ℕ) (w : List ℕ) (d : Command) → k < 16 → slots_end ≤ length w → Notable s d → get_elem? (programme_of b k) i ≡ some d → x ≡ slot_of d
      → Notes s b k i r w → Notes s b k (suc i) (r + bit (eqb (get_or w (slots_at + x) 0) 0)) (noted_words w x k r)
  unfolding noted_words
  notes-more k i r x w d small long h e q n =
      rw q
      (record {
        note =
            λ c kc.
            ⊎_elim
            (λ (g : c ≡ d).
            subst (λ (y : Command). Noted b k (suc i) y (get_or (noted_words w (slot_of d) k r) (slots_at + slot_of y) 0)) (sym g)
            (noted_more k i r w d small long h e n.count (n.note d h)))
            (λ (z : is c d ≡ 0). other c kc z) (is-or c d);
        count =
            ap (λ (y : Bool). r + bit y) (noted-met (n.note d h)) ∙
            ap (λ (y : ℕ). y + bit (eqb (sofar b k i d) 0)) n.count ∙ sym (rank-more s few less b k i d h e);
      })
    where
      other : (c : Command) → Notable s c → is c d ≡ 0 → Noted b k (suc i) c (get_or (noted_words w (slot_of d) k r) (slots_at + slot_of c) 0)
      other c kc z =
          let apart : slots_at + slot_of c ≡ slots_at + slot_of d → ⊥ =
          λ g. let r : c ≡ d = slot_same s few less c d kc h (omega arith) in omega (arith, is-refl d, subst (λ (y : Command). is y d ≡ 0) r z)
          in
          noted-same (get_or-set_other w (slots_at + slot_of d) (slots_at + slot_of c) _ 0 apart) (omega (arith, sofar-more b k i c d e)) (n.note c kc)

  -- a release is met
  pub notes-idle : (k i r : ℕ) (w : List ℕ) (d : Command) → is_release d ≡ true → get_elem? (programme_of b k) i ≡ some d → Notes s b k i r w → Notes s b k (suc i) r w
  notes-idle k i r w d h e n =
      record {
        note = λ c kc. noted-same refl (omega (arith, sofar-more b k i c d e, plain-release c d (notable-plain c kc) h)) (n.note c kc);
        count = n.count ∙ sym (rank-idle s few less b k i d h e);
      }
    where
      notable-plain : (c : Command) → Notable s c → is_release c ≡ false
      notable-plain (run t) k = refl
      notable-plain (send l) k = refl
      notable-plain (receive l) k = refl
      notable-plain (release t) k = absurd k
      notable-plain (discard l) k = absurd k

  -- the programme k is over
  pub notes-next : (k i r : ℕ) (w : List ℕ) → length (programme_of b k) ≤ i → Notes s b k i r w → Notes s b (suc k) 0 r w
  notes-next k i r w h n =
      record { note = λ c kc. noted-same refl (sym (sofar-next b k i c h)) (n.note c kc); count = n.count ∙ rank-next b k i h }

pub notes-start : (s : Sheet) (b : Bundle) (v w : List ℕ) → BlankIs v w (task_count s) (link_count s) → Notes s b 0 0 0 w
notes-start s b v w z = record { note = λ c kc. never (zero_of c kc) (sofar-none b c); count = sym (rank-none b) }
  where
    zero_of : (c : Command) → Notable s c → get_or w (slots_at + slot_of c) 0 ≡ 0
    zero_of (run t) k = z.runs t k
    zero_of (send i) k = z.sends i k
    zero_of (receive i) k = z.receives i k
    zero_of (release t) k = absurd k
    zero_of (discard i) k = absurd k

pub noted-kept : {v w : List ℕ} (x k r : ℕ) → Kept v w → Kept v (noted_words w x k r)
unfolding noted_words
noted-kept {v} {w} x k r h =
    record { long = simp length-set h.long; low = λ i l. get_or-set_other w (slots_at + x) i _ 0 (λ q. omega arith) ∙ h.low i l }

-- the state of the pass
pub record Noting (n l : ℕ) (bundle v w : List ℕ) (at k r : ℕ) : Type 0 where
  pub kept : Kept v w
  pub few : 2 * k ≤ at
  pub less : 2 * r ≤ at
  pub each : (s : Sheet) (b : Bundle) → task_count s ≡ n → link_count s ≡ l → task_count s ≤ 256 → link_count s ≤ 1024 → programme_count b ≤ 16 → slots_end ≤ length v
      → ((i : ℕ) → get_or bundle i 0 < 256) → read_bundle s bundle ≡ value b → Pass s b bundle (λ k i at. Notes s b k i r w) at k

pub noting-starts : (n l : ℕ) (bundle v w : List ℕ) → BlankIs v w n l → Noting n l bundle w w short_size 0 0
noting-starts n l bundle v w z =
    record {
      kept = record { long = refl; low = λ i l. refl };
      few = omega arith;
      less = omega arith;
      each =
          λ s b en el few less small long bytes e. pass-first s b bundle (rows s (omega arith) bundle b bytes e) (notes-start s b v w (rw (en, el) z));
    }

module _ {n l : ℕ} {bundle v w : List ℕ} {at k r : ℕ} (end : ℕ) (far : end ≡ length bundle - claim_size) (g : Noting n l bundle v w at k r) where
  pub noting-open : at < end → get_or bundle at 0 ≡ 0x50 → Noting n l bundle v w (at + short_size) (k + 1) r
  noting-open m q =
      record {
        kept = g.kept;
        few = omega (arith, g.few);
        less = omega (arith, g.less);
        each =
            λ s b en el few less small long bytes e.
            rw add-one
            (pass-open s b bundle end far m q (g.each s b en el few less small long bytes e) (λ i h y n. notes-next s b few less k i r w h n));
      }

  -- a release
  pub noting-release : at < end → get_or bundle at 0 < 0x50 → (z : ℕ) → z ≡ size_by (get_or bundle at 0) → 2 ≤ z → Noting n l bundle v w (at + z) k r
  noting-release m q z ez two =
      record {
        kept = g.kept;
        few = omega (arith, g.few);
        less = omega (arith, g.less);
        each =
            λ s b en el few less small long bytes e.
            let h = pass-here s b bundle end far m (λ y. omega arith) (g.each s b en el few less small long bytes e) in
            pass_on s b bundle h z (ez ∙ stands-sized (task_count s) (link_count s) bundle at h.command h.stands)
            (notes-idle s b few less k h.place r w h.command (stands-release s bundle at h.command q h.stands) h.here h.kept);
      }

  pub noting-command : at < end → 0x50 < get_or bundle at 0 → (u : List ℕ) (x z r' : ℕ) → x ≡ slot_at bundle at → z ≡ size_at bundle at → 2 ≤ z → u ≡ noted_words w x k r
      → r' ≡ r + bit (eqb (get_or w (slots_at + x) 0) 0) → Noting n l bundle v u (at + z) k r'
  noting-command m q u x z r' ex ez two eu er =
      record {
        kept = subst (Kept v) (sym eu) (noted-kept x k r g.kept);
        few = omega (arith, g.few);
        less = omega (arith, g.less, bit_le (eqb (get_or w (slots_at + x) 0) 0));
        each =
            λ s b en el few less small long bytes e.
            let h = pass-here s b bundle end far m (λ y. omega arith) (g.each s b en el few less small long bytes e) in
            let c = stands-slot s bundle at h.command (omega arith) h.stands in
            pass_on s b bundle h z (ez ∙ c.1)
            (rw (eu, er)
            (notes-more s b few less k h.place r x w h.command (omega (arith, h.below)) (omega (arith, g.kept.long)) c.2 h.here (ex ∙ c.0) h.kept));
      }

  pub noting-ends : end ≤ at → NotesIs bundle v w n l r
  noting-ends m =
      record {
        kept = g.kept;
        notes =
            λ s b en el few less small long bytes e.
            pass-ends s b bundle end far m (g.each s b en el few less small long bytes e) (λ q n. subst (λ (j : ℕ). Notes s b j 0 r w) (sym q) n)
            (λ i h q n. subst (λ (j : ℕ). Notes s b j 0 r w) q (notes-next s b few less k i r w h n));
      }

-- the slots of n tasks, of l sends and of l receives are cleared
pub blank-all : {w x y z : List ℕ} (n l : ℕ) → n ≤ 256 → l ≤ 1024 → ClearIs w x slots_at (slots_at + n) → ClearIs x y sends_at (sends_at + l) → ClearIs y z receives_at (receives_at + l) → BlankIs w z n l
blank-all n l few less p q r =
    record {
      kept =
          record {
            long = r.long ∙ q.long ∙ p.long;
            low = λ i m. r.other i (inl (omega arith)) ∙ q.other i (inl (omega arith)) ∙ p.other i (inl m);
          };
      runs = λ t m. r.other (slots_at + t) (inl (omega arith)) ∙ q.other (slots_at + t) (inl (omega arith)) ∙ p.zeros (slots_at + t) (omega arith) (omega arith);
      sends = λ i m. r.other (slots_at + (256 + i)) (inl (omega arith)) ∙ q.zeros (slots_at + (256 + i)) (omega arith) (omega arith);
      receives = λ i m. r.zeros (slots_at + (1280 + i)) (omega arith) (omega arith);
    }

-- one command met, for the first time or again
module _ (w v : List ℕ) (x k r z : ℕ) (e : z ≡ get_or w (slots_at + x) 0) where
  pub note-new : z ≡ 0 → v ≡ set w (slots_at + x) ((4096 * (k % 16 + 1) + r) % 4294967296) → (v ≡ noted_words w x k r) × (r + 1 ≡ r + bit (eqb (get_or w (slots_at + x) 0) 0))
  unfolding noted_words
  note-new q h = rw (eq-eqb (get_or w (slots_at + x) 0) 0 (sym e ∙ q)) (h, refl)

  pub note-old : (z ≡ 0 → ⊥) → v ≡ set w (slots_at + x) 1 → (v ≡ noted_words w x k r) × (r ≡ r + bit (eqb (get_or w (slots_at + x) 0) 0))
  unfolding noted_words
  note-old q h = rw (ne_eqb (get_or w (slots_at + x) 0) 0 (λ u. q (e ∙ u))) (h, omega arith)

-- the notes were cleared first
pub notes-after : {bundle v w u : List ℕ} {n l r : ℕ} → BlankIs v w n l → NotesIs bundle w u n l r → NotesIs bundle v u n l r
notes-after z n =
    record {
      kept = record { long = n.kept.long ∙ z.kept.long; low = λ i l. n.kept.low i l ∙ z.kept.low i l };
      notes = λ s b en el few less small long bytes e. n.notes s b en el few less small (omega (arith, z.kept.long)) bytes e;
    }
