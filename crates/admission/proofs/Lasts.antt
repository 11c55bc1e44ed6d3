-- The last command of a programme that gets or uses a thing, by the notes: a release is right exactly behind it.
use Prim.Native.Nat.{ℕ, zero, suc, ◌+◌, ◌*◌, ◌/◌, ◌≤◌, ◌<◌, max}
use mathlib.Core.Path.{◌≡◌, refl, sym, ap, ◌∙◌, subst}
use mathlib.Core.Bool.{Bool, true, false, true≢false}
use mathlib.Core.Option.{none, some, some-injective}
use mathlib.Core.Logic.{◌≢◌, ◌⊎◌, inl, inr, ⊎_elim}
use mathlib.Core.List.{List, [], ◌∷◌}
use native.Mathlib.Omega.{arith}
use native.Mathlib.Decide.{dec_lt, ℕ_discrete}
use borrow.Author.Tests.{eqb-true, eq-eqb, ne_eqb, ltb-true, lt-ltb, le-ltb}
use lib.ListN.{take, drop, get_elem?}
use lib.Dec.{eqb, ltb}
use Rattle.folds.specs.Folds.{pick, bit, both, any, greatest}
use Rattle.folds.proofs.Tests.{both-parts, parts-both, both_false, not_some}
use Rattle.folds.proofs.Laws.{any_found, any_some, term-le-greatest, greatest-some}
use Rattle.sheet.specs.Sheet.{Sheet, task_count, link_count, source_of, target_of}
use Rattle.bundle.specs.Bundle.{Command, run, send, receive, release, discard, Bundle, programme_of}
use Rattle.bundle.specs.Fits.{Known}
use Rattle.admission.specs.Counting.{weigh, whole, is}
use Rattle.admission.specs.Releases.{is_release, gets, joins, uses}
use Rattle.admission.specs.Messages.{home, before, inside, at26, at_message}
use Rattle.admission.specs.Unsplit.{inside_ok, across_ok}
use Rattle.admission.specs.Notes.{Notable, rank, ahead}
use Rattle.admission.specs.Lasts.{note_of, together, use_of, message_of, used_by, last_of}
use Rattle.admission.specs.Rules.{Given}
use Rattle.admission.specs.declared.view.View.{View}
use Rattle.admission.proofs.Weights.{weigh-split, weigh-take, is-refl, standing}
use Rattle.admission.proofs.Before.{before-takes}
use Rattle.admission.proofs.Rights.{weigh-behind, weighs, stands-behind}
use Rattle.admission.proofs.Splits.{link-right}
use Rattle.admission.proofs.Messages.{run-once}
use Rattle.admission.proofs.Ranks.{weigh-rises, rank-order}
use Rattle.admission.proofs.Places.{Placed, placed-home, placed-programme, whole-stands, only, elsewhere, before-first, before-second}
use Rattle.admission.proofs.Ruled.{placed, inside-by}

-- a command that stands once stands at one place
once-place : (c : Command) (p : List Command) (i m : ℕ) → weigh (is c) p ≤ 1 → get_elem? p i ≡ some c → get_elem? p m ≡ some c → i ≡ m
unfolding weigh
once-place c [] i m a e f = not_some e
once-place c (x ∷ p) zero zero a e f = refl
once-place c (x ∷ p) zero (suc m) a e f = absurd (omega (arith, standing c p m f, ap (is c) (some-injective x c e), is-refl c))
once-place c (x ∷ p) (suc i) zero a e f = absurd (omega (arith, standing c p i e, ap (is c) (some-injective x c f), is-refl c))
once-place c (x ∷ p) (suc i) (suc m) a e f = ap suc (once-place c p i m (omega arith) e f)

placed-there : {b : Bundle} {c : Command} {k i x : ℕ} → Placed b c k i x → (j q : ℕ) → get_elem? (programme_of b j) q ≡ some c → (k ≡ j) × (x ≡ 4096 * suc j + rank b j q)
placed-there {b} {c} {k} {i} {x} h j q e =
    elim (ℕ_discrete j k) [
      | no d ↦ absurd (omega (arith, elsewhere h j d, standing c (programme_of b j) q e))
      | yes d ↦
          let f : get_elem? (programme_of b k) q ≡ some c = subst (λ (n : ℕ). get_elem? (programme_of b n) q ≡ some c) d e in
          let z : i ≡ q = once-place c (programme_of b k) i q (only h k) h.here f in
          (sym d, subst (λ (n : ℕ). x ≡ 4096 * suc n + rank b n q) (sym d) (subst (λ (n : ℕ). x ≡ 4096 * suc k + rank b k n) z h.note))
    ]

-- u is the note of the last command of its programme that gets or uses the thing that x releases
pub record Until (s : Sheet) (b : Bundle) (x : Command) (u : ℕ) : Type 0 where
  pub programme : ℕ
  pub place : ℕ
  pub command : Command
  pub notable : Notable s command
  pub last : Placed b command programme place u
  pub once : (j : ℕ) → weigh (is (gets x)) (programme_of b j) ≤ 1
  pub only : (j : ℕ) → j ≢ programme → weigh (is (gets x)) (programme_of b j) ≡ 0
  pub got : 0 < weigh (is (gets x)) (take (suc place) (programme_of b programme))
  pub closed : weigh (uses s x) (drop (suc place) (programme_of b programme)) ≡ 0
  pub needed : (command ≡ gets x) ⊎ (0 < uses s x command)

pub notable-plain : (s : Sheet) (c : Command) → Notable s c → is_release c ≡ false
notable-plain s (run t) k = refl
notable-plain s (send l) k = refl
notable-plain s (receive l) k = refl
notable-plain s (release t) k = absurd k
notable-plain s (discard l) k = absurd k

module _ (s : Sheet) (few : task_count s ≤ 256) (less : link_count s ≤ 1024) {b : Bundle} {x : Command} {u : ℕ} (h : Until s b x u) (i : ℕ)
    (here : get_elem? (programme_of b h.programme) i ≡ some x) (free : is_release x ≡ true) where
  abbrev p : List Command
  p = programme_of b h.programme

  behind : h.place < i → both (ltb 0 (weigh (is (gets x)) (take i p))) (eqb (weigh (uses s x) (drop (suc i) p)) 0) ≡ true
  behind l =
      let a : 0 < weigh (is (gets x)) (take i p) = omega (arith, h.got, weigh-rises (is (gets x)) p (suc h.place) i l) in
      let z : weigh (uses s x) (drop (suc i) p) ≡ 0 =
      omega (arith, h.closed, weigh-split (uses s x) p (suc i), weigh-split (uses s x) p (suc h.place), weigh-rises (uses s x) p (suc h.place) (suc i) (omega arith))
      in
      rw (lt-ltb 0 (weigh (is (gets x)) (take i p)) a, eq-eqb (weigh (uses s x) (drop (suc i) p)) 0 z)

  ahead_of : i < h.place → both (ltb 0 (weigh (is (gets x)) (take i p))) (eqb (weigh (uses s x) (drop (suc i) p)) 0) ≡ false
  ahead_of l =
      ⊎_elim
      (λ (e : h.command ≡ gets x).
      let z : weigh (is (gets x)) (take i p) ≡ 0 =
      omega (
        arith,
        h.once h.programme,
        weigh-split (is (gets x)) p (suc i),
        weigh-rises (is (gets x)) p i (suc i) (omega arith),
        weigh-behind (is (gets x)) p h.place i h.command h.last.here l,
        ap (is (gets x)) e,
        is-refl (gets x),
      )
      in
      rw z)
      (λ (g : 0 < uses s x h.command).
      rw (ne_eqb (weigh (uses s x) (drop (suc i) p)) 0 (λ q. omega (arith, weigh-behind (uses s x) p h.place i h.command h.last.here l)))
      (both_false (ltb 0 (weigh (is (gets x)) (take i p)))))
      h.needed

  -- a release at i stands behind it exactly if the thing was got, and nothing behind uses it
  pub until-test : ltb u (4096 * suc h.programme + rank b h.programme i) ≡ both (ltb 0 (weigh (is (gets x)) (take i p))) (eqb (weigh (uses s x) (drop (suc i) p)) 0)
  until-test =
      let o = rank-order s few less b h.programme h.place i h.command h.notable h.last.one h.last.here in
      elim (dec_lt h.place i) [
        | yes l ↦
            lt-ltb u _ (omega (arith, h.last.note, ltb-true (rank b h.programme h.place) (rank b h.programme i) (sym o ∙ lt-ltb h.place i l))) ∙ sym (behind l)
        | no l ↦
            let d : i ≢ h.place = λ q.
            let e : h.command ≡ x = some-injective h.command x (sym h.last.here ∙ ap (λ (n : ℕ). get_elem? p n) (sym q) ∙ here) in
            absurd (true≢false (sym free ∙ ap is_release (sym e) ∙ notable-plain s h.command h.notable))
            in
            le-ltb u _ (omega (arith, h.last.note, not-less (rank b h.programme h.place) (rank b h.programme i) (sym o ∙ le-ltb h.place i (omega arith)))) ∙
            sym (ahead_of (omega arith))
      ]
    where
      not-less : (m n : ℕ) → ltb m n ≡ false → n ≤ m
      not-less m n e = elim (dec_lt m n) [ yes g ↦ absurd (true≢false (sym (lt-ltb m n g) ∙ e)) | no g ↦ omega arith ]

-- what 31 to 33 leave of a link
record Inside (s : Sheet) (b : Bundle) (l : ℕ) : Type 0 where
  unsent : whole b (is (send l)) ≡ 0
  ungot : whole b (is (receive l)) ≡ 0

record Across (s : Sheet) (b : Bundle) (l : ℕ) : Type 0 where
  sent : whole b (is (send l)) ≡ 1
  got : whole b (is (receive l)) ≡ 1
  sends : before (run (source_of s l)) (send l) (programme_of b (home b (run (source_of s l)))) ≡ true
  gets-it : before (receive l) (run (target_of s l)) (programme_of b (home b (run (target_of s l)))) ≡ true

module _ (s : Sheet) (b : Bundle) (messages : at_message s b ≡ none) (l : ℕ) (kl : l < link_count s) where
  inside-link : inside s b l ≡ true → Inside s b l
  unfolding inside inside_ok
  inside-link e =
      let h = both-parts (eqb (whole b (is (send l)) + whole b (is (receive l))) 0) _ (rw e at (link-right s b messages l kl)) in
      let z = eqb-true (whole b (is (send l)) + whole b (is (receive l))) 0 h.0 in
      record { unsent = omega arith; ungot = omega arith }

  across-link : inside s b l ≡ false → Across s b l
  unfolding inside across_ok
  across-link e =
      let h = both-parts (eqb (whole b (is (send l))) 1) _ (rw e at (link-right s b messages l kl)) in
      let g = both-parts (eqb (whole b (is (receive l))) 1) _ h.1 in
      let f = both-parts (before (run (source_of s l)) (send l) (programme_of b (home b (run (source_of s l))))) _ g.1 in
      record { sent = eqb-true (whole b (is (send l))) 1 h.0; got = eqb-true (whole b (is (receive l))) 1 g.0; sends = f.0; gets-it = f.1 }

bit-true : (u : Bool) → 0 < bit u → u ≡ true
bit-true true h = refl
bit-true false h = absurd (omega arith)

-- notes of a bundle of which no command is undeclared, where 26 and 31 to 33 do not apply
module _ (s : Sheet) (b : Bundle) (sheet w : List ℕ) (v : View) (h : Given s b sheet w v) (once : at26 s b ≡ none) (messages : at_message s b ≡ none)
    (known : (k i : ℕ) (c : Command) → get_elem? (programme_of b k) i ≡ some c → Known s c) where
  few : task_count s ≤ 256
  few = h.known.ranged.few_tasks

  less : link_count s ≤ 1024
  less = h.known.ranged.few_links

  ran : (t : ℕ) → t < task_count s → (j : ℕ) × (i : ℕ) × Placed b (run t) j i (note_of w (run t))
  ran t l = placed s b w h.count h.notes (run t) l (run-once s b once t l)

  module _ (l : ℕ) (kl : l < link_count s) where
    source : (j : ℕ) × (i : ℕ) × Placed b (run (source_of s l)) j i (note_of w (run (source_of s l)))
    source = ran (source_of s l) (h.known.ranged.source l kl)

    target : (j : ℕ) × (i : ℕ) × Placed b (run (target_of s l)) j i (note_of w (run (target_of s l)))
    target = ran (target_of s l) (h.known.ranged.target l kl)

    inside_is : together s w l ≡ inside s b l
    inside_is = inside-by s b sheet w v h l kl once

    -- the programme of a note
    same_place : together s w l ≡ true → source.0 ≡ target.0
    same_place e = omega (arith, eqb-true (note_of w (run (source_of s l)) / 4096) (note_of w (run (target_of s l)) / 4096) e, placed-programme source.2, placed-programme target.2)

    -- the send of a link between programmes stands in its source's
    sent : together s w l ≡ false → (i : ℕ) × Placed b (send l) source.0 i (note_of w (send l))
    unfolding ahead
    sent e =
        let a = across-link s b messages l kl (sym inside_is ∙ e) in
        let c = placed s b w h.count h.notes (send l) kl a.sent in
        let f : ahead (note_of w (run (source_of s l))) (note_of w (send l)) ≡ true =
        sym (before-first s few less (h.known.ranged.source l kl) source.2 c.2) ∙ ap (λ (k : ℕ). before (run (source_of s l)) (send l) (programme_of b k)) (sym (placed-home source.2)) ∙ a.sends
        in
        let q = both-parts (eqb (note_of w (run (source_of s l)) / 4096) (note_of w (send l) / 4096)) _ f in
        let z : c.0 ≡ source.0 = omega (arith, eqb-true (note_of w (run (source_of s l)) / 4096) (note_of w (send l) / 4096) q.0, placed-programme source.2, placed-programme c.2) in
        (c.1, subst (λ (k : ℕ). Placed b (send l) k c.1 (note_of w (send l))) z c.2)

    -- its use of its source's result, in its source's programme
    record Used : Type 0 where
      command : Command
      place : ℕ
      at : Placed b command source.0 place (use_of s w l)
      notable : Notable s command
      uses-it : 0 < uses s (release (source_of s l)) command

    used : Used
    unfolding use_of
    used = by (together s w l) refl
      where
        by : (q : Bool) → together s w l ≡ q → Used
        by true e =
            record {
              command = run (target_of s l);
              place = target.1;
              at = rw e (subst (λ (k : ℕ). Placed b (run (target_of s l)) k target.1 (note_of w (run (target_of s l)))) (sym (same_place e)) target.2);
              notable = h.known.ranged.target l kl;
              uses-it =
                  omega (
                    arith,
                    ap bit
                        (any_found (link_count s) (joins s (source_of s l) (target_of s l)) l kl
                        (parts-both (eqb (source_of s l) (source_of s l)) (eqb (target_of s l) (target_of s l)) (eq-eqb (source_of s l) (source_of s l) refl)
                        (eq-eqb (target_of s l) (target_of s l) refl))),
                  );
            }
        by false e =
            let c = sent e in
            record {
              command = send l;
              place = c.0;
              at = rw e c.1;
              notable = kl;
              uses-it = omega (arith, ap bit (eq-eqb (source_of s l) (source_of s l) refl));
            }

  -- every command that uses a result in its programme is the use of a link
  users : (t : ℕ) (kt : t < task_count s) (q : ℕ) (c : Command) → get_elem? (programme_of b (ran t kt).0) q ≡ some c → 0 < uses s (release t) c
      → 4096 * suc (ran t kt).0 + rank b (ran t kt).0 q ≤ greatest (link_count s) (used_by s w t)
  unfolding use_of
  users t kt q c e u = by c e u
    where
      j : ℕ
      j = (ran t kt).0

      -- the use of link l has the note of the place q
      term : (l : ℕ) → l < link_count s → source_of s l ≡ t → use_of s w l ≡ 4096 * suc j + rank b j q → 4096 * suc j + rank b j q ≤ greatest (link_count s) (used_by s w t)
      term l kl f g = omega (arith, term-le-greatest (link_count s) (used_by s w t) l kl, g, ap (λ (y : Bool). pick y (use_of s w l) 0) (eq-eqb (source_of s l) t f))

      home_of : (l : ℕ) (kl : l < link_count s) → source_of s l ≡ t → (source l kl).0 ≡ j
      home_of l kl f =
          let z = source l kl in
          (placed-there z.2 j (ran t kt).1 (subst (λ (y : ℕ). get_elem? (programme_of b j) (ran t kt).1 ≡ some (run y)) (sym f) (ran t kt).2.here)).0

      by : (c : Command) → get_elem? (programme_of b j) q ≡ some c → 0 < uses s (release t) c → 4096 * suc j + rank b j q ≤ greatest (link_count s) (used_by s w t)
      by (run y) e u =
          let m = any_some (link_count s) (joins s t y) (bit-true (any (link_count s) (joins s t y)) u) in
          let a = both-parts (eqb (source_of s m.0) t) (eqb (target_of s m.0) y) m.2 in
          let l = m.0 in
          let kl = m.1 in
          let f = eqb-true (source_of s l) t a.0 in
          let g : get_elem? (programme_of b j) q ≡ some (run (target_of s l)) = e ∙ ap (λ (x : ℕ). some (run x)) (sym (eqb-true (target_of s l) y a.1)) in
          let there = placed-there (target l kl).2 j q g in
          let close : together s w l ≡ true =
          eq-eqb (note_of w (run (source_of s l)) / 4096) (note_of w (run (target_of s l)) / 4096)
          (omega (arith, placed-programme (source l kl).2, placed-programme (target l kl).2, home_of l kl f, there.0))
          in
          term l kl f (rw close there.1)
      by (send l) e u =
          let f = eqb-true (source_of s l) t (bit-true (eqb (source_of s l) t) u) in
          let kl : l < link_count s = known j q (send l) e in
          go l kl f e (together s w l) refl
        where
          go : (l : ℕ) (kl : l < link_count s) → source_of s l ≡ t → get_elem? (programme_of b j) q ≡ some (send l) → (y : Bool) → together s w l ≡ y
              → 4096 * suc j + rank b j q ≤ greatest (link_count s) (used_by s w t)
          go l kl f e true z =
              let n = inside-link s b messages l kl (sym (inside_is l kl) ∙ z) in
              absurd (omega (arith, n.unsent, whole-stands b (send l) j q e))
          go l kl f e false z = term l kl f (rw z (placed-there (sent l kl z).1 j q e).1)
      by (receive l) e u = absurd (omega arith)
      by (release y) e u = absurd (omega arith)
      by (discard l) e u = absurd (omega arith)

  -- nothing behind a command uses a result, if its note is at least those of all uses
  none-behind : (t : ℕ) (kt : t < task_count s) (u p : ℕ) (c : Command) → Notable s c → Placed b c (ran t kt).0 p u → greatest (link_count s) (used_by s w t) ≤ u
      → weigh (uses s (release t)) (drop (suc p) (programme_of b (ran t kt).0)) ≡ 0
  none-behind t kt u p c n a le =
      let q = drop (suc p) (programme_of b j) in
      elim (dec_lt 0 (weigh (uses s (release t)) q)) [
        | no z ↦ omega arith
        | yes z ↦
            let m = weighs (uses s (release t)) q z in
            let d = stands-behind m.0 (programme_of b j) (suc p) m.1.1 in
            let g = users t kt d.0 m.0 d.2 m.1.0 in
            let o = rank-order s few less b j p d.0 c n a.one a.here in
            absurd (omega (arith, d.1, g, a.note, ltb-true (rank b j p) (rank b j d.0) (sym o ∙ lt-ltb p d.0 d.1)))
      ]
    where
      j : ℕ
      j = (ran t kt).0

  -- the last use of a result
  pub last-result : (t : ℕ) → t < task_count s → Until s b (release t) (last_of s w t (link_count s))
  unfolding last_of
  last-result t kt = by (dec_lt (note_of w (run t)) (greatest (link_count s) (used_by s w t)))
    where
      j : ℕ
      j = (ran t kt).0

      i : ℕ
      i = (ran t kt).1

      a : Placed b (run t) j i (note_of w (run t))
      a = (ran t kt).2

      top : ℕ
      top = greatest (link_count s) (used_by s w t)

      make : (u p : ℕ) (c : Command) → u ≡ max (note_of w (run t)) top → Notable s c → Placed b c j p u → i ≤ p → (c ≡ run t) ⊎ (0 < uses s (release t) c) → top ≤ u
          → Until s b (release t) (max (note_of w (run t)) top)
      make u p c e n q le r g =
          record {
            programme = j;
            place = p;
            command = c;
            notable = n;
            last = subst (Placed b c j p) e q;
            once = only a;
            only = elsewhere a;
            got =
                omega (
                  arith,
                  weigh-take (is (run t)) (programme_of b j) i (run t) a.here,
                  is-refl (run t),
                  weigh-rises (is (run t)) (programme_of b j) (suc i) (suc p) (omega arith),
                );
            closed = none-behind t kt u p c n q g;
            needed = r;
          }

      by : Dec (note_of w (run t) < top) → Until s b (release t) (max (note_of w (run t)) top)
      by (no z) = make (note_of w (run t)) i (run t) (omega arith) kt a (omega arith) (inl refl) (omega arith)
      by (yes z) =
          let m = greatest-some (link_count s) (used_by s w t) (omega arith) in
          link m.0 m.1 m.2 (eqb (source_of s m.0) t) refl
        where
          link : (l : ℕ) → l < link_count s → used_by s w t l ≡ top → (y : Bool) → eqb (source_of s l) t ≡ y → Until s b (release t) (max (note_of w (run t)) top)
          link l kl e false q = absurd (omega (arith, z, e, ap (λ (y : Bool). pick y (use_of s w l) 0) q))
          link l kl e true q =
              let f = eqb-true (source_of s l) t q in
              let c = used l kl in
              let here = (placed-there (source l kl).2 j i (subst (λ (y : ℕ). get_elem? (programme_of b j) i ≡ some (run y)) (sym f) a.here)).0 in
              let u : use_of s w l ≡ top = sym (ap (λ (y : Bool). pick y (use_of s w l) 0) q) ∙ e in
              let q : Placed b c.command j c.place (use_of s w l) = subst (λ (k : ℕ). Placed b c.command k c.place (use_of s w l)) here c.at in
              let o = rank-order s few less b j c.place i c.command c.notable q.one q.here in
              make (use_of s w l) c.place c.command (omega arith) c.notable q
              (later-place o q.note a.note (omega arith))
              (inr (subst (λ (y : ℕ). 0 < uses s (release y) c.command) f c.uses-it)) (omega arith)
            where
              later-place : {m x y : ℕ} → ltb m i ≡ ltb (rank b j m) (rank b j i) → x ≡ 4096 * suc j + rank b j m → y ≡ 4096 * suc j + rank b j i → y < x → i ≤ m
              later-place {m} o e f l =
                  elim (dec_lt m i) [
                    | no g ↦ omega arith
                    | yes g ↦ absurd (omega (arith, ltb-true (rank b j m) (rank b j i) (sym o ∙ lt-ltb m i g)))
                  ]

  -- the last use of a message, or none is received
  pub last-message : (l : ℕ) → l < link_count s → Until s b (discard l) (message_of s w l) ⊎ ((message_of s w l ≡ 0) × (whole b (is (receive l)) ≡ 0))
  unfolding message_of ahead
  last-message l kl = by (together s w l) refl
    where
      by : (y : Bool) → together s w l ≡ y → Until s b (discard l) (message_of s w l) ⊎ ((message_of s w l ≡ 0) × (whole b (is (receive l)) ≡ 0))
      by true e = inr (rw e, (inside-link s b messages l kl (sym (inside_is l kl) ∙ e)).ungot)
      by false e =
          let a = across-link s b messages l kl (sym (inside_is l kl) ∙ e) in
          let t = target l kl in
          let r = placed s b w h.count h.notes (receive l) kl a.got in
          let f : before (receive l) (run (target_of s l)) (programme_of b t.0) ≡ true =
          ap (λ (k : ℕ). before (receive l) (run (target_of s l)) (programme_of b k)) (sym (placed-home t.2)) ∙ a.gets-it
          in
          let g : ahead (note_of w (receive l)) (note_of w (run (target_of s l))) ≡ true = sym (before-second s few less kl r.2 t.2) ∙ f in
          let q = both-parts (eqb (note_of w (receive l) / 4096) (note_of w (run (target_of s l)) / 4096)) _ g in
          let z : r.0 ≡ t.0 =
          omega (arith, eqb-true (note_of w (receive l) / 4096) (note_of w (run (target_of s l)) / 4096) q.0, placed-programme r.2, placed-programme t.2)
          in
          inl
          (record {
            programme = t.0;
            place = t.1;
            command = run (target_of s l);
            notable = h.known.ranged.target l kl;
            last = rw e t.2;
            once = only r.2;
            only = λ j d. elsewhere r.2 j (λ x. d (x ∙ z));
            got =
                omega (
                  arith,
                  before-takes (receive l) (run (target_of s l)) (programme_of b t.0) t.1 f t.2.here,
                  weigh-rises (is (receive l)) (programme_of b t.0) t.1 (suc t.1) (omega arith),
                );
            closed = unread t.0 t.1 t.2;
            needed = inr (omega (arith, ap bit (eq-eqb (target_of s l) (target_of s l) refl)));
          })
        where
          -- its target runs once
          unread : (j i : ℕ) → Placed b (run (target_of s l)) j i (note_of w (run (target_of s l))) → weigh (uses s (discard l)) (drop (suc i) (programme_of b j)) ≡ 0
          unread j i a =
              elim (dec_lt 0 (weigh (uses s (discard l)) (drop (suc i) (programme_of b j)))) [
                | no z ↦ omega arith
                | yes z ↦
                    let m = weighs (uses s (discard l)) (drop (suc i) (programme_of b j)) z in
                    let d = stands-behind m.0 (programme_of b j) (suc i) m.1.1 in
                    absurd (reader m.0 d.0 d.1 d.2 m.1.0)
              ]
            where
              reader : (c : Command) (q : ℕ) → suc i ≤ q → get_elem? (programme_of b j) q ≡ some c → 0 < uses s (discard l) c → ⊥
              reader (run y) q n e u =
                  let x = eqb-true (target_of s l) y (bit-true (eqb (target_of s l) y) u) in
                  let o = once-place (run (target_of s l)) (programme_of b j) i q (only a j) a.here (e ∙ ap (λ (x : ℕ). some (run x)) (sym x)) in
                  omega arith
              reader (send m) q n e u = omega arith
              reader (receive m) q n e u = omega arith
              reader (release y) q n e u = omega arith
              reader (discard m) q n e u = omega arith
