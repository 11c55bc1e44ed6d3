-- What is kept for the releases of a bundle that has none tells behind which command each belongs.
use Prim.Native.Nat.{ℕ, zero, suc, ◌+◌, ◌*◌, ◌≤◌, ◌<◌}
use native.Mathlib.Omega.{arith}
use native.Mathlib.Decide.{ℕ_discrete, dec_lt}
use mathlib.Core.Bool.{true, false, true≢false}
use mathlib.Core.Option.{Option, none, some}
use mathlib.Core.Path.{◌≡◌, refl, sym, ap, ◌∙◌, subst}
use mathlib.Core.Logic.{◌≢◌, ⊎_elim}
use mathlib.Core.List.{List, [], ◌∷◌}
use lib.ListN.{length, take, drop, get_elem?}
use lib.Dec.{eqb}
use borrow.Author.Tests.{eq-eqb, ne_eqb, lt-ltb, ltb-true}
use Rattle.folds.proofs.Tests.{not_some}
use Rattle.folds.proofs.Laws.{none_first, term-le-sum}
use Rattle.sheet.specs.Sheet.{Sheet, link_count}
use Rattle.bundle.specs.Bundle.{Command, run, send, receive, release, discard, Bundle, programme_count, programme_of}
use Rattle.bundle.specs.Fits.{Each}
use Rattle.bundle.specs.Fits as fits
use Rattle.admission.specs.Counting.{weigh, whole_of, whole, is}
use Rattle.admission.specs.Releases.{is_release, gets, uses, held, right}
use Rattle.admission.specs.Messages.{at26, at_message}
use Rattle.admission.specs.Notes.{Notable, rank}
use Rattle.admission.specs.Lasts.{message_of, Lasts}
use Rattle.admission.specs.Rules.{Given}
use Rattle.admission.specs.declared.view.View.{View}
use Rattle.admission.proofs.Weights.{programme-or, weigh-split, is-refl}
use Rattle.admission.proofs.Messages.{run-once}
use Rattle.admission.proofs.Splits.{message-once}
use Rattle.admission.proofs.Walking.{each-elem}
use Rattle.admission.proofs.Ranks.{rank-small, rank-order}
use Rattle.admission.proofs.Places.{placed-programme, whole-stands}
use Rattle.admission.proofs.Lasts.{Until, last-result, last-message}
use Rattle.admission.proofs.Freeing.{known-all}
use Rattle.releasing.specs.Releasing.{right_at, earliest, is_at}
use Rattle.releasing.specs.Inserting.{Marked, Bare}
use Rattle.releasing.proofs.Programme.{Plain, touches, earliest-last}
use Rattle.releasing.proofs.Passed.{plain-all}

elem_at : (p : List Command) (i : ℕ) → i < length p → (c : Command) × (get_elem? p i ≡ some c)
elem_at [] i l = absurd (omega arith)
elem_at (c ∷ p) zero l = (c, refl)
elem_at (c ∷ p) (suc i) l = elem_at p i (omega arith)

pub elem_below : (p : List Command) (m : ℕ) (c : Command) → get_elem? p m ≡ some c → m < length p
elem_below [] m c e = not_some e
elem_below (d ∷ p) zero c e = omega arith
elem_below (d ∷ p) (suc m) c e = omega (arith, elem_below p m c e)

weigh-two : (f g : Command → ℕ) (q : List Command) → weigh (λ c. f c + g c) q ≡ weigh f q + weigh g q
unfolding weigh
weigh-two f g [] = refl
weigh-two f g (c ∷ q) = omega (arith, weigh-two f g q)

-- a declared command that is no release
pub notable-known : (s : Sheet) (c : Command) → fits.Known s c → is_release c ≡ false → Notable s c
notable-known s (run t) k p = k
notable-known s (send l) k p = k
notable-known s (receive l) k p = k
notable-known s (release t) k p = absurd (true≢false p)
notable-known s (discard l) k p = absurd (true≢false p)

pub single : (s : Sheet) (b : Bundle) → at26 s b ≡ none → at_message s b ≡ none → (c : Command) → Notable s c → whole b (is c) ≤ 1
single s b once messages (run t) n = omega (arith, run-once s b once t n)
single s b once messages (send l) n = (message-once s b messages l n).0
single s b once messages (receive l) n = (message-once s b messages l n).1
single s b once messages (release t) n = absurd n
single s b once messages (discard l) n = absurd n

-- what a programme never gets is nowhere released
never : (s : Sheet) (p : List Command) (x : Command) → weigh (is (gets x)) p ≡ 0 → earliest s p x ≡ none
unfolding earliest right_at right held
never s p x z =
    none_first (suc (length p)) (right_at s p x)
    (λ j l. let n : weigh (is (gets x)) (take j p) ≡ 0 = omega (arith, weigh-split (is (gets x)) p j) in rw n)

module _ {s : Sheet} {b : Bundle} {bundle : List ℕ} (h : Bare s b bundle) where
  plain : (k : ℕ) → Each Plain (programme_of b k)
  plain = plain-all b h.plain

  pub notable-at : (k i : ℕ) (c : Command) → get_elem? (programme_of b k) i ≡ some c → Notable s c
  notable-at k i c e = notable-known s c (known-all s bundle b h.read k i c e) (each-elem Plain (programme_of b k) i c (plain k) e)

  pub one_at : (k i : ℕ) (c : Command) → get_elem? (programme_of b k) i ≡ some c → whole b (is c) ≡ 1
  one_at k i c e = omega (arith, single s b h.once h.messages c (notable-at k i c e), whole-stands b c k i e)

  -- places are told by their notes
  same-note : (k m i : ℕ) → m < length (programme_of b k) → i < length (programme_of b k) → eqb (4096 * suc k + rank b k m) (4096 * suc k + rank b k i) ≡ eqb (suc m) (suc i)
  same-note k m i a l = by (ℕ_discrete m i)
    where
      p : List Command
      p = programme_of b k

      less : (u v : ℕ) → u < length (programme_of b k) → u < v → rank b k u < rank b k v
      less u v a l =
          let c = elem_at (programme_of b k) u a in
          ltb-true (rank b k u) (rank b k v) (sym (rank-order s h.few_tasks h.few_links b k u v c.0 (notable-at k u c.0 c.1) (one_at k u c.0 c.1) c.1) ∙ lt-ltb u v l)

      apart : m ≢ i → rank b k m ≢ rank b k i
      apart d q =
          elim (dec_lt m i) [
            | yes l ↦ omega (arith, less m i a l)
            | no g ↦ by-other g (dec_lt i m)
          ]
        where
          by-other : (m < i → ⊥) → Dec (i < m) → ⊥
          by-other g (yes y) = omega (arith, less i m l y)
          by-other g (no y) = d (omega arith)

      by : Dec (m ≡ i) → eqb (4096 * suc k + rank b k m) (4096 * suc k + rank b k i) ≡ eqb (suc m) (suc i)
      by (yes e) = rw e (eq-eqb (4096 * suc k + rank b k i) (4096 * suc k + rank b k i) refl ∙ sym (eq-eqb (suc i) (suc i) refl))
      by (no d) = ne_eqb (4096 * suc k + rank b k m) (4096 * suc k + rank b k i) (λ q. apart d (omega arith)) ∙ sym (ne_eqb (suc m) (suc i) (λ q. d (omega arith)))

  -- behind the last command that gets or uses it
  module _ (x : Command) (f : is_release x ≡ true) (u : ℕ) (g : Until s b x u) where
    touched : 0 < touches s (programme_of b g.programme) x g.command
    touched = ⊎_elim (λ (e : g.command ≡ gets x). omega (arith, is-refl (gets x), ap (is (gets x)) e)) (λ y. omega (arith, y)) g.needed

    stands : earliest s (programme_of b g.programme) x ≡ some (suc g.place)
    stands =
        let p = programme_of b g.programme in
        let m = suc g.place in
        earliest-last s p (plain g.programme) x f (g.once g.programme) g.place g.command g.last.here touched g.got
        (weigh-two (is (gets x)) (uses s x) (drop m p) ∙ omega (arith, g.closed, g.got, g.once g.programme, weigh-split (is (gets x)) p m))

    pub until-due : (k i : ℕ) → i < length (programme_of b k) → eqb u (4096 * suc k + rank b k i) ≡ is_at (earliest s (programme_of b k) x) (suc i)
    until-due k i l = by (ℕ_discrete k g.programme)
      where
        by : Dec (k ≡ g.programme) → eqb u (4096 * suc k + rank b k i) ≡ is_at (earliest s (programme_of b k) x) (suc i)
        by (yes e) =
            subst (λ (j : ℕ). i < length (programme_of b j) → eqb u (4096 * suc j + rank b j i) ≡ is_at (earliest s (programme_of b j) x) (suc i)) (sym e)
            (λ y. ap (λ (v : ℕ). eqb v (4096 * suc g.programme + rank b g.programme i)) g.last.note
            ∙ same-note g.programme g.place i (elem_below (programme_of b g.programme) g.place g.command g.last.here) y
            ∙ sym (ap (λ (o : Option ℕ). is_at o (suc i)) stands)) l
        by (no d) =
            ne_eqb u (4096 * suc k + rank b k i) (λ q. d (omega (arith, rank-small b k i, placed-programme g.last)))
            ∙ sym (ap (λ (o : Option ℕ). is_at o (suc i)) (never s (programme_of b k) x (g.only k d)))

  none_in : (f : Command → ℕ) → whole b f ≡ 0 → (k : ℕ) → weigh f (programme_of b k) ≡ 0
  unfolding whole whole_of weigh
  none_in f e k = ⊎_elim (λ l. omega (arith, term-le-sum (programme_count b) (whole_of b f) k l)) (λ q. rw q) (programme-or b k)

  pub marked : {sheet w : List ℕ} {v : View} → Given s b sheet w v → Lasts s w w (link_count s) → Marked s b w
  marked {sheet} {w} {v} given lasts =
      record {
        results =
            λ t l k i y.
            ap (λ (u : ℕ). eqb u (4096 * suc k + rank b k i)) (lasts.results t l)
            ∙ until-due (release t) refl _ (last-result s b sheet w v given h.once h.messages (known-all s bundle b h.read) t l) k i y;
        messages =
            λ l m k i y.
            ap (λ (u : ℕ). eqb u (4096 * suc k + rank b k i)) (lasts.messages l m)
            ∙ ⊎_elim (λ g. until-due (discard l) refl _ g k i y)
            (λ z.
            ne_eqb (message_of s w l) (4096 * suc k + rank b k i) (λ q. omega (arith, z.0))
            ∙ sym (ap (λ (o : Option ℕ). is_at o (suc i)) (never s (programme_of b k) (discard l) (none_in (is (receive l)) z.1 k))))
            (last-message s b sheet w v given h.once h.messages (known-all s bundle b h.read) l m);
      }
