-- The pass that tries a bundle's releases: what the words say of each thing, one command more, and its end.
use Prim.Native.Nat.{ℕ, suc, ◌+◌, ◌*◌, ◌-◌, ◌/◌, ◌%◌, ◌≤◌, ◌<◌}
use mathlib.Core.Path.{◌≡◌, refl, sym, ap, ap₂, ◌∙◌, subst}
use mathlib.Core.Bool.{Bool, true, false, false≢true}
use mathlib.Core.Option.{Option, none, some}
use mathlib.Core.Logic.{◌⊎◌, inl, inr, ⊎_elim}
use mathlib.Core.List.{List, [], ◌∷◌}
use native.Mathlib.Omega.{arith}
use native.Mathlib.Numerals.{add-one}
use native.Mathlib.Decide.{dec_lt, ℕ_discrete}
use borrow.Author.Tests.{eqb-true, eq-eqb, ne_eqb}
use lib.ListN.{length, get_or, set, take, drop, get_elem?, length-set, drop_of_length-le}
use lib.Seq.{drop-cons, get_or-set_same, get_or-set_other}
use lib.Dec.{eqb, ltb}
use Rattle.folds.specs.Folds.{pick, both, or_else}
use Rattle.folds.proofs.Tests.{both-parts, both_true, both_false}
use Rattle.folds.proofs.Laws.{term-le-sum}
use Rattle.folds.specs.Answers.{value}
use Rattle.numbers.specs.Number.{Bytes, number_at}
use Rattle.workspace.specs.Found.{found_of}
use Rattle.workspace.specs.Found.{Found}
use Rattle.std.specs.Prelude.{Some, None}
use Rattle.sheet.specs.Sheet.{Sheet, task_count, link_count}
use Rattle.bundle.specs.Bundle.{Command, run, send, receive, release, discard, Bundle, programme_count, programme_of}
use Rattle.bundle.specs.Sizes.{short_size, claim_size}
use Rattle.bundle.specs.Format.{read_bundle}
use Rattle.bundle.specs.Kinds.{is_message, size_by}
use Rattle.bundle.specs.Fits as fits
use Rattle.bundle.specs.Lies.{size_of, Stands}
use Rattle.bundle.proofs.Lying.{stands-sized}
use Rattle.bundle.proofs.Rounds.{read-formed}
use Rattle.admission.specs.Counting.{weigh, whole_of, whole, is}
use Rattle.admission.specs.Releases.{is_release, gets, uses, held, right, wrong, wrong_from, wrong_in, at37}
use Rattle.admission.specs.Messages.{at26, at_message}
use Rattle.admission.specs.Notes.{slots_at, releases_at, discards_at, slots_end, Notable, slot_of, sofar, rank, ahead, Apart}
use Rattle.admission.specs.Lasts.{Lasts, LastsIs, free_at, WrongIs}
use Rattle.admission.specs.Rules.{Given}
use Rattle.admission.specs.declared.view.View.{View}
use Rattle.admission.proofs.Weights.{programme-or, command-below, weigh-split, weigh-take, is-refl}
use Rattle.admission.proofs.Rights.{release-plain}
use Rattle.admission.proofs.Splits.{message-once}
use Rattle.admission.proofs.Messages.{run-once}
use Rattle.admission.proofs.Few.{each_at}
use Rattle.admission.proofs.Walking.{drop_at, take_at, each-elem}
use Rattle.admission.proofs.Rows.{rows}
use Rattle.admission.proofs.Ranks.{is-or, sofar-more, sofar-next, sofar-none, sofar-less, rank-small, rank-more, rank-idle, rank-next, rank-none}
use Rattle.admission.proofs.Places.{placed-programme}
use Rattle.admission.proofs.Passes.{Pass, Here, pass-first, pass_on, pass-open, pass-here, pass-ends}
use Rattle.admission.proofs.Noted.{stands-slot, stands-known, stands-release}
use Rattle.admission.proofs.Keeping.{lasts-self, given-apart}
use Rattle.admission.proofs.Lasts.{Until, notable-plain, until-test, last-result, last-message}

-- a declared release
abbrev pub Frees : Sheet → Command → Type 0
Frees s x = fits.Known s x × (is_release x ≡ true)

-- u is the word of what x releases, before the place i of programme k: its last use, while it was not released; 0, once it can be held no more
pub data Freed (s : Sheet) (b : Bundle) (k i : ℕ) (x : Command) (u : ℕ) : Type 0 where
  kept : Until s b x u → sofar b k i x ≡ 0 → Freed s b k i x u
  gone : u ≡ 0 → ((j : ℕ) → k ≤ j → (weigh (is (gets x)) (programme_of b j) ≡ 0) ⊎ ((j ≡ k) × (0 < weigh (is x) (take i (programme_of b k))))) → Freed s b k i x u

freed-same : {s : Sheet} {b : Bundle} {k i x : ℕ} {c : Command} {u : ℕ} → u ≡ x → Freed s b k i c x → Freed s b k i c u
freed-same {s} {b} {k} {i} {x} {c} e = subst (Freed s b k i c) (sym e)

module _ (s : Sheet) (b : Bundle) (few : task_count s ≤ 256) (less : link_count s ≤ 1024) where
  -- a release at the place i of programme k, whose thing has the word u
  module _ (k i : ℕ) (x : Command) (u : ℕ) (f : Frees s x) (here : get_elem? (programme_of b k) i ≡ some x) where
    abbrev p : List Command
    p = programme_of b k

    tested : Freed s b k i x u → right s (take i p) x (drop (suc i) p) ≡ ahead u (4096 * suc k + rank b k i)
    unfolding right held ahead sofar
    tested (gone e g) = rw e (by (g k (omega arith)) ∙ sym (rw (ne_eqb 0 ((4096 * suc k + rank b k i) / 4096) (λ q. omega (arith, rank-small b k i)))))
      where
        by : (weigh (is (gets x)) p ≡ 0) ⊎ ((k ≡ k) × (0 < weigh (is x) (take i p)))
            → both (both (ltb 0 (weigh (is (gets x)) (take i p))) (eqb (weigh (is x) (take i p)) 0)) (eqb (weigh (uses s x) (drop (suc i) p)) 0) ≡ false
        by (inl z) =
            let n : weigh (is (gets x)) (take i p) ≡ 0 = omega (arith, weigh-split (is (gets x)) p i) in
            rw n
        by (inr z) = rw (ne_eqb (weigh (is x) (take i p)) 0 (λ q. omega (arith, z.1)), both_false (ltb 0 (weigh (is (gets x)) (take i p))))
    tested (kept h z) =
        let n : weigh (is x) (take i p) ≡ 0 = omega arith in
        rw (n, both_true (ltb 0 (weigh (is (gets x)) (take i p)))) (by (ℕ_discrete k h.programme))
      where
        by : Dec (k ≡ h.programme) → both (ltb 0 (weigh (is (gets x)) (take i p))) (eqb (weigh (uses s x) (drop (suc i) p)) 0)
            ≡ both (eqb (u / 4096) ((4096 * suc k + rank b k i) / 4096)) (ltb u (4096 * suc k + rank b k i))
        by (yes e) =
            let q : eqb (u / 4096) ((4096 * suc k + rank b k i) / 4096) ≡ true = eq-eqb (u / 4096) ((4096 * suc k + rank b k i) / 4096) (omega (arith, rank-small b k i, placed-programme h.last)) in
            rw q
            (subst (λ (j : ℕ). get_elem? (programme_of b j) i ≡ some x
            → both (ltb 0 (weigh (is (gets x)) (take i (programme_of b j)))) (eqb (weigh (uses s x) (drop (suc i) (programme_of b j))) 0) ≡ ltb u (4096 * suc j + rank b j i))
            (sym e) (λ g. sym (until-test s few less h i g f.1)) here)
        by (no d) =
            let n : weigh (is (gets x)) (take i p) ≡ 0 = omega (arith, weigh-split (is (gets x)) p i, h.only k d) in
            let q : eqb (u / 4096) ((4096 * suc k + rank b k i) / 4096) ≡ false = ne_eqb (u / 4096) ((4096 * suc k + rank b k i) / 4096) (λ y. d (omega (arith, rank-small b k i, placed-programme h.last))) in
            rw (n, q)

  -- a command that is no release of the thing is met, a release of it, and the end of a programme
  freed-other : (k i : ℕ) (x c : Command) (u : ℕ) → is x c ≡ 0 → get_elem? (programme_of b k) i ≡ some c → Freed s b k i x u → Freed s b k (suc i) x u
  freed-other k i x c u z e (kept h n) = kept h (omega (arith, sofar-more b k i x c e))
  freed-other k i x c u z e (gone n g) =
      gone n (λ j l. ⊎_elim (λ a. inl a) (λ a. inr (a.0, omega (arith, a.1, weigh-take (is x) (programme_of b k) i c e))) (g j l))

  freed-here : (k i : ℕ) (x : Command) (u : ℕ) → Frees s x → get_elem? (programme_of b k) i ≡ some x → ahead u (4096 * suc k + rank b k i) ≡ true → Freed s b k i x u → Freed s b k (suc i) x 0
  unfolding ahead
  freed-here k i x u f e a (gone n g) =
      gone refl (λ j l. ⊎_elim (λ z. inl z) (λ z. inr (z.0, omega (arith, z.1, weigh-take (is x) (programme_of b k) i x e))) (g j l))
  freed-here k i x u f e a (kept h n) = gone refl (λ j l. by j (ℕ_discrete j k))
    where
      mine : h.programme ≡ k
      mine =
          let q = both-parts (eqb (u / 4096) ((4096 * suc k + rank b k i) / 4096)) _ a in
          omega (arith, eqb-true (u / 4096) ((4096 * suc k + rank b k i) / 4096) q.0, placed-programme h.last, rank-small b k i)

      by : (j : ℕ) → Dec (j ≡ k) → (weigh (is (gets x)) (programme_of b j) ≡ 0) ⊎ ((j ≡ k) × (0 < weigh (is x) (take (suc i) (programme_of b k))))
      by j (yes d) = inr (d, omega (arith, weigh-take (is x) (programme_of b k) i x e, is-refl x))
      by j (no d) = inl (h.only j (λ q. d (q ∙ mine)))

  freed-next : (k i : ℕ) (x : Command) (u : ℕ) → length (programme_of b k) ≤ i → Freed s b k i x u → Freed s b (suc k) 0 x u
  freed-next k i x u l (kept h n) = kept h (sym (sofar-next b k i x l) ∙ n)
  freed-next k i x u l (gone n g) = gone n (λ j m. ⊎_elim (λ a. inl a) (λ a. absurd (omega (arith, a.0))) (g j (omega arith)))

-- what is still to be tried from a place on: the rest of its programme lies at the offset `at`
pub pending : Sheet → Bundle → ℕ → ℕ → ℕ → Option ℕ
pending s b k i at =
    or_else (wrong_from s at (take i (programme_of b k)) (drop i (programme_of b k))) (wrong_in s (at + weigh size_of (drop i (programme_of b k))) (drop (suc k) b.programmes))

module _ (s : Sheet) (b : Bundle) (k i at : ℕ) where
  abbrev q : List Command
  q = programme_of b k

  pending-on : (c : Command) → get_elem? (programme_of b k) i ≡ some c → wrong s (take i q) c (drop (suc i) q) ≡ false → pending s b k i at ≡ pending s b k (suc i) (at + size_of c)
  unfolding pending wrong_from weigh
  pending-on c e f =
      let z : at + (size_of c + weigh size_of (drop (suc i) q)) ≡ at + size_of c + weigh size_of (drop (suc i) q) = omega arith in
      rw (drop_at q i c e, take_at q i c e, f, z)

  pending-wrong : (c : Command) → get_elem? (programme_of b k) i ≡ some c → wrong s (take i q) c (drop (suc i) q) ≡ true → pending s b k i at ≡ some at
  unfolding pending wrong_from
  pending-wrong c e f = rw (drop_at q i c e, f)

  pending-over : length (programme_of b k) ≤ i → pending s b k i at ≡ wrong_in s at (drop (suc k) b.programmes)
  unfolding pending wrong_from weigh
  pending-over l = let z : at + 0 ≡ at = omega arith in rw (drop_of_length-le q {i = i} l, z)

-- no programme stands in it
bare-none : (s : Sheet) (b : Bundle) → programme_count b ≡ 0 → (at37 s b ≡ none) × (pending s b 0 0 short_size ≡ none)
unfolding at37 wrong_in programme_count programme_of
bare-none s b n = (
  ap (wrong_in s 0) (none_of b.programmes n),
  pending-over s b 0 0 short_size (rw (none_of b.programmes n) (omega arith)) ∙ ap (λ (ps : List (List Command)). wrong_in s short_size (drop 1 ps)) (none_of b.programmes n),
)
  where
    none_of : (ps : List (List Command)) → length ps ≡ 0 → ps ≡ []
    none_of [] e = refl
    none_of (p ∷ ps) e = absurd (omega arith)

pending-open : (s : Sheet) (b : Bundle) (k at : ℕ) → k < programme_count b → wrong_in s at (drop k b.programmes) ≡ pending s b k 0 (at + short_size)
unfolding pending wrong_in programme_of programme_count
pending-open s b k at l = rw (drop-cons b.programmes k [] l)

-- the commands of a bundle that was read are declared
pub known-all : (s : Sheet) (bundle : List ℕ) (b : Bundle) → read_bundle s bundle ≡ value b → (k i : ℕ) (c : Command) → get_elem? (programme_of b k) i ≡ some c → fits.Known s c
unfolding programme_of programme_count
known-all s bundle b e k i c f =
    each-elem (fits.Known s) (programme_of b k) i c
    (each_at (fits.Each (fits.Known s)) [] b.programmes k (read-formed s bundle b e).known (command-below b k i c f)) f

whole-none : (b : Bundle) (f : Command → ℕ) → whole b f ≡ 0 → (k : ℕ) → weigh f (programme_of b k) ≡ 0
unfolding whole whole_of weigh
whole-none b f e k = ⊎_elim (λ l. omega (arith, term-le-sum (programme_count b) (whole_of b f) k l)) (λ q. rw q) (programme-or b k)

pub single : (s : Sheet) (b : Bundle) → at26 s b ≡ none → at_message s b ≡ none → (c : Command) → Notable s c → whole b (is c) ≤ 1
single s b once messages (run t) n = omega (arith, run-once s b once t n)
single s b once messages (send l) n = (message-once s b messages l n).0
single s b once messages (receive l) n = (message-once s b messages l n).1
single s b once messages (release t) n = absurd n
single s b once messages (discard l) n = absurd n

-- the words of two releases
free-same : (s : Sheet) → task_count s ≤ 256 → (x y : Command) → Frees s x → Frees s y → slot_of x ≡ slot_of y → x ≡ y
free-same s few (run a) y f g e = absurd (false≢true f.1)
free-same s few (send a) y f g e = absurd (false≢true f.1)
free-same s few (receive a) y f g e = absurd (false≢true f.1)
free-same s few (release a) (run c) f g e = absurd (false≢true g.1)
free-same s few (release a) (send c) f g e = absurd (false≢true g.1)
free-same s few (release a) (receive c) f g e = absurd (false≢true g.1)
free-same s few (release a) (release c) f g e = let z : a ≡ c = omega arith in ap release z
free-same s few (release a) (discard c) f g e = absurd (omega (arith, f.0))
free-same s few (discard a) (run c) f g e = absurd (false≢true g.1)
free-same s few (discard a) (send c) f g e = absurd (false≢true g.1)
free-same s few (discard a) (receive c) f g e = absurd (false≢true g.1)
free-same s few (discard a) (release c) f g e = absurd (omega (arith, g.0))
free-same s few (discard a) (discard c) f g e = let z : a ≡ c = omega arith in ap discard z

free-slot : (t l : ℕ) (b : List ℕ) (o : ℕ) (c : Command) → Stands t l b o c → is_release c ≡ true → free_at b o ≡ slots_at + slot_of c
unfolding free_at
free-slot t l b o (run x) h f = absurd (false≢true f)
free-slot t l b o (send x) h f = absurd (false≢true f)
free-slot t l b o (receive x) h f = absurd (false≢true f)
free-slot t l b o (release x) h f = rw (h.0, h.1) (omega arith)
free-slot t l b o (discard x) h f = rw (h.0, h.1) (omega arith)

-- where those words stand
free-low : (b : List ℕ) (at : ℕ) → releases_at ≤ free_at b at
unfolding free_at
free-low b at = by (eqb (get_or b at 0) 0x46)
  where
    by : (y : Bool) → releases_at ≤ pick y (releases_at + get_or b (at + 1) 0) (discards_at + number_at 2 b (at + 1))
    by true = omega arith
    by false = omega arith

free-high : (s : Sheet) → task_count s ≤ 256 → link_count s ≤ 1024 → (c : Command) → Frees s c → slots_at + slot_of c < slots_end
free-high s few less (run x) f = absurd (false≢true f.1)
free-high s few less (send x) f = absurd (false≢true f.1)
free-high s few less (receive x) f = absurd (false≢true f.1)
free-high s few less (release x) f = omega (arith, f.0)
free-high s few less (discard x) f = omega (arith, f.0)

-- the state of the pass, for one bundle: r runs, sends and receives were met
pub record Trying (s : Sheet) (b : Bundle) (w : List ℕ) (r k i at : ℕ) : Type 0 where
  pub count : r ≡ rank b k i
  pub words : (x : Command) → Frees s x → Freed s b k i x (get_or w (slots_at + slot_of x) 0)
  pub tried : at37 s b ≡ pending s b k i at

-- a bundle to which 26 and 31 to 33 do not apply, with its notes and with what is kept for its releases in the words v
pub record Ready (s : Sheet) (b : Bundle) (bundle v : List ℕ) : Type 0 where
  pub sheet : List ℕ
  pub view : View
  pub given : Given s b sheet v view
  pub lasts : Lasts s v v (link_count s)
  pub few : programme_count b ≤ 16
  pub bytes : Bytes bundle
  pub read : read_bundle s bundle ≡ value b
  pub once : at26 s b ≡ none
  pub messages : at_message s b ≡ none

-- the state of the pass, for all such bundles
pub record Freeing (bundle v w : List ℕ) (at k r : ℕ) : Type 0 where
  pub kept : Apart v w
  pub few : 2 * k ≤ at
  pub less : 2 * r ≤ at
  pub long : slots_end ≤ length v
  pub each : (s : Sheet) (b : Bundle) → Ready s b bundle v → Pass s b bundle (λ k i at. Trying s b w r k i at) at k

-- 37 is found
pub record Tried (bundle v w : List ℕ) (r : Found) : Type 0 where
  pub kept : Apart v w
  pub is : (s : Sheet) (b : Bundle) → Ready s b bundle v → found_of r ≡ at37 s b

trying-starts : (s : Sheet) (b : Bundle) (bundle w : List ℕ) → Ready s b bundle w → Trying s b w 0 0 0 short_size
unfolding at37
trying-starts s b bundle w h =
    record {
      count = sym (rank-none b);
      words = λ x f. by x f;
      tried = first_of (dec_lt 0 (programme_count b));
    }
  where
    first_of : Dec (0 < programme_count b) → at37 s b ≡ pending s b 0 0 short_size
    first_of (yes l) = pending-open s b 0 0 l
    first_of (no l) = let z = bare-none s b (omega arith) in z.0 ∙ sym z.1

    by : (x : Command) → Frees s x → Freed s b 0 0 x (get_or w (slots_at + slot_of x) 0)
    by (run t) f = absurd (false≢true f.1)
    by (send t) f = absurd (false≢true f.1)
    by (receive t) f = absurd (false≢true f.1)
    by (release t) f =
        let e : slots_at + slot_of (release t) ≡ releases_at + t = omega arith in
        freed-same (ap (λ (i : ℕ). get_or w i 0) e ∙ h.lasts.results t f.0) (kept (last-result s b h.sheet w h.view h.given h.once h.messages (known-all s bundle b h.read) t f.0) (sofar-none b (release t)))
    by (discard l) f =
        let e : slots_at + slot_of (discard l) ≡ discards_at + l = omega arith in
        freed-same (ap (λ (i : ℕ). get_or w i 0) e ∙ h.lasts.messages l f.0)
        (⊎_elim (λ u. kept u (sofar-none b (discard l))) (λ z. gone z.0 (λ j m. inl (whole-none b (is (receive l)) z.1 j)))
        (last-message s b h.sheet w h.view h.given h.once h.messages (known-all s bundle b h.read) l f.0))

pub freeing-starts : (bundle w : List ℕ) → slots_end ≤ length w → Freeing bundle w w short_size 0 0
freeing-starts bundle w long =
    record {
      kept = record { long = refl; low = λ i l. refl };
      few = omega arith;
      less = omega arith;
      long = long;
      each =
          λ s b h.
          pass-first s b bundle (rows s (omega (arith, h.given.known.ranged.few_links)) bundle b h.bytes h.read) (trying-starts s b bundle w h);
    }

module _ {bundle v w : List ℕ} {at k r : ℕ} (end : ℕ) (far : end ≡ length bundle - claim_size) (g : Freeing bundle v w at k r) where
  pub freeing-open : at < end → get_or bundle at 0 ≡ 0x50 → (z : ℕ) → z ≡ size_by (get_or bundle at 0) → Freeing bundle v w (at + z) (k + 1) r
  unfolding size_by is_message
  freeing-open m q z ez =
      let two : z ≡ short_size = rw q at ez in
      record {
        kept = g.kept;
        few = omega (arith, g.few);
        less = omega (arith, g.less);
        long = g.long;
        each =
            λ s b h.
            rw (add-one, two)
            (pass-open s b bundle end far m q (g.each s b h)
            (λ i l y n.
            record {
              count = n.count ∙ rank-next b k i l;
              words = λ x f. freed-next s b h.given.known.ranged.few_tasks h.given.known.ranged.few_links k i x _ l (n.words x f);
              tried = n.tried ∙ pending-over s b k i at l ∙ pending-open s b (suc k) at y;
            }));
      }

  -- a run, a send or a receive
  pub freeing-plain : at < end → 0x50 < get_or bundle at 0 → (z : ℕ) → z ≡ size_by (get_or bundle at 0) → 2 ≤ z → Freeing bundle v w (at + z) k (r + 1)
  unfolding wrong
  freeing-plain m q z ez two =
      record {
        kept = g.kept;
        few = omega (arith, g.few);
        less = omega (arith, g.less);
        long = g.long;
        each =
            λ s b h.
            let y = pass-here s b bundle end far m (λ y. omega arith) (g.each s b h) in
            let c = y.command in
            let n = (stands-slot s bundle at c (omega arith) y.stands).2 in
            let fw = h.given.known.ranged.few_tasks in
            let lw = h.given.known.ranged.few_links in
            let size : z ≡ size_of c = ez ∙ stands-sized (task_count s) (link_count s) bundle at c y.stands in
            let p = notable-plain s c n in
            let new : sofar b k y.place c ≡ 0 = omega (arith, sofar-less b k y.place c y.here, single s b h.once h.messages c n) in
            pass_on s b bundle y z size
            (record {
              count = ap (λ (x : ℕ). x + 1) y.kept.count ∙ sym (rank-more s fw lw b k y.place c n y.here ∙ rw (eq-eqb (sofar b k y.place c) 0 new));
              words = λ x f. freed-other s b fw lw k y.place x c _ (release-plain x c f.1 p) y.here (y.kept.words x f);
              tried = y.kept.tried ∙ pending-on s b k y.place at c y.here (rw p) ∙ ap (λ (x : ℕ). pending s b k (suc y.place) (at + x)) (sym size);
            });
      }

  module _ (m : at < end) (q : get_or bundle at 0 < 0x50) (here : ℕ) (now-is : here ≡ 4096 * (k % 16 + 1) + r) (x : ℕ) (ex : x ≡ free_at bundle at) (word : ℕ) (word-is : word ≡ get_or w x 0) where
    -- the release is right exactly if the last use stands before it
    right_is : (s : Sheet) (b : Bundle) → Ready s b bundle v → (y : Here s b bundle (λ k i at. Trying s b w r k i at) at k)
        → right s (take y.place (programme_of b k)) y.command (drop (suc y.place) (programme_of b k)) ≡ ahead word here
    right_is s b h y =
        let c = y.command in
        let f = stands-release s bundle at c q y.stands in
        let fw = h.given.known.ranged.few_tasks in
        let lw = h.given.known.ranged.few_links in
        let slot : slots_at + slot_of c ≡ x = sym (ex ∙ free-slot (task_count s) (link_count s) bundle at c y.stands f) in
        let h-is : 4096 * suc k + rank b k y.place ≡ here = omega (arith, y.below, h.few, y.kept.count) in
        tested s b fw lw k y.place c (get_or w (slots_at + slot_of c) 0) (stands-known s bundle at c y.stands, f) y.here (y.kept.words c (stands-known s bundle at c y.stands, f))
        ∙ ap (λ (i : ℕ). ahead (get_or w i 0) (4096 * suc k + rank b k y.place)) slot ∙ ap₂ ahead (sym word-is) h-is

    pub freeing-wrong : ahead word here ≡ false → Tried bundle v w (Some at)
    unfolding wrong
    freeing-wrong late =
        record {
          kept = g.kept;
          is =
              λ s b h.
              let y = pass-here s b bundle end far m (λ y. omega arith) (g.each s b h) in
              let f = stands-release s bundle at y.command q y.stands in
              sym (y.kept.tried ∙ pending-wrong s b k y.place at y.command y.here (rw (f, right_is s b h y, late)));
        }

    pub freeing-right : ahead word here ≡ true → (u : List ℕ) → u ≡ set w x 0 → (z : ℕ) → z ≡ size_by (get_or bundle at 0) → 2 ≤ z → Freeing bundle v u (at + z) k r
    unfolding wrong
    freeing-right early u eu z ez two =
        record {
          kept = record { long = ap length eu ∙ length-set w x 0 ∙ g.kept.long; low = λ i l. rw eu (get_or-set_other w x i 0 0 (λ y. low_word i l y) ∙ g.kept.low i l) };
          few = omega (arith, g.few);
          less = omega (arith, g.less);
          long = g.long;
          each =
              λ s b h.
              let y = pass-here s b bundle end far m (λ y. omega arith) (g.each s b h) in
              let c = y.command in
              let f = stands-release s bundle at c q y.stands in
              let fw = h.given.known.ranged.few_tasks in
              let lw = h.given.known.ranged.few_links in
              let size : z ≡ size_of c = ez ∙ stands-sized (task_count s) (link_count s) bundle at c y.stands in
              let right-here = right_is s b h y ∙ early in
              pass_on s b bundle y z size
              (record {
                count = y.kept.count ∙ sym (rank-idle s fw lw b k y.place c f y.here);
                words = words-on s b h y f right-here;
                tried = y.kept.tried ∙ pending-on s b k y.place at c y.here (rw (f, right-here)) ∙ ap (λ (x : ℕ). pending s b k (suc y.place) (at + x)) (sym size);
              });
        }
      where
        low_word : (i : ℕ) → i < releases_at → i ≡ x → ⊥
        low_word i l e = omega (arith, free-low bundle at)

        words-on : (s : Sheet) (b : Bundle) → Ready s b bundle v → (y : Here s b bundle (λ k i at. Trying s b w r k i at) at k)
            → is_release y.command ≡ true → right s (take y.place (programme_of b k)) y.command (drop (suc y.place) (programme_of b k)) ≡ true
            → (d : Command) → Frees s d → Freed s b k (suc y.place) d (get_or u (slots_at + slot_of d) 0)
        words-on s b h y f ok d fd = by (is-or d y.command)
          where
            c : Command
            c = y.command

            fw : task_count s ≤ 256
            fw = h.given.known.ranged.few_tasks

            lw : link_count s ≤ 1024
            lw = h.given.known.ranged.few_links

            slot : slots_at + slot_of y.command ≡ x
            slot = sym (ex ∙ free-slot (task_count s) (link_count s) bundle at y.command y.stands f)

            frees : Frees s y.command
            frees = (stands-known s bundle at y.command y.stands, f)

            by : (d ≡ y.command) ⊎ (is d y.command ≡ 0) → Freed s b k (suc y.place) d (get_or u (slots_at + slot_of d) 0)
            by (inl e) =
                subst (λ (z : Command). Freed s b k (suc y.place) z (get_or u (slots_at + slot_of z) 0)) (sym e)
                (freed-same (rw (eu, slot) (get_or-set_same w x 0 0 (omega (arith, free-high s fw lw y.command frees, slot, g.kept.long, g.long))))
                (freed-here s b fw lw k y.place y.command _ frees y.here
                (sym (tested s b fw lw k y.place y.command _ frees y.here (y.kept.words y.command frees)) ∙ ok) (y.kept.words y.command frees)))
            by (inr e) =
                freed-same
                (rw eu
                (get_or-set_other w x (slots_at + slot_of d) 0 0
                (λ n. omega (arith, e, is-refl y.command, ap (λ (z : Command). is z y.command) (free-same s fw d y.command fd frees (omega (arith, slot)))))))
                (freed-other s b fw lw k y.place d y.command _ e y.here (y.kept.words d fd))

  pub freeing-ends : end ≤ at → Tried bundle v w None
  unfolding wrong_in programme_count
  freeing-ends m =
      record {
        kept = g.kept;
        is =
            λ s b h.
            pass-ends s b bundle end far m (g.each s b h) (λ n t. sym (t.tried ∙ (bare-none s b n).1))
            (λ i l y t. sym (t.tried ∙ pending-over s b k i at l ∙ ap (wrong_in s at) (drop_of_length-le b.programmes {i = suc k} (omega arith))));
      }

-- what is kept for the releases was put first
pub wrong-after : {sheet bundle v w u : List ℕ} {view : View} {r : Found} → LastsIs sheet v w view → Tried bundle w u r → WrongIs sheet bundle v u view r
wrong-after {sheet} {view = view} g h =
    record {
      kept = record { long = h.kept.long ∙ g.apart.long; low = λ i l. h.kept.low i l ∙ g.apart.low i l };
      is_37 =
          λ s b y small bytes e once messages.
          h.is s b
          (record {
            sheet = sheet;
            view = view;
            given = given-apart g.apart y;
            lasts = (lasts-self g).is s y.known;
            few = small;
            bytes = bytes;
            read = e;
            once = once;
            messages = messages;
          });
    }
