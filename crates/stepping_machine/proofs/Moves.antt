-- Words that represent a state, after a command of one processor.
use Prim.Native.Nat.{ℕ, zero, suc, ◌+◌, ◌*◌, ◌%◌, ◌<◌, ◌≤◌, max}
use mathlib.Core.Path.{◌≡◌, refl, sym, ap, ◌∙◌, subst}
use mathlib.Core.Logic.{◌⊎◌, inl, inr, ⊎_elim}
use mathlib.Core.Option.{some}
use mathlib.Core.List.{List, [], ◌∷◌}
use native.Mathlib.Omega.{arith}
use lib.ListN.{length, get_or, get_elem?, set, length-set}
use lib.Seq.{get_or-set_same, get_or-set_other}
use Rattle.sheet.specs.Sheet.{Sheet, link_count}
use Rattle.bundle.specs.Bundle.{Command, run, Bundle, programme_of}
use Rattle.admission.specs.Counting.{each, need, stored}
use Rattle.machine.specs.Machine.{State, processor_of, stamp_of, next, takes, moved, stamp_in}
use Rattle.machine.specs.Runs.{left}
use Rattle.machine.proofs.Steps.{each_of, left-moved, length-posted}
use Rattle.stepping_machine.specs.Layout as lay
use Rattle.stepping_machine.specs.Words.{next_in, clock_in, store_in, first_in, stamped_in, amount_of, placed_words, stepped_words}
use Rattle.stepping_machine.specs.Represents.{Decoded, Programmed, Represents}

-- the command at a place of a programme
pub command-at : (p : List Command) (i : ℕ) → i < length p → get_elem? p i ≡ some (get_or p i (run 0))
command-at [] i l = absurd (omega arith)
command-at (c ∷ p) zero l = refl
command-at (c ∷ p) (suc i) l = command-at p i (omega arith)

-- a programme in words that are the same where it stands
pub decoded-same : (s : Sheet) (amount : Command → ℕ) (w v : List ℕ) (a : ℕ) (cs : List Command) → ((i : ℕ) → a ≤ i → i ≤ a + length cs → get_or v i 0 ≡ get_or w i 0) → Decoded s amount w a cs → Decoded s amount v a cs
decoded-same s amount w v a cs same h =
    record {
      known = h.known;
      word = λ i l. same (a + i) (omega arith) (omega arith) ∙ h.word i l;
      end = same (a + length cs) (omega arith) (omega arith) ∙ h.end;
    }

-- programmes in words of which only places, clocks, stores and stamps differ
module _ (w v : List ℕ) (long : length v ≡ length w) (above : (i : ℕ) → lay.firsts ≤ i → (i < lay.stamps) ⊎ (lay.needs ≤ i) → get_or v i 0 ≡ get_or w i 0) where
  pub first-kept : (j : ℕ) → j < 16 → first_in v j ≡ first_in w j
  first-kept j l = above (lay.firsts + j) (omega arith) (inl (omega arith))

  pub programmed-kept : (s : Sheet) (b : Bundle) → Programmed s b w → Programmed s b v
  programmed-kept s b h =
      record {
        long = omega (arith, long, h.long);
        few = h.few;
        ranged = h.ranged;
        programmes = above lay.count (omega arith) (inl (omega arith)) ∙ h.programmes;
        links = above lay.links (omega arith) (inl (omega arith)) ∙ h.links;
        unpacks = above lay.unpacking (omega arith) (inl (omega arith)) ∙ h.unpacks;
        needs = λ t l. above (lay.needs + t) (omega arith) (inr (omega arith)) ∙ h.needs t l;
        low = λ j l. omega (arith, first-kept j l, h.low j l);
        apart = λ j l. ⊎_elim (λ q. inl (omega (arith, first-kept j l))) (λ q. inr (omega (arith, first-kept j l))) (h.apart j l);
        high = λ j l. omega (arith, first-kept j l, h.high j l);
        last = λ j l. above (lay.lasts + j) (omega arith) (inl (omega arith)) ∙ h.last j l ∙ ap (λ (x : ℕ). x + length (programme_of b j)) (sym (first-kept j l));
        decoded =
            λ j l.
            let f = h.low j l in
            subst (λ (x : ℕ). Decoded s (amount_of s b j) v x (programme_of b j)) (sym (first-kept j l))
            (decoded-same s (amount_of s b j) w v (first_in w j) (programme_of b j)
            (λ i n o. ⊎_elim (λ q. above i (omega arith) (inl (omega arith))) (λ q. above i (omega arith) (inr (omega arith))) (h.apart j l)) (h.decoded j l));
      }

-- a word that no command of processor k changes, but for the stamps
pub record Away (k i : ℕ) : Type 0 where
  pub next : i ≡ k → ⊥
  pub clock : i ≡ lay.clocks + k → ⊥
  pub store : i ≡ lay.stores + k → ⊥
  pub beside : (i < lay.stamps) ⊎ (lay.needs ≤ i)

-- the words v are those w, but processor k is at command n with the clock c and the store x, and stamps may differ
pub record Moved (w v : List ℕ) (k n c x : ℕ) : Type 0 where
  pub long : length v ≡ length w
  pub next : next_in v k ≡ n
  pub clock : clock_in v k ≡ c
  pub store : store_in v k ≡ x
  pub others : (i : ℕ) → Away k i → get_or v i 0 ≡ get_or w i 0

-- what a move does to the words of another processor, to programmes and to their first and last indices: nothing
module _ {w v : List ℕ} {k n c x : ℕ} (near : k < 16) (m : Moved w v k n c x) where
  above : (i : ℕ) → lay.firsts ≤ i → (i < lay.stamps) ⊎ (lay.needs ≤ i) → get_or v i 0 ≡ get_or w i 0
  above i l b = m.others i (record { next = λ q. omega arith; clock = λ q. omega arith; store = λ q. omega arith; beside = b })

  first-same : (j : ℕ) → j < 16 → first_in v j ≡ first_in w j
  first-same = first-kept w v m.long above

  pub programmed-same : (s : Sheet) (b : Bundle) → Programmed s b w → Programmed s b v
  programmed-same = programmed-kept w v m.long above

  module _ (j : ℕ) (d : j ≡ k → ⊥) (l : j < 16) where
    pub next-same : next_in v j ≡ next_in w j
    next-same = m.others j (record { next = λ q. d (omega arith); clock = λ q. omega arith; store = λ q. omega arith; beside = inl (omega arith) })

    pub clock-same : clock_in v j ≡ clock_in w j
    clock-same = m.others (lay.clocks + j) (record { next = λ q. omega arith; clock = λ q. d (omega arith); store = λ q. omega arith; beside = inl (omega arith) })

    pub store_same : store_in v j ≡ store_in w j
    store_same = m.others (lay.stores + j) (record { next = λ q. omega arith; clock = λ q. omega arith; store = λ q. d (omega arith); beside = inl (omega arith) })

module _ (s : Sheet) (b : Bundle) (w : List ℕ) (σ : State) (h : Represents s b w σ) (k : ℕ) (near : k < 16) where
  -- the command c of the time t came next, and waited for the time x
  module _
      (c : Command) (e : next b σ k ≡ some c) (t x : ℕ) (inside : (processor_of σ k).position < length (programme_of b k))
      (works : takes c t ≤ lay.most) (needs : need s c ≤ lay.most) (waited : x + lay.most * left b σ each ≤ lay.full) (v : List ℕ)
      (m : Moved w v k (next_in w k + 1) (max (processor_of σ k).clock x + takes c t) (stored s c (processor_of σ k).store)) where
    abbrev pub τ : State
    τ = moved s σ k c t x

    one_less : left b τ each + 1 ≡ left b σ each
    one_less = left-moved s b σ k c t x h.processors e each

    pub represents-moved : ((l : ℕ) → l < link_count s → stamp_in (stamped_in v l) ≡ stamp_of τ l) → ((l y : ℕ) → stamp_of τ l ≡ some y → y + lay.most * left b τ each ≤ lay.full) → Represents s b v τ
    represents-moved stamped roomed =
        let less = one_less in
        let of = each_of s b σ k c t x h.processors e 16 in
        record {
          programmed = programmed-same near m s b h.programmed;
          processors = length-set σ.processors k _ ∙ h.processors;
          stamps = length-posted c ((processor_of σ k).clock + t) σ.stamps ∙ h.stamps;
          inside = of (λ j p. p.position ≤ length (programme_of b j)) (omega arith) (λ j d l. h.inside j l);
          next =
              of (λ j p. next_in v j ≡ first_in v j + p.position) (omega (arith, m.next, first-same near m k near, h.next k near))
              (λ j d l. omega (arith, next-same near m j d l, first-same near m j l, h.next j l));
          clock = of (λ j p. clock_in v j ≡ p.clock) m.clock (λ j d l. clock-same near m j d l ∙ h.clock j l);
          store = of (λ j p. store_in v j ≡ p.store) m.store (λ j d l. store_same near m j d l ∙ h.store j l);
          stamp = stamped;
          room =
              of (λ j p. (p.clock + lay.most * left b τ each ≤ lay.full) × (p.store + lay.most * left b τ each ≤ lay.full))
              (omega (arith, (h.room k near).0), omega (arith, (h.room k near).1)) (λ j d l. (omega (arith, (h.room j l).0), omega (arith, (h.room j l).1)));
          roomy = roomed;
        }

-- the words that a command makes
module _ (w : List ℕ) (k c clock store : ℕ) (long : lay.needs ≤ length w) (near : k < 16) where
  pub placed-moved : Moved w (placed_words w k c clock store) k (c % 4294967296) (clock % 4294967296) (store % 4294967296)
  unfolding placed_words
  placed-moved =
      let a : lay.clocks + k ≡ k → ⊥ = λ q. omega arith in
      let b : lay.stores + k ≡ k → ⊥ = λ q. omega arith in
      let d : lay.clocks + k ≡ lay.stores + k → ⊥ = λ q. omega arith in
      let u = set w (lay.clocks + k) (clock % 4294967296) in
      let u2 = set u (lay.stores + k) (store % 4294967296) in
      record {
        long = simp length-set;
        next = let l : k < length u2 = simp length-set (omega arith) in simp get_or-set_same;
        clock = let l : lay.clocks + k < length w = omega arith in simp (get_or-set_other, get_or-set_same);
        store = let l : lay.stores + k < length u = simp length-set (omega arith) in simp (get_or-set_other, get_or-set_same);
        others = λ i y. let a = y.next in let b = y.clock in let d = y.store in simp get_or-set_other;
      }

  pub placed-stamp : (i : ℕ) → lay.lasts ≤ i → get_or (placed_words w k c clock store) i 0 ≡ get_or w i 0
  unfolding placed_words
  placed-stamp i l =
      let a : i ≡ k → ⊥ = λ q. omega arith in
      let b : i ≡ lay.clocks + k → ⊥ = λ q. omega arith in
      let d : i ≡ lay.stores + k → ⊥ = λ q. omega arith in
      simp get_or-set_other

pub length-stepped : (w : List ℕ) (k wait work gives need : ℕ) → length (stepped_words w k wait work gives need) ≡ length w
unfolding stepped_words placed_words
length-stepped w k wait work gives need = simp length-set
