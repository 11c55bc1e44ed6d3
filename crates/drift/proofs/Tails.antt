-- The backward pass: the latest clock at the end is at most x exactly if every clock and every stamp, with its tail, is.
use Prim.Native.Nat.{ℕ, ◌+◌, ◌≤◌, ◌<◌, max}
use native.Mathlib.Omega.{arith}
use native.Mathlib.Decide.{dec_lt}
use mathlib.Core.Option.{Option, none, some}
use mathlib.Core.Path.{◌≡◌, refl, sym, ap, subst}
use mathlib.Core.Logic.{◌≢◌, ⊎_elim}
use lib.ListN.{length, set, length-set, get_or-eq_default}
use borrow.Author.Tests.{eq-eqb, ne_eqb}
use Rattle.folds.proofs.Tests.{equal-or, not_some}
use Rattle.folds.proofs.Laws.{term-le-greatest, greatest-le}
use Rattle.sheet.specs.Sheet.{Sheet}
use Rattle.bundle.specs.Bundle.{Command, run, send, receive, release, discard, Bundle, programme_count}
use Rattle.machine.specs.Machine.{State, Processor, fresh_processor, processor_of, stamp_of, next, waits, takes, moved}
use Rattle.machine.specs.Runs.{clock_of, latest}
use Rattle.machine.proofs.Steps.{other, self, stamp-sent, stamp-other}
use Rattle.drift.specs.Tails.{Tails, ended, at, joined, longer, back}

pub at_same : {X : Type 0} (f : ℕ → X) (k : ℕ) (x : X) → at f k x k ≡ x
at_same f k x = rw (eq-eqb k k refl)

pub at_other : {X : Type 0} (f : ℕ → X) (k : ℕ) (x : X) (j : ℕ) → j ≢ k → at f k x j ≡ f j
at_other f k x j d = rw (ne_eqb j k d)

-- a stamp with its tail is at most x, where there are both
abbrev pub Fits : ℕ → Option ℕ → Option ℕ → Type 0
Fits x none o = Unit {0}
Fits x (some m) none = Unit {0}
Fits x (some m) (some u) = u + m ≤ x

fits-none : (x : ℕ) (o : Option ℕ) → Fits x o none
fits-none x none = tt
fits-none x (some m) = tt

pub record Below (x : ℕ) (w : Tails) (σ : State) : Type 0 where
  pub own : (k : ℕ) → (processor_of σ k).clock + w.own k ≤ x
  pub sent : (l : ℕ) → Fits x (w.sent l) (stamp_of σ l)

-- at the end
module _ (x : ℕ) (σ : State) where
  past-clock : (k : ℕ) → length σ.processors ≤ k → (processor_of σ k).clock ≡ 0
  unfolding processor_of
  past-clock k h = ap (λ (p : Processor). p.clock) (get_or-eq_default σ.processors fresh_processor h)

  pub below_end : latest σ ≤ x → Below x ended σ
  unfolding latest clock_of
  below_end h =
      record {
        own = λ k. elim (dec_lt k (length σ.processors)) [ yes l ↦ omega (arith, term-le-greatest (length σ.processors) (clock_of σ) k l) | no l ↦ omega (arith, past-clock k (omega arith)) ];
        sent = λ l. tt;
      }

  pub end_below : Below x ended σ → latest σ ≤ x
  unfolding latest clock_of
  end_below h = greatest-le (length σ.processors) (clock_of σ) x (λ k l. omega (arith, h.own k))

-- over one command
module _ (s : Sheet) (b : Bundle) (x : ℕ) (σ : State) (k d v : ℕ) (w : Tails) (many : length σ.processors ≡ programme_count b) where
  -- k's clock after the command, with its tail
  now-k : (c : Command) → next b σ k ≡ some c → (processor_of (moved s σ k c d v) k).clock + w.own k ≤ x → max (processor_of σ k).clock v + takes c d + w.own k ≤ x
  now-k c n h = rw (self s b σ k c d v many n) at h

  -- all clocks before, and all clocks after
  owns-before : (c : Command) (y : ℕ) → (processor_of σ k).clock + y ≤ x → ((j : ℕ) → (processor_of (moved s σ k c d v) j).clock + w.own j ≤ x)
      → (j : ℕ) → (processor_of σ j).clock + at w.own k y j ≤ x
  owns-before c y h f j =
      ⊎_elim (λ (q : j ≡ k). rw (q, at_same w.own k y) h)
      (λ q. rw (at_other w.own k y j q) (rw (other s b σ k c d v j q) at (f j))) (equal-or j k)

  owns-after : (c : Command) (y : ℕ) → next b σ k ≡ some c → max (processor_of σ k).clock v + takes c d + w.own k ≤ x → ((j : ℕ) → (processor_of σ j).clock + at w.own k y j ≤ x)
      → (j : ℕ) → (processor_of (moved s σ k c d v) j).clock + w.own j ≤ x
  owns-after c y n h f j =
      ⊎_elim (λ (q : j ≡ k). rw (q, self s b σ k c d v many n) h)
      (λ q. rw (other s b σ k c d v j q) (rw (at_other w.own k y j q) at (f j))) (equal-or j k)

  -- k's clock before the command
  then-k : (y : ℕ) → ((j : ℕ) → (processor_of σ j).clock + at w.own k y j ≤ x) → (processor_of σ k).clock + y ≤ x
  then-k y f = rw (at_same w.own k y) at (f k)

  -- a send's message
  module _ (l : ℕ) where
    sent-in : l < length σ.stamps → stamp_of (moved s σ k (send l) d v) l ≡ some ((processor_of σ k).clock + d)
    sent-in h = stamp-sent s σ k l d v h

    sent-out : length σ.stamps ≤ l → stamp_of (moved s σ k (send l) d v) l ≡ none
    unfolding stamp_of
    sent-out h = get_or-eq_default (set σ.stamps l (some ((processor_of σ k).clock + d))) none (simp length-set h)

    send-before : (o : Option ℕ) → (length σ.stamps ≤ l → o ≡ none) → Fits x o (stamp_of (moved s σ k (send l) d v) l) → (processor_of σ k).clock + w.own k ≤ x
        → (processor_of σ k).clock + longer d (w.own k) o ≤ x
    send-before none short f h = h
    send-before (some m) short f h = go (dec_lt l (length σ.stamps))
      where
        go : Dec (l < length σ.stamps) → (processor_of σ k).clock + max (w.own k) (d + m) ≤ x
        go (yes g) = omega (arith, rw (sent-in g) at f)
        go (no g) = not_some (sym (short (omega arith)))

    send-after : (o : Option ℕ) → (processor_of σ k).clock + longer d (w.own k) o ≤ x → Fits x o (stamp_of (moved s σ k (send l) d v) l)
    send-after none h = tt
    send-after (some m) h = go (dec_lt l (length σ.stamps))
      where
        go : Dec (l < length σ.stamps) → Fits x (some m) (stamp_of (moved s σ k (send l) d v) l)
        go (yes g) = rw (sent-in g) (omega arith)
        go (no g) = rw (sent-out (omega arith)) tt

    longer-own : (o : Option ℕ) → w.own k ≤ longer d (w.own k) o
    longer-own none = omega arith
    longer-own (some m) = omega arith

  -- a receive's message
  receive-before : (o : Option ℕ) (y : ℕ) → Fits x o (some v) → v + y ≤ x → Fits x (joined o y) (some v)
  receive-before none y f h = h
  receive-before (some m) y f h = omega arith

  receive-after : (o : Option ℕ) (y : ℕ) → Fits x (joined o y) (some v) → Fits x o (some v) × (v + y ≤ x)
  receive-after none y f = (tt, f)
  receive-after (some m) y f = (omega arith, omega arith)

  pub back_below : (c : Command) → next b σ k ≡ some c → waits σ c ≡ some v → ((l : ℕ) → length σ.stamps ≤ l → w.sent l ≡ none)
      → Below x w (moved s σ k c d v) → Below x (back d k c w) σ
  unfolding back stamp_of
  back_below (run t) n e short h = record { own = owns-before (run t) (d + w.own k) (omega (arith, now-k (run t) n (h.own k))) h.own; sent = h.sent }
  back_below (release t) n e short h = record { own = owns-before (release t) (d + w.own k) (omega (arith, now-k (release t) n (h.own k))) h.own; sent = h.sent }
  back_below (discard l) n e short h = record { own = owns-before (discard l) (d + w.own k) (omega (arith, now-k (discard l) n (h.own k))) h.own; sent = h.sent }
  back_below (send l) n e short h =
      record {
        own = owns-before (send l) (longer d (w.own k) (w.sent l)) (send-before l (w.sent l) (short l) (h.sent l) (omega (arith, now-k (send l) n (h.own k)))) h.own;
        sent =
            λ i.
            ⊎_elim (λ (q : i ≡ l). rw (q, at_same w.sent l none) tt)
            (λ q. rw (at_other w.sent l none i q) (subst (Fits x (w.sent i)) (stamp-other s σ k l d v i q) (h.sent i))) (equal-or i l);
      }
  back_below (receive l) n e short h =
      record {
        own = owns-before (receive l) (d + w.own k) (omega (arith, now-k (receive l) n (h.own k))) h.own;
        sent =
            λ i.
            ⊎_elim
            (λ (q : i ≡ l).
            rw (q, at_same w.sent l (joined (w.sent l) (d + w.own k)), e) (receive-before (w.sent l) (d + w.own k) (rw e at (h.sent l)) (omega (arith, now-k (receive l) n (h.own k)))))
            (λ q. rw (at_other w.sent l (joined (w.sent l) (d + w.own k)) i q) (h.sent i)) (equal-or i l);
      }

  pub below-back : (c : Command) → next b σ k ≡ some c → waits σ c ≡ some v → Below x (back d k c w) σ → Below x w (moved s σ k c d v)
  unfolding back stamp_of
  below-back (run t) n e h =
      record { own = owns-after (run t) (d + w.own k) n (let z : 0 ≡ v = cc in omega (arith, then-k (d + w.own k) h.own)) h.own; sent = h.sent }
  below-back (release t) n e h =
      record { own = owns-after (release t) (d + w.own k) n (let z : 0 ≡ v = cc in omega (arith, then-k (d + w.own k) h.own)) h.own; sent = h.sent }
  below-back (discard t) n e h =
      record { own = owns-after (discard t) (d + w.own k) n (let z : 0 ≡ v = cc in omega (arith, then-k (d + w.own k) h.own)) h.own; sent = h.sent }
  below-back (send l) n e h =
      let y = longer d (w.own k) (w.sent l) in
      record {
        own = owns-after (send l) y n (let z : 0 ≡ v = cc in omega (arith, then-k y h.own, longer-own l (w.sent l))) h.own;
        sent =
            λ i.
            ⊎_elim (λ (q : i ≡ l). rw q (send-after l (w.sent l) (then-k y h.own)))
            (λ q. subst (Fits x (w.sent i)) (sym (stamp-other s σ k l d v i q)) (rw (at_other w.sent l none i q) at (h.sent i))) (equal-or i l);
      }
  below-back (receive l) n e h =
      let y = d + w.own k in
      let g = receive-after (w.sent l) y (rw (at_same w.sent l (joined (w.sent l) y), e) at (h.sent l)) in
      record {
        own = owns-after (receive l) y n (omega (arith, then-k y h.own, g.1)) h.own;
        sent =
            λ i.
            ⊎_elim (λ (q : i ≡ l). rw (q, e) g.0)
            (λ q. rw (at_other w.sent l (joined (w.sent l) y) i q) at (h.sent i)) (equal-or i l);
      }
