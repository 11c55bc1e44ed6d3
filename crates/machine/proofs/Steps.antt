-- One step of the machine: what it is, what it leaves alone, what it keeps true, and that steps of two processors can be swapped.
use Prim.Native.Nat.{ℕ, ◌+◌, ◌≤◌, ◌<◌}
use native.Mathlib.Omega.{arith}
use native.Mathlib.Decide.{dec_lt}
use mathlib.Core.Bool.{true, false≢true}
use mathlib.Core.Option.{Option, none, some, some-injective}
use mathlib.Core.Path.{◌≡◌, refl, sym, ap, ◌∙◌, subst}
use mathlib.Core.Logic.{◌≢◌, ⊎_elim}
use mathlib.Core.List.{List}
use lib.ListN.{length, drop, set, length-set, get_or-eq_default}
use lib.Seq.{get_or-set_same, get_or-set_other, set_comm, set_out}
use borrow.Author.Tests.{eq-eqb}
use Rattle.folds.specs.Folds.{then}
use Rattle.folds.proofs.Tests.{equal-or, not_some}
use Rattle.folds.proofs.Laws.{sum-differ}
use Rattle.sheet.specs.Sheet.{Sheet, link_count}
use Rattle.bundle.specs.Bundle.{Command, run, send, receive, release, discard, Bundle, programme_count, programme_of}
use Rattle.admission.specs.Counting.{weigh, each, is, in_use}
use Rattle.admission.proofs.Weights.{command-below, weigh-drop, is-refl}
use Rattle.admission.proofs.Stores.{use-next}
use Rattle.machine.specs.Machine.{State, Processor, fresh_processor, processor_of, stamp_of, next, waits, stated, after, posted, moved, step_in, step, holds_some, can_step}
use Rattle.machine.specs.Runs.{left_of, left}

pub then_some : {A B : Type 0} (o : Option A) (f : A → Option B) (y : B) → then o f ≡ some y → (x : A) × (o ≡ some x) × (f x ≡ some y)
then_some none f y e = not_some e
then_some (some x) f y e = (x, refl, e)

-- τ is the state after the command c of k, which waited for w
pub record Move (s : Sheet) (b : Bundle) (σ : State) (k : ℕ) (τ : State) : Type 0 where
  pub c : Command
  pub w : ℕ
  pub comes : next b σ k ≡ some c
  pub waited : waits σ c ≡ some w
  pub here : τ ≡ moved s σ k c (stated s b k c) w

-- 1 once a message is sent
abbrev pub mark : Option ℕ → ℕ
mark none = 0
mark (some x) = 1

mark-le : (o : Option ℕ) → mark o ≤ 1
mark-le none = omega arith
mark-le (some x) = omega arith

-- what is true of every state that a run reaches: a link has at most one send done or left, and the store in use is what the commands done leave
pub record Sound (s : Sheet) (b : Bundle) (σ : State) : Type 0 where
  pub processors : length σ.processors ≡ programme_count b
  pub stamps : length σ.stamps ≡ link_count s
  pub sends : (l : ℕ) → l < link_count s → mark (stamp_of σ l) + left b σ (is (send l)) ≤ 1
  pub store : (k : ℕ) → (processor_of σ k).store ≡ in_use s (programme_of b k) (processor_of σ k).position

set-out-comm : {A : Type 0} (m : List A) (i j : ℕ) (x y : A) → length m ≤ i → set (set m i x) j y ≡ set (set m j y) i x
set-out-comm m i j x y h = ap (λ n. set n j y) (set_out m i x h) ∙ sym (set_out (set m j y) i x (rw (length-set m j y) h))

pub length-posted : (c : Command) (t : ℕ) (m : List (Option ℕ)) → length (posted c t m) ≡ length m
length-posted (run u) t m = refl
length-posted (send l) t m = simp length-set
length-posted (receive l) t m = refl
length-posted (release u) t m = refl
length-posted (discard l) t m = refl

-- the stamps after a send of l
module _ (s : Sheet) (σ : State) (k l d x : ℕ) where
  pub stamp-sent : l < length σ.stamps → stamp_of (moved s σ k (send l) d x) l ≡ some ((processor_of σ k).clock + d)
  unfolding stamp_of
  stamp-sent h = get_or-set_same σ.stamps l (some ((processor_of σ k).clock + d)) none h

  pub stamp-other : (i : ℕ) → i ≢ l → stamp_of (moved s σ k (send l) d x) i ≡ stamp_of σ i
  unfolding stamp_of
  stamp-other i n = get_or-set_other σ.stamps l i (some ((processor_of σ k).clock + d)) none n

module _ (s : Sheet) (b : Bundle) where
  pub step_move : (σ : State) (k : ℕ) (τ : State) → step s b σ k ≡ some τ → Move s b σ k τ
  unfolding step step_in
  step_move σ k τ e =
      let m = then_some (next b σ k) (λ c. then (waits σ c) (λ w. some (moved s σ k c (stated s b k c) w))) τ e in
      let n = then_some (waits σ m.0) (λ w. some (moved s σ k m.0 (stated s b k m.0) w)) τ m.2 in
      record { c = m.0; w = n.0; comes = m.1; waited = n.1; here = sym (some-injective _ _ n.2) }

  pub move_step : (σ : State) (k : ℕ) (c : Command) (w : ℕ) → next b σ k ≡ some c → waits σ c ≡ some w → step s b σ k ≡ some (moved s σ k c (stated s b k c) w)
  unfolding step step_in
  move_step σ k c w e f = rw (e, f)

  pub can-step : (σ : State) (k : ℕ) → can_step s b σ k ≡ true → (τ : State) × (step s b σ k ≡ some τ)
  unfolding can_step
  can-step σ k e = go (step s b σ k) refl e
    where
      go : (o : Option State) → step s b σ k ≡ o → holds_some o ≡ true → (τ : State) × (step s b σ k ≡ some τ)
      go none q f = absurd (false≢true f)
      go (some τ) q f = (τ, q)

  pub step-can : (σ : State) (k : ℕ) (τ : State) → step s b σ k ≡ some τ → can_step s b σ k ≡ true
  unfolding can_step
  step-can σ k τ e = rw e

  pub step-below : (σ : State) (k : ℕ) (τ : State) → step s b σ k ≡ some τ → k < programme_count b
  unfolding next
  step-below σ k τ e = let m = step_move σ k τ e in command-below b k (processor_of σ k).position m.c m.comes

  module _ (σ : State) (k : ℕ) (c : Command) (d w : ℕ) where
    pub other : (j : ℕ) → j ≢ k → processor_of (moved s σ k c d w) j ≡ processor_of σ j
    unfolding processor_of
    other j n = get_or-set_other σ.processors k j (after s c d w (processor_of σ k)) fresh_processor n

    pub other-next : (j : ℕ) → j ≢ k → next b (moved s σ k c d w) j ≡ next b σ j
    unfolding next
    other-next j n = rw (other j n)

    module _ (n : length σ.processors ≡ programme_count b) (e : next b σ k ≡ some c) where
      below : k < programme_count b
      unfolding next
      below = command-below b k (processor_of σ k).position c e

      pub self : processor_of (moved s σ k c d w) k ≡ after s c d w (processor_of σ k)
      unfolding processor_of
      self = get_or-set_same σ.processors k (after s c d w (processor_of σ k)) fresh_processor (omega (arith, below))

      -- what is true of k after its command, and of the others as before, is true of the first m
      pub each_of : (m : ℕ) (Q : ℕ → Processor → Type 0) → Q k (after s c d w (processor_of σ k)) → ((j : ℕ) → j ≢ k → j < m → Q j (processor_of σ j))
          → (j : ℕ) → j < m → Q j (processor_of (moved s σ k c d w) j)
      each_of m Q a f j l =
          ⊎_elim (λ (q : j ≡ k). subst (λ (i : ℕ). Q i (processor_of (moved s σ k c d w) i)) (sym q) (subst (Q k) (sym self) a))
          (λ (n : j ≢ k). subst (Q j) (sym (other j n)) (f j n l)) (equal-or j k)

      pub left-moved : (f : Command → ℕ) → left b (moved s σ k c d w) f + f c ≡ left b σ f
      unfolding left left_of next
      left-moved f =
          omega (
            arith,
            sum-differ (programme_count b) (left_of b (moved s σ k c d w) f) (left_of b σ f) k below (λ j n. rw (other j n)),
            ap (λ (p : Processor). weigh f (drop p.position (programme_of b k))) self,
            weigh-drop f (programme_of b k) (processor_of σ k).position c e,
          )

      -- a send of l that comes next is left
      pub one_left : (l : ℕ) → c ≡ send l → 0 < left b σ (is (send l))
      one_left l q = omega (arith, is-refl (send l), rw q at left-moved (is (send l)))

  module _ (σ : State) (sound : Sound s b σ) where
    -- a message that is sent is not sent again
    sent-once : (k l m x : ℕ) → next b σ k ≡ some (send m) → stamp_of σ l ≡ some x → l ≢ m
    unfolding stamp_of
    sent-once k l m x e f q = go (dec_lt l (link_count s))
      where
        go : Dec (l < link_count s) → ⊥
        go (yes h) = omega (arith, sound.sends l h, ap mark f, one_left σ k (send m) 0 0 sound.processors e l (ap send (sym q)))
        go (no n) = not_some (sym (get_or-eq_default σ.stamps none (omega (arith, sound.stamps))) ∙ f)

    -- no two processors have the send of one link next
    sent-by-one : (k j l m : ℕ) → k ≢ j → l < link_count s → next b σ k ≡ some (send l) → next b σ j ≡ some (send m) → l ≢ m
    sent-by-one k j l m d h e f q =
        omega (
          arith,
          sound.sends l h,
          left-moved σ k (send l) 0 0 sound.processors e (is (send l)),
          is-refl (send l),
          one_left (moved s σ k (send l) 0 0) j (send m) 0 0 (simp length-set sound.processors) (other-next σ k (send l) 0 0 j (λ r. d (sym r)) ∙ f) l (ap send (sym q)),
        )

    -- a step takes no message away
    waits-moved : (k : ℕ) (c : Command) (x w : ℕ) (d : Command) (v : ℕ) → next b σ k ≡ some c → waits σ d ≡ some v → waits (moved s σ k c x w) d ≡ some v
    unfolding stamp_of
    waits-moved k c x w (run t) v e f = f
    waits-moved k c x w (send l) v e f = f
    waits-moved k (run t) x w (receive l) v e f = f
    waits-moved k (send m) x w (receive l) v e f = get_or-set_other σ.stamps m l _ none (sent-once k l m v e f) ∙ f
    waits-moved k (receive m) x w (receive l) v e f = f
    waits-moved k (release t) x w (receive l) v e f = f
    waits-moved k (discard m) x w (receive l) v e f = f
    waits-moved k c x w (release t) v e f = f
    waits-moved k c x w (discard l) v e f = f

    posted-comm : (k j : ℕ) (c d : Command) (t u : ℕ) → k ≢ j → next b σ k ≡ some c → next b σ j ≡ some d → posted d t (posted c u σ.stamps) ≡ posted c u (posted d t σ.stamps)
    posted-comm k j (run a) d t u n e f = refl
    posted-comm k j (receive a) d t u n e f = refl
    posted-comm k j (release a) d t u n e f = refl
    posted-comm k j (discard a) d t u n e f = refl
    posted-comm k j (send a) (run x) t u n e f = refl
    posted-comm k j (send a) (receive x) t u n e f = refl
    posted-comm k j (send a) (release x) t u n e f = refl
    posted-comm k j (send a) (discard x) t u n e f = refl
    posted-comm k j (send a) (send x) t u n e f = go (dec_lt a (link_count s))
      where
        go : Dec (a < link_count s) → posted (send x) t (posted (send a) u σ.stamps) ≡ posted (send a) u (posted (send x) t σ.stamps)
        go (yes h) = set_comm σ.stamps a x _ _ (sent-by-one k j a x n h e f)
        go (no h) = set-out-comm σ.stamps a x _ _ (omega (arith, sound.stamps))

    moved-comm : (k j : ℕ) (c d : Command) (x y w v : ℕ) → k ≢ j → next b σ k ≡ some c → next b σ j ≡ some d → moved s (moved s σ k c x w) j d y v ≡ moved s (moved s σ j d y v) k c x w
    moved-comm k j c d x y w v n e f =
        rw (other σ k c x w j (λ q. n (sym q)), other σ j d y v k n)
        (cc (set_comm σ.processors k j (after s c x w (processor_of σ k)) (after s d y v (processor_of σ j)) n, posted-comm k j c d ((processor_of σ j).clock + y) ((processor_of σ k).clock + x) n e f))

    -- j can still step after k, and both orders end alike
    step-moved : (k j : ℕ) (c d : Command) (x w v : ℕ) → k ≢ j → next b σ k ≡ some c → next b σ j ≡ some d → waits σ d ≡ some v
        → step s b (moved s σ k c x w) j ≡ some (moved s (moved s σ k c x w) j d (stated s b j d) v)
    step-moved k j c d x w v n e f g = move_step (moved s σ k c x w) j d v (other-next σ k c x w j (λ q. n (sym q)) ∙ f) (waits-moved k c x w d v e g)

    pub diamond : (k j : ℕ) (τ ρ : State) → k ≢ j → step s b σ k ≡ some τ → step s b σ j ≡ some ρ → (υ : State) × (step s b τ j ≡ some υ) × (step s b ρ k ≡ some υ)
    diamond k j τ ρ n e f =
        let m = step_move σ k τ e in
        let o = step_move σ j ρ f in
        let x = stated s b k m.c in
        let y = stated s b j o.c in
        let υ = moved s (moved s σ k m.c x m.w) j o.c y o.w in (
          υ,
          subst (λ z. step s b z j ≡ some υ) (sym m.here) (step-moved k j m.c o.c x m.w o.w n m.comes o.comes o.waited),
          subst (λ z. step s b z k ≡ some υ) (sym o.here)
              (rw (moved-comm k j m.c o.c x y m.w o.w n m.comes o.comes) (step-moved j k o.c m.c y o.w m.w (λ q. n (sym q)) o.comes m.comes m.waited)),
        )

    module _ (k : ℕ) (c : Command) (x w : ℕ) (e : next b σ k ≡ some c) where
      store-moved : (j : ℕ) → (processor_of (moved s σ k c x w) j).store ≡ in_use s (programme_of b j) (processor_of (moved s σ k c x w) j).position
      unfolding next
      store-moved j =
          ⊎_elim
          (λ (q : j ≡ k). rw (q, self σ k c x w sound.processors e, sound.store k) (sym (use-next s (programme_of b k) (processor_of σ k).position c e)))
          (λ n. rw (other σ k c x w j n) (sound.store j)) (equal-or j k)

      -- a message is marked as it is sent, and not before
      sends-moved : (l : ℕ) → mark (stamp_of (moved s σ k c x w) l) ≤ mark (stamp_of σ l) + is (send l) c
      unfolding stamp_of is
      sends-moved l = go c
        where
          go : (d : Command) → mark (stamp_of (moved s σ k d x w) l) ≤ mark (stamp_of σ l) + is (send l) d
          go (run t) = omega arith
          go (receive m) = omega arith
          go (release t) = omega arith
          go (discard m) = omega arith
          go (send m) =
              ⊎_elim (λ r. rw (eq-eqb l m r) (omega (arith, mark-le (stamp_of (moved s σ k (send m) x w) l))))
              (λ r. rw (get_or-set_other σ.stamps m l (some ((processor_of σ k).clock + x)) none r) (omega arith)) (equal-or l m)

      sound-moved : Sound s b (moved s σ k c x w)
      sound-moved =
          record {
            processors = simp length-set sound.processors;
            stamps = length-posted c ((processor_of σ k).clock + x) σ.stamps ∙ sound.stamps;
            sends = λ l h. omega (arith, sends-moved l, sound.sends l h, left-moved σ k c x w sound.processors e (is (send l)));
            store = store-moved;
          }

    pub sound-step : (k : ℕ) (τ : State) → step s b σ k ≡ some τ → Sound s b τ
    sound-step k τ e = let m = step_move σ k τ e in rw m.here (sound-moved k m.c (stated s b k m.c) m.w m.comes)

    pub step_left : (k : ℕ) (τ : State) → step s b σ k ≡ some τ → left b τ each + 1 ≡ left b σ each
    step_left k τ e = let m = step_move σ k τ e in rw m.here (left-moved σ k m.c (stated s b k m.c) m.w sound.processors m.comes each)
