-- A run of any bundle without releases, followed by a schedule: each task is placed as it runs, on the number that its programme gets. On a sheet without `48` and `55` the schedule
-- is never later than the run: there it does not matter where the programmes are numbered to, nor in which order messages are received.
use Prim.Native.Nat.{ℕ, ◌+◌, ◌≤◌, ◌<◌, max}
use native.Mathlib.Omega.{arith}
use mathlib.Core.Bool.{Bool, true, false, not, true≢false}
use mathlib.Core.Option.{Option, none, some, some-injective}
use mathlib.Core.Path.{◌≡◌, refl, sym, ap, ◌∙◌, subst}
use mathlib.Core.Logic.{◌≢◌, ◌⊎◌, inl, inr, ⊎_elim}
use mathlib.Core.List.{List, [], ◌∷◌, ◌++◌}
use lib.ListN.{length}
use lib.Seq.{get_or-set_same}
use lib.Dec.{eqb}
use borrow.Author.Tests.{eqb-true, eqb-false, eq-eqb, ne_eqb, lt-ltb, not-true, le-leb}
use Rattle.folds.specs.Folds.{pick, bit, both, all}
use Rattle.folds.proofs.Tests.{equal-or, both-parts, parts-both, part-either, not_some}
use Rattle.folds.proofs.Laws.{all-not, sum_mono, term-le-sum, greatest-le, term-le-greatest}
use Rattle.folds.proofs.Lists.{get_d_replicate}
use Rattle.sheet.specs.Sheet.{Sheet, task_count, link_count, source_of, target_of, work_of, store_of, cost_of, bytes_of}
use Rattle.sheet.proofs.Hopping.{flat-time}
use Rattle.graph.proofs.Proper.{Proper}
use Rattle.bundle.specs.Bundle.{Command, run, send, receive, release, discard, Bundle, programme_count, programme_of}
use Rattle.bundle.specs.Fits.{Formed}
use Rattle.admission.specs.Counting.{weigh, whole, each, is, in_use}
use Rattle.admission.specs.Messages.{home, Published}
use Rattle.admission.proofs.Weights.{programme-or, weigh-split, weigh-take, is-refl}
use Rattle.admission.proofs.Messages.{inputs}
use Rattle.machine.specs.Machine.{State, Processor, fresh_state, processor_of, stamp_of, next, waits, travels, stated, takes, moved}
use Rattle.machine.specs.Runs.{done_of, done, left, clock_of, latest}
use Rattle.machine.proofs.Steps.{Sound, step_move, stamp-sent, stamp-other, other, self, left-moved, sound-step}
use Rattle.machine.proofs.Runs.{Leads, here, on, leads-sound, done-left, ended-all, fresh-left, fresh-processor, fresh-sound}
use Rattle.planner.specs.Schedule.{Schedule, nowhere, empty, place_of, finish_of, placed, stands, put}
use Rattle.planner.specs.Placing.{comes, satisfied, ready, reach_by, reach_on, elsewhere, end_by, end_of, start_on, store_by, bytes_by, store_on, fits}
use Rattle.planner.specs.Planner.{claim_of}
use Rattle.planner.proofs.Unpacking.{unpacked-none, start-unpacked}
use Rattle.planner.proofs.Schedules.{Fair, place, Placing, Built, built, placing, Whole, on-other, finish-same, finish-other, placed-other, fair-place, empty-free, empty-fair}
use Rattle.least.specs.Written.{NoRelease}
use Rattle.least.proofs.Standing.{home-stands, home_below, known-programme, known_at, once, run_at, send_at, receive-stands, received, held, need-most, plain-use, plain-programme, no-release}

bit-true : (x : Bool) → bit x ≡ 1 → x ≡ true
bit-true true e = refl
bit-true false e = absurd (omega arith)

bit-false : (x : Bool) → bit x ≡ 0 → x ≡ false
bit-false true e = absurd (omega arith)
bit-false false e = refl

all_of : (n : ℕ) (p : ℕ → Bool) → ((i : ℕ) → i < n → p i ≡ true) → all n p ≡ true
all_of n p h = go (all n p) refl
  where
    go : (x : Bool) → all n p ≡ x → all n p ≡ true
    go true e = e
    go false e = let m = all-not n p e in absurd (true≢false (sym (h m.0 m.1) ∙ m.2))

pick_under : (x : Bool) (y v : ℕ) → (x ≡ true → y ≤ v) → pick x y 0 ≤ v
pick_under true y v h = h refl
pick_under false y v h = omega arith

-- a number for each task: tasks of one programme, and only they, have the same
pub record Numbering (s : Sheet) (b : Bundle) (number : ℕ → ℕ) : Type 0 where
  pub board : (t : ℕ) → t < task_count s → number t < s.processors
  pub alike : (t u : ℕ) → t < task_count s → u < task_count s → home b (run t) ≡ home b (run u) → number t ≡ number u
  pub only : (t u : ℕ) → t < task_count s → u < task_count s → number t ≡ number u → home b (run t) ≡ home b (run u)

-- of a state: the commands done, and the clocks
module _ (b : Bundle) (σ : State) where
  of-done : (f : Command → ℕ) (k : ℕ) → done_of b σ f k ≤ done b σ f
  unfolding done_of done weigh
  of-done f k =
      ⊎_elim (λ h. term-le-sum (programme_count b) (done_of b σ f) k h)
      (λ q. rw q (omega (arith, weigh-split f [] (processor_of σ k).position))) (programme-or b k)

module _ (s : Sheet) (b : Bundle) (σ : State) (sound : Sound s b σ) (k : ℕ) (c : Command) (x w : ℕ) (e : next b σ k ≡ some c) where
  -- a command more is done on k, and nothing elsewhere
  pub done-moved : (f : Command → ℕ) (j : ℕ) → (done_of b (moved s σ k c x w) f j ≡ done_of b σ f j) ⊎ ((j ≡ k) × (done_of b (moved s σ k c x w) f j ≡ done_of b σ f j + f c))
  unfolding done_of next
  done-moved f j =
      ⊎_elim (λ (q : j ≡ k). inr (q, rw (q, self s b σ k c x w sound.processors e) (weigh-take f (programme_of b k) (processor_of σ k).position c e)))
      (λ d. inl (rw (other s b σ k c x w j d))) (equal-or j k)

  done-same : (f : Command → ℕ) (j : ℕ) → f c ≡ 0 → done_of b (moved s σ k c x w) f j ≡ done_of b σ f j
  done-same f j z = ⊎_elim (λ q. q) (λ q. omega (arith, q.1)) (done-moved f j)

  pub clock-self : (processor_of (moved s σ k c x w) k).clock ≡ max (processor_of σ k).clock w + takes c x
  clock-self = ap (λ (p : Processor). p.clock) (self s b σ k c x w sound.processors e)

  pub clock-rises : (j : ℕ) → (processor_of σ j).clock ≤ (processor_of (moved s σ k c x w) j).clock
  clock-rises j = ⊎_elim (λ (q : j ≡ k). rw q (omega (arith, clock-self))) (λ d. rw (other s b σ k c x w j d) (omega arith)) (equal-or j k)

module _ (s : Sheet) (proper : Proper s) (b : Bundle) (published : Published s b) (formed : Formed s b) (within : (k i : ℕ) → in_use s (programme_of b k) i ≤ s.limit) (plain : NoRelease b)
    (number : ℕ → ℕ) (numbering : Numbering s b number) where
  -- the schedule has placed what the machine has run
  pub record Follows (σ : State) (φ : Schedule) : Type 0 where
    pub fair : Fair s φ
    pub ran : (t : ℕ) → t < task_count s → left b σ (is (run t)) + bit (placed φ t) ≡ 1
    pub on : (t : ℕ) → t < task_count s → placed φ t ≡ true → place_of φ t ≡ number t
    pub sent : (l : ℕ) → l < link_count s → (x : ℕ) → stamp_of σ l ≡ some x → placed φ (source_of s l) ≡ true
    pub got : (l k : ℕ) → l < link_count s → 0 < done_of b σ (is (receive l)) k → placed φ (source_of s l) ≡ true
    pub closed : (l : ℕ) → l < link_count s → placed φ (target_of s l) ≡ true → placed φ (source_of s l) ≡ true

  -- and is not later
  pub record Early (σ : State) (φ : Schedule) : Type 0 where
    pub clock : (t : ℕ) → t < task_count s → placed φ t ≡ true → finish_of φ t ≤ (processor_of σ (home b (run t))).clock
    pub stamp : (l : ℕ) → l < link_count s → (x : ℕ) → stamp_of σ l ≡ some x → reach_by s φ l ≤ x
    pub got : (l k : ℕ) → l < link_count s → 0 < done_of b σ (is (receive l)) k → reach_by s φ l ≤ (processor_of σ k).clock

  -- a schedule on which tasks stand by their numbers, with their predecessors, fits
  module _ (φ : Schedule) (by : (u : ℕ) → u < task_count s → placed φ u ≡ true → place_of φ u ≡ number u)
      (closed : (l : ℕ) → l < link_count s → placed φ (target_of s l) ≡ true → placed φ (source_of s l) ≡ true) (t : ℕ) (h : t < task_count s) where
    abbrev k : ℕ
    k = home b (run t)

    small : number t < nowhere
    small = omega (arith, numbering.board t h, proper.form.board_few)

    there : (u : ℕ) → u < task_count s → stands φ u (number t) ≡ true → (placed φ u ≡ true) × (home b (run u) ≡ k)
    unfolding stands placed
    there u m e =
        let q = eqb-true (place_of φ u) (number t) e in
        let p = lt-ltb (place_of φ u) nowhere (omega (arith, small)) in
        (p, numbering.only u t m h (sym (by u m p) ∙ q))

    at_home : (u : ℕ) → u < task_count s → home b (run u) ≡ k → 0 < weigh (is (run u)) (programme_of b k)
    at_home u m q = subst (λ j. 0 < weigh (is (run u)) (programme_of b j)) q (stands-home u m)
      where
        stands-home : (v : ℕ) → v < task_count s → 0 < weigh (is (run v)) (programme_of b (home b (run v)))
        stands-home v n = home-stands b (run v) (omega (arith, once s b published v n))

    store-le : (u : ℕ) → u < task_count s → store_by s φ (number t) u ≤ held s (programme_of b k) (run u)
    unfolding store_by
    store-le u m =
        pick_under (stands φ u (number t)) (store_of s u) _
        (λ e. rw (lt-ltb 0 (weigh (is (run u)) (programme_of b k)) (at_home u m (there u m e).1)) (omega arith))

    apart : (l : ℕ) → l < link_count s → stands φ (target_of s l) (number t) ≡ true → stands φ (source_of s l) (number t) ≡ false → 0 < weigh (is (receive l)) (programme_of b k)
    unfolding stands
    apart l m e f =
        let src = source_of s l in
        let z = there (target_of s l) (proper.form.target l m) e in
        let p = closed l m z.0 in
        let d : home b (run src) ≢ home b (run (target_of s l)) =
        λ q. eqb-false (place_of φ src) (number t) f (by src (proper.form.source l m) p ∙ numbering.alike src t (proper.form.source l m) h (q ∙ z.1))
        in
        subst (λ j. 0 < weigh (is (receive l)) (programme_of b j)) z.1 (receive-stands s b published l m d)

    bytes_le : (l : ℕ) → l < link_count s → bytes_by s φ (number t) l ≤ held s (programme_of b k) (receive l)
    unfolding bytes_by
    bytes_le l m =
        pick_under (both (stands φ (target_of s l) (number t)) (not (stands φ (source_of s l) (number t)))) (bytes_of s l) _
        (λ e.
        let z = both-parts (stands φ (target_of s l) (number t)) _ e in
        rw (lt-ltb 0 (weigh (is (receive l)) (programme_of b k)) (apart l m z.0 (not-true (stands φ (source_of s l) (number t)) z.1))) (omega arith))

    pub fits-there : store_on s φ (number t) ≤ s.limit
    unfolding store_on
    fits-there =
        omega (
          arith,
          sum_mono (task_count s) (store_by s φ (number t)) (λ u. held s (programme_of b k) (run u)) store-le,
          sum_mono (link_count s) (bytes_by s φ (number t)) (λ l. held s (programme_of b k) (receive l)) bytes_le,
          need-most s (programme_of b k) (known-programme s b formed k),
          plain-use s (programme_of b k) (plain-programme b plain k),
          within k (length (programme_of b k)),
        )

  module _ {σ : State} (sound : Sound s b σ) {φ : Schedule} (follows : Follows σ φ) where
    done-placed : (t : ℕ) → t < task_count s → (k : ℕ) → 0 < done_of b σ (is (run t)) k → placed φ t ≡ true
    done-placed t h k m =
        bit-true (placed φ t) (omega (arith, of-done b σ (is (run t)) k, done-left s b σ (is (run t)), once s b published t h, follows.ran t h))

    -- a run
    module _ (k t w : ℕ) (e : next b σ k ≡ some (run t)) where
      below : t < task_count s
      unfolding next
      below = known_at s b formed k (processor_of σ k).position (run t) e

      mine : home b (run t) ≡ k
      unfolding next
      mine = run_at s b published k (processor_of σ k).position t below e

      free : placed φ t ≡ false
      free =
          bit-false (placed φ t)
          (omega (arith, follows.ran t below, left-moved s b σ k (run t) (stated s b k (run t)) w sound.processors e (is (run t)), is-refl (run t)))

      source-placed : (l : ℕ) → l < link_count s → target_of s l ≡ t → placed φ (source_of s l) ≡ true
      unfolding next done_of
      source-placed l h q =
          ⊎_elim (λ z. done-placed (source_of s l) (proper.form.source l h) k z) (λ z. follows.got l k h z)
          (some_of (done_of b σ (is (run (source_of s l))) k) (done_of b σ (is (receive l)) k) input)
        where
          some_of : (x y : ℕ) → 0 < x + y → (0 < x) ⊎ (0 < y)
          some_of x y m = ⊎_elim (λ z. inr (omega arith)) (λ z. inl (omega arith)) (equal-or x 0)

          input : 0 < done_of b σ (is (run (source_of s l))) k + done_of b σ (is (receive l)) k
          input = inputs s b published k (processor_of σ k).position t below e l h q

      is-ready : ready s φ t ≡ true
      unfolding ready satisfied
      is-ready =
          parts-both (not (placed φ t)) _ (ap not free)
          (all_of (link_count s) (satisfied s φ t)
          (λ l h. part-either (not (eqb (target_of s l) t)) (placed φ (source_of s l))
          (⊎_elim (λ q. inr (source-placed l h q)) (λ d. inl (rw (ne_eqb (target_of s l) t d))) (equal-or (target_of s l) t))))

      -- t put on its number, whatever its times
      module _ (a c : ℕ) where
        put_on : place_of (put φ t (number t) a c) t ≡ number t
        unfolding place_of
        put_on = get_or-set_same φ.on t (number t) nowhere (omega (arith, follows.fair.on, below))

        put-by : (u : ℕ) → u < task_count s → placed (put φ t (number t) a c) u ≡ true → place_of (put φ t (number t) a c) u ≡ number u
        put-by u h p =
            ⊎_elim (λ (q : u ≡ t). rw q put_on)
            (λ d. on-other φ t (number t) a c u d ∙ follows.on u h (sym (placed-other φ t (number t) a c u d) ∙ p)) (equal-or u t)

        put-placed : placed (put φ t (number t) a c) t ≡ true
        unfolding placed
        put-placed = rw put_on (lt-ltb (number t) nowhere (omega (arith, numbering.board t below, proper.form.board_few)))

        put-more : (u : ℕ) → placed φ u ≡ true → placed (put φ t (number t) a c) u ≡ true
        put-more u p = ⊎_elim (λ (q : u ≡ t). rw q put-placed) (λ d. placed-other φ t (number t) a c u d ∙ p) (equal-or u t)

        put-closed : (l : ℕ) → l < link_count s → placed (put φ t (number t) a c) (target_of s l) ≡ true → placed (put φ t (number t) a c) (source_of s l) ≡ true
        put-closed l h p =
            put-more (source_of s l)
            (⊎_elim (λ q. source-placed l h q)
            (λ d. follows.closed l h (sym (placed-other φ t (number t) a c (target_of s l) d) ∙ p)) (equal-or (target_of s l) t))

      pub is-placing : Placing s φ t (number t)
      unfolding fits
      is-placing =
          record {
            below = below;
            is_ready = is-ready;
            room =
                record {
                  board = numbering.board t below;
                  fit = le-leb _ _ (fits-there (put φ t (number t) 0 0) (put-by 0 0) (put-closed 0 0) t below);
                };
          }

      abbrev ψ : Schedule
      ψ = place s φ t (number t)

      abbrev τ : State
      τ = moved s σ k (run t) (stated s b k (run t)) w

      pub follows-run : Follows τ ψ
      unfolding is stamp_of
      follows-run =
          let a = start_on s φ t (number t) in
          let c = start_on s φ t (number t) + work_of s t in
          record {
            fair = fair-place s proper follows.fair is-placing;
            ran =
                λ u h. ⊎_elim
                (λ (q : u ≡ t). rw q (rw (put-placed a c) (omega (arith, follows.ran t below, ap bit free, left-moved s b σ k (run t) (stated s b k (run t)) w sound.processors e (is (run t)), ap bit (eq-eqb t t refl)))))
                (λ d. rw (placed-other φ t (number t) a c u d) (omega (arith, follows.ran u h, left-moved s b σ k (run t) (stated s b k (run t)) w sound.processors e (is (run u)), ap bit (ne_eqb u t d)))) (equal-or u t);
            on = put-by a c;
            sent = λ l h x q. put-more a c (source_of s l) (follows.sent l h x q);
            got = λ l j h m. put-more a c (source_of s l) (follows.got l j h (omega (arith, done-same s b σ sound k (run t) (stated s b k (run t)) w e (is (receive l)) j refl)));
            closed = put-closed a c;
          }

      -- its times
      module _ (flat : s.cube ≡ false) (idle : s.unpacking ≡ 0) (early : Early σ φ) where
        end-le : end_of s φ (number t) ≤ (processor_of σ k).clock
        unfolding end_of end_by stands placed
        end-le =
            greatest-le (task_count s) (end_by s φ (number t)) (processor_of σ k).clock
            (λ u h. pick_under (stands φ u (number t)) (finish_of φ u) _
            (λ x.
            let z = there φ follows.on follows.closed t below u h x in
            omega (arith, early.clock u h z.0, ap (λ j. (processor_of σ j).clock) (z.1 ∙ mine))))

        -- when the message of l from elsewhere is there
        comes-le : (l : ℕ) → l < link_count s → pick (elsewhere s φ t (number t) l) (reach_on s φ (number t) l) 0 ≤ (processor_of σ k).clock
        unfolding elsewhere comes stands done_of next
        comes-le l h =
            pick_under (elsewhere s φ t (number t) l) (reach_on s φ (number t) l) _
            (λ x.
            let z = both-parts (both (eqb (target_of s l) t) (placed φ (source_of s l))) _ x in
            let y = both-parts (eqb (target_of s l) t) (placed φ (source_of s l)) z.0 in
            at (eqb-true (target_of s l) t y.0) y.1 (not-true (stands φ (source_of s l) (number t)) z.1))
          where
            at : target_of s l ≡ t → placed φ (source_of s l) ≡ true → stands φ (source_of s l) (number t) ≡ false → reach_on s φ (number t) l ≤ (processor_of σ k).clock
            at q p y = omega (arith, early.got l k h was-received, flat-time s l (place_of φ (source_of s l)) (number t) flat)
              where
                away : home b (run (source_of s l)) ≢ k
                away r =
                    eqb-false (place_of φ (source_of s l)) (number t) y
                    (follows.on (source_of s l) (proper.form.source l h) p ∙ numbering.alike (source_of s l) t (proper.form.source l h) below (r ∙ sym mine))

                was-received : 0 < done_of b σ (is (receive l)) k
                was-received = received s b published k (processor_of σ k).position t below e l h (proper.form.source l h) q away

        start-le : start_on s φ t (number t) ≤ (processor_of σ k).clock
        start-le =
            omega (
              arith,
              start-unpacked s φ t (number t) proper.form.source,
              unpacked-none s (elsewhere s φ t (number t)) (reach_on s φ (number t)) (end_of s φ (number t)) idle (link_count s),
              end-le,
              greatest-le (link_count s) (λ l. pick (elsewhere s φ t (number t) l) (reach_on s φ (number t) l) 0) (processor_of σ k).clock comes-le,
            )

        not_t : (u : ℕ) → placed φ u ≡ true → u ≢ t
        not_t u p q = true≢false (sym p ∙ ap (placed φ) q ∙ free)

        pub early-run : Early τ ψ
        unfolding is stamp_of stated
        early-run =
            let a = start_on s φ t (number t) in
            let c = start_on s φ t (number t) + work_of s t in
            record {
              clock =
                  λ u h p. ⊎_elim
                  (λ (q : u ≡ t). rw q (omega (arith, finish-same s proper follows.fair is-placing, start-le, ap (λ j. (processor_of τ j).clock) mine, clock-self s b σ sound k (run t) (stated s b k (run t)) w e)))
                  (λ d. omega (arith, finish-other φ t (number t) a c u d, early.clock u h (sym (placed-other φ t (number t) a c u d) ∙ p), clock-rises s b σ sound k (run t) (stated s b k (run t)) w e (home b (run u)))) (equal-or u t);
              stamp = λ l h x q. omega (arith, finish-other φ t (number t) a c (source_of s l) (not_t (source_of s l) (follows.sent l h x q)), early.stamp l h x q);
              got =
                  λ l j h m.
                  let n : 0 < done_of b σ (is (receive l)) j = omega (arith, done-same s b σ sound k (run t) (stated s b k (run t)) w e (is (receive l)) j refl) in
                  omega (arith, finish-other φ t (number t) a c (source_of s l) (not_t (source_of s l) (follows.got l j h n)), early.got l j h n, clock-rises s b σ sound k (run t) (stated s b k (run t)) w e j);
            }

    -- a send
    module _ (k l w : ℕ) (e : next b σ k ≡ some (send l)) where
      link-below : l < link_count s
      unfolding next
      link-below = known_at s b formed k (processor_of σ k).position (send l) e

      behind : (home b (run (source_of s l)) ≡ k) × (placed φ (source_of s l) ≡ true)
      unfolding next done_of
      behind =
          let z = send_at s b published k (processor_of σ k).position l link-below e in
          (z.0, done-placed (source_of s l) (proper.form.source l link-below) k z.1)

      pub follows-send : Follows (moved s σ k (send l) (stated s b k (send l)) w) φ
      unfolding is
      follows-send =
          record {
            fair = follows.fair;
            ran = λ u h. omega (arith, follows.ran u h, left-moved s b σ k (send l) (stated s b k (send l)) w sound.processors e (is (run u)));
            on = follows.on;
            sent = λ m h x q. ⊎_elim (λ (r : m ≡ l). rw r behind.1) (λ d. follows.sent m h x (sym (stamp-other s σ k l (stated s b k (send l)) w m d) ∙ q)) (equal-or m l);
            got = λ m j h n. follows.got m j h (omega (arith, done-same s b σ sound k (send l) (stated s b k (send l)) w e (is (receive m)) j refl));
            closed = follows.closed;
          }

      pub early-send : s.cube ≡ false → Early σ φ → Early (moved s σ k (send l) (stated s b k (send l)) w) φ
      unfolding is stated travels
      early-send flat early =
          record {
            clock = λ t h p. omega (arith, early.clock t h p, clock-rises s b σ sound k (send l) (stated s b k (send l)) w e (home b (run t)));
            stamp =
                λ m h x q. ⊎_elim
                (λ (r : m ≡ l).
                let z : (processor_of σ k).clock + travels s b k l ≡ x = some-injective _ _ (sym (stamp-sent s σ k l (stated s b k (send l)) w (omega (arith, sound.stamps, link-below))) ∙ ap (stamp_of (moved s σ k (send l) (stated s b k (send l)) w)) (sym r) ∙ q) in
                rw r (omega (arith, early.clock (source_of s l) (proper.form.source l link-below) behind.1, ap (λ j. (processor_of σ j).clock) behind.0, flat-time s l k (home b (run (target_of s l))) flat)))
                (λ d. early.stamp m h x (sym (stamp-other s σ k l (stated s b k (send l)) w m d) ∙ q)) (equal-or m l);
            got =
                λ m j h n. omega (arith, early.got m j h (omega (arith, done-same s b σ sound k (send l) (stated s b k (send l)) w e (is (receive m)) j refl)), clock-rises s b σ sound k (send l) (stated s b k (send l)) w e j);
          }

    -- a receive
    module _ (k l w : ℕ) (e : next b σ k ≡ some (receive l)) (came : stamp_of σ l ≡ some w) where
      received-below : l < link_count s
      unfolding next
      received-below = known_at s b formed k (processor_of σ k).position (receive l) e

      -- a receive that is done now was done before, or it is this one
      one_of : (m j : ℕ) → 0 < done_of b (moved s σ k (receive l) (stated s b k (receive l)) w) (is (receive m)) j → (0 < done_of b σ (is (receive m)) j) ⊎ ((m ≡ l) × (j ≡ k))
      unfolding is
      one_of m j n =
          ⊎_elim (λ q. inl (omega arith))
          (λ q. ⊎_elim (λ r. inr (r, q.0)) (λ d. inl (omega (arith, q.1, ap bit (ne_eqb m l d)))) (equal-or m l))
          (done-moved s b σ sound k (receive l) (stated s b k (receive l)) w e (is (receive m)) j)

      pub follows-receive : Follows (moved s σ k (receive l) (stated s b k (receive l)) w) φ
      unfolding is stamp_of
      follows-receive =
          record {
            fair = follows.fair;
            ran = λ u h. omega (arith, follows.ran u h, left-moved s b σ k (receive l) (stated s b k (receive l)) w sound.processors e (is (run u)));
            on = follows.on;
            sent = λ m h x q. follows.sent m h x q;
            got = λ m j h n. ⊎_elim (λ z. follows.got m j h z) (λ z. rw z.0 (follows.sent l received-below w came)) (one_of m j n);
            closed = follows.closed;
          }

      pub early-receive : Early σ φ → Early (moved s σ k (receive l) (stated s b k (receive l)) w) φ
      unfolding is stamp_of
      early-receive early =
          record {
            clock = λ t h p. omega (arith, early.clock t h p, clock-rises s b σ sound k (receive l) (stated s b k (receive l)) w e (home b (run t)));
            stamp = λ m h x q. early.stamp m h x q;
            got =
                λ m j h n. ⊎_elim (λ z. omega (arith, early.got m j h z, clock-rises s b σ sound k (receive l) (stated s b k (receive l)) w e j))
                (λ z. rw (z.0, z.1) (omega (arith, early.stamp l received-below w came, clock-self s b σ sound k (receive l) (stated s b k (receive l)) w e))) (one_of m j n);
          }

  -- one step, and a run
  abbrev Followed : State → Schedule → State → Type 0
  Followed σ φ τ = (ψ : Schedule) × (ts : List ℕ) × Built s φ ψ ts × Follows τ ψ × (s.cube ≡ false → s.unpacking ≡ 0 → Early σ φ → Early τ ψ)

  follow-move : {σ : State} → Sound s b σ → {φ : Schedule} → Follows σ φ → (k : ℕ) (c : Command) (w : ℕ) → next b σ k ≡ some c → waits σ c ≡ some w → Followed σ φ (moved s σ k c (stated s b k c) w)
  unfolding next
  follow-move sound {φ} f k (run t) w e g = (place s φ t (number t), t ∷ [], placing (is-placing sound f k t w e) built, follows-run sound f k t w e, early-run sound f k t w e)
  follow-move sound {φ} f k (send l) w e g = (φ, [], built, follows-send sound f k l w e, λ flat idle. early-send sound f k l w e flat)
  follow-move sound {φ} f k (receive l) w e g = (φ, [], built, follows-receive sound f k l w e g, λ flat idle. early-receive sound f k l w e g)
  follow-move {σ} sound f k (release t) w e g = absurd (no-release b plain k (processor_of σ k).position (release t) e refl)
  follow-move {σ} sound f k (discard l) w e g = absurd (no-release b plain k (processor_of σ k).position (discard l) e refl)

  built-on : {φ ψ χ : Schedule} {ts us : List ℕ} → Built s φ ψ ts → Built s ψ χ us → Built s φ χ (ts ++ us)
  built-on built q = q
  built-on (placing p r) q = placing p (built-on r q)

  pub follow : {σ τ : State} → Leads s b σ τ → Sound s b σ → {φ : Schedule} → Follows σ φ → Followed σ φ τ
  follow here sound {φ} f = (φ, [], built, f, λ flat idle x. x)
  follow {σ} (on {τ = ρ} k e r) sound {φ} f =
      let m = step_move s b σ k ρ e in
      let a : Followed σ φ ρ = rw m.here (follow-move sound f k m.c m.w m.comes m.waited) in
      let z = follow r (sound-step s b σ sound k ρ e) a.3 in
      (z.0, a.1 ++ z.1, built-on a.2 z.2, z.3, λ flat idle x. z.4 flat idle (a.4 flat idle x))

  pub follows-fresh : Follows (fresh_state s b) (empty s)
  unfolding stamp_of done_of weigh
  follows-fresh =
      record {
        fair = empty-fair s proper;
        ran = λ t h. rw (empty-free s proper t) (omega (arith, fresh-left s b (is (run t)), once s b published t h));
        on = λ t h p. absurd (true≢false (sym p ∙ empty-free s proper t));
        sent = λ l h x q. not_some (sym (get_d_replicate {A = Option ℕ} (link_count s) l none) ∙ q);
        got = λ l k h n. absurd (omega (arith, rw (fresh-processor s b k) at n));
        closed = λ l h p. absurd (true≢false (sym p ∙ empty-free s proper (target_of s l)));
      }

  pub early-fresh : Early (fresh_state s b) (empty s)
  unfolding stamp_of done_of weigh
  early-fresh =
      record {
        clock = λ t h p. absurd (true≢false (sym p ∙ empty-free s proper t));
        stamp = λ l h x q. not_some (sym (get_d_replicate {A = Option ℕ} (link_count s) l none) ∙ q);
        got = λ l k h n. absurd (omega (arith, rw (fresh-processor s b k) at n));
      }

  -- a run to the end: a schedule of all tasks, which does not end later on a sheet without `48` and `55`
  pub followed-all : (τ : State) → Leads s b (fresh_state s b) τ → left b τ each ≡ 0 → (ψ : Schedule) × (ts : List ℕ) × Built s (empty s) ψ ts × Whole s ψ × (s.cube ≡ false → s.unpacking ≡ 0 → claim_of s ψ ≤ latest τ) × ((t : ℕ) → t < task_count s → place_of ψ t ≡ number t)
  unfolding claim_of latest clock_of
  followed-all τ r over =
      let z = follow r (fresh-sound s b published) follows-fresh in
      let n = (leads-sound s b r (fresh-sound s b published)).processors in
      let whole : Whole s z.0 = λ t h. bit-true (placed z.0 t) (omega (arith, z.3.ran t h, ended-all s b τ over (is (run t)))) in (
        z.0,
        z.1,
        z.2,
        whole,
        λ flat idle. greatest-le (task_count s) (finish_of z.0) _
            (λ t h. omega (
              arith,
              (z.4 flat idle early-fresh).clock t h (whole t h),
              term-le-greatest (length τ.processors) (clock_of τ) (home b (run t)) (omega (arith, n, home_below s b published t h)),
            )),
        λ t h. z.3.on t h (whole t h),
      )
