-- A bundle with its releases does what it did without them: the same commands, at the same times.
use Prim.Native.Nat.{ℕ, zero, suc, ◌+◌}
use native.Mathlib.Omega.{arith}
use mathlib.Core.Bool.{Bool, true, false, false≢true, true≢false}
use mathlib.Core.Option.{Option, none, some}
use mathlib.Core.Path.{◌≡◌, refl, sym, ap, ap₂, ◌∙◌, subst}
use mathlib.Core.Logic.{◌≢◌, ⊎_elim}
use mathlib.Core.List.{List, [], ◌∷◌, ◌++◌, map}
use lib.ListN.{length, drop, get_or, get_elem?, length-set, length-replicate, length-map, get_or-map}
use lib.Dec.{ltb}
use borrow.Author.Tests.{ne_eqb}
use Rattle.folds.specs.Folds.{pick, first, gather, or_value}
use Rattle.folds.proofs.Tests.{equal-or}
use Rattle.folds.proofs.Laws.{sum-cong, greatest-cong, sum_zeros, first_some}
use Rattle.sheet.specs.Sheet.{Sheet, task_count, link_count, target_of}
use Rattle.bundle.specs.Bundle.{Command, run, send, receive, release, discard, Bundle, programme_count, programme_of}
use Rattle.admission.specs.Counting.{weigh, whole_of, whole, each, is}
use Rattle.admission.specs.Releases.{is_release, held, right}
use Rattle.admission.specs.Messages.{holds, home}
use Rattle.admission.proofs.Walking.{drop-next, drop_at, each-elem}
use Rattle.machine.specs.Machine.{State, Processor, fresh_state, processor_of, stamp_of, next, waits, travels, stated, takes, after, posted, moved}
use Rattle.machine.specs.Runs.{left_of, left, clock_of, latest}
use Rattle.machine.proofs.Steps.{step_move, move_step, other, self}
use Rattle.machine.proofs.Runs.{Leads, here, on, leads-on, ended, fresh-processor}
use Rattle.releasing.specs.Releasing.{right_at, earliest, is_at, due_at, releases_at, rest_with, released}
use Rattle.bundle.specs.Fits.{Each}
use Rattle.releasing.proofs.Programme.{Blind, Plain, is-blind, block-releases, released-weigh}

gather-empty : {A : Type 0} (n : ℕ) (f : ℕ → List A) → ((i : ℕ) → f i ≡ []) → gather n f ≡ []
unfolding gather
gather-empty zero f h = refl
gather-empty (suc n) f h = rw (gather-empty n f h, h n)

pub first_cong : (n : ℕ) (p q : ℕ → Bool) → ((i : ℕ) → p i ≡ q i) → first n p ≡ first n q
unfolding first
first_cong zero p q h = refl
first_cong (suc n) p q h = rw (first_cong n p q h, h n)

nothing_left : (q : List Command) → weigh each q ≡ 0 → q ≡ []
unfolding weigh
nothing_left [] h = refl
nothing_left (c ∷ q) h = absurd (omega arith)

-- nothing is released before the first command
module _ (s : Sheet) (p : List Command) where
  not_first : (x : Command) → due_at s p 0 x ≡ []
  unfolding due_at earliest right_at right held weigh
  not_first x = go (earliest s p x) refl
    where
      go : (o : Option ℕ) → earliest s p x ≡ o → pick (is_at o 0) (x ∷ []) [] ≡ []
      go none q = refl
      go (some zero) q = absurd (false≢true (first_some (suc (length p)) (right_at s p x) 0 q).1)
      go (some (suc e)) q = rw (ne_eqb (suc e) 0 (omega arith))

  pub first-empty : releases_at s p 0 ≡ []
  unfolding releases_at
  first-empty = rw (gather-empty (task_count s) (λ t. due_at s p 0 (release t)) (λ t. not_first (release t)), gather-empty (link_count s) (λ l. due_at s p 0 (discard l)) (λ l. not_first (discard l)))

  pub released-rest : released s p ≡ rest_with (releases_at s p) 0 p
  unfolding released
  released-rest = ap (λ (q : List Command). q ++ rest_with (releases_at s p) 0 p) first-empty

-- a bundle and the same with releases
module _ (s : Sheet) (b : Bundle) where
  abbrev pub with : Bundle
  with = record { programmes = map (released s) b.programmes; claim = b.claim }

  pub count-with : programme_count with ≡ programme_count b
  unfolding programme_count
  count-with = length-map b.programmes (released s)

  none-released : released s [] ≡ []
  none-released = released-rest s []

  pub programme-with : (k : ℕ) → programme_of with k ≡ released s (programme_of b k)
  unfolding programme_of
  programme-with k = ap (get_or (map (released s) b.programmes) k) (sym none-released) ∙ get_or-map (released s) b.programmes k []

  pub whole_of-with : (f : Command → ℕ) → Blind f → (k : ℕ) → whole_of with f k ≡ whole_of b f k
  unfolding whole_of
  whole_of-with f h k = rw (programme-with k) (released-weigh s (programme_of b k) f h)

  pub whole_with : (f : Command → ℕ) → Blind f → whole with f ≡ whole b f
  unfolding whole
  whole_with f h = rw count-with (sum-cong (programme_count b) (whole_of with f) (whole_of b f) (λ k l. whole_of-with f h k))

  pub home-with : (c : Command) → is_release c ≡ false → home with c ≡ home b c
  unfolding home holds
  home-with c h =
      rw count-with
      (ap (λ (o : Option ℕ). or_value o 0) (first_cong (programme_count b) (holds with c) (holds b c) (λ k. ap (ltb 0) (whole_of-with (is c) (is-blind c h) k))))

  -- a command's stated time
  stated-with : (k : ℕ) (c : Command) → is_release c ≡ false → stated s with k c ≡ stated s b k c
  unfolding stated travels
  stated-with k (run t) h = refl
  stated-with k (send l) h = rw (home-with (run (target_of s l)) refl)
  stated-with k (receive l) h = refl
  stated-with k (release t) h = absurd (true≢false h)
  stated-with k (discard l) h = absurd (true≢false h)

  -- the state τ is as σ but that k has gone on to the commands t
  record Gone (k : ℕ) (σ τ : State) (t : List Command) : Type 0 where
    leads : Leads s with σ τ
    many : length τ.processors ≡ programme_count with
    stamps : τ.stamps ≡ σ.stamps
    clock : (j : ℕ) → (processor_of τ j).clock ≡ (processor_of σ j).clock
    rest : drop (processor_of τ k).position (programme_of with k) ≡ t
    others : (j : ℕ) → j ≢ k → (processor_of τ j).position ≡ (processor_of σ j).position

  next-is : (σ : State) (k : ℕ) (x : Command) → get_elem? (programme_of with k) (processor_of σ k).position ≡ some x → next with σ k ≡ some x
  unfolding next
  next-is σ k x e = e

  same-clock : (σ : State) (k : ℕ) (x : Command) (d : ℕ) → length σ.processors ≡ programme_count with → next with σ k ≡ some x → takes x d ≡ 0
      → (j : ℕ) → (processor_of (moved s σ k x d 0) j).clock ≡ (processor_of σ j).clock
  same-clock σ k x d n y f j =
      ⊎_elim (λ (q : j ≡ k). rw (q, self s with σ k x d 0 n y) (omega (arith, f))) (λ w. rw (other s with σ k x d 0 j w)) (equal-or j k)

  release-free : (k : ℕ) (x : Command) → is_release x ≡ true → (((σ : State) → waits σ x ≡ some 0) × ((u : ℕ) (m : List (Option ℕ)) → posted x u m ≡ m)) × (takes x (stated s with k x) ≡ 0)
  unfolding stated
  release-free k (run t) h = absurd (false≢true h)
  release-free k (send l) h = absurd (false≢true h)
  release-free k (receive l) h = absurd (false≢true h)
  release-free k (release t) h = ((λ σ. refl, λ u m. refl), refl)
  release-free k (discard l) h = ((λ σ. refl, λ u m. refl), refl)

  give-back : (k : ℕ) (r t : List Command) (σ : State) → Each (λ x. is_release x ≡ true) r → length σ.processors ≡ programme_count with
      → drop (processor_of σ k).position (programme_of with k) ≡ r ++ t → (τ : State) × Gone k σ τ t
  give-back k [] t σ h n e = (σ, record { leads = here; many = n; stamps = refl; clock = λ j. refl; rest = e; others = λ j d. refl })
  give-back k (x ∷ r) t σ h n e =
      let d = stated s with k x in
      let f = release-free k x h.0 in
      let a = drop-next (programme_of with k) (processor_of σ k).position x (r ++ t) e in
      let y : next with σ k ≡ some x = next-is σ k x a.0 in
      let m = moved s σ k x d 0 in
      let z = self s with σ k x d 0 n y in
      let g = give-back k r t m h.1 (simp length-set n) (ap (λ (p : Processor). drop p.position (programme_of with k)) z ∙ a.1) in (
        g.0,
        record {
          leads = on k (move_step s with σ k x 0 y (f.0.0 σ)) g.1.leads;
          many = g.1.many;
          stamps = g.1.stamps ∙ f.0.1 ((processor_of σ k).clock + d) σ.stamps;
          clock = λ j. g.1.clock j ∙ same-clock σ k x d n y f.1 j;
          rest = g.1.rest;
          others = λ j w. g.1.others j w ∙ ap (λ (p : Processor). p.position) (other s with σ k x d 0 j w);
        },
      )

  -- σ of the bundle and τ of the same with releases, which has made all releases that are due
  pub record Beside (σ τ : State) : Type 0 where
    pub many : length σ.processors ≡ programme_count b
    pub many' : length τ.processors ≡ programme_count with
    pub stamps : τ.stamps ≡ σ.stamps
    pub clock : (k : ℕ) → (processor_of τ k).clock ≡ (processor_of σ k).clock
    pub rest : (k : ℕ)
        → drop (processor_of τ k).position (programme_of with k) ≡ rest_with (releases_at s (programme_of b k)) (processor_of σ k).position (drop (processor_of σ k).position (programme_of b k))

  waits-same : (σ τ : State) → τ.stamps ≡ σ.stamps → (c : Command) → waits τ c ≡ waits σ c
  unfolding stamp_of
  waits-same σ τ e (run t) = refl
  waits-same σ τ e (send l) = refl
  waits-same σ τ e (receive l) = ap (λ (m : List (Option ℕ)). get_or m l none) e
  waits-same σ τ e (release t) = refl
  waits-same σ τ e (discard l) = refl

  module _ (plain : (k : ℕ) → Each Plain (programme_of b k)) where
    beside-moved : (σ τ : State) (k : ℕ) (c : Command) (w : ℕ) → Beside σ τ → next b σ k ≡ some c → waits σ c ≡ some w
        → (τ' : State) × (Leads s with τ τ' × Beside (moved s σ k c (stated s b k c) w) τ')
    unfolding next
    beside-moved σ τ k c w h e v = (g.0, (on k (move_step s with τ k c w there (waits-same σ τ h.stamps c ∙ v)) g.1.leads, beside))
      where
        p : List Command
        p = programme_of b k

        i : ℕ
        i = (processor_of σ k).position

        d : ℕ
        d = stated s b k c

        d' : ℕ
        d' = stated s with k c

        f : ℕ → List Command
        f = releases_at s (programme_of b k)

        times : d' ≡ d
        times = stated-with k c (each-elem Plain p i c (plain k) e)

        a : (get_elem? (programme_of with k) (processor_of τ k).position ≡ some c) × (drop (suc (processor_of τ k).position) (programme_of with k) ≡ f (suc i) ++ rest_with f (suc i) (drop (suc i) p))
        a = drop-next (programme_of with k) (processor_of τ k).position c (f (suc i) ++ rest_with f (suc i) (drop (suc i) p)) (h.rest k ∙ ap (rest_with f i) (drop_at p i c e))

        there : next with τ k ≡ some c
        there = a.0

        z : processor_of (moved s τ k c d' w) k ≡ after s c d' w (processor_of τ k)
        z = self s with τ k c d' w h.many' there

        y : processor_of (moved s σ k c d w) k ≡ after s c d w (processor_of σ k)
        y = self s b σ k c d w h.many e

        g : (τ' : State) × Gone k (moved s τ k c d' w) τ' (rest_with f (suc i) (drop (suc i) p))
        g =
            give-back k (f (suc i)) (rest_with f (suc i) (drop (suc i) p)) (moved s τ k c d' w) (block-releases s (programme_of b k) (suc i)) (simp length-set h.many')
            (ap (λ (q : Processor). drop q.position (programme_of with k)) z ∙ a.1)

        clocks : (j : ℕ) → (processor_of (moved s τ k c d' w) j).clock ≡ (processor_of (moved s σ k c d w) j).clock
        clocks j =
            ⊎_elim (λ (q : j ≡ k). rw (q, z, y, h.clock k, times))
            (λ q. rw (other s with τ k c d' w j q, other s b σ k c d w j q) (h.clock j)) (equal-or j k)

        rests : (j : ℕ) → drop (processor_of g.0 j).position (programme_of with j)
            ≡ rest_with (releases_at s (programme_of b j)) (processor_of (moved s σ k c d w) j).position (drop (processor_of (moved s σ k c d w) j).position (programme_of b j))
        rests j =
            ⊎_elim (λ (q : j ≡ k). rw (q, y) g.1.rest)
            (λ q. rw (g.1.others j q, other s with τ k c d' w j q, other s b σ k c d w j q) (h.rest j)) (equal-or j k)

        beside : Beside (moved s σ k c d w) g.0
        beside =
            record {
              many = simp length-set h.many;
              many' = g.1.many;
              stamps = g.1.stamps ∙ ap₂ (λ (u : ℕ) (m : List (Option ℕ)). posted c u m) (ap₂ ◌+◌ (h.clock k) times) h.stamps;
              clock = λ j. g.1.clock j ∙ clocks j;
              rest = rests;
            }

    pub beside-leads : {σ φ τ : State} → Leads s b σ φ → Beside σ τ → (ψ : State) × (Leads s with τ ψ × Beside φ ψ)
    beside-leads {σ} {φ} {τ} here h = (τ, (here, h))
    beside-leads {σ} {φ} {τ} (on {τ = ρ} k e r) h =
        let m = step_move s b σ k ρ e in
        let x = beside-moved σ τ k m.c m.w h m.comes m.waited in
        let y = beside-leads r (subst (λ (q : State). Beside q x.0) (sym m.here) x.1.1) in
        (y.0, (leads-on s with x.1.0 y.1.0, y.1.1))

  -- the fresh states
  pub beside-fresh : Beside (fresh_state s b) (fresh_state s with)
  beside-fresh =
      record {
        many = length-replicate _ _;
        many' = length-replicate _ _;
        stamps = refl;
        clock = λ k. rw (fresh-processor s with k, fresh-processor s b k);
        rest = λ k. rw (fresh-processor s with k, fresh-processor s b k) (programme-with k ∙ released-rest s (programme_of b k));
      }

  -- nothing is left of one where nothing is left of the other, at the same time
  pub beside-left : {σ τ : State} → Beside σ τ → left b σ each ≡ 0 → left with τ each ≡ 0
  unfolding left left_of weigh
  beside-left {σ} {τ} h z =
      sum_zeros (programme_count with) (left_of with τ each)
      (λ k l. rw (h.rest k, nothing_left (drop (processor_of σ k).position (programme_of b k)) (ended s b σ z each k)))

  pub beside-latest : {σ τ : State} → Beside σ τ → latest τ ≡ latest σ
  unfolding latest clock_of
  beside-latest {σ} {τ} h = rw (h.many', count-with, h.many) (greatest-cong (programme_count b) (clock_of τ) (clock_of σ) (λ k l. h.clock k))
