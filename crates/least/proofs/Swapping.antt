-- Two neighbouring programmes change places: on a sheet without `48` the bundle stays accepted and claims the same.
use Prim.Native.Nat.{ℕ, zero, suc, ◌+◌, ◌<◌}
use native.Mathlib.Omega.{arith}
use mathlib.Core.Bool.{false}
use mathlib.Core.Option.{Option, none, some}
use mathlib.Core.Path.{◌≡◌, refl, sym, ap, ap₂, ◌∙◌, subst}
use mathlib.Core.Logic.{⊎_elim}
use mathlib.Core.List.{List, [], ◌∷◌, ◌++◌}
use lib.ListN.{length, get_or, length-append, length-set, length-replicate}
use borrow.Author.Tests.{eq-eqb, ne_eqb}
use Rattle.folds.proofs.Tests.{equal-or}
use Rattle.folds.proofs.Laws.{first-none, none_first, sum_zeros, greatest-le, term-le-greatest}
use Rattle.sheet.specs.Sheet.{Sheet, task_count, source_of, target_of}
use Rattle.sheet.proofs.Hopping.{flat-time}
use Rattle.graph.proofs.Proper.{Proper}
use Rattle.bundle.specs.Bundle.{Command, run, send, receive, release, discard, Bundle, programme_count, programme_of}
use Rattle.admission.specs.Counting.{whole_of, whole, each, is}
use Rattle.admission.specs.Messages.{not_once, home, at26, Published}
use Rattle.admission.specs.Unsplit.{inside_ok, across_ok, link_ok}
use Rattle.admission.proofs.Splits.{link-right, right-links}
use Rattle.admission.proofs.Rights.{Right, all_right, right-all}
use Rattle.machine.specs.Machine.{State, Processor, fresh_state, processor_of, stamp_of, next, waits, travels, stated, after, posted, moved, step}
use Rattle.machine.specs.Runs.{left_of, left, clock_of, latest}
use Rattle.machine.proofs.Steps.{step_move, move_step, other, self}
use Rattle.machine.proofs.Runs.{Leads, here, on, fresh-processor, ended}
use Rattle.checker.proofs.Accepted.{Passes}
use Rattle.least.proofs.Standing.{once, home-stands, at_home}
use Rattle.least.proofs.Arranging.{weigh_all, whole-list}

-- i and i + 1 change places
abbrev pub turn : ℕ → ℕ → ℕ
turn zero zero = 1
turn zero (suc zero) = 0
turn zero (suc (suc j)) = suc (suc j)
turn (suc i) zero = 0
turn (suc i) (suc j) = suc (turn i j)

turn-back : (i j : ℕ) → turn i (turn i j) ≡ j
turn-back zero zero = refl
turn-back zero (suc zero) = refl
turn-back zero (suc (suc j)) = refl
turn-back (suc i) zero = refl
turn-back (suc i) (suc j) = ap suc (turn-back i j)

turn_one : (i j k : ℕ) → turn i j ≡ turn i k → j ≡ k
turn_one i j k e = sym (turn-back i j) ∙ ap (turn i) e ∙ turn-back i k

turn_below : (i n j : ℕ) → suc i < n → j < n → turn i j < n
turn_below zero n zero h l = h
turn_below zero n (suc zero) h l = omega arith
turn_below zero n (suc (suc j)) h l = l
turn_below (suc i) n zero h l = omega arith
turn_below (suc i) zero (suc j) h l = omega arith
turn_below (suc i) (suc n) (suc j) h l = omega (arith, turn_below i n j (omega arith) (omega arith))

module _ {A : Type 0} (d : A) where
  get-turned : (xs : List A) (x y : A) (zs : List A) (k : ℕ) → get_or (xs ++ y ∷ x ∷ zs) (turn (length xs) k) d ≡ get_or (xs ++ x ∷ y ∷ zs) k d
  get-turned [] x y zs zero = refl
  get-turned [] x y zs (suc zero) = refl
  get-turned [] x y zs (suc (suc k)) = refl
  get-turned (w ∷ xs) x y zs zero = refl
  get-turned (w ∷ xs) x y zs (suc k) = get-turned xs x y zs k

weigh_all-append : (s : Sheet) (f : Command → ℕ) (xs ys : List (List Command)) → weigh_all s f (xs ++ ys) ≡ weigh_all s f xs + weigh_all s f ys
weigh_all-append s f [] ys = omega arith
weigh_all-append s f (x ∷ xs) ys = omega (arith, weigh_all-append s f xs ys)

module _ (s : Sheet) (proper : Proper s) (xs : List (List Command)) (p q : List Command) (zs : List (List Command)) (claim : ℕ) where
  abbrev pub b : Bundle
  b = record { programmes = xs ++ p ∷ q ∷ zs; claim = claim }

  abbrev pub c : Bundle
  c = record { programmes = xs ++ q ∷ p ∷ zs; claim = claim }

  abbrev i : ℕ
  i = length xs

  abbrev π : ℕ → ℕ
  π = turn i

  many : programme_count c ≡ programme_count b
  unfolding programme_count
  many = omega (arith, length-append xs (q ∷ p ∷ zs), length-append xs (p ∷ q ∷ zs))

  room : suc i < programme_count b
  unfolding programme_count
  room = omega (arith, length-append xs (p ∷ q ∷ zs))

  programme-turned : (k : ℕ) → programme_of c (π k) ≡ programme_of b k
  unfolding programme_of
  programme-turned k = get-turned [] xs p q zs k

  turned-programme : (k : ℕ) → programme_of c k ≡ programme_of b (π k)
  turned-programme k = ap (programme_of c) (sym (turn-back i k)) ∙ programme-turned (π k)

  whole-turned : (f : Command → ℕ) → whole c f ≡ whole b f
  whole-turned f = omega (arith, whole-list s c f, whole-list s b f, weigh_all-append s f xs (p ∷ q ∷ zs), weigh_all-append s f xs (q ∷ p ∷ zs))

  module _ (flat : s.cube ≡ false) (passes : Passes s b) where
    home-turned : (t : ℕ) → t < task_count s → home c (run t) ≡ π (home b (run t))
    unfolding whole_of
    home-turned t h =
        at_home c (run t) (π (home b (run t))) (omega (arith, whole-turned (is (run t)), once s b passes.published t h))
        (rw (programme-turned (home b (run t))) (home-stands b (run t) (omega (arith, once s b passes.published t h))))

    inside-turned : (l k : ℕ) → inside_ok s c l (π k) ≡ inside_ok s b l k
    unfolding inside_ok
    inside-turned l k = rw (whole-turned (is (send l)), whole-turned (is (receive l)), programme-turned k)

    across-turned : (l j k : ℕ) → across_ok s c l (π j) (π k) ≡ across_ok s b l j k
    unfolding across_ok
    across-turned l j k = rw (whole-turned (is (send l)), whole-turned (is (receive l)), programme-turned j, programme-turned k)

    link-turned : (l j k : ℕ) → link_ok s c l (π j) (π k) ≡ link_ok s b l j k
    link-turned l j k =
        ⊎_elim (λ (e : j ≡ k). rw (eq-eqb j k e, eq-eqb (π j) (π k) (ap π e)) (inside-turned l k))
        (λ d. rw (ne_eqb j k d, ne_eqb (π j) (π k) (λ e. d (turn_one i j k e))) (across-turned l j k)) (equal-or j k)

    published-turned : Published s c
    unfolding at26 not_once
    published-turned =
        record {
          once = none_first (task_count s) (not_once c) (λ t h. rw (whole-turned (is (run t))) (first-none (task_count s) (not_once b) passes.published.once t h));
          messages =
              right-links s c
              (λ l h. rw (home-turned (source_of s l) (proper.form.source l h), home-turned (target_of s l) (proper.form.target l h), link-turned l (home b (run (source_of s l))) (home b (run (target_of s l))))
              (link-right s b passes.published.messages l h));
          releases = right-all s c (λ k. subst (Right s) (sym (turned-programme k)) (all_right s b passes.published.releases (π k)));
        }

    -- a command takes the same time: a message its cost, wherever it is sent
    stated-turned : (k : ℕ) (x : Command) → stated s c (π k) x ≡ stated s b k x
    unfolding stated travels
    stated-turned k (run t) = refl
    stated-turned k (send l) = flat-time s l (π k) (home c (run (target_of s l))) flat ∙ sym (flat-time s l k (home b (run (target_of s l))) flat)
    stated-turned k (receive l) = refl
    stated-turned k (release t) = refl
    stated-turned k (discard l) = refl

    -- the same state, with the processors turned
    record Turned (σ τ : State) : Type 0 where
      many-b : length σ.processors ≡ programme_count b
      many-c : length τ.processors ≡ programme_count c
      each-one : (k : ℕ) → processor_of τ (π k) ≡ processor_of σ k
      stamped : τ.stamps ≡ σ.stamps

    step-turned : (σ τ : State) → Turned σ τ → (k : ℕ) (σ' : State) → step s b σ k ≡ some σ' → (τ' : State) × (step s c τ (π k) ≡ some τ') × Turned σ' τ'
    unfolding next stamp_of
    step-turned σ τ t k σ' e =
        let m = step_move s b σ k σ' e in
        let comes : next c τ (π k) ≡ some m.c = rw (programme-turned k, t.each-one k) m.comes in
        let waited : waits τ m.c ≡ some m.w = waits-turned m.c m.w m.waited in
        (moved s τ (π k) m.c (stated s c (π k) m.c) m.w, move_step s c τ (π k) m.c m.w comes waited, subst (λ (x : State). Turned x (moved s τ (π k) m.c (stated s c (π k) m.c) m.w)) (sym m.here) (turned_move m.c m.w m.comes comes))
      where
        waits-turned : (x : Command) (w : ℕ) → waits σ x ≡ some w → waits τ x ≡ some w
        waits-turned (run t') w f = f
        waits-turned (send l) w f = f
        waits-turned (release t') w f = f
        waits-turned (discard l) w f = f
        waits-turned (receive l) w f = ap (λ (z : List (Option ℕ)). get_or z l none) t.stamped ∙ f

        turned_move : (x : Command) (w : ℕ) → next b σ k ≡ some x → next c τ (π k) ≡ some x → Turned (moved s σ k x (stated s b k x) w) (moved s τ (π k) x (stated s c (π k) x) w)
        turned_move x w f g =
            record {
              many-b = simp length-set t.many-b;
              many-c = simp length-set t.many-c;
              each-one =
                  λ j. ⊎_elim
                  (λ (z : j ≡ k). rw z (self s c τ (π k) x _ w t.many-c g ∙ ap₂ (λ (d : ℕ) (p : Processor). after s x d w p) (stated-turned k x) (t.each-one k) ∙ sym (self s b σ k x _ w t.many-b f)))
                  (λ d. other s c τ (π k) x _ w (π j) (λ z. d (turn_one i j k z)) ∙ t.each-one j ∙ sym (other s b σ k x _ w j d)) (equal-or j k);
              stamped = ap₂ (λ (z : ℕ) (y : List (Option ℕ)). posted x z y) (ap₂ (λ (d : ℕ) (y : Processor). y.clock + d) (stated-turned k x) (t.each-one k)) t.stamped;
            }

    leads-turned : {σ σ' : State} → Leads s b σ σ' → (τ : State) → Turned σ τ → (τ' : State) × Leads s c τ τ' × Turned σ' τ'
    leads-turned here τ t = (τ, here, t)
    leads-turned {σ} (on {τ = ρ} k e r) τ t =
        let a = step-turned σ τ t k ρ e in
        let z = leads-turned r a.0 a.2 in
        (z.0, on (π k) a.1 z.1, z.2)

    fresh-turned : Turned (fresh_state s b) (fresh_state s c)
    fresh-turned =
        record {
          many-b = length-replicate _ _;
          many-c = length-replicate _ _;
          each-one = λ k. fresh-processor s c (π k) ∙ sym (fresh-processor s b k);
          stamped = refl;
        }

    latest-turned : (σ τ : State) → Turned σ τ → latest τ ≡ latest σ
    unfolding latest clock_of
    latest-turned σ τ t =
        omega (
          arith,
          greatest-le (length τ.processors) (clock_of τ) (latest σ)
              (λ j h. omega (
                arith,
                ap (λ (y : Processor). y.clock) (ap (processor_of τ) (sym (turn-back i j)) ∙ t.each-one (π j)),
                term-le-greatest (length σ.processors) (clock_of σ) (π j) (omega (arith, t.many-b, turn_below i (programme_count b) j room (omega (arith, t.many-c, many)))),
              )),
          greatest-le (length σ.processors) (clock_of σ) (latest τ)
              (λ j h. omega (
                arith,
                ap (λ (y : Processor). y.clock) (t.each-one j),
                term-le-greatest (length τ.processors) (clock_of τ) (π j) (omega (arith, t.many-c, many, turn_below i (programme_count b) j room (omega (arith, t.many-b)))),
              )),
        )

    pub passes-turned : Passes s c
    unfolding whole_of left left_of
    passes-turned =
        let z = leads-turned passes.leads (fresh_state s c) fresh-turned in
        let τ = z.0 in
        let t = z.2 in
        let σ = passes.end in
        let same : (j : ℕ) → processor_of τ j ≡ processor_of σ (π j) = λ j. ap (processor_of τ) (sym (turn-back i j)) ∙ t.each-one (π j) in
        record {
          published = published-turned;
          within = λ k j. rw (turned-programme k) (passes.within (π k) j);
          end = τ;
          leads = z.1;
          over = sum_zeros (programme_count c) (left_of c τ each) (λ k h. rw (turned-programme k, same k) (ended s b σ passes.over each (π k)));
          claimed = latest-turned σ τ t ∙ passes.claimed;
        }
