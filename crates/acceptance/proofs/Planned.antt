-- Every plan is accepted: run block by block in placing order, its bundle keeps the schedule's times.
use Prim.Native.Nat.{ℕ, ◌+◌, ◌≤◌, ◌<◌}
use native.Mathlib.Omega.{arith}
use mathlib.Core.Bool.{Bool, true, false, not, true≢false}
use mathlib.Core.Option.{Option, none, some}
use mathlib.Core.Path.{◌≡◌, refl, sym, ap, ap₂, ◌∙◌, subst}
use mathlib.Core.Logic.{inr, ⊎_elim}
use mathlib.Core.List.{List, [], ◌∷◌, ◌++◌, append_assoc}
use lib.ListN.{length, get_or, drop, length-replicate}
use lib.Dec.{eqb}
use borrow.Author.Tests.{eqb-true, eqb-false, eq-eqb, ne_eqb, not-true, lt-ltb}
use Rattle.folds.specs.Folds.{gather}
use Rattle.folds.specs.Answers.{value}
use Rattle.folds.proofs.Tests.{equal-or, both-parts, parts-both}
use Rattle.folds.proofs.Laws.{sum_zeros, greatest-cong}
use Rattle.sheet.specs.Sheet.{Sheet, link_count, task_count, source_of, target_of, work_of}
use Rattle.sheet.specs.Hops.{link_time}
use Rattle.graph.proofs.Forms.{Sized}
use Rattle.graph.proofs.Proper.{Proper}
use Rattle.bundle.specs.Bundle.{Command, run, Bundle, programme_count, programme_of}
use Rattle.bundle.specs.Fits.{Fits}
use Rattle.admission.specs.Counting.{weigh, each}
use Rattle.admission.specs.Messages.{home}
use Rattle.machine.specs.Machine.{State, fresh_state, processor_of, stamp_of, travels, stated, moved}
use Rattle.machine.specs.Runs.{left_of, left, clock_of, latest}
use Rattle.machine.proofs.Runs.{Leads, here, leads-on, fresh-processor}
use Rattle.checker.specs.Checker.{checked}
use Rattle.checker.proofs.Accepted.{accepted}
use Rattle.planner.specs.Schedule.{Schedule, nowhere, empty, place_of, finish_of, placed, stands}
use Rattle.planner.specs.Placing.{reach_on, end_of, start_on}
use Rattle.planner.specs.Planner.{brings, takes_away, receive_of, send_of, block_of, blocks, claim_of, bundle_of, planned_by}
use Rattle.planner.proofs.Ready.{ready-source}
use Rattle.planner.proofs.Schedules.{Fair, place, Placing, Built, built, placing, plan-of, Whole, on_same, finish-same, finish-other, placed_same, placed-other, fair-place, empty-free, empty-fair, planned-build}
use Rattle.planner.proofs.Times.{end_same, end-other, starts, empty-end, claim-end}
use Rattle.acceptance.proofs.Written.{plan, programmes, programme-is, home_of, published, few, within, fits}
use Rattle.acceptance.proofs.Running.{Did, did-one, did_at, receive_all, Sent, send-all}

module _ (s : Sheet) (proper : Proper s) (φ : Schedule) (b : Bundle) (homes : (u : ℕ) → u < task_count s → home b (run u) ≡ place_of φ u) where
  -- when the message of l is where its target stands
  abbrev comes_at : Schedule → ℕ → ℕ
  comes_at σ l = finish_of σ (source_of s l) + link_time s l (place_of φ (source_of s l)) (place_of φ (target_of s l))

  -- m is the state after the blocks of the tasks placed on σ, and before those of ts
  record At (σ : Schedule) (ts : List ℕ) (m : State) : Type 0 where
    processors : length m.processors ≡ programme_count b
    stamps : length m.stamps ≡ link_count s
    rests : (k : ℕ) → k < φ.opened → drop (processor_of m k).position (programme_of b k) ≡ blocks s φ k ts
    clock : (k : ℕ) → k < φ.opened → (processor_of m k).clock ≡ end_of s σ k
    stamp : (l : ℕ) → l < link_count s → placed σ (source_of s l) ≡ true → stands φ (target_of s l) (place_of φ (source_of s l)) ≡ false → stamp_of m l ≡ some (comes_at σ l)

  -- steps lead from m to such a state
  abbrev Reached : State → Schedule → List ℕ → Type 0
  Reached m σ ts = (o : State) × Leads s b m o × At σ ts o

  and-on : {m : State} {σ τ : Schedule} {ts us : List ℕ} → Reached m σ ts → ((o : State) → At σ ts o → Reached o τ us) → Reached m τ us
  and-on a f = let z = f a.0 a.2 in (z.0, leads-on s b a.1 z.1, z.2)

  -- the block of t, placed on k
  module _
      {σ : Schedule} (fair : Fair s σ) {t k : ℕ} (p : Placing s σ t k) {ts : List ℕ} {m : State} (at : At σ (t ∷ ts) m)
      (opened : φ.opened ≤ s.processors) (mine : k < φ.opened) (at-k : place_of φ t ≡ k) (same : (u : ℕ) → placed σ u ≡ true → place_of φ u ≡ place_of σ u) where
    abbrev τ : Schedule
    τ = place s σ t k

    -- when t ends
    abbrev end : ℕ
    end = start_on s σ t k + work_of s t

    brought : (l : ℕ) → l < link_count s → brings s φ k t l ≡ true → stamp_of m l ≡ some (reach_on s σ k l)
    unfolding brings stands
    brought l h x =
        let c = both-parts (eqb (target_of s l) t) (not (stands φ (source_of s l) k)) x in
        let q = eqb-true (target_of s l) t c.0 in
        let w = ready-source s σ t l p.is_ready h q in
        at.stamp l h w
        (ne_eqb (place_of φ (target_of s l)) (place_of φ (source_of s l)) (λ r. eqb-false (place_of φ (source_of s l)) k (not-true (stands φ (source_of s l) k) c.1) (sym r ∙ ap (place_of φ) q ∙ at-k))) ∙
        ap₂ (λ (i j : ℕ). some (finish_of σ (source_of s l) + link_time s l i j)) (same (source_of s l) w) (ap (place_of φ) q ∙ at-k)

    abbrev tail : List Command
    tail = gather (link_count s) (send_of s φ k t) ++ blocks s φ k ts

    begun : Did s b k m m (gather (link_count s) (receive_of s φ k t) ++ (run t ∷ tail)) (end_of s σ k)
    unfolding blocks block_of stands
    begun =
        record {
          leads = here;
          processors = at.processors;
          stamps = at.stamps;
          others = λ j d. refl;
          rests =
              at.rests k mine ∙
              rw (eq-eqb (place_of φ t) k at-k) (append_assoc (gather (link_count s) (receive_of s φ k t)) (run t ∷ gather (link_count s) (send_of s φ k t)) (blocks s φ k ts));
          clock = at.clock k mine;
        }

    -- its receives, its run and its sends
    received : (o : State) × Did s b k m o (run t ∷ tail) (start_on s σ t k) × (o.stamps ≡ m.stamps)
    unfolding receive_of
    received =
        let r = receive_all s b (brings s φ k t) (reach_on s σ k) (link_count s) (run t ∷ tail) brought begun in
        (r.0, did_at s b refl (starts s proper fair p φ same) r.1, r.2)

    ran : (o : State) × Did s b k m o tail end × (o.stamps ≡ m.stamps)
    unfolding stated
    ran = let r = received in (moved s r.0 k (run t) (stated s b k (run t)) 0, did_at s b refl (omega arith) (did-one s b (run t) 0 r.1 refl), r.2)

    sent : (o : State) × Did s b k m o (blocks s φ k ts) end × Sent s b (takes_away s φ k t) k (link_count s) end m o
    unfolding send_of stamp_of
    sent =
        let r = ran in
        let a = send-all s b (takes_away s φ k t) (link_count s) (blocks s φ k ts) (omega arith) r.1 in (
          a.0,
          a.1,
          record { stamped = a.2.stamped; unstamped = λ l x. a.2.unstamped l x ∙ ap (λ (w : List (Option ℕ)). get_or w l none) r.2 },
        )

    stamped : (l : ℕ) → l < link_count s → placed τ (source_of s l) ≡ true → stands φ (target_of s l) (place_of φ (source_of s l)) ≡ false → stamp_of sent.0 l ≡ some (comes_at τ l)
    unfolding takes_away travels
    stamped l h x y =
        ⊎_elim
        (λ q. sent.2.stamped l h
        (parts-both (eqb (source_of s l) t) (not (stands φ (target_of s l) k)) (eq-eqb (source_of s l) t q) (ap not (subst (λ z. stands φ (target_of s l) z ≡ false) (ap (place_of φ) q ∙ at-k) y))) ∙
        cc (ap (finish_of τ) q ∙ finish-same s proper fair p, ap (place_of φ) q ∙ at-k, homes (target_of s l) (proper.form.target l h)))
        (λ d. sent.2.unstamped l (inr (rw (ne_eqb (source_of s l) t d))) ∙ at.stamp l h (sym (placed-other σ t k _ _ (source_of s l) d) ∙ x) y ∙
        ap (λ c. some (c + link_time s l (place_of φ (source_of s l)) (place_of φ (target_of s l)))) (sym (finish-other σ t k _ _ (source_of s l) d)))
        (equal-or (source_of s l) t)

    after_block : Reached m τ ts
    unfolding blocks stands
    after_block =
        let r = sent in (
          r.0,
          r.1.leads,
          record {
            processors = r.1.processors;
            stamps = r.1.stamps;
            rests = λ j h. ⊎_elim (λ q. rw q r.1.rests) (λ d. rw (r.1.others j d) (at.rests j h ∙ rw (ne_eqb (place_of φ t) j (λ q. d (sym q ∙ at-k))))) (equal-or j k);
            clock =
                λ j h. ⊎_elim (λ q. rw q (r.1.clock ∙ sym (end_same s proper fair p)))
                (λ d. rw (r.1.others j d) (at.clock j h ∙ sym (end-other s proper fair p j (omega (arith, proper.form.board_few)) d))) (equal-or j k);
            stamp = stamped;
          },
        )

  -- all blocks, one after the other
  runs : {σ : Schedule} {ts : List ℕ} → Built s σ φ ts → Fair s σ → (m : State) → At σ ts m → Reached m φ []
  unfolding placed
  runs built f m at = (m, here, at)
  runs (placing {t = t} {k = k} p n) f m at =
      let f' = fair-place s proper f p in
      let i = plan-of s proper f' n in
      let home : place_of φ t ≡ k = i.on t (placed_same s proper f p) ∙ on_same s proper f p in
      let mine = i.fair.home t (rw home (lt-ltb k nowhere (omega (arith, p.room.board, proper.form.board_few)))) in
      and-on (after_block f p at i.fair.opened (omega (arith, home, mine)) home (plan-of s proper f (placing p n)).on) (λ o x. runs n f' o x)

module _ (s : Sheet) (proper : Proper s) {φ : Schedule} {ts : List ℕ} (how : Built s (empty s) φ ts) (complete : Whole s φ) where
  fresh_at : At s proper φ (bundle_of s φ) (home_of s proper how complete) (empty s) ts (fresh_state s (bundle_of s φ))
  fresh_at =
      record {
        processors = length-replicate _ _;
        stamps = length-replicate _ _;
        rests = λ k h. rw (fresh-processor s (bundle_of s φ) k) (programme-is s proper how complete k h);
        clock = λ k h. rw (fresh-processor s (bundle_of s φ) k) (sym (empty-end s proper k (omega (arith, few s proper how complete))));
        stamp = λ l h x. absurd (true≢false (sym x ∙ empty-free s proper (source_of s l)));
      }

  -- where all blocks are done nothing is left, and the latest clock is the claim
  module _ (o : State) (at : At s proper φ (bundle_of s φ) (home_of s proper how complete) φ [] o) where
    over : left (bundle_of s φ) o each ≡ 0
    unfolding left left_of blocks weigh
    over =
        sum_zeros (programme_count (bundle_of s φ)) (left_of (bundle_of s φ) o each)
        (λ k h. ap (weigh each) (at.rests k (omega (arith, programmes s proper how complete))))

    claimed : latest o ≡ claim_of s φ
    unfolding latest clock_of
    claimed =
        rw (at.processors ∙ programmes s proper how complete)
        (greatest-cong φ.opened (clock_of o) (end_of s φ) (λ k h. at.clock k h) ∙ claim-end s proper (plan s proper how complete).fair complete)

  pub accept : checked s (bundle_of s φ) ≡ value (bundle_of s φ)
  unfolding bundle_of
  accept =
      let b = bundle_of s φ in
      let r = runs s proper φ b (home_of s proper how complete) how (empty-fair s proper) (fresh_state s b) fresh_at in
      accepted s b (record { published = published s proper how complete; within = within s proper how complete; end = r.0; leads = r.1; over = over r.0 r.2; claimed = claimed r.0 r.2 })

-- a bundle that the planner writes is accepted, and its bytes can hold it
pub plan-accepted : (s : Sheet) → Proper s → Sized s → (guard : Schedule → ℕ → ℕ → Bool) (amended : Bool) (φ : Schedule) → planned_by s guard amended ≡ value φ
    → (checked s (bundle_of s φ) ≡ value (bundle_of s φ)) × Fits s (bundle_of s φ)
plan-accepted s proper sized guard amended φ e = let r = planned-build s proper guard amended φ e in (accept s proper r.1 r.2, fits s proper r.1 r.2 sized)
