-- The bundle of a plan: 26, 31 to 33, 37 and 28 do not apply to it, and its bytes can hold it.
use Prim.Native.Nat.{ℕ, ◌+◌, ◌*◌, ◌≤◌, ◌<◌}
use native.Mathlib.Omega.{arith}
use mathlib.Core.Bool.{Bool, true, false, not, false≢true}
use mathlib.Core.Path.{◌≡◌, refl, sym, ap, ◌∙◌, subst}
use mathlib.Core.Logic.{◌≢◌, ⊎_elim}
use mathlib.Core.List.{List, [], ◌∷◌}
use lib.Dec.{eqb}
use borrow.Author.Tests.{eq-eqb, ne_eqb}
use Rattle.folds.specs.Folds.{pick, bit, sum, gather}
use Rattle.folds.proofs.Tests.{equal-or, parts-both}
use Rattle.folds.proofs.Laws.{sum-cong, greatest-le, none_first}
use Rattle.folds.proofs.Lists.{length-listed, get_or-listed}
use Rattle.sheet.specs.Sheet.{Sheet, task_count, link_count, source_of, target_of}
use Rattle.graph.proofs.Forms.{Sized}
use Rattle.graph.proofs.Proper.{Proper}
use Rattle.bundle.specs.Bundle.{Command, run, send, receive, Bundle, programme_count, programme_of}
use Rattle.bundle.specs.Fits.{Known, Each, Fits}
use Rattle.bundle.proofs.Parts.{each_append}
use Rattle.bundle.proofs.Each.{each-gather, each-listed, each_map, each-one}
use Rattle.admission.specs.Counting.{weigh, whole_of, whole, is, need, in_use}
use Rattle.admission.specs.Releases.{is_release}
use Rattle.admission.specs.Messages.{not_once, home, before, at26, Published}
use Rattle.admission.specs.Unsplit.{inside_ok, across_ok, link_ok}
use Rattle.admission.proofs.Splits.{right-links}
use Rattle.admission.proofs.Weights.{programme-or}
use Rattle.admission.proofs.Walking.{each-elem}
use Rattle.admission.proofs.Rights.{right-all}
use Rattle.admission.proofs.Stores.{use-le}
use Rattle.admission.proofs.Messages.{home-is}
use Rattle.planner.specs.Schedule.{Schedule, latest_finish, nowhere, empty, place_of, finish_of, stands}
use Rattle.planner.specs.Placing.{store_by, bytes_by, store_on}
use Rattle.planner.specs.Planner.{brings, takes_away, receive_of, send_of, block_of, blocks, programme, claim_of, bundle_of}
use Rattle.planner.proofs.Schedules.{Built, built, placing, tally, Plan, plan-of, Whole, empty-free, empty-fair}
use Rattle.planner.proofs.Finishes.{finish-small}
use Rattle.acceptance.proofs.Blocks.{total, sum-blocks, total-run, total-send, total-receive, need-blocks, send-in-order, receive-in-order, blocks-run, run-in-order}

each_below : {s : Sheet} {σ φ : Schedule} {ts : List ℕ} → Built s σ φ ts → Each (λ u. u < task_count s) ts
each_below built = tt
each_below (placing p n) = (p.below, each_below n)

module _ (s : Sheet) (proper : Proper s) {φ : Schedule} {ts : List ℕ} (how : Built s (empty s) φ ts) (complete : Whole s φ) where
  abbrev b : Bundle
  b = bundle_of s φ

  pub plan : Plan s (empty s) φ ts
  plan = plan-of s proper (empty-fair s proper) how

  at_home : (u : ℕ) → u < task_count s → place_of φ u < φ.opened
  at_home u h = plan.fair.home u (complete u h)

  once : (u : ℕ) → u < task_count s → tally u ts ≡ 1
  once u h = omega (arith, plan.once u, ap bit (empty-free s proper u), ap bit (complete u h))

  pub programmes : programme_count b ≡ φ.opened
  unfolding programme_count bundle_of
  programmes = length-listed φ.opened (programme s φ)

  pub programme-is : (k : ℕ) → k < φ.opened → programme_of b k ≡ blocks s φ k ts
  unfolding programme_of bundle_of programme
  programme-is k h = get_or-listed φ.opened (programme s φ) k [] h ∙ ap (blocks s φ k) plan.order

  whole_is : (f : Command → ℕ) → whole b f ≡ total s φ f ts
  unfolding whole whole_of
  whole_is f =
      ap (λ n. sum n (whole_of b f)) programmes ∙
      sum-cong φ.opened (whole_of b f) (λ k. weigh f (blocks s φ k ts)) (λ k h. ap (weigh f) (programme-is k h)) ∙
      sum-blocks s φ f φ.opened ts (each_map (λ u. u < task_count s) (λ u. place_of φ u < φ.opened) at_home ts (each_below how))

  run-once : (u : ℕ) → u < task_count s → whole b (is (run u)) ≡ 1
  run-once u h = whole_is (is (run u)) ∙ total-run s φ u ts ∙ once u h

  -- where its programme stands
  pub home_of : (u : ℕ) → u < task_count s → home b (run u) ≡ place_of φ u
  unfolding whole_of
  home_of u h =
      home-is b (run u) (place_of φ u) (omega (arith, programmes, at_home u h)) (omega (arith, run-once u h))
      (omega (arith, ap (weigh (is (run u))) (programme-is (place_of φ u) (at_home u h)), blocks-run s φ u ts, once u h))

  module _ (l : ℕ) (h : l < link_count s) where
    abbrev src : ℕ
    src = source_of s l

    abbrev tgt : ℕ
    tgt = target_of s l

    -- the processors of its two tasks
    abbrev from : ℕ
    from = place_of φ src

    abbrev to : ℕ
    to = place_of φ tgt

    sent : (x : Bool) → stands φ tgt from ≡ x → whole b (is (send l)) ≡ bit (not x)
    sent x e = whole_is (is (send l)) ∙ total-send s φ l h ts ∙ rw (e, once src (proper.form.source l h))

    got : (x : Bool) → stands φ src to ≡ x → whole b (is (receive l)) ≡ bit (not x)
    got x e = whole_is (is (receive l)) ∙ total-receive s φ l h ts ∙ rw (e, once tgt (proper.form.target l h))

    inside-ok : from ≡ to → inside_ok s b l to ≡ true
    unfolding inside_ok stands
    inside-ok q =
        parts-both (eqb (whole b (is (send l)) + whole b (is (receive l))) 0) _
        (eq-eqb (whole b (is (send l)) + whole b (is (receive l))) 0 (omega (arith, sent true (eq-eqb to from (sym q)), got true (eq-eqb from to q))))
        (rw (programme-is to (at_home tgt (proper.form.target l h)))
        (run-in-order s φ proper how (empty-fair s proper) l h (empty-free s proper src) (empty-free s proper tgt) (complete tgt (proper.form.target l h)) q))

    across-ok : from ≢ to → across_ok s b l from to ≡ true
    unfolding across_ok stands
    across-ok d =
        let x = ne_eqb to from (λ q. d (sym q)) in
        let y = ne_eqb from to d in
        parts-both (eqb (whole b (is (send l))) 1) _ (eq-eqb _ 1 (sent false x))
        (parts-both (eqb (whole b (is (receive l))) 1) _ (eq-eqb _ 1 (got false y))
        (parts-both (before (run src) (send l) (programme_of b from)) _
        (rw (programme-is from (at_home src (proper.form.source l h))) (send-in-order s φ l h x ts (omega (arith, once src (proper.form.source l h)))))
        (rw (programme-is to (at_home tgt (proper.form.target l h))) (receive-in-order s φ l h y ts (omega (arith, once tgt (proper.form.target l h)))))))

    link-ok : link_ok s b l (home b (run src)) (home b (run tgt)) ≡ true
    link-ok =
        rw (home_of src (proper.form.source l h), home_of tgt (proper.form.target l h))
        (⊎_elim (λ q. rw (eq-eqb from to q) (inside-ok q)) (λ d. rw (ne_eqb from to d) (across-ok d)) (equal-or from to))

  -- no command of it is a release
  plain-block : (k t : ℕ) → Each (λ d. is_release d ≡ false) (block_of s φ k t)
  unfolding block_of receive_of send_of
  plain-block k t =
      each_append (λ d. is_release d ≡ false) (gather (link_count s) (receive_of s φ k t)) (run t ∷ gather (link_count s) (send_of s φ k t))
      (each-gather (λ d. is_release d ≡ false) (link_count s) (receive_of s φ k t) (λ l m. each-one (λ d. is_release d ≡ false) (brings s φ k t l) (receive l) refl))
      (refl, each-gather (λ d. is_release d ≡ false) (link_count s) (send_of s φ k t) (λ l m. each-one (λ d. is_release d ≡ false) (takes_away s φ k t l) (send l) refl))

  plain-blocks : (k : ℕ) (us : List ℕ) → Each (λ d. is_release d ≡ false) (blocks s φ k us)
  unfolding blocks
  plain-blocks k [] = tt
  plain-blocks k (u ∷ us) = each_append (λ d. is_release d ≡ false) (pick (stands φ u k) (block_of s φ k u) []) (blocks s φ k us) (go (stands φ u k)) (plain-blocks k us)
    where
      go : (x : Bool) → Each (λ d. is_release d ≡ false) (pick x (block_of s φ k u) [])
      go true = plain-block k u
      go false = tt

  plain : (k : ℕ) → Each (λ d. is_release d ≡ false) (programme_of b k)
  plain k = ⊎_elim (λ h. rw (programme-is k (omega (arith, programmes))) (plain-blocks k ts)) (λ q. rw q tt) (programme-or b k)

  pub published : Published s b
  unfolding at26 not_once
  published =
      record {
        once = none_first (task_count s) (not_once b) (λ t h. ap not (eq-eqb (whole b (is (run t))) 1 (run-once t h)));
        messages = right-links s b link-ok;
        releases = right-all s b (λ k i c e f. absurd (false≢true (sym (each-elem (λ d. is_release d ≡ false) (programme_of b k) i c (plain k) e) ∙ f)));
      }

  store_is : (k : ℕ) → k < φ.opened → whole_of b (need s) k ≡ store_on s φ k
  unfolding whole_of store_on
  store_is k h =
      ap (weigh (need s)) (programme-is k h) ∙ need-blocks s φ k ts (each_below how) ∙
      omega (
        arith,
        sum-cong (task_count s) (λ u. tally u ts * store_by s φ k u) (store_by s φ k) (λ u l. rw (once u l) (omega arith)),
        sum-cong (link_count s) (λ l. tally (target_of s l) ts * bytes_by s φ k l) (bytes_by s φ k) (λ l m. rw (once (target_of s l) (proper.form.target l m)) (omega arith)),
      )

  pub few : φ.opened ≤ nowhere
  few = omega (arith, proper.form.board_few, plan.fair.opened)

  needs-within : (k : ℕ) → weigh (need s) (programme_of b k) ≤ s.limit
  unfolding whole_of weigh
  needs-within k =
      ⊎_elim
      (λ h.
      let m : k < φ.opened = omega (arith, programmes) in
      omega (arith, store_is k m, plan.fair.fit k (omega (arith, few))))
      (λ q. rw q (omega arith)) (programme-or b k)

  pub within : (k i : ℕ) → in_use s (programme_of b k) i ≤ s.limit
  within k i = omega (arith, use-le s (programme_of b k) i, needs-within k)

  -- its numbers
  known-block : (k t : ℕ) → t < task_count s → Each (Known s) (block_of s φ k t)
  unfolding block_of receive_of send_of
  known-block k t h =
      each_append (Known s) (gather (link_count s) (receive_of s φ k t)) (run t ∷ gather (link_count s) (send_of s φ k t))
      (each-gather (Known s) (link_count s) (receive_of s φ k t) (λ l m. each-one (Known s) (brings s φ k t l) (receive l) m))
      (h, each-gather (Known s) (link_count s) (send_of s φ k t) (λ l m. each-one (Known s) (takes_away s φ k t l) (send l) m))

  known-blocks : (k : ℕ) (us : List ℕ) → Each (λ u. u < task_count s) us → Each (Known s) (blocks s φ k us)
  unfolding blocks
  known-blocks k [] h = tt
  known-blocks k (u ∷ us) h = each_append (Known s) (pick (stands φ u k) (block_of s φ k u) []) (blocks s φ k us) (go (stands φ u k)) (known-blocks k us h.1)
    where
      go : (x : Bool) → Each (Known s) (pick x (block_of s φ k u) [])
      go true = known-block k u h.0
      go false = tt

  pub fits : Sized s → Fits s b
  unfolding programme_count bundle_of programme claim_of
  fits sized =
      record {
        formed =
            record {
              busy = λ some. omega (arith, programmes, plan.fair.home 0 (complete 0 some));
              few = omega (arith, programmes, plan.fair.opened);
              known = each-listed (Each (Known s)) φ.opened (programme s φ) (λ k h. subst (λ o. Each (Known s) (blocks s φ k o)) (sym plan.order) (known-blocks k ts (each_below how)));
            };
        claimed = omega (arith, greatest-le (task_count s) (finish_of φ) latest_finish (λ u l. finish-small s proper sized how u));
      }
