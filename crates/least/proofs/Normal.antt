-- The bundle of a schedule is in the written form; so every accepted bundle without releases has one in that form which is accepted, and which claims no more on a sheet without `48` and `55`.
use Prim.Native.Nat.{ℕ, zero, suc, ◌+◌, ◌≤◌, ◌<◌}
use native.Mathlib.Omega.{arith}
use native.Mathlib.Decide.{dec_lt}
use mathlib.Core.Bool.{Bool, true, false, true≢false}
use mathlib.Core.Path.{◌≡◌, refl, sym, ap, ap₂, ◌∙◌}
use mathlib.Core.Logic.{◌≢◌, ⊎_elim}
use mathlib.Core.List.{List, [], ◌∷◌, ◌++◌, append_assoc}
use lib.Dec.{eqb}
use borrow.Author.Tests.{eq-eqb, eqb-true}
use Rattle.folds.specs.Folds.{pick, bit, both, either, listed}
use Rattle.folds.specs.Answers.{value}
use Rattle.folds.proofs.Tests.{equal-or, both_false}
use Rattle.folds.proofs.Lists.{listed-cong, gather_cong}
use Rattle.sheet.specs.Sheet.{Sheet, task_count, link_count, source_of, target_of, work_of}
use Rattle.graph.proofs.Proper.{Proper}
use Rattle.graph.proofs.Forms.{Sized}
use Rattle.bundle.specs.Bundle.{Command, run, Bundle}
use Rattle.bundle.specs.Fits.{Formed, Fits}
use Rattle.bundle.proofs.Each.{each-listed}
use Rattle.checker.specs.Checker.{checked}
use Rattle.checker.proofs.Accepted.{Passes}
use Rattle.planner.specs.Schedule.{Schedule, empty, place_of, placed, stands}
use Rattle.planner.specs.Placing.{start_on}
use Rattle.planner.specs.Planner.{brings, takes_away, receive_of, send_of, block_of, blocks, programme, bundle_of}
use Rattle.planner.proofs.Ready.{ready-free}
use Rattle.planner.proofs.Schedules.{Fair, place, Built, built, placing, tally, plan-of, Whole, on_same, on-other, placed_same, placed-other, fair-place, empty-fair, empty-free}
use Rattle.least.specs.Written.{among, brings_in, takes_in, receive_in, send_in, block_in, blocks_in, programme_in, programmes_in, Busy, Written, NoRelease}
use Rattle.acceptance.proofs.Written.{fits}
use Rattle.acceptance.proofs.Planned.{accept}
use Rattle.least.proofs.Following.{followed-all}
use Rattle.least.proofs.Numbering.{number, numbered, no_gap}

-- the tasks of a list that pass a test
abbrev pub those : (ℕ → Bool) → List ℕ → List ℕ
those p [] = []
those p (u ∷ us) = pick (p u) (u ∷ []) [] ++ those p us

among-those : (p : ℕ → Bool) (u : ℕ) (ts : List ℕ) → among u (those p ts) ≡ both (among u ts) (p u)
unfolding among
among-those p u [] = refl
among-those p u (v ∷ vs) = go (p v) (eqb u v) refl refl (among-those p u vs)
  where
    go : (x y : Bool) → p v ≡ x → eqb u v ≡ y → among u (those p vs) ≡ both (among u vs) (p u) → among u (pick (p v) (v ∷ []) [] ++ those p vs) ≡ both (either (eqb u v) (among u vs)) (p u)
    go true true e f r = rw (e, f, ap p (eqb-true u v f) ∙ e)
    go true false e f r = rw (e, f) r
    go false true e f r = rw (e, f) (r ∙ rw (ap p (eqb-true u v f) ∙ e) (both_false (among u vs)))
    go false false e f r = rw (e, f) r

tally-among : (u : ℕ) (ts : List ℕ) → 0 < tally u ts → among u ts ≡ true
unfolding among
tally-among u [] h = absurd (omega arith)
tally-among u (v ∷ vs) h = go (eqb u v) refl (tally-among u vs)
  where
    go : (x : Bool) → eqb u v ≡ x → (0 < tally u vs → among u vs ≡ true) → either (eqb u v) (among u vs) ≡ true
    go true e r = rw e
    go false e r = rw e (r (omega (arith, ap bit e)))

among-busy : (u : ℕ) (ts : List ℕ) → among u ts ≡ true → Busy ts
unfolding among
among-busy u [] e = absurd (true≢false (sym e))
among-busy u (v ∷ vs) e = omega arith

pub blocks_in-append : (s : Sheet) (ts us vs : List ℕ) → blocks_in s ts (us ++ vs) ≡ blocks_in s ts us ++ blocks_in s ts vs
unfolding blocks_in
blocks_in-append s ts [] vs = refl
blocks_in-append s ts (u ∷ us) vs = ap (λ x. block_in s ts u ++ x) (blocks_in-append s ts us vs) ∙ sym (append_assoc (block_in s ts u) (blocks_in s ts us) (blocks_in s ts vs))

pub programmes_in-append : (s : Sheet) (a c : List (List ℕ)) → programmes_in s (a ++ c) ≡ programmes_in s a ++ programmes_in s c
unfolding programmes_in
programmes_in-append s [] c = refl
programmes_in-append s (ts ∷ a) c = ap {B = List (List Command)} (λ x. programme_in s ts ∷ x) (programmes_in-append s a c)

programmes_in-listed : (s : Sheet) (n : ℕ) (f : ℕ → List ℕ) → programmes_in s (listed n f) ≡ listed n (λ k. programme_in s (f k))
unfolding programmes_in listed
programmes_in-listed s zero f = refl
programmes_in-listed s (suc n) f = programmes_in-append s (listed n f) (f n ∷ []) ∙ ap (λ x. x ++ programme_in s (f n) ∷ []) (programmes_in-listed s n f)

-- every open processor is at most that of a placed task
abbrev Topped : Sheet → Schedule → Type 0
Topped s φ = (j : ℕ) → j < φ.opened → (t : ℕ) × (t < task_count s) × (placed φ t ≡ true) × (j ≤ place_of φ t)

topped : (s : Sheet) → Proper s → {σ φ : Schedule} {ts : List ℕ} → Fair s σ → Built s σ φ ts → Topped s σ → Topped s φ
topped s proper f built h = h
topped s proper {σ} f (placing {t = t} {k = k} p n) h = topped s proper (fair-place s proper f p) n (λ j l. go j l (dec_lt j σ.opened))
  where
    go : (j : ℕ) → j < (place s σ t k).opened → Dec (j < σ.opened) → (u : ℕ) × (u < task_count s) × (placed (place s σ t k) u ≡ true) × (j ≤ place_of (place s σ t k) u)
    go j l (yes m) =
        let z = h j m in
        let d : z.0 ≢ t = λ q. true≢false (sym z.2 ∙ ap (placed σ) q ∙ ready-free s σ t p.is_ready) in
        let a = start_on s σ t k in
        let c = start_on s σ t k + work_of s t in
        (z.0, z.1, placed-other σ t k a c z.0 d ∙ z.2, omega (arith, on-other σ t k a c z.0 d, z.3))
    go j l (no m) = (t, p.below, placed_same s proper f p, omega (arith, on_same s proper f p))

module _ (s : Sheet) (proper : Proper s) {ψ : Schedule} {ts : List ℕ} (how : Built s (empty s) ψ ts) (complete : Whole s ψ) where
  abbrev on-k : ℕ → ℕ → Bool
  on-k k u = stands ψ u k

  -- the tasks of processor k
  abbrev mine : ℕ → List ℕ
  mine k = those (on-k k) ts

  in-mine : (k u : ℕ) → u < task_count s → among u (mine k) ≡ stands ψ u k
  in-mine k u h =
      let plan = plan-of s proper (empty-fair s proper) how in
      among-those (on-k k) u ts ∙ rw (tally-among u ts (omega (arith, plan.once u, ap bit (empty-free s proper u), ap bit (complete u h))))

  block_in_lem : (k t : ℕ) → block_of s ψ k t ≡ block_in s (mine k) t
  unfolding block_of block_in receive_of receive_in send_of send_in brings brings_in takes_away takes_in
  block_in_lem k t =
      ap₂ (λ (x : List Command) (y : List Command). x ++ (run t ∷ y))
      (gather_cong (link_count s) (receive_of s ψ k t) (receive_in s (mine k) t) (λ l h. rw (in-mine k (source_of s l) (proper.form.source l h))))
      (gather_cong (link_count s) (send_of s ψ k t) (send_in s (mine k) t) (λ l h. rw (in-mine k (target_of s l) (proper.form.target l h))))

  blocks-in : (k : ℕ) (us : List ℕ) → blocks s ψ k us ≡ blocks_in s (mine k) (those (on-k k) us)
  unfolding blocks blocks_in
  blocks-in k [] = refl
  blocks-in k (u ∷ us) = go (stands ψ u k) refl (blocks-in k us)
    where
      go : (x : Bool) → stands ψ u k ≡ x → blocks s ψ k us ≡ blocks_in s (mine k) (those (on-k k) us)
          → pick (stands ψ u k) (block_of s ψ k u) [] ++ blocks s ψ k us ≡ blocks_in s (mine k) (pick (stands ψ u k) (u ∷ []) [] ++ those (on-k k) us)
      go true e r = rw e (ap₂ (λ (x : List Command) (y : List Command). x ++ y) (block_in_lem k u) r)
      go false e r = rw e r

  programme-in : (k : ℕ) → programme s ψ k ≡ programme_in s (mine k)
  unfolding programme programme_in
  programme-in k = ap (blocks s ψ k) (plan-of s proper (empty-fair s proper) how).order ∙ blocks-in k ts

  pub written : ((k : ℕ) → k < ψ.opened → (u : ℕ) × (u < task_count s) × (place_of ψ u ≡ k)) → Written s (bundle_of s ψ)
  unfolding bundle_of stands
  written full =
      record {
        tasks = listed ψ.opened mine;
        busy = each-listed Busy ψ.opened mine (λ k h. let z = full k h in among-busy z.0 (mine k) (in-mine k z.0 z.1 ∙ eq-eqb (place_of ψ z.0) k z.2));
        written = listed-cong ψ.opened (programme s ψ) (λ k. programme_in s (mine k)) (λ k h. programme-in k) ∙ sym (programmes_in-listed s ψ.opened mine);
      }

-- a bundle that is accepted: read for s, and passed
pub record Normal (s : Sheet) (b : Bundle) : Type 0 where
  pub bundle : Bundle
  pub form : Written s bundle
  pub accepted : checked s bundle ≡ value bundle
  pub fit : Fits s bundle
  pub sooner : s.cube ≡ false → s.unpacking ≡ 0 → bundle.claim ≤ b.claim

pub normal : (s : Sheet) → Proper s → Sized s → (b : Bundle) → Formed s b → Passes s b → NoRelease b → Normal s b
unfolding bundle_of
normal s proper sized b formed passes plain =
    let z = followed-all s proper b passes.published formed passes.within plain (number s b) (numbered s b passes.published formed) passes.end passes.leads passes.over in
    let ψ = z.0 in
    let how = z.2 in
    let complete = z.3 in
    let top = topped s proper (empty-fair s proper) how (λ j l. absurd (omega arith)) in
    record {
      bundle = bundle_of s ψ;
      form = written s proper how complete (λ k h. full ψ z.5 k (top k h));
      accepted = accept s proper how complete;
      fit = fits s proper how complete sized;
      sooner = λ flat idle. omega (arith, z.4 flat idle, passes.claimed);
    }
  where
    full : (ψ : Schedule) → ((t : ℕ) → t < task_count s → place_of ψ t ≡ number s b t) → (k : ℕ) → (t : ℕ) × (t < task_count s) × (placed ψ t ≡ true) × (k ≤ place_of ψ t)
        → (u : ℕ) × (u < task_count s) × (place_of ψ u ≡ k)
    full ψ on k z =
        ⊎_elim (λ (q : k ≡ place_of ψ z.0). (z.0, z.1, sym q))
        (λ d. let y = no_gap s b z.0 k (omega (arith, on z.0 z.1, z.3)) in (y.0, y.1, on y.0 y.1 ∙ y.2)) (equal-or k (place_of ψ z.0))
