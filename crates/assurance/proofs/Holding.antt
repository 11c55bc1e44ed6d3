-- A bundle with the published messages passes the checker exactly when all that demand 3 says holds after every list of choices, with stated times and with any up to them.
use Prim.Native.Nat.{ℕ, zero, suc, ◌+◌, ◌≤◌, ◌<◌}
use native.Mathlib.Omega.{arith}
use native.Mathlib.Decide.{dec_lt}
use mathlib.Core.Bool.{true}
use mathlib.Core.Option.{some}
use mathlib.Core.Path.{◌≡◌, refl, ap, ◌∙◌, subst}
use mathlib.Core.Logic.{◌⊎◌, inl, inr, ⊎_elim}
use mathlib.Core.List.{List, [], ◌∷◌, map}
use lib.ListN.{length, drop, length-drop}
use Rattle.folds.proofs.Tests.{equal-or}
use Rattle.sheet.specs.Sheet.{Sheet}
use Rattle.bundle.specs.Bundle.{run, Bundle, programme_of}
use Rattle.admission.specs.Counting.{whole, each, is, need, gives, in_use}
use Rattle.admission.specs.Messages.{Published}
use Rattle.admission.proofs.Weights.{weigh-each}
use Rattle.admission.proofs.Rights.{all_right, balance}
use Rattle.admission.proofs.Stores.{use-zero, le-highest, highest-le}
use Rattle.admission.proofs.Messages.{run-once, still-inputs}
use Rattle.machine.specs.Machine.{State, Processor, processor_of, stated, step, can_step}
use Rattle.machine.specs.Runs.{Run, fresh_run, choose, run_from, run_of, Choice, on_time, early_of, done_of, left_of, left, latest}
use Rattle.machine.proofs.Steps.{Sound, can-step, step-can, step_move, other, self, sound-step, step_left}
use Rattle.machine.proofs.Runs.{Leads, here, on, leads-sound, keeps, done-left, ended, ended-all, fresh-left, fresh-sound, fresh-processor}
use Rattle.machine.proofs.Orders.{ended-still, one_end, leads-step, run-leads}
use Rattle.machine.proofs.Near.{near-left, near-done_of, near-done, near-latest}
use Rattle.machine.proofs.Early.{processors, all-on-time, leads-later, alike, near-can, stated-runs, on-time}
use Rattle.checker.proofs.Accepted.{Passes}
use Rattle.assurance.specs.Demand.{OnTime, InTime}

none_or : (n : ℕ) → (n ≡ 0) ⊎ (0 < n)
none_or zero = inl refl
none_or (suc n) = inr (omega arith)

module _ (s : Sheet) (b : Bundle) where
  moves-on : {σ φ : State} → Leads s b σ φ → left b φ each ≡ 0 → 0 < left b σ each → (k : ℕ) × (can_step s b σ k ≡ true)
  moves-on here z l = absurd (omega arith)
  moves-on {σ} (on {τ = τ} k e r) z l = (k, step-can s b σ k τ e)

  module _ (p : Passes s b) where
    Kept : Run → Type 0
    Kept r = Sound s b r.state × (left b r.state each + r.stepped ≡ whole b each) × Leads s b r.state p.end

    kept : (ks : List ℕ) → Kept (run_of s b ks)
    unfolding Kept run_of
    kept ks =
        let sound = fresh-sound s b p.published in
        keeps s b Kept
        (λ r k τ h e. (
          sound-step s b r.state h.0 k τ e,
          omega (arith, step_left s b r.state h.0 k τ e),
          leads-step s b h.2 (ended-still s b p.end (leads-sound s b p.leads sound) p.over) h.0 k τ e,
        ))
        (fresh_run s b) ks (sound, omega (arith, fresh-left s b each), p.leads)

    -- with the stated times, once no command is left
    claimed-at : (ks : List ℕ) → left b (run_of s b ks).state each ≡ 0 → latest (run_of s b ks).state ≡ b.claim
    unfolding Kept
    claimed-at ks z =
        let σ = (run_of s b ks).state in
        let h = kept ks in
        let still = ended-still s b in
        ap latest (one_end s b h.0 here (still σ h.0 z) h.2 (still p.end (leads-sound s b h.2 h.0) p.over)) ∙ p.claimed

    pub holding : (cs : List Choice) → InTime s b cs (early_of s b cs)
    unfolding Kept done_of
    holding cs =
        let ks = processors cs in
        let σ = (run_of s b ks).state in
        let a = alike s b cs in
        let n = a.near in
        let h = kept ks in
        let lefts = near-left s b n in
        let dones = near-done s b n in
        record {
          holds =
              record {
                count = omega (arith, h.1, lefts each, a.many);
                moves = λ l. let m = moves-on h.2 p.over (omega (arith, lefts each)) in (m.0, near-can s b n m.0 ∙ m.1);
                once = λ t l. omega (arith, dones (is (run t)), done-left s b σ (is (run t)), run-once s b p.published.once t l);
                inputs = λ k i t l m e. still-inputs s b p.published k i t l e;
                holds =
                    λ k.
                    omega (
                      arith,
                      n.store k,
                      h.0.store k,
                      near-done_of s b n (gives s) k,
                      near-done_of s b n (need s) k,
                      balance s (programme_of b k) (all_right s b p.published.releases k) (processor_of σ k).position,
                    );
                store = λ k. omega (arith, n.store k, h.0.store k, p.within k (processor_of σ k).position);
                finish =
                    λ z t l.
                    omega (arith, dones (is (run t)), done-left s b σ (is (run t)), run-once s b p.published.once t l, ended-all s b σ (omega (arith, lefts each)) (is (run t)));
              };
          late = omega (arith, near-latest s b n, leads-later s b h.2 h.0, p.claimed);
          claimed = λ q z. ap (λ (r : Run). latest r.state) (stated-runs s b cs q) ∙ claimed-at ks (omega (arith, lefts each));
        }

  -- what holds with any times holds with the stated ones
  pub stated-of : ((cs : List Choice) → InTime s b cs (early_of s b cs)) → (ks : List ℕ) → OnTime s b (run_of s b ks)
  stated-of all ks =
      let h = subst (InTime s b (map on_time ks)) (on-time s b ks) (all (map on_time ks)) in
      record { holds = h.holds; claimed = h.claimed (all-on-time ks) }

  chosen : (r : Run) (k : ℕ) (τ : State) → step s b r.state k ≡ some τ → choose s b r k ≡ record { state = τ; stepped = suc r.stepped }
  unfolding choose
  chosen r k τ e = rw e

  -- a run that goes on while anybody can step comes to an end, and every store in use on the way was within the limit
  Within : Run → Type 0
  Within r = (k i : ℕ) → i ≤ (processor_of r.state k).position → in_use s (programme_of b k) i ≤ s.limit

  Ending : Run → Type 0
  Ending r = (ks : List ℕ) × (left b (run_from s b r ks).state each ≡ 0) × Within (run_from s b r ks)

  -- one step more: the place behind its command is the only new one
  within_step : (σ : State) → Sound s b σ → (j : ℕ) (τ : State) → step s b σ j ≡ some τ → (k : ℕ) → (processor_of τ k).position ≤ suc (processor_of σ k).position
  within_step σ sound j τ e k =
      let m = step_move s b σ j τ e in
      let x = stated s b j m.c in
      rw m.here
      (⊎_elim (λ (q : k ≡ j). rw (q, self s b σ j m.c x m.w sound.processors m.comes) (omega arith)) (λ d. rw (other s b σ j m.c x m.w k d) (omega arith)) (equal-or k j))

  goes_on : (n : ℕ) (r : Run) → left b r.state each ≤ n → Sound s b r.state → ((ks : List ℕ) → OnTime s b (run_from s b r ks)) → Within r → Ending r
  unfolding Ending run_from Within
  goes_on zero r h sound all w = ([], omega arith, w)
  goes_on (suc n) r h sound all w =
      ⊎_elim (λ z. ([], z, w))
      (λ l.
      let m = (all []).holds.moves l in
      let t = can-step s b r.state m.0 m.1 in
      let c = chosen r m.0 t.0 t.1 in
      let sound' = sound-step s b r.state sound m.0 t.0 t.1 in
      let fits : (k : ℕ) → (processor_of t.0 k).store ≤ s.limit = (λ k. subst (λ (q : Run). (processor_of q.state k).store ≤ s.limit) c ((all (m.0 ∷ [])).holds.store k)) in
      let w' : Within (choose s b r m.0) =
      (rw c (λ k i g.
      elim (dec_lt (processor_of r.state k).position i) [
        | no y ↦ w k i (omega arith)
        | yes y ↦ let q : (processor_of t.0 k).position ≡ i = omega (arith, within_step r.state sound m.0 t.0 t.1 k) in omega (arith, fits k, sound'.store k, ap (in_use s (programme_of b k)) q)
      ]))
      in
      let i = goes_on n (choose s b r m.0) (rw c (omega (arith, step_left s b r.state sound m.0 t.0 t.1))) (rw c sound') (λ ks. all (m.0 ∷ ks)) w' in
      (m.0 ∷ i.0, i.1, i.2))
      (none_or (left b r.state each))

  all_done : (σ : State) → left b σ each ≡ 0 → (k : ℕ) → length (programme_of b k) ≤ (processor_of σ k).position
  unfolding left_of
  all_done σ h k =
      let p = programme_of b k in
      let i = (processor_of σ k).position in
      omega (arith, ended s b σ h each k, weigh-each (drop i p), length-drop i p)

  pub passing : Published s b → ((ks : List ℕ) → OnTime s b (run_of s b ks)) → Passes s b
  unfolding Ending Within run_of
  passing published all =
      let sound = fresh-sound s b published in
      let e =
      goes_on (whole b each) (fresh_run s b) (omega (arith, fresh-left s b each)) sound all
      (λ k i g. let z : i ≡ 0 = omega (arith, ap (λ (q : Processor). q.position) (fresh-processor s b k)) in omega (arith, ap (in_use s (programme_of b k)) z, use-zero s (programme_of b k)))
      in
      let φ = (run_of s b e.0).state in
      record {
        published = published;
        within =
            λ k i.
            omega (arith, le-highest s (programme_of b k) i, highest-le s (programme_of b k) s.limit (λ j g. e.2 k j (omega (arith, all_done φ e.1 k))));
        end = φ;
        leads = run-leads s b e.0;
        over = e.1;
        claimed = (all e.0).claimed e.1;
      }
