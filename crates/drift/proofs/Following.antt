-- The steps of a run, followed with one task's work raised: the latest clock is the later of what it was and the longest way through that run, with what it was raised by.
use Prim.Native.Nat.{ℕ, ◌+◌, ◌≤◌}
use native.Mathlib.Omega.{arith}
use mathlib.Core.Bool.{Bool, true, false}
use mathlib.Core.Option.{Option, none, some, some-injective}
use mathlib.Core.Path.{◌≡◌, refl, sym, ap, ap₂, ◌∙◌, subst}
use mathlib.Core.Logic.{⊎_elim}
use mathlib.Core.List.{[], ◌∷◌, ◌++◌}
use lib.ListN.{length, length-set, get_or-eq_default}
use lib.Dec.{eqb}
use borrow.Author.Tests.{eq-eqb, ne_eqb}
use Rattle.folds.specs.Folds.{pick, bit, then}
use Rattle.folds.proofs.Tests.{equal-or, not_some}
use Rattle.sheet.specs.Sheet.{Sheet}
use Rattle.bundle.specs.Bundle.{Command, run, send, receive, release, discard, Bundle, programme_count}
use Rattle.admission.specs.Counting.{weigh, same, is}
use Rattle.admission.proofs.Rights.{same-is}
use Rattle.machine.specs.Machine.{State, processor_of, stamp_of, next, waits, moved, step_in}
use Rattle.machine.specs.Runs.{left, latest}
use Rattle.machine.proofs.Steps.{then_some, other, self, left-moved, length-posted}
use Rattle.machine.proofs.Near.{Near, Together, neither, stepped, near_step, near_next}
use Rattle.machine.proofs.Early.{near_same}
use Rattle.drift.specs.Tails.{Tails, joined, back, Steps, tails}
use Rattle.drift.specs.Following.{Follows, done, more, commands, through}
use Rattle.drift.proofs.Tails.{Below, at_same, at_other, below_end, end_below, back_below, below-back}

module _ (s : Sheet) (b : Bundle) (time : ℕ → Command → ℕ) where
  -- what one step is
  pub record Step (σ : State) (k : ℕ) (c : Command) (τ : State) : Type 0 where
    pub v : ℕ
    pub waited : waits σ c ≡ some v
    pub here : τ ≡ moved s σ k c (time k c) v

  pub step_is : (σ : State) (k : ℕ) (c : Command) (τ : State) → next b σ k ≡ some c → step_in s b time σ k ≡ some τ → Step σ k c τ
  unfolding step_in
  step_is σ k c τ n e =
      let m = then_some (waits σ c) (λ w. some (moved s σ k c (time k c) w)) τ (sym (ap (λ (o : Option Command). then o (λ c. then (waits σ c) (λ w. some (moved s σ k c (time k c) w)))) n) ∙ e) in
      record { v = m.0; waited = m.1; here = sym (some-injective _ _ m.2) }

  pub many-on : (σ : State) (k : ℕ) (c : Command) (τ : State) → Step σ k c τ → length σ.processors ≡ programme_count b → length τ.processors ≡ programme_count b
  many-on σ k c τ p n = rw p.here (simp length-set n)

  links-on : (σ : State) (k : ℕ) (c : Command) (τ : State) → Step σ k c τ → length τ.stamps ≡ length σ.stamps
  links-on σ k c τ p = rw p.here (length-posted c ((processor_of σ k).clock + time k c) σ.stamps)

  -- a message that was never sent has no tail
  no-stamp : (σ : State) (l v : ℕ) → length σ.stamps ≤ l → stamp_of σ l ≡ some v → ⊥
  unfolding stamp_of
  no-stamp σ l v h e = not_some (sym (get_or-eq_default σ.stamps none h) ∙ e)

  back-short : (σ : State) (d k v : ℕ) (c : Command) (w : Tails) (l : ℕ) → length σ.stamps ≤ l → waits σ c ≡ some v → w.sent l ≡ none → (back d k c w).sent l ≡ none
  unfolding back
  back-short σ d k v (run t) w l h e f = f
  back-short σ d k v (release t) w l h e f = f
  back-short σ d k v (discard t) w l h e f = f
  back-short σ d k v (send m) w l h e f = ⊎_elim (λ (q : l ≡ m). rw (q, at_same w.sent m none)) (λ q. at_other w.sent m none l q ∙ f) (equal-or l m)
  back-short σ d k v (receive m) w l h e f =
      ⊎_elim (λ (q : l ≡ m). absurd (no-stamp σ m v (omega arith) e)) (λ q. at_other w.sent m (joined (w.sent m) (d + w.own k)) l q ∙ f) (equal-or l m)

  pub tails-short : {es : Steps} {σ φ : State} → Follows s b time es σ φ → (l : ℕ) → length σ.stamps ≤ l → (tails time es).sent l ≡ none
  unfolding tails
  tails-short done l h = refl
  tails-short {es} {σ} (more {τ = τ} {es = fs} k c n e r) l h =
      let p = step_is σ k c τ n e in
      back-short σ (time k c) k p.v c (tails time fs) l h p.waited (tails-short r l (omega (arith, links-on σ k c τ p)))

  -- the latest clock at the end, by the tails
  pub end-tails : (x : ℕ) {es : Steps} {σ φ : State} → Follows s b time es σ φ → length σ.processors ≡ programme_count b → latest φ ≤ x → Below x (tails time es) σ
  unfolding tails
  end-tails x {es} {σ} done m h = below_end x σ h
  end-tails x {es} {σ} (more {τ = τ} {es = fs} k c n e r) m h =
      let p = step_is σ k c τ n e in
      back_below s b x σ k (time k c) p.v (tails time fs) m c n p.waited (λ l g. tails-short r l (omega (arith, links-on σ k c τ p)))
      (subst (Below x (tails time fs)) p.here (end-tails x r (many-on σ k c τ p m) h))

  pub tails_end : (x : ℕ) {es : Steps} {σ φ : State} → Follows s b time es σ φ → length σ.processors ≡ programme_count b → Below x (tails time es) σ → latest φ ≤ x
  unfolding tails
  tails_end x {es} {σ} done m h = end_below x σ h
  tails_end x {es} {σ} (more {τ = τ} {es = fs} k c n e r) m h =
      let p = step_is σ k c τ n e in
      tails_end x r (many-on σ k c τ p m) (subst (Below x (tails time fs)) (sym p.here) (below-back s b x σ k (time k c) p.v (tails time fs) m c n p.waited h))

  -- what is left, by what is done
  pub follows-left : {es : Steps} {σ φ : State} → Follows s b time es σ φ → length σ.processors ≡ programme_count b → (f : Command → ℕ) → left b σ f ≡ left b φ f + weigh f (commands es)
  unfolding weigh
  follows-left done m f = omega arith
  follows-left {es} {σ} (more {τ = τ} k c n e r) m f =
      let p = step_is σ k c τ n e in
      omega (arith, follows-left r (many-on σ k c τ p m) f, left-moved s b σ k c (time k c) p.v m n f, ap (λ (q : State). left b q f) p.here)

  -- for a loop: steps behind steps, one step more, and where the run of t stands among them
  pub follows_then : {es fs : Steps} {σ ρ φ : State} → Follows s b time es σ ρ → Follows s b time fs ρ φ → Follows s b time (es ++ fs) σ φ
  follows_then done r = r
  follows_then (more k c n e q) r = more k c n e (follows_then q r)

  pub follows-one : {es : Steps} {σ ρ φ : State} (k : ℕ) (c : Command) → Follows s b time es σ ρ → next b ρ k ≡ some c → step_in s b time ρ k ≡ some φ → Follows s b time (es ++ (k, c) ∷ []) σ φ
  follows-one k c q n e = follows_then q (more k c n e done)

  pub through-then : (t : ℕ) {es fs : Steps} {σ ρ φ : State} (q : Follows s b time es σ ρ) (r : Follows s b time fs ρ φ) → weigh (is (run t)) (commands es) ≡ 0 → through s b time t (follows_then q r) ≡ through s b time t r
  unfolding through follows_then weigh is
  through-then t done r h = refl
  through-then t {fs = fs} (more {τ = τ} {es = es} k c n e q) r h = go (same (run t) c) refl (through-then t q r)
    where
      go : (u : Bool) → same (run t) c ≡ u → (weigh (is (run t)) (commands es) ≡ 0 → through s b time t (follows_then q r) ≡ through s b time t r)
          → pick u ((processor_of τ k).clock + (tails time (es ++ fs)).own k) (through s b time t (follows_then q r)) ≡ through s b time t r
      go true z ih = absurd (omega (arith, ap bit z))
      go false z ih = ih (omega (arith, ap bit z))

  pub through_here : (t : ℕ) {fs : Steps} (σ : State) {τ φ : State} (k : ℕ) (n : next b σ k ≡ some (run t)) (e : step_in s b time σ k ≡ some τ) (r : Follows s b time fs τ φ)
      → through s b time t (more k (run t) n e r) ≡ (processor_of τ k).clock + (tails time fs).own k
  unfolding through
  through_here t {fs} σ {τ} k n e r = ap (λ (u : Bool). pick u ((processor_of τ k).clock + (tails time fs).own k) (through s b time t r)) (eq-eqb t t refl)

-- one task's work raised by d
module _ (s : Sheet) (b : Bundle) (time : ℕ → Command → ℕ) (t d : ℕ) where
  abbrev pub extra : Command → ℕ
  extra c = pick (same (run t) c) d 0

  abbrev pub raised_time : ℕ → Command → ℕ
  raised_time k c = time k c + extra c

  extra-none : (c : Command) → is (run t) c ≡ 0 → extra c ≡ 0
  unfolding is
  extra-none c h = go (same (run t) c) h
    where
      go : (u : Bool) → bit u ≡ 0 → pick u d 0 ≡ 0
      go true g = absurd (omega arith)
      go false g = refl

  -- the tails behind its run are the same
  same-tails : (es : Steps) → weigh (is (run t)) (commands es) ≡ 0 → tails raised_time es ≡ tails time es
  unfolding tails weigh
  same-tails [] h = refl
  same-tails (e ∷ es) h =
      let z : raised_time e.0 e.1 ≡ time e.0 e.1 = omega (arith, extra-none e.1 (omega arith)) in
      ap₂ (λ (n : ℕ) (w : Tails). back n e.0 e.1 w) z (same-tails es (omega arith))

  -- the same steps from a state that is near
  near-follows : {es : Steps} {σ φ : State} → Follows s b time es σ φ → (e : ℕ) (σ' : State) → Near b e σ σ' → (φ' : State) × Follows s b raised_time es σ' φ'
  near-follows done e σ' h = (σ', done)
  near-follows {es} {σ} {φ} (more {τ = τ} {es = fs} k c n f r) e σ' h =
      by (near_step s b time raised_time extra e σ σ' k h (λ x. omega arith) (λ x. omega arith)) (near-follows r)
    where
      by : Together s b time raised_time extra e σ σ' k → ((e : ℕ) (σ' : State) → Near b e τ σ' → (φ' : State) × Follows s b raised_time fs σ' φ') → (φ' : State) × Follows s b raised_time ((k, c) ∷ fs) σ' φ'
      by (neither p q) ih = not_some (sym p ∙ f)
      by (stepped x σ₁ τ₁ m p q near) ih =
          let z : σ₁ ≡ τ = some-injective _ _ (sym p ∙ f) in
          let y = ih (e + extra x) τ₁ (subst (λ (u : State). Near b (e + extra x) u τ₁) z near) in
          (y.0, more k c (sym (near_next s b h k) ∙ n) q y.1)

  pub record Raised (es : Steps) (σ φ : State) (way : ℕ) : Type 0 where
    pub end : State
    pub follows : Follows s b raised_time es σ end
    pub later : (x : ℕ) → latest φ ≤ x → way + d ≤ x → latest end ≤ x
    pub before : (x : ℕ) → latest end ≤ x → (latest φ ≤ x) × (way + d ≤ x)

  -- at its run: τ without and τ' with the raise
  module _ (σ : State) (k c-time v : ℕ) (m : length σ.processors ≡ programme_count b) (n : next b σ k ≡ some (run t)) where
    clock-raised : (j : ℕ) → (processor_of (moved s σ k (run t) (c-time + d) v) j).clock ≡ (processor_of (moved s σ k (run t) c-time v) j).clock + pick (eqb j k) d 0
    clock-raised j =
        ⊎_elim (λ (q : j ≡ k). rw (q, self s b σ k (run t) (c-time + d) v m n, self s b σ k (run t) c-time v m n, eq-eqb k k refl) (omega arith))
        (λ q. rw (other s b σ k (run t) (c-time + d) v j q, other s b σ k (run t) c-time v j q, ne_eqb j k q) (omega arith)) (equal-or j k)

    raise-below : (x : ℕ) (w : Tails) → Below x w (moved s σ k (run t) c-time v) → (processor_of (moved s σ k (run t) c-time v) k).clock + w.own k + d ≤ x
        → Below x w (moved s σ k (run t) (c-time + d) v)
    unfolding stamp_of
    raise-below x w h g =
        record {
          own =
              λ j.
              ⊎_elim (λ (q : j ≡ k). rw q (omega (arith, clock-raised k, ap (λ (u : Bool). pick u d 0) (eq-eqb k k refl))))
              (λ q. omega (arith, clock-raised j, ap (λ (u : Bool). pick u d 0) (ne_eqb j k q), h.own j)) (equal-or j k);
          sent = h.sent;
        }

    below-raise : (x : ℕ) (w : Tails) → Below x w (moved s σ k (run t) (c-time + d) v)
        → Below x w (moved s σ k (run t) c-time v) × ((processor_of (moved s σ k (run t) c-time v) k).clock + w.own k + d ≤ x)
    unfolding stamp_of
    below-raise x w h = (
      record { own = λ j. omega (arith, clock-raised j, h.own j); sent = h.sent },
      omega (arith, clock-raised k, ap (λ (u : Bool). pick u d 0) (eq-eqb k k refl), h.own k),
    )

  -- a step of another command is the same
  same_step : (σ τ : State) (k : ℕ) (c : Command) → next b σ k ≡ some c → extra c ≡ 0 → step_in s b time σ k ≡ some τ → step_in s b raised_time σ k ≡ some τ
  unfolding step_in
  same_step σ τ k c n z e =
      let y : raised_time k c ≡ time k c = omega (arith, z) in
      rw (n, y) (rw n at e)

  -- the run itself
  extra-here : extra (run t) ≡ d
  extra-here = rw (eq-eqb t t refl)

  module _ (σ φ : State) (fs : Steps) (k : ℕ) (m : length σ.processors ≡ programme_count b) (n : next b σ k ≡ some (run t)) (none-behind : weigh (is (run t)) (commands fs) ≡ 0) where
    plain-state : State
    plain-state = moved s σ k (run t) (time k (run t)) 0

    raised-state : State
    raised-state = moved s σ k (run t) (time k (run t) + d) 0

    raised-step : step_in s b raised_time σ k ≡ some raised-state
    unfolding step_in raised-state
    raised-step = rw (n, extra-here)

    plain_step : step_in s b time σ k ≡ some plain-state
    unfolding step_in plain-state
    plain_step = rw n

    near-there : (e : ℕ) × Near b e plain-state raised-state
    near-there = by (near_step s b time raised_time extra 0 σ σ k (near_same s b σ m) (λ x. omega arith) (λ x. omega arith))
      where
        by : Together s b time raised_time extra 0 σ σ k → (e : ℕ) × Near b e plain-state raised-state
        by (neither p q) = not_some (sym p ∙ plain_step)
        by (stepped x σ₁ τ₁ y p q near) =
            let z : σ₁ ≡ plain-state = some-injective _ _ (sym p ∙ plain_step) in
            let w : τ₁ ≡ raised-state = some-injective _ _ (sym q ∙ raised-step) in
            (0 + extra x, subst (Near b (0 + extra x) plain-state) w (subst (λ (u : State). Near b (0 + extra x) u τ₁) z near))

    at-run : Follows s b time fs plain-state φ → Raised ((k, run t) ∷ fs) σ φ ((processor_of plain-state k).clock + (tails time fs).own k)
    unfolding plain-state raised-state
    at-run r =
        let g = near-there in
        let f = near-follows r g.0 raised-state g.1 in
        let same-t = same-tails fs none-behind in
        let many : length plain-state.processors ≡ programme_count b = simp length-set m in
        let many' : length raised-state.processors ≡ programme_count b = simp length-set m in
        record {
          end = f.0;
          follows = more k (run t) n raised-step f.1;
          later =
              λ x h w.
              tails_end s b raised_time x f.1 many' (subst (λ (z : Tails). Below x z raised-state) (sym same-t) (raise-below σ k (time k (run t)) 0 m n x (tails time fs) (end-tails s b time x r many h) w));
          before =
              λ x h.
              let y = below-raise σ k (time k (run t)) 0 m n x (tails time fs) (subst (λ (z : Tails). Below x z raised-state) same-t (end-tails s b raised_time x f.1 many' h)) in
              (tails_end s b time x r many y.0, y.1);
        }

  pub raised : {es : Steps} {σ φ : State} (h : Follows s b time es σ φ) → length σ.processors ≡ programme_count b → weigh (is (run t)) (commands es) ≡ 1 → Raised es σ φ (through s b time t h)
  unfolding weigh is through plain-state
  raised done m w = absurd (omega arith)
  raised {es} {σ} {φ} (more {τ = τ} {es = fs} k c n e r) m w = go (same (run t) c) refl (raised r)
    where
      p : Step s b time σ k c τ
      p = step_is s b time σ k c τ n e

      go : (u : Bool) → same (run t) c ≡ u
          → (length τ.processors ≡ programme_count b → weigh (is (run t)) (commands fs) ≡ 1 → Raised fs τ φ (through s b time t r))
          → Raised ((k, c) ∷ fs) σ φ (pick u ((processor_of τ k).clock + (tails time fs).own k) (through s b time t r))
      go false q ih =
          let a = ih (many-on s b time σ k c τ p m) (omega (arith, ap bit q)) in
          record {
            end = a.end;
            follows = more k c n (same_step σ τ k c n (ap (λ (u : Bool). pick u d 0) q) e) a.follows;
            later = a.later;
            before = a.before;
          }
      go true q ih =
          let z : c ≡ run t = sym (same-is (run t) c q) in
          let y : next b σ k ≡ some (run t) = n ∙ ap some z in
          let g : τ ≡ moved s σ k (run t) (time k (run t)) 0 = some-injective _ _ (sym e ∙ plain_step σ φ fs k m y (omega (arith, ap bit q))) in
          subst (λ (x : Command). Raised ((k, x) ∷ fs) σ φ ((processor_of τ k).clock + (tails time fs).own k)) (sym z)
          (subst (λ (x : State). Raised ((k, run t) ∷ fs) σ φ ((processor_of x k).clock + (tails time fs).own k)) (sym g)
          (at-run σ φ fs k m y (omega (arith, ap bit q)) (subst (λ (x : State). Follows s b time fs x φ) g r)))

  -- no way is longer than the run itself
  pub through-le : {es : Steps} {σ φ : State} (h : Follows s b time es σ φ) → length σ.processors ≡ programme_count b → through s b time t h ≤ latest φ
  unfolding through
  through-le done m = omega arith
  through-le {es} {σ} {φ} (more {τ = τ} {es = fs} k c n e r) m = go (same (run t) c) (through-le r)
    where
      p : Step s b time σ k c τ
      p = step_is s b time σ k c τ n e

      go : (u : Bool) → (length τ.processors ≡ programme_count b → through s b time t r ≤ latest φ) → pick u ((processor_of τ k).clock + (tails time fs).own k) (through s b time t r) ≤ latest φ
      go true ih = (end-tails s b time (latest φ) r (many-on s b time σ k c τ p m) (omega arith)).own k
      go false ih = ih (many-on s b time σ k c τ p m)
