-- The checker accepts a bundle exactly when it has the published messages, fits the store, and can be run to an end at its claimed time.
use Prim.Native.Nat.{ℕ, ◌≤◌}
use native.Mathlib.Omega.{arith}
use mathlib.Core.Bool.{Bool, true, false}
use mathlib.Core.Option.{none, some}
use mathlib.Core.Path.{◌≡◌, refl, sym}
use lib.ListN.{length, drop, length-drop}
use lib.Dec.{eqb}
use borrow.Author.Tests.{eqb-true, eq-eqb, ltb-false, le-ltb}
use Rattle.folds.specs.Folds.{pick}
use Rattle.folds.specs.Answers.{value}
use Rattle.folds.proofs.Tests.{unless-value, unless_at-value, not_some}
use Rattle.folds.proofs.Laws.{sum_zeros, first-none, none_first}
use Rattle.sheet.specs.Sheet.{Sheet}
use Rattle.bundle.specs.Bundle.{Bundle, programme_count, programme_of}
use Rattle.admission.specs.Counting.{each, in_use}
use Rattle.admission.specs.Releases.{at37}
use Rattle.admission.specs.Messages.{at26, at_message, at28, Published}
use Rattle.admission.proofs.Weights.{weigh-each}
use Rattle.admission.proofs.Messages.{within-limit, limit-within}
use Rattle.machine.specs.Machine.{State, fresh_state, processor_of}
use Rattle.machine.specs.Runs.{left_of, left, latest, settled}
use Rattle.machine.proofs.Runs.{Leads, leads-sound, fresh-sound, ended}
use Rattle.machine.proofs.Orders.{ended-still, settled-stops, any_order}
use Rattle.checker.specs.Checker.{unfinished, at29, at30, closing, checked}

pub record Passes (s : Sheet) (b : Bundle) : Type 0 where
  pub published : Published s b
  pub within : (k i : ℕ) → in_use s (programme_of b k) i ≤ s.limit
  pub end : State
  pub leads : Leads s b (fresh_state s b) end
  pub over : left b end each ≡ 0
  pub claimed : latest end ≡ b.claim

module _ (s : Sheet) (b : Bundle) where
  -- 29: nothing is left of any programme
  finished : (σ : State) → at29 b σ ≡ none → left b σ each ≡ 0
  unfolding at29 unfinished left left_of
  finished σ e =
      sum_zeros (programme_count b) (left_of b σ each)
      (λ k h.
      let p = programme_of b k in
      let i = (processor_of σ k).position in
      omega (arith, weigh-each (drop i p), length-drop i p, ltb-false i (length p) (first-none (programme_count b) (unfinished b σ) e k h)))

  none-unfinished : (σ : State) → left b σ each ≡ 0 → at29 b σ ≡ none
  unfolding at29 unfinished left_of
  none-unfinished σ h =
      none_first (programme_count b) (unfinished b σ)
      (λ k l.
      let p = programme_of b k in
      let i = (processor_of σ k).position in
      le-ltb i (length p) (omega (arith, ended s b σ h each k, weigh-each (drop i p), length-drop i p)))

  -- 30: the claim is the latest clock
  claim-is : (σ : State) → at30 b σ ≡ none → latest σ ≡ b.claim
  unfolding at30
  claim-is σ e = go (eqb b.claim (latest σ)) refl e
    where
      go : (u : Bool) → eqb b.claim (latest σ) ≡ u → pick u none (some (latest σ)) ≡ none → latest σ ≡ b.claim
      go true q r = sym (eqb-true b.claim (latest σ) q)
      go false q r = not_some (sym r)

  pub accepted : Passes s b → checked s b ≡ value b
  unfolding checked closing at30
  accepted p =
      let sound = fresh-sound s b p.published in
      let e = any_order s b p.published p.end p.leads (ended-still s b p.end (leads-sound s b p.leads sound) p.over) in
      rw (p.published.once, p.published.messages, p.published.releases, limit-within s b p.within, ← e, none-unfinished p.end p.over, eq-eqb b.claim (latest p.end) (sym p.claimed))

  pub passes : (v : Bundle) → checked s b ≡ value v → Passes s b × (b ≡ v)
  unfolding checked closing
  passes v e =
      let r26 = unless-value 26 (at26 s b) _ v e in
      let sent = unless_at-value (at_message s b) _ v r26.1 in
      let r37 = unless-value 37 (at37 s b) _ v sent.1 in
      let r28 = unless-value 28 (at28 s b) _ v r37.1 in
      let r29 = unless-value 29 (at29 b (settled s b)) _ v r28.1 in
      let r30 = unless-value 30 (at30 b (settled s b)) _ v r29.1 in
      let published : Published s b = record { once = r26.0; messages = sent.0; releases = r37.0 } in (
        record {
          published = published;
          within = within-limit s b r28.0;
          end = settled s b;
          leads = (settled-stops s b published).0;
          over = finished (settled s b) r29.0;
          claimed = claim-is (settled s b) r30.0;
        },
        cc r30.1,
      )
