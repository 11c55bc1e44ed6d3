-- Runs: what every list of choices keeps, and what is done and left of the programmes.
use Prim.Native.Nat.{ℕ, suc, ◌+◌}
use native.Mathlib.Omega.{arith}
use mathlib.Core.Option.{Option, none, some}
use mathlib.Core.Path.{◌≡◌, refl, sym, ◌∙◌}
use mathlib.Core.Logic.{⊎_elim}
use mathlib.Core.List.{List, [], ◌∷◌}
use lib.ListN.{drop, length-replicate}
use Rattle.folds.proofs.Laws.{sum-cong, sum-add, sum_zeros, term-le-sum}
use Rattle.folds.proofs.Lists.{get_d_replicate}
use Rattle.sheet.specs.Sheet.{Sheet, link_count}
use Rattle.bundle.specs.Bundle.{Command, send, Bundle, programme_count, programme_of}
use Rattle.admission.specs.Counting.{weigh, whole_of, whole, each, is, in_use}
use Rattle.admission.specs.Messages.{Published}
use Rattle.admission.proofs.Weights.{programme-or, weigh-split, weigh-each, weigh-none}
use Rattle.admission.proofs.Messages.{messages}
use Rattle.machine.specs.Machine.{State, fresh_processor, fresh_state, processor_of, stamp_of, step}
use Rattle.machine.specs.Runs.{Run, took, choose, run_from, done_of, left_of, done, left}
use Rattle.machine.proofs.Steps.{Sound, sound-step}

-- steps lead from one state to another
pub data Leads (s : Sheet) (b : Bundle) : State → State → Type 0 where
  here : {σ : State} → Leads s b σ σ
  on : {σ τ φ : State} (k : ℕ) → step s b σ k ≡ some τ → Leads s b τ φ → Leads s b σ φ

module _ (s : Sheet) (b : Bundle) where
  pub leads-on : {σ τ φ : State} → Leads s b σ τ → Leads s b τ φ → Leads s b σ φ
  leads-on here q = q
  leads-on (on k e r) q = on k e (leads-on r q)

  pub leads-sound : {σ φ : State} → Leads s b σ φ → Sound s b σ → Sound s b φ
  leads-sound here h = h
  leads-sound {σ} (on {τ = τ} k e r) h = leads-sound r (sound-step s b σ h k τ e)

  -- what a step keeps, a list of choices keeps
  pub keeps : (P : Run → Type 0) → ((r : Run) (k : ℕ) (τ : State) → P r → step s b r.state k ≡ some τ → P (record { state = τ; stepped = suc r.stepped }))
      → (r : Run) (ks : List ℕ) → P r → P (run_from s b r ks)
  unfolding run_from choose
  keeps P h r [] p = p
  keeps P h r (k ∷ ks) p = keeps P h (choose s b r k) ks (go (step s b r.state k) refl)
    where
      go : (o : Option State) → step s b r.state k ≡ o → P (took r o)
      go none e = p
      go (some τ) e = h r k τ p e

  pub done-left : (σ : State) (f : Command → ℕ) → done b σ f + left b σ f ≡ whole b f
  unfolding done left whole done_of left_of whole_of
  done-left σ f =
      sym (sum-add (programme_count b) (done_of b σ f) (left_of b σ f)) ∙
      sum-cong (programme_count b) (λ k. done_of b σ f k + left_of b σ f k) (whole_of b f) (λ k h. weigh-split f (programme_of b k) (processor_of σ k).position)

  -- where nothing is left, nothing is left of any programme
  pub ended : (σ : State) → left b σ each ≡ 0 → (f : Command → ℕ) (k : ℕ) → left_of b σ f k ≡ 0
  unfolding left left_of
  ended σ h f k =
      weigh-none f (drop (processor_of σ k).position (programme_of b k))
      (⊎_elim (λ l. omega (arith, term-le-sum (programme_count b) (left_of b σ each) k l))
      (λ q. rw q (omega (arith, weigh-split each [] (processor_of σ k).position, weigh-each []))) (programme-or b k))

  pub ended-all : (σ : State) → left b σ each ≡ 0 → (f : Command → ℕ) → left b σ f ≡ 0
  unfolding left
  ended-all σ h f = sum_zeros (programme_count b) (left_of b σ f) (λ k l. ended σ h f k)

  -- the fresh state
  pub fresh-processor : (k : ℕ) → processor_of (fresh_state s b) k ≡ fresh_processor
  unfolding processor_of
  fresh-processor k = get_d_replicate (programme_count b) k fresh_processor

  pub fresh-left : (f : Command → ℕ) → left b (fresh_state s b) f ≡ whole b f
  unfolding left whole left_of whole_of
  fresh-left f = sum-cong (programme_count b) (left_of b (fresh_state s b) f) (whole_of b f) (λ k h. rw (fresh-processor k))

  pub fresh-sound : Published s b → Sound s b (fresh_state s b)
  unfolding stamp_of in_use
  fresh-sound published =
      record {
        processors = length-replicate _ _;
        stamps = length-replicate _ _;
        sends = λ l h. rw (get_d_replicate {A = Option ℕ} (link_count s) l none) (omega (arith, fresh-left (is (send l)), (messages s b published l h).one));
        store = λ k. rw (fresh-processor k);
      }
