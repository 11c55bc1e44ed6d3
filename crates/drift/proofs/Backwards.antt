-- Back over all steps of a recorded run.
use Prim.Native.Nat.{ℕ, suc, ◌+◌, ◌-◌, ◌≤◌, ◌<◌}
use native.Mathlib.Omega.{arith}
use mathlib.Core.Bool.{Bool}
use mathlib.Core.Path.{◌≡◌, refl, sym, ap, ◌∙◌, subst}
use mathlib.Core.Logic.{◌⊎◌, inl, inr}
use mathlib.Core.List.{List, []}
use lib.ListN.{length, get_or}
use borrow.Author.Tests.{eq-eqb}
use Rattle.folds.specs.Folds.{pick}
use Rattle.workspace.specs.Area.{ClearIs}
use Rattle.sheet.specs.Sheet.{Sheet}
use Rattle.bundle.specs.Bundle.{Bundle}
use Rattle.admission.specs.Counting.{weigh}
use Rattle.machine.specs.Machine.{State, processor_of, stated, stamp_in}
use Rattle.stepping_machine.specs.Layout as lay
use Rattle.stepping_machine.specs.Words.{next_in, clock_in, stamped_in}
use Rattle.stepping_machine.proofs.Moves.{first-kept, programmed-kept}
use Rattle.drift.specs.Tails.{tails}
use Rattle.drift.specs.Following.{done, through, end_of}
use Rattle.drift.specs.Tracing.{Traced, TraceIs, TracesIs, TracedIs}

-- back over all but the first i of n steps
pub record Tracing (w₀ order slots₀ w slots : List ℕ) (n i claim : ℕ) : Type 0 where
  pub long : length w ≡ length w₀
  pub slots_long : length slots ≡ length slots₀
  pub traced : (s : Sheet) (b : Bundle) (φ : State) → claim < 4294967296 → Traced s b φ claim w₀ order slots₀ n → Traced s b φ claim w order slots i

pub tracing-starts : (w order slots : List ℕ) (n claim : ℕ) → Tracing w order slots w slots n n claim
tracing-starts w order slots n claim = record { long = refl; slots_long = refl; traced = λ s b φ few h. h }

pub tracing-more : {w₀ order slots₀ w slots last slots' : List ℕ} {n i k claim : ℕ} → 0 < i → k ≡ get_or order (i - 1) 0 → Tracing w₀ order slots₀ w slots n i claim → TraceIs w slots last slots' k claim
    → Tracing w₀ order slots₀ last slots' n (i - 1) claim
tracing-more {w₀} {order} {slots₀} {w} {slots} {i = i} {claim = claim} l e g h =
    record {
      long = h.long ∙ g.long;
      slots_long = h.slots_long ∙ g.slots_long;
      traced =
          λ s b φ few x.
          let z : i ≡ suc (i - 1) = omega arith in
          h.is_traced s b φ order (i - 1) few (sym e) (subst (Traced s b φ claim w order slots) z (g.traced s b φ few x));
    }

pub tracing-ends : {w₀ order slots₀ w slots : List ℕ} {n i claim : ℕ} → i ≡ 0 → Tracing w₀ order slots₀ w slots n i claim → TracesIs w₀ order slots₀ w slots n claim
tracing-ends {w₀} {order} {slots₀} {w} {slots} {claim = claim} e g =
    record { long = g.long; slots_long = g.slots_long; are_traced = λ s b φ few x. subst (Traced s b φ claim w order slots) e (g.traced s b φ few x) }

pub traced-all : {w u v order slots last slots' : List ℕ} {n claim : ℕ} → ClearIs w u lay.clocks lay.stores → ClearIs u v lay.stamps lay.needs → TracesIs v order slots last slots' n claim
    → TracedIs w order slots last slots' n claim
unfolding tails weigh
traced-all {w} {u} {v} {order} {slots} {last} {slots'} {n} {claim} a d h =
    record {
      long = h.long ∙ d.long ∙ a.long;
      slots_long = h.slots_long;
      all_traced =
          λ s b x few short once.
          h.are_traced s b x.state few
          (record {
            steps = x.steps;
            rest = [];
            state = x.state;
            trail = x.trail;
            follows = done;
            count = x.count;
            short = omega (arith, x.count);
            ordered = x.ordered;
            programmed = programmed-kept w v (d.long ∙ a.long) above s b x.represents.programmed;
            many = x.represents.processors;
            next = λ k l. low k l ∙ x.represents.next k l ∙ ap (λ (i : ℕ). i + (processor_of x.state k).position) (sym (first-kept w v (d.long ∙ a.long) above k l));
            own = λ k l. clear k l;
            sent = λ l r. ap stamp_in (stamp l (omega (arith, x.represents.programmed.ranged.few_links)));
            narrow = λ k l. omega (arith, clear k l);
            narrowed = λ l r. omega (arith, stamp l (omega (arith, x.represents.programmed.ranged.few_links)));
            once = λ t l. omega (arith, once t l);
            slots_long = x.long;
            slot = λ t l. x.ended t (omega (arith, x.represents.programmed.ranged.few_tasks)) ∙ sym (ap (λ (y : Bool). pick y (end_of x.trail t) (claim - through s b (stated s b) t {es = []} {σ = x.state} {φ = x.state} done)) (eq-eqb 0 0 refl));
          });
    }
  where
    above : (i : ℕ) → lay.firsts ≤ i → (i < lay.stamps) ⊎ (lay.needs ≤ i) → get_or v i 0 ≡ get_or w i 0
    above i l o = d.other i o ∙ a.other i (inr (omega arith))

    low : (k : ℕ) → k < 16 → next_in v k ≡ next_in w k
    low k l = d.other k (inl (omega arith)) ∙ a.other k (inl (omega arith))

    clear : (k : ℕ) → k < 16 → clock_in v k ≡ 0
    clear k l = d.other (lay.clocks + k) (inl (omega arith)) ∙ a.zeros (lay.clocks + k) (omega arith) (omega arith)

    stamp : (l : ℕ) → l < 1024 → stamped_in v l ≡ 0
    stamp l h = d.zeros (lay.stamps + l) (omega arith) (omega arith)
