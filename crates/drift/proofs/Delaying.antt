-- The same choices, with one task's work as it is and raised by d: the same commands are done, none of them more than d later.
use Prim.Native.Nat.{ℕ, suc, ◌+◌, ◌≤◌, ◌<◌}
use native.Mathlib.Omega.{arith}
use mathlib.Core.Bool.{Bool, true, false}
use mathlib.Core.Option.{Option, none, some}
use mathlib.Core.Path.{◌≡◌, refl, sym, ap, ◌∙◌}
use mathlib.Core.List.{List, [], ◌∷◌}
use lib.ListN.{length-replicate}
use Rattle.folds.specs.Folds.{pick, bit}
use Rattle.sheet.specs.Sheet.{Sheet, task_count, link_count}
use Rattle.bundle.specs.Bundle.{Command, run, Bundle}
use Rattle.admission.specs.Counting.{each, same, is}
use Rattle.admission.specs.Messages.{Published}
use Rattle.admission.proofs.Messages.{run-once}
use Rattle.machine.specs.Machine.{State, fresh_state, stamp_of, stated, step_in, step, holds_some, can_step}
use Rattle.machine.specs.Runs.{Run, took, choose, run_from, fresh_run, run_of, left, settled, Later}
use Rattle.machine.proofs.Steps.{left-moved}
use Rattle.machine.proofs.Runs.{leads-sound, fresh-left, fresh-sound}
use Rattle.machine.proofs.Orders.{ended-still, run-leads, any-run}
use Rattle.machine.proofs.Near.{Near, Together, neither, stepped, near_step}
use Rattle.machine.proofs.Early.{near_same, can-any, near-can}
use Rattle.drift.specs.Drift.{raise, Delayed}
use Rattle.drift.proofs.Following.{step_is, extra, raised_time}
use Rattle.drift.proofs.Drifting.{step-raise, published-raise}

module _ (s : Sheet) (b : Bundle) (t d : ℕ) (known : t < task_count s) where
  -- while the run of t is left, the raised run r' is where r is; behind it, it lags by no more than d
  record Lag (r r' : Run) : Type 0 where
    many : r'.stepped ≡ r.stepped
    by : ℕ
    near : Near b by r.state r'.state
    once : left b r.state (is (run t)) ≤ 1
    before : 0 < left b r.state (is (run t)) → by ≡ 0
    little : by ≤ d

  lag-choose : (r r' : Run) (k : ℕ) → Lag r r' → Lag (choose s b r k) (choose (raise s t d) b r' k)
  unfolding choose step is
  lag-choose r r' k a =
      rw (step-raise s t d known b r'.state k)
      (one (near_step s b (stated s b) (raised_time s b (stated s b) t d) (extra s b (stated s b) t d) a.by r.state r'.state k a.near (λ x. omega arith) (λ x. omega arith)))
    where
      on : (σ τ : State) (c : Command) (u : Bool) → same (run t) c ≡ u → Near b (a.by + pick u d 0) σ τ → left b σ (is (run t)) + bit u ≡ left b r.state (is (run t))
          → Lag (record { state = σ; stepped = suc r.stepped }) (record { state = τ; stepped = suc r'.stepped })
      on σ τ c true q near z =
          record {
            many = ap suc a.many;
            by = a.by + d;
            near = near;
            once = omega (arith, a.once);
            before = λ l. absurd (omega (arith, a.once));
            little = omega (arith, a.before (omega arith));
          }
      on σ τ c false q near z =
          record {
            many = ap suc a.many;
            by = a.by + 0;
            near = near;
            once = omega (arith, a.once);
            before = λ l. omega (arith, a.before (omega arith));
            little = omega (arith, a.little);
          }

      one : Together s b (stated s b) (raised_time s b (stated s b) t d) (extra s b (stated s b) t d) a.by r.state r'.state k
          → Lag (took r (step_in s b (stated s b) r.state k)) (took r' (step_in s b (raised_time s b (stated s b) t d) r'.state k))
      one (neither e f) = rw (e, f) a
      one (stepped c σ τ n e f near) =
          let p = step_is s b (stated s b) r.state k c σ n e in
          rw (e, f) (on σ τ c (same (run t) c) refl near
          (omega (arith, left-moved s b r.state k c (stated s b k c) p.v a.near.many n (is (run t)), ap (λ (q : State). left b q (is (run t))) p.here)))

  lag-from : (r r' : Run) (ks : List ℕ) → Lag r r' → Lag (run_from s b r ks) (run_from (raise s t d) b r' ks)
  unfolding run_from
  lag-from r r' [] a = a
  lag-from r r' (k ∷ ks) a = lag-from (choose s b r k) (choose (raise s t d) b r' k) ks (lag-choose r r' k a)

  raised-can : (σ : State) (k : ℕ) → can_step (raise s t d) b σ k ≡ can_step s b σ k
  unfolding can_step
  raised-can σ k = ap holds_some (step-raise s t d known b σ k) ∙ can-any s b (raised_time s b (stated s b) t d) σ k

  module _ (published : Published s b) where
    fresh-lag : Lag (fresh_run s b) (fresh_run s b)
    fresh-lag =
        record {
          many = refl;
          by = 0;
          near = near_same s b (fresh_state s b) (length-replicate _ _);
          once = omega (arith, fresh-left s b (is (run t)), run-once s b published.once t known);
          before = λ l. refl;
          little = omega arith;
        }

    pub delayed : (ks : List ℕ) → Delayed s (raise s t d) b d (run_of s b ks) (run_of (raise s t d) b ks)
    unfolding run_of raise link_count
    delayed ks =
        let a = lag-from (fresh_run s b) (fresh_run s b) ks fresh-lag in
        let n = a.near in
        record {
          stepped = a.many;
          position = λ k. sym (n.position k);
          store = λ k. sym (n.store k);
          clock = λ k. (n.clock k, omega (arith, n.behind k, a.little));
          stamp = λ l. later a.by a.little (stamp_of (run_from s b (fresh_run s b) ks).state l) (stamp_of (run_from (raise s t d) b (fresh_run s b) ks).state l) (n.stamp l);
          who = λ k. raised-can (run_from (raise s t d) b (fresh_run s b) ks).state k ∙ sym (near-can s b n k);
        }
      where
        later : (e : ℕ) → e ≤ d → (o u : Option ℕ) → Later e o u → Later d o u
        later e l none none h = tt
        later e l none (some y) h = absurd h
        later e l (some x) none h = absurd h
        later e l (some x) (some y) h = (h.0, omega (arith, h.1))

    -- all orders end in one state
    pub raised-ends : (ks : List ℕ) → left b (run_of (raise s t d) b ks).state each ≡ 0 → (run_of (raise s t d) b ks).state ≡ settled (raise s t d) b
    raised-ends ks z =
        let p = published-raise s t d b published in
        any-run (raise s t d) b p ks
        (ended-still (raise s t d) b (run_of (raise s t d) b ks).state (leads-sound (raise s t d) b (run-leads (raise s t d) b ks) (fresh-sound (raise s t d) b p)) z)
