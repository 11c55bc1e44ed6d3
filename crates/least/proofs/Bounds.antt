-- No programme is done before its works are, so that a branch can be left out whose last programme works longer than the best claims.
use Prim.Native.Nat.{ℕ, ◌+◌, ◌≤◌, ◌<◌}
use native.Mathlib.Omega.{arith}
use mathlib.Core.Bool.{Bool, true, false}
use mathlib.Core.Option.{Option, some}
use mathlib.Core.Path.{◌≡◌, refl, ap, subst}
use mathlib.Core.Logic.{◌⊎◌, inl, inr, ⊎_elim}
use mathlib.Core.List.{List, [], ◌∷◌, ◌++◌}
use lib.ListN.{length}
use Rattle.folds.specs.Folds.{pick}
use Rattle.folds.proofs.Laws.{term-le-greatest}
use Rattle.sheet.specs.Sheet.{Sheet, task_count, work_of}
use Rattle.bundle.specs.Bundle.{Command, run, send, receive, release, discard, Bundle, programme_of}
use Rattle.admission.specs.Counting.{weigh}
use Rattle.admission.proofs.Weights.{programme-or, weigh-split}
use Rattle.machine.specs.Machine.{State, processor_of, stated, takes, moved, step}
use Rattle.machine.specs.Runs.{done_of, left_of, clock_of, latest}
use Rattle.machine.proofs.Steps.{Sound, step_move, sound-step}
use Rattle.machine.proofs.Runs.{Leads, here, on, leads-sound, fresh-processor, fresh-sound, ended}
use Rattle.checker.specs.Checker.{checked}
use Rattle.checker.proofs.Accepted.{Passes}
use Rattle.least.specs.Written.{programme_in}
use Rattle.least.specs.Ranking.{ahead}
use Rattle.least.specs.Least.{In, completions, bundle_in, is_value, better, consider, best_from}
use Rattle.least.specs.Pruned.{total, last_of, may_open, may_join, looked_from}
use Rattle.least.proofs.Orders.{ahead-higher, choice-by}
use Rattle.least.proofs.Following.{done-moved, clock-self, clock-rises}
use Rattle.least.proofs.Best.{Works}
use Rattle.least.proofs.Pruning.{total-le, ok, text, extends, pruned-in, split-last, total-append}

-- the work of a command: that of the task that it runs
abbrev works : Sheet → Command → ℕ
works s (run t) = work_of s t
works s (send l) = 0
works s (receive l) = 0
works s (release t) = 0
works s (discard l) = 0

module _ (s : Sheet) (b : Bundle) where
  -- a command takes its work at least
  works-take : (k : ℕ) (c : Command) → works s c ≤ takes c (stated s b k c)
  unfolding stated
  works-take k (run t) = omega arith
  works-take k (send l) = omega arith
  works-take k (receive l) = omega arith
  works-take k (release t) = omega arith
  works-take k (discard l) = omega arith

  abbrev Timed : State → Type 0
  Timed σ = (k : ℕ) → done_of b σ (works s) k ≤ (processor_of σ k).clock

  timed-step : (σ : State) → Sound s b σ → Timed σ → (k : ℕ) (τ : State) → step s b σ k ≡ some τ → Timed τ
  timed-step σ sound h k τ e j =
      let m = step_move s b σ k τ e in
      let d = stated s b k m.c in
      rw m.here
      (⊎_elim (λ q. omega (arith, h j, q, clock-rises s b σ sound k m.c d m.w m.comes j))
      (λ q. omega (
        arith,
        h j,
        q.1,
        works-take k m.c,
        ap (λ i. (processor_of (moved s σ k m.c d m.w) i).clock) q.0,
        ap (λ i. (processor_of σ i).clock) q.0,
        clock-self s b σ sound k m.c d m.w m.comes,
      ))
      (done-moved s b σ sound k m.c d m.w m.comes (works s) j))

  timed : {σ τ : State} → Leads s b σ τ → Sound s b σ → Timed σ → Timed τ
  timed here sound h = h
  timed {σ} (on {τ = ρ} k e r) sound h = timed r (sound-step s b σ sound k ρ e) (timed-step σ sound h k ρ e)

  works-claim : Passes s b → (k : ℕ) → weigh (works s) (programme_of b k) ≤ b.claim
  unfolding latest clock_of done_of left_of weigh
  works-claim p k =
      ⊎_elim
      (λ h. omega (
        arith,
        p.claimed,
        timed p.leads (fresh-sound s b p.published) (λ j. rw (fresh-processor s b j) (omega arith)) k,
        ended s b p.end p.over (works s) k,
        weigh-split (works s) (programme_of b k) (processor_of p.end k).position,
        term-le-greatest (length p.end.processors) (clock_of p.end) k (omega (arith, (leads-sound s b p.leads (fresh-sound s b p.published)).processors)),
      ))
      (λ q. rw q (omega arith)) (programme-or b k)

module _ (s : Sheet) where
  pub works-least : (x : List (List ℕ)) (w : Works s x) (f : List (List ℕ)) (ts : List ℕ) (zs : List (List ℕ)) → x ≡ f ++ ts ∷ zs → total (work_of s) ts ≤ (bundle_in s x).claim
  unfolding programme_in
  works-least x w f ts zs e =
      omega (arith, works-claim s (bundle_in s x) (ok s x w f ts zs e) (length f), ap (weigh (works s)) (text s x w f ts zs e), total-le s (works s) ts ts)

  -- a higher claim is not ahead
  pub later : (x y : Bundle) → y.claim < x.claim → ahead x y ≡ false
  later x y h = ahead-higher x y h

  -- candidates of which none is ahead change nothing
  pub cut : (cs : List (List (List ℕ))) (y : Bundle) → ((a : List (List ℕ)) → In a cs → Works s a → ahead (bundle_in s a) y ≡ false) → best_from s cs (some y) ≡ some y
  unfolding best_from consider
  cut [] y h = refl
  cut (a ∷ cs) y h = go (is_value (checked s (bundle_in s a))) refl (cut cs y (λ c i. h c (inr i)))
    where
      go : (w : Bool) → is_value (checked s (bundle_in s a)) ≡ w → best_from s cs (some y) ≡ some y → best_from s cs (pick w (better (some y) (bundle_in s a)) (some y)) ≡ some y
      go true e r = rw (choice-by y (bundle_in s a), h a (inl refl) e) r
      go false e r = r

  -- a branch may be left out whose last programme works longer than a found bundle claims
  pub late : (m : ℕ) (a : List (List ℕ)) (y : Bundle) → 0 < length a → y.claim < total (work_of s) (last_of a) → best_from s (looked_from s m a) (some y) ≡ some y
  unfolding looked_from
  late m a y busy h =
      cut (looked_from s m a) y
      (λ x i w.
      let p = s.processors in
      let n = task_count s in
      let z = split-last a busy in
      let e = extends p n m z.0 (last_of a) x (subst (λ (c : List (List ℕ)). In x (completions p n m c)) z.1 (pruned-in p n (may_open s) (may_join s) m a x i)) in
      later (bundle_in s x) y (omega (arith, works-least x w z.0 (last_of a ++ e.0) e.1 e.2, total-append (work_of s) (last_of a) e.0)))

  -- one list after another, as loops go
  pub best-append : (cs ds : List (List (List ℕ))) (o : Option Bundle) → best_from s (cs ++ ds) o ≡ best_from s ds (best_from s cs o)
  unfolding best_from
  best-append [] ds o = refl
  best-append (a ∷ cs) ds o = best-append cs ds (consider s o a)
