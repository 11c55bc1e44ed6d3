-- Which programmes run a task, by the words of their commands.
use Prim.Native.Nat.{ℕ, zero, suc, ◌+◌, ◌-◌, ◌<◌, ◌≤◌}
use native.Mathlib.Omega.{arith}
use native.Mathlib.Numerals.{add-one}
use mathlib.Core.Path.{◌≡◌, refl, sym, ap, subst, ◌∙◌}
use mathlib.Core.Bool.{Bool, true, false}
use mathlib.Core.Logic.{⊎_elim}
use mathlib.Core.List.{List, [], ◌∷◌}
use lib.ListN.{length, get_or}
use Rattle.folds.specs.Folds.{bit, either, sum}
use Rattle.folds.proofs.Tests.{below_suc, either_true}
use Rattle.sheet.specs.Sheet.{Sheet}
use Rattle.bundle.specs.Bundle.{Command, run, send, receive, release, discard, Bundle, programme_count, programme_of}
use Rattle.machine.specs.Machine.{State}
use Rattle.stepping_machine.specs.Words.{first_in, last_in, count_in, kind_in, kind_of, amount_of}
use Rattle.stepping_machine.specs.Represents.{Represents}
use Rattle.stepping_machine.proofs.Packing.{amount-small, word-kind}
use Rattle.better.specs.Ranks.{is_run, runs_task, runner_of, runners}
use Rattle.better.specs.Parts.{RunsIs, RunnersIs}

-- a programme with a run at some place, and one without any
runs-at : (cs : List Command) (i : ℕ) → i < length cs → is_run (get_or cs i (run 0)) ≡ true → runs_task cs ≡ true
unfolding runs_task
runs-at [] i h e = absurd (omega arith)
runs-at (c ∷ cs) zero h e = rw e
runs-at (c ∷ cs) (suc i) h e = ap (either (is_run c)) (runs-at cs i (omega arith) e) ∙ either_true (is_run c)

runs-not : (cs : List Command) → ((i : ℕ) → i < length cs → is_run (get_or cs i (run 0)) ≡ false) → runs_task cs ≡ false
unfolding runs_task
runs-not [] h = refl
runs-not (c ∷ cs) h = rw (h 0 (omega arith)) (runs-not cs (λ i l. h (suc i) (omega arith)))

-- a run is told by its kind
is-run : (c : Command) → kind_of c ≡ 1 → is_run c ≡ true
is-run (run t) e = refl
is-run (send l) e = absurd (omega arith)
is-run (receive l) e = absurd (omega arith)
is-run (release t) e = absurd (omega arith)
is-run (discard l) e = absurd (omega arith)

is_none : (c : Command) → (kind_of c ≡ 1 → ⊥) → is_run c ≡ false
is_none (run t) e = absurd (e refl)
is_none (send l) e = refl
is_none (receive l) e = refl
is_none (release t) e = refl
is_none (discard l) e = refl

module _ (s : Sheet) (b : Bundle) (w : List ℕ) (σ : State) (h : Represents s b w σ) (k : ℕ) (l : k < 16) where
  -- the kind of the word at an index is the kind of its command
  kind_at : (i : ℕ) → i < length (programme_of b k) → kind_in (get_or w (first_in w k + i) 0) ≡ kind_of (get_or (programme_of b k) i (run 0))
  kind_at i m =
      let p = h.programmed in
      let d = p.decoded k l in
      word-kind s p.ranged (amount_of s b k) (amount-small s b k p.ranged p.few l) (get_or (programme_of b k) i (run 0)) (d.known i m) (get_or w (first_in w k + i) 0) (d.word i m)

-- no run stands between the indices a and i
pub record Passed (w : List ℕ) (a i : ℕ) : Type 0 where
  pub behind : a ≤ i
  pub none_run : (j : ℕ) → a ≤ j → j < i → kind_in (get_or w j 0) ≡ 1 → ⊥

pub passed_none : (w : List ℕ) (a : ℕ) → Passed w a a
passed_none w a = record { behind = omega arith; none_run = λ j l m e. omega arith }

pub passed-more : {w : List ℕ} {a i : ℕ} → Passed w a i → (kind_in (get_or w i 0) ≡ 1 → ⊥) → Passed w a (i + 1)
passed-more {w} {a} {i} g n =
    record {
      behind = omega (arith, g.behind);
      none_run =
          λ j l m e.
          ⊎_elim (λ (p : j < i). g.none_run j l p e) (λ (q : j ≡ i). n (subst (λ (x : ℕ). kind_in (get_or w x 0) ≡ 1) q e)) (below_suc (rw add-one at m));
    }

pub run-found : {w : List ℕ} {k i : ℕ} → first_in w k ≤ i → i < last_in w k → kind_in (get_or w i 0) ≡ 1 → RunsIs w k true
run-found {w} {k} {i} l m e =
    record {
      is =
          λ s b σ h n.
          let few = h.programmed.few in
          let p : k < 16 = omega arith in
          let j : first_in w k + (i - first_in w k) ≡ i = omega arith in
          let inside : i - first_in w k < length (programme_of b k) = omega (arith, h.programmed.last k p) in
          sym
          (runs-at (programme_of b k) (i - first_in w k) inside
          (is-run (get_or (programme_of b k) (i - first_in w k) (run 0)) (sym (kind_at s b w σ h k p (i - first_in w k) inside) ∙ ap (λ (x : ℕ). kind_in (get_or w x 0)) j ∙ e)));
    }

pub run_none : {w : List ℕ} {k i : ℕ} → Passed w (first_in w k) i → last_in w k ≤ i → RunsIs w k false
run_none {w} {k} {i} g m =
    record {
      is =
          λ s b σ h n.
          let few = h.programmed.few in
          let p : k < 16 = omega arith in
          sym
          (runs-not (programme_of b k)
          (λ x inside.
          is_none (get_or (programme_of b k) x (run 0))
          (λ e. g.none_run (first_in w k + x) (omega arith) (omega (arith, h.programmed.last k p)) (kind_at s b w σ h k p x inside ∙ e))));
    }

-- the count up to programme k
pub record Counted (w : List ℕ) (k n : ℕ) : Type 0 where
  pub few : n ≤ k
  pub is : (s : Sheet) (b : Bundle) (σ : State) → Represents s b w σ → k ≤ programme_count b → n ≡ sum k (runner_of b)

pub counted_none : (w : List ℕ) → Counted w 0 0
unfolding sum
counted_none w = record { few = omega arith; is = λ s b σ h l. refl }

pub counted-more : {w : List ℕ} {k n : ℕ} {r : Bool} (x : ℕ) → Counted w k n → RunsIs w k r → x ≡ bit r → Counted w (k + 1) (n + x)
unfolding sum
counted-more {w} {k} {n} {r} x g t e =
    record {
      few = omega (arith, g.few, small r);
      is =
          λ s b σ h l.
          let here : x ≡ runner_of b k = e ∙ ap bit (t.is s b σ h (omega arith)) in
          rw add-one (omega (arith, g.is s b σ h (omega arith)));
    }
  where
    small : (y : Bool) → bit y ≤ 1
    small true = omega arith
    small false = omega arith

pub counted-all : {w : List ℕ} {k n : ℕ} → Counted w k n → k ≡ count_in w → RunnersIs w n
unfolding runners
counted-all {w} {k} {n} g e =
    record {
      is = λ s b σ h. let c : k ≡ programme_count b = e ∙ h.programmed.programmes in g.is s b σ h (omega arith) ∙ ap (λ (i : ℕ). sum i (runner_of b)) c;
    }
