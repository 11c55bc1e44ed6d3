-- Laws of running on.
use Prim.Native.Nat.{ℕ, suc, ◌+◌, ◌*◌, ◌<◌, ◌≤◌, min}
use mathlib.Core.Path.{◌≡◌, refl, sym, ap, ◌∙◌, subst}
use mathlib.Core.Bool.{Bool, true, false, false≢true}
use mathlib.Core.Option.{none, some}
use mathlib.Core.List.{List, [], ◌∷◌, ◌++◌}
use native.Mathlib.Omega.{arith}
use native.Mathlib.Decide.{dec_lt}
use lib.ListN.{length, length-set}
use Rattle.folds.specs.Folds.{bit}
use Rattle.sheet.specs.Sheet.{Sheet}
use Rattle.bundle.specs.Bundle.{Bundle, programme_count}
use Rattle.admission.specs.Counting.{each}
use Rattle.admission.specs.Messages.{Published}
use Rattle.machine.specs.Machine.{State, fresh_state, stated, step, can_step}
use Rattle.machine.specs.Runs.{Run, fresh_run, run_from, run_of, left, settled}
use Rattle.machine.specs.Kept.{StepIs, RunIs}
use Rattle.stepping_machine.specs.Layout as lay
use Rattle.stepping_machine.specs.Words.{count_in}
use Rattle.stepping_machine.specs.Represents.{Represents, ChoiceIs}
use Rattle.stepping_machine.specs.Settling.{Goes, Halts, AdvanceIs, RoundIs, SettleIs}
use Rattle.machine.proofs.Steps.{step-can, step_move, left-moved}
use Rattle.machine.proofs.Runs.{keeps}
use Rattle.machine.proofs.Orders.{no_step, any-run}
use Rattle.machine.proofs.Choices.{from_then}
use Rattle.machine.proofs.Kept.{none_of, run_none, run_more}

cannot : (s : Sheet) (b : Bundle) (σ : State) (k : ℕ) → false ≡ can_step s b σ k → step s b σ k ≡ none
cannot s b σ k e = no_step s b σ k (λ τ q. false≢true (e ∙ step-can s b σ k τ q))

pub goes_none : (w : List ℕ) → Goes w w 0
unfolding run_from
goes_none w = record { choices = []; runs = record { long = refl; agrees = λ s b r h. (omega arith, h) } }

pub goes_then : {w u v : List ℕ} {n m : ℕ} → Goes w u n → Goes u v m → Goes w v (n + m)
goes_then {w} {u} {v} {n} {m} g h =
    record {
      choices = g.choices ++ h.choices;
      runs =
          record {
            long = h.runs.long ∙ g.runs.long;
            agrees =
                λ s b r p.
                let x = g.runs.agrees s b r p in
                let y = h.runs.agrees s b (run_from s b r g.choices) x.1 in
                let e = from_then s b r g.choices h.choices in
                (omega (arith, x.0, y.0, ap (λ (o : Run). o.stepped) e), subst (λ (o : Run). Represents s b v o.state) (sym e) y.1);
          };
    }

choice : {w v : List ℕ} {k : ℕ} {f : Bool} → StepIs Represents w v k f → Goes w v (bit f)
choice {w} {v} {k} {f} h =
    let g = run_more Represents {v = w} {w = w} {u = v} {n = 0} (k ∷ []) 0 k (bit f) f (run_none Represents (k ∷ []) w) (omega arith) refl h refl in
    let e : 0 + bit f ≡ bit f = omega arith in
    record { choices = k ∷ []; runs = subst (RunIs Represents (k ∷ []) w v) e g }

-- one processor: a step, and the ends
pub record Advancing (w u : List ℕ) (n : ℕ) : Type 0 where
  pub goes : Goes w u n
  pub same : n ≡ 0 → u ≡ w

pub advance-starts : (w : List ℕ) → Advancing w w 0
advance-starts w = record { goes = goes_none w; same = λ q. refl }

pub advance-more : {w u v : List ℕ} {n k : ℕ} (f : Bool) → f ≡ true → Advancing w u n → ChoiceIs u v k f → Advancing w v (n + 1)
advance-more {w} {u} {v} {n} {k} f e g h =
    record { goes = goes_then g.goes (choice (subst (StepIs Represents u v k) e h.steps)); same = λ q. absurd (omega arith) }

pub advance-stops : {w u v : List ℕ} {n k : ℕ} (f : Bool) → f ≡ false → n ≤ lay.longest → Advancing w u n → ChoiceIs u v k f → AdvanceIs w v k n
advance-stops {w} {u} {v} {n} {k} f e l g h =
    let d = h.steps.same e in
    record {
      goes = subst (λ (x : List ℕ). Goes w x n) (sym d) g.goes;
      few = l;
      same = λ q. d ∙ g.same q;
      halts =
          λ q.
          record {
            none_at = λ s b σ p. cannot s b σ k (sym e ∙ (h.steps.agrees s b σ (subst (λ (x : List ℕ). Represents s b x σ) (sym (g.same q)) p)).0);
          };
    }

pub advance-full : {w u : List ℕ} {n k : ℕ} → n ≡ lay.longest → Advancing w u n → AdvanceIs w u k n
advance-full e g = record { goes = g.goes; few = omega arith; same = g.same; halts = λ q. absurd (omega arith) }

-- a round
pub record Rounding (w u : List ℕ) (k n : ℕ) : Type 0 where
  pub goes : Goes w u n
  pub few : n ≤ lay.longest * k
  pub same : n ≡ 0 → u ≡ w
  pub halts : n ≡ 0 → (j : ℕ) → j < k → Halts w j

pub round-starts : (w : List ℕ) → Rounding w w 0 0
round-starts w = record { goes = goes_none w; few = omega arith; same = λ q. refl; halts = λ q j l. absurd (omega arith) }

pub round-more : {w u v : List ℕ} {k n m : ℕ} → Rounding w u k n → AdvanceIs u v k m → Rounding w v (k + 1) (n + m)
round-more {w} {u} {v} {k} {n} {m} g h =
    record {
      goes = goes_then g.goes h.goes;
      few = omega (arith, g.few, h.few);
      same = λ q. h.same (omega arith) ∙ g.same (omega arith);
      halts =
          λ q j l.
          elim (dec_lt j k) [
            | yes i ↦ g.halts (omega arith) j i
            | no i ↦
                (let e : k ≡ j = omega arith in
                subst (Halts w) e (subst (λ (x : List ℕ). Halts x k) (g.same (omega arith)) (h.halts (omega arith))))
          ];
    }

pub round-ends : {w u : List ℕ} {k n : ℕ} → Rounding w u k n → min (count_in w) 16 ≤ k → RoundIs w u n
round-ends {w} {u} {k} {n} g e =
    record {
      goes = g.goes;
      same = g.same;
      halts =
          λ q j.
          elim (dec_lt j k) [
            | yes i ↦ g.halts q j i
            | no i ↦
                record {
                  none_at = λ s b σ p. cannot s b σ j ((none_of Represents w j (λ s b σ h. omega (arith, h.programmed.programmes, h.programmed.few))).agrees s b σ p).0;
                }
          ];
    }

-- steps and commands left
module _ (s : Sheet) (b : Bundle) where
  left-run : (w : List ℕ) (r : Run) → Represents s b w r.state → (ks : List ℕ)
      → left b (run_from s b r ks).state each + (run_from s b r ks).stepped ≡ left b r.state each + r.stepped
  left-run w r h ks =
      (keeps s b (λ o. (length o.state.processors ≡ programme_count b) × (left b o.state each + o.stepped ≡ left b r.state each + r.stepped)) on r ks (h.processors, refl)
      ).1
    where
      on : (o : Run) (k : ℕ) (τ : State) → (length o.state.processors ≡ programme_count b) × (left b o.state each + o.stepped ≡ left b r.state each + r.stepped)
          → step s b o.state k ≡ some τ → (length τ.processors ≡ programme_count b) × (left b τ each + suc o.stepped ≡ left b r.state each + r.stepped)
      on o k τ p e =
          let m = step_move s b o.state k τ e in (
            ap (λ (x : State). length x.processors) m.here ∙ length-set o.state.processors k _ ∙ p.0,
            omega (arith, p.1, left-moved s b o.state k m.c (stated s b k m.c) m.w p.0 m.comes each, ap (λ (x : State). left b x each) m.here),
          )

  none_left : (w : List ℕ) (σ : State) → Represents s b w σ → left b σ each ≡ 0 → (k : ℕ) → step s b σ k ≡ none
  none_left w σ h e k =
      no_step s b σ k (λ τ q. let m = step_move s b σ k τ q in omega (arith, left-moved s b σ k m.c (stated s b k m.c) m.w h.processors m.comes each))

  -- words represent what is at most so many commands from the end
  pub few-left : (w : List ℕ) (σ : State) → Represents s b w σ → left b σ each ≤ lay.longest
  few-left w σ h = omega (arith, (h.room 0 (omega arith)).0)

-- rounds, each of which takes a command away
pub record Rounds (w u : List ℕ) (rounds : ℕ) : Type 0 where
  pub count : ℕ
  pub goes : Goes w u count
  pub far : rounds ≤ count

pub settle-starts : (w : List ℕ) → Rounds w w 0
settle-starts w = record { count = 0; goes = goes_none w; far = omega arith }

pub settle-more : {w u v : List ℕ} {rounds n : ℕ} → (n ≡ 0 → ⊥) → Rounds w u rounds → RoundIs u v n → Rounds w v (rounds + 1)
settle-more {w} {u} {v} {rounds} {n} e g h = record { count = g.count + n; goes = goes_then g.goes h.goes; far = omega (arith, g.far) }

pub settle-stops : {w u v : List ℕ} {rounds n : ℕ} → n ≡ 0 → Rounds w u rounds → RoundIs u v n → SettleIs w v
settle-stops {w} {u} {v} e g h =
    record {
      choices = g.goes.choices;
      count = g.count;
      runs = subst (λ (x : List ℕ). RunIs Represents g.goes.choices w x g.count) (sym (h.same e)) g.goes.runs;
      still = λ s b r p k. (h.halts e k).none_at s b (run_from s b r g.goes.choices).state (g.goes.runs.agrees s b r p).1;
    }

pub settle-ends : {w u : List ℕ} {rounds : ℕ} → lay.longest ≤ rounds → Rounds w u rounds → SettleIs w u
settle-ends {w} {u} {rounds} e g =
    record {
      choices = g.goes.choices;
      count = g.count;
      runs = g.goes.runs;
      still =
          λ s b r p k.
          let f = few-left s b w r.state p in
          let x = g.goes.runs.agrees s b r p in
          let y = left-run s b w r p g.goes.choices in
          none_left s b u (run_from s b r g.goes.choices).state x.1 (omega (arith, g.far, x.0, y, f)) k;
    }

-- from the fresh state of a bundle with the published messages, settling comes to the state in which the definition settles
pub settles-to : {w last : List ℕ} → SettleIs w last → (s : Sheet) (b : Bundle) → Published s b → Represents s b w (fresh_state s b) → Represents s b last (settled s b)
unfolding run_of
settles-to {w} {last} h s b p k = subst (Represents s b last) (any-run s b p h.choices (h.still s b (fresh_run s b) k)) (h.runs.agrees s b (fresh_run s b) k).1
