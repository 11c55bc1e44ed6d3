-- From the checker and the machine to the ends of their functions.
use Rattle.std.specs.Prelude.{⊤, Result, Ok, Err}
use Rattle.refusals.specs.declared.Refusal.{Refusal}
use Rattle.refusals.proofs.Results.{refused-by, value-by}
use Rattle.bundle_reader.specs.Answers.{outline_of}
use Rattle.bundle_reader.specs.declared.bytes.Outline.{Outline}
use Rattle.checker.proofs.Verdicts.{good-value, refused-value}
use Prim.Native.Nat.{ℕ, ◌%◌, ◌≤◌, ◌<◌}
use mathlib.Core.Path.{◌≡◌, sym, ap, subst, ◌∙◌}
use mathlib.Core.List.{List, [], ◌∷◌}
use native.Mathlib.Omega.{arith}
use native.Mathlib.Nat.{zero-add}
use native.Mathlib.Decide.{dec_lt}
use lib.ListN.{length, get_or-eq_default}
use Rattle.folds.specs.Answers.{Answer, value, refused}
use Rattle.folds.proofs.Tests.{not-value}
use Rattle.workspace.specs.Area.{fixed}
use Rattle.sheet.specs.Sheet.{Sheet}
use Rattle.bundle.specs.Bundle.{Bundle}
use Rattle.machine.specs.Machine.{State, Processor, fresh_state, fresh_processor, processor_of}
use Rattle.machine.specs.Runs.{fresh_run, run_of}
use Rattle.machine.specs.Kept.{RunIs}
use Rattle.stepping_machine.specs.Represents.{Represents, ClockIs, PositionIs, StoreIs}
use Rattle.stepping_machine.specs.Starts.{starting, started_of, BytesIs}
use Rattle.checker.specs.Checker.{check}
use Rattle.checker.specs.Verdicts as checker
use Rattle.entry_points.specs.Values.{no_place}
use Rattle.entry_points.specs.Values.{stepped_in}
use Rattle.entry_points.specs.Parts.{outcome_of, EndIs, StateIs, NumbersIs}

-- how the checker ended, by its answer
module _ (sheet bundle work mid : List ℕ) {v : Result ⊤ Refusal} (h : checker.BytesIs sheet bundle work mid v) where
  pub check-good : v ≡ Ok tt → EndIs no_place (check sheet bundle) work mid (Ok 0)
  check-good q =
      let a = good-value (check sheet bundle) (sym q ∙ h.is) in
      record { answer = sym (ap (outcome_of no_place) a.1); long = h.long }

  pub check-refused : (r : Refusal) → v ≡ Err r → EndIs no_place (check sheet bundle) work mid (Err r)
  check-refused r q =
      let a = refused-value (check sheet bundle) r (sym q ∙ h.is) in
      record { answer = sym (ap (outcome_of no_place) a); long = h.long }

-- how the start ended, by its answer
started-refused : (a : Answer (Sheet × Bundle)) (r : Refusal) → Err r ≡ started_of a → a ≡ refused r.number r.place
started-refused a r e = refused-by (λ x. outline_of x.1) a r e

started-value : (a : Answer (Sheet × Bundle)) (u : Outline) → Ok u ≡ started_of a → (s : Sheet) × (b : Bundle) × (a ≡ value (s, b))
started-value a u e = let v = value-by (λ x. outline_of x.1) a u e in (v.x.0, v.x.1, v.value)

same-pair : {s t : Sheet} {b c : Bundle} → ◌≡◌ {A = Answer (Sheet × Bundle)} (value (s, b)) (value (t, c)) → (s ≡ t) × (b ≡ c)
same-pair {s} {t} {b} {c} e =
    let p : ◌≡◌ {A = Sheet × Bundle} (s, b) (t, c) = cc in
    (ap (λ (x : Sheet × Bundle). x.0) p, ap (λ (x : Sheet × Bundle). x.1) p)

module _ (sheet bundle work mid state last : List ℕ) {j : Result Outline Refusal} (h : BytesIs sheet bundle work mid state last j) where
  pub state-refused : (f : Sheet × Bundle → ℕ) (τ : Sheet → Bundle → State) (r : Refusal) → j ≡ Err r → StateIs f τ sheet bundle work mid state last (Err r)
  state-refused f τ r e =
      let a = started-refused (starting sheet bundle) r (sym e ∙ h.is) in
      record {
        answer = sym (ap (outcome_of f) a);
        long = h.long;
        state_long = h.state_long;
        untouched = h.untouched;
        keeps = λ enough s b q. not-value (sym a ∙ q);
      }

  pub state-fresh : (u : Outline) → j ≡ Ok u → StateIs (λ x. 0) fresh_state sheet bundle work mid state last (Ok 0)
  state-fresh u e =
      let a = started-value (starting sheet bundle) u (sym e ∙ h.is) in
      record {
        answer = sym (ap (outcome_of (λ (x : Sheet × Bundle). 0)) a.2);
        long = h.long;
        state_long = h.state_long;
        untouched = h.untouched;
        keeps = λ enough. h.represents;
      }

  pub state-ran : fixed ≤ length state → (choices final : List ℕ) (n : ℕ) (u : Outline) → j ≡ Ok u → RunIs Represents choices last final n
      → StateIs (stepped_in choices) (λ s b. (run_of s b choices).state) sheet bundle work mid state final (Ok n)
  unfolding run_of
  state-ran long choices final n u e g =
      let a = started-value (starting sheet bundle) u (sym e ∙ h.is) in
      let k = g.agrees a.0 a.1 (fresh_run a.0 a.1) (h.represents a.0 a.1 a.2) in
      record {
        answer = ap Ok (sym (zero-add n) ∙ k.0) ∙ sym (ap (outcome_of (stepped_in choices)) a.2);
        long = h.long;
        state_long = g.long ∙ h.state_long;
        untouched = λ r at q. not-value (sym q ∙ a.2);
        keeps =
            λ enough s b q.
            let p = same-pair (sym a.2 ∙ q) in
            subst (λ (x : Sheet). Represents x b final (run_of x b choices).state) p.0
            (subst (λ (x : Bundle). Represents a.0 x final (run_of a.0 x choices).state) p.1 k.1);
      }

-- the numbers of a processor fit their words
module _ {s : Sheet} {b : Bundle} {w : List ℕ} {σ : State} (y : Represents s b w σ) (k : ℕ) where
  nobody : 16 ≤ k → processor_of σ k ≡ fresh_processor
  unfolding processor_of
  nobody l = get_or-eq_default σ.processors fresh_processor {n = k} (omega (arith, y.processors, y.programmed.few))

  small-numbers : ((processor_of σ k).clock < 4294967296) × ((processor_of σ k).position < 4294967296) × ((processor_of σ k).store < 4294967296)
  small-numbers =
      elim (dec_lt k 16) [
        | yes l ↦ (let r = y.room k l in (omega (arith, r.0), omega (arith, y.inside k l, y.programmed.high k l), omega (arith, r.1)))
        | no l ↦
            (let e = nobody (omega arith) in
            (omega (arith, ap (λ (p : Processor). p.clock) e), omega (arith, ap (λ (p : Processor). p.position) e), omega (arith, ap (λ (p : Processor). p.store) e)))
      ]

pub numbers-are : (state : List ℕ) (k c p q x y z : ℕ) → ClockIs state k c → PositionIs state k p → StoreIs state k q → x ≡ c % 4294967296 → y ≡ p % 4294967296 → z ≡ q % 4294967296
    → NumbersIs state k (x ∷ y ∷ z ∷ [])
numbers-are state k c p q x y z hc hp hq ex ey ez =
    record {
      is =
          λ s b σ h.
          let n = small-numbers h k in
          let e = hc.is s b σ h in
          let f = hp.is s b σ h in
          let g = hq.is s b σ h in
          ap₃ (omega (arith, ex, e, n.0)) (omega (arith, ey, f, n.1)) (omega (arith, ez, g, n.2));
    }
  where
    ap₃ : {a b c a' b' c' : ℕ} → a ≡ a' → b ≡ b' → c ≡ c' → ◌≡◌ {A = List ℕ} (a ∷ b ∷ c ∷ []) (a' ∷ b' ∷ c' ∷ [])
    ap₃ x y z = cc
