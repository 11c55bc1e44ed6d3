-- How far works may drift, of the functions of the interface.
use Prim.Native.Nat.{ℕ, zero, suc, ◌+◌, ◌*◌, ◌≤◌, ◌<◌}
use native.Mathlib.Omega.{arith}
use native.Mathlib.Decide.{dec_lt}
use mathlib.Core.Path.{◌≡◌, refl, sym, ap, ◌∙◌, subst}
use mathlib.Core.List.{List, ◌++◌}
use borrow.Author.Tests.{lt-ltb}
use lib.ListN.{length, take, drop, take-append-drop}
use Rattle.folds.specs.Answers.{Answer, value, refused, and_then, fitting, number, place_or, written}
use Rattle.folds.proofs.Tests.{and_then-value, not-value, value_same}
use Rattle.numbers.specs.Number.{Bytes, number_at}
use Rattle.workspace.specs.Area.{fixed}
use Rattle.sheet.specs.Sheet.{Sheet, task_count}
use Rattle.graph.specs.Graph.{read_sheet}
use Rattle.bundle.specs.Bundle.{Bundle}
use Rattle.bundle.specs.Format.{read_bundle}
use Rattle.bundle.proofs.Rounds.{read_fits}
use Rattle.checker.specs.Checker.{checked, check}
use Rattle.checker.specs.Verdicts.{checked_bytes}
use Rattle.checker.proofs.Accepted.{passes}
use Rattle.drift.specs.Drift.{raise, finishing, drift_of}
use Rattle.drift.specs.Reporting.{drift_bytes, reported_bytes, report}
use Rattle.drift.proofs.Drifting.{drifting}
use Rattle.drift.proofs.Delaying.{delayed, raised-ends}
use Rattle.drift.proofs.Putting.{drift-long, drift-at}
use Rattle.zeldrupa.specs.Promises.{GivesCheck, drift_answer, GivesDrift}
use Rattle.zeldrupa.proofs.Gives.{enough}
use Rattle.assurance.specs.Demand.{Read}
use Rattle.assurance.specs.Choosing.{Accepted}
use Rattle.assurance.specs.Drifts.{Raised, Greatest, Reported, Drifts}
use Rattle.assurance.proofs.Numbers.{Numbered, numbered-value, numbered-then, numbered-sheet, numbered-bundle, numbered-checked}
use Rattle.assurance.proofs.Results.{value-fitting, gives-value, wrote, refused-alike}
use Rattle.assurance.proofs.Whole.{check-value, check-returns}

-- the checker's answer of what was read
accepted-is : {sheet bundle : List ℕ} (x : Read sheet bundle) → Accepted sheet bundle → checked x.s x.b ≡ value x.b
unfolding check
accepted-is {sheet} {bundle} x a =
    let v = check-value sheet bundle a.area a.area' a.place a.check in
    let e : checked x.s x.b ≡ value v.0 = rw (x.sheet_is, x.bundle_is) at v.1 in
    e ∙ ap value (sym (passes x.s x.b v.0 e).1)

-- the report of what was read, by the checker's answer
report-is : {sheet bundle : List ℕ} (x : Read sheet bundle) → report sheet bundle ≡ and_then (checked x.s x.b) (λ c. value (drift_bytes x.s c))
unfolding report reported_bytes checked_bytes
report-is x = rw (x.sheet_is, x.bundle_is)

-- what it writes was accepted
report-accepted : {sheet bundle v : List ℕ} (x : Read sheet bundle) → report sheet bundle ≡ value v → (checked x.s x.b ≡ value x.b) × (v ≡ drift_bytes x.s x.b)
report-accepted {v = v} x e =
    let r = and_then-value (checked x.s x.b) (λ c. value (drift_bytes x.s c)) v (sym (report-is x) ∙ e) in
    let same = (passes x.s x.b r.0 r.1).1 in
    (r.1 ∙ ap value (sym same), value_same (sym r.2) ∙ ap (drift_bytes x.s) (sym same))

report-read : (sheet bundle v : List ℕ) → report sheet bundle ≡ value v → Read sheet bundle
unfolding report reported_bytes checked_bytes
report-read sheet bundle v e =
    let r = and_then-value (read_sheet sheet) (λ s. and_then (and_then (read_bundle s bundle) (checked s)) (λ b. value (drift_bytes s b))) v e in
    let q = and_then-value (and_then (read_bundle r.0 bundle) (checked r.0)) (λ b. value (drift_bytes r.0 b)) v r.2 in
    let c = and_then-value (read_bundle r.0 bundle) (checked r.0) q.0 q.1 in
    record { s = r.0; b = c.0; sheet_is = r.1; bundle_is = c.1 }

module _ {sheet bundle : List ℕ} (x : Read sheet bundle) (e : checked x.s x.b ≡ value x.b) where
  raised_is : (t d : ℕ) → t < task_count x.s → Raised x.s x.b t d
  raised_is t d k =
      let p = (passes x.s x.b x.b e).0.published in
      record {
        finish = (drifting x.s x.b x.b e).little t d k;
        alike = λ ks. delayed x.s x.b t d k p ks;
        ends = λ ks z. raised-ends x.s x.b t d k p ks z;
      }

  greatest-is : (t : ℕ) → t < task_count x.s → Greatest x.s x.b t (drift_of x.s x.b t)
  greatest-is t k =
      let d = drifting x.s x.b x.b e in
      record {
        leaves = d.leaves t k;
        moves = λ f l. elim (dec_lt (finishing x.s x.b) (finishing (raise x.s t f) x.b)) [
          | yes z ↦ z
          | no z ↦ absurd (omega (arith, d.greatest t f k (omega (arith, (d.little t f k).0))))
        ];
      }

  accepted-report : report sheet bundle ≡ value (drift_bytes x.s x.b)
  accepted-report = report-is x ∙ ap (λ (a : Answer Bundle). and_then a (λ c. value (drift_bytes x.s c))) e

  drift-answer : (work out : ℕ) → fixed ≤ work → drift_answer sheet bundle work out ≡ fitting out (drift_bytes x.s x.b)
  unfolding drift_answer
  drift-answer work out l = enough (and_then (report sheet bundle) (fitting out)) work l ∙ ap (λ (a : Answer (List ℕ)). and_then a (fitting out)) accepted-report

numbered-report : (sheet bundle : List ℕ) → Numbered (report sheet bundle)
unfolding report reported_bytes checked_bytes
numbered-report sheet bundle =
    numbered-then (read_sheet sheet) _ (numbered-sheet sheet)
    (λ s.
    numbered-then (and_then (read_bundle s bundle) (checked s)) _ (numbered-then (read_bundle s bundle) _ (numbered-bundle s bundle) (numbered-checked s))
    (λ b. numbered-value (drift_bytes s b)))

refused-report : (sheet bundle : List ℕ) (m e : ℕ) → check sheet bundle ≡ refused m e → report sheet bundle ≡ refused m e
unfolding check report reported_bytes checked_bytes
refused-report sheet bundle m e q = by (read_sheet sheet) q
  where
    behind : (s : Sheet) (a : Answer Bundle) → a ≡ refused m e → and_then a (λ b. value (drift_bytes s b)) ≡ refused m e
    behind s (value b) q = not-value (sym q)
    behind s (refused n at) q = cc

    by : (a : Answer Sheet) → and_then a (λ s. and_then (read_bundle s bundle) (checked s)) ≡ refused m e
        → and_then a (λ s. and_then (and_then (read_bundle s bundle) (checked s)) (λ b. value (drift_bytes s b))) ≡ refused m e
    by (value s) q = behind s (and_then (read_bundle s bundle) (checked s)) q
    by (refused n at) q = cc

drift-value : (sheet bundle work work' out out' : List ℕ) (n : ℕ) → GivesDrift sheet bundle work work' out out' n 0 → (report sheet bundle ≡ value (take n out')) × (n ≡ length (take n out'))
unfolding drift_answer
drift-value sheet bundle work work' out out' n g = wrote (report sheet bundle) g (numbered-report sheet bundle) refl

refusal : (sheet bundle area area' work work' out out' : List ℕ) (q r p n : ℕ) → fixed ≤ length area → fixed ≤ length work → GivesCheck sheet bundle area area' q r → 0 < r
    → GivesDrift sheet bundle work work' out out' p n → (n ≡ r) × (p ≡ q) × (out' ≡ out)
unfolding drift_answer
refusal sheet bundle area area' work work' out out' q r p n l m c some g = refused-alike (report sheet bundle) g sheet bundle (refused-report sheet bundle) l m c some

short-is : {sheet bundle : List ℕ} (x : Read sheet bundle) → Accepted sheet bundle → (work work' out out' : List ℕ) (p r : ℕ) → fixed ≤ length work → length out < 4 * task_count x.s
    → GivesDrift sheet bundle work work' out out' p r → (r ≡ 12) × (p ≡ 4 * task_count x.s) × (out' ≡ out)
unfolding written
short-is x a work work' out out' p r l m g =
    let long = drift-long x.s x.b in
    let answer : drift_answer _ _ (length work) (length out) ≡ refused 12 (length (drift_bytes x.s x.b)) =
    drift-answer x (accepted-is x a) (length work) (length out) l ∙ rw (lt-ltb (length out) (length (drift_bytes x.s x.b)) (omega (arith, long)))
    in
    (g.ends.returns ∙ ap number answer, g.ends.place ∙ ap (place_or length) answer ∙ long, g.output ∙ ap (written out) answer)

given_is : {sheet bundle : List ℕ} (x : Read sheet bundle) → Accepted sheet bundle → (work work' out out' : List ℕ) (p r : ℕ) → fixed ≤ length work → 4 * task_count x.s ≤ length out
    → GivesDrift sheet bundle work work' out out' p r → r ≡ 0
given_is x a work work' out out' p r l m g =
    let v = drift_bytes x.s x.b in
    (gives-value g v (drift-answer x (accepted-is x a) (length work) (length out) l ∙ value-fitting (length out) v (omega (arith, drift-long x.s x.b)))).0

reported-is : {sheet bundle : List ℕ} (x : Read sheet bundle) → Bytes bundle → (work work' out out' : List ℕ) (n : ℕ) → GivesDrift sheet bundle work work' out out' n 0 → Reported x out' n
unfolding check
reported-is {sheet} {bundle} x bytes work work' out out' n g =
    let v = drift-value sheet bundle work work' out out' n g in
    let a = report-accepted x v.0 in
    let d = drifting x.s x.b x.b a.0 in
    let few = (read_fits x.s bundle x.b bytes x.bundle_is).claimed in
    let whole : out' ≡ drift_bytes x.s x.b ++ drop n out' = sym (take-append-drop n out') ∙ ap (λ (l : List ℕ). l ++ drop n out') a.1 in
    let at : (t : ℕ) → t < task_count x.s → number_at 4 out' (4 * t) ≡ drift_of x.s x.b t =
    λ t k. ap (λ (l : List ℕ). number_at 4 l (4 * t)) whole ∙ drift-at x.s x.b (drop n out') (λ u h. omega (arith, d.within u h, d.claimed)) t k
    in
    record {
      accepted = λ area area' q r l c. check-returns sheet bundle area area' q r x.b l c (rw (x.sheet_is, x.bundle_is) a.0);
      long = v.1 ∙ ap length a.1 ∙ drift-long x.s x.b;
      drift = λ t k. subst (Greatest x.s x.b t) (sym (at t k)) (greatest-is x a.0 t k);
    }

pub drifts : Drifts
drifts =
    record {
      claimed = λ x a. (drifting x.s x.b x.b (accepted-is x a)).claimed;
      raised = λ x a. raised_is x (accepted-is x a);
      refused = refusal;
      short = short-is;
      given = given_is;
      reads = λ sheet bundle work work' out out' n g. report-read sheet bundle (take n out') (drift-value sheet bundle work work' out out' n g).0;
      reported = reported-is;
    }
