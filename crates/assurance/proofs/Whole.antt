-- Demand 3, of the functions of the interface.
use Prim.Native.Nat.{ℕ, ◌≤◌}
use native.Mathlib.Omega.{arith}
use mathlib.Core.Bool.{true}
use mathlib.Core.Path.{◌≡◌, refl, sym, ap, ap₂, ◌∙◌, subst}
use mathlib.Core.List.{List, [], ◌++◌}
use lib.ListN.{length, take}
use Rattle.folds.specs.Answers.{Answer, value, and_then, unless, long_enough, fitting, number, place_or}
use Rattle.folds.proofs.Tests.{and_then-value, unless-value, unless_at-value, value_same}
use Rattle.numbers.specs.Number.{Bytes}
use Rattle.workspace.specs.Area.{fixed}
use Rattle.sheet.specs.Sheet.{Sheet}
use Rattle.graph.specs.Graph.{read_sheet}
use Rattle.graph.proofs.Proper.{proper, proper-sized}
use Rattle.bundle.specs.Bundle.{Bundle}
use Rattle.bundle.specs.Format.{read_bundle}
use Rattle.bundle.specs.Writing.{bundle_bytes}
use Rattle.bundle.proofs.Backs.{read_back}
use Rattle.admission.specs.Messages.{at26, at_message, at28}
use Rattle.admission.specs.Releases.{at37}
use Rattle.admission.specs.Admitted.{admitted, admitted_bytes}
use Rattle.machine.specs.Runs.{run_from, run_of, Choice, early_of}
use Rattle.machine.proofs.Early.{on-time}
use Rattle.checker.specs.Checker.{checked, check}
use Rattle.checker.proofs.Accepted.{accepted, passes}
use Rattle.planner.specs.Placing.{barred}
use Rattle.planner.specs.Planner.{bundle_of, planned, plan}
use Rattle.stepping_machine.specs.Represents.{Represents}
use Rattle.stepping_machine.specs.Starts.{starting}
use Rattle.zeldrupa.specs.Promises.{check_answer, GivesCheck, plan_answer, GivesPlan}
use Rattle.entry_points.specs.Values.{stepped_in}
use Rattle.zeldrupa.specs.Stepping.{start_answer}
use Rattle.zeldrupa.proofs.Gives.{enough}
use Rattle.assurance.specs.Demand.{OnTime, InTime, Read, Begun, started, ran, Stepped, Agrees, About, Demand}
use Rattle.assurance.proofs.Numbers.{returned-0, numbered-long, numbered-check, numbered-starting, numbered-plan}
use Rattle.assurance.proofs.Results.{long-value, wrote}
use Rattle.assurance.proofs.Calls.{agreed}
use Rattle.assurance.proofs.Holding.{holding, stated-of, passing}
use Rattle.acceptance.proofs.Planned.{plan-accepted}

check-is : (sheet out : List ℕ) (s : Sheet) (b : Bundle) → read_sheet sheet ≡ value s → read_bundle s out ≡ value b → check sheet out ≡ checked s b
unfolding check
check-is sheet out s b e f = rw (e, f)

check-promised : (sheet bundle : List ℕ) (b : Bundle) → check sheet bundle ≡ value b →
    (s : Sheet) × (read_sheet sheet ≡ value s) × (read_bundle s bundle ≡ value b) × ((cs : List Choice) → InTime s b cs (early_of s b cs))
unfolding check
check-promised sheet bundle b e =
    let r = and_then-value (read_sheet sheet) (λ s. and_then (read_bundle s bundle) (checked s)) b e in
    let q = and_then-value (read_bundle r.0 bundle) (checked r.0) b r.2 in
    let p = passes r.0 q.0 b q.2 in
    (r.0, r.1, q.1 ∙ ap value p.1, subst (λ x. (cs : List Choice) → InTime r.0 x cs (early_of r.0 x cs)) p.1 (holding r.0 q.0 p.0))

plan-checked : (sheet out : List ℕ) → Bytes sheet → plan sheet ≡ value out → (b : Bundle) × (check sheet out ≡ value b)
unfolding plan planned
plan-checked sheet out y e =
    let r = and_then-value (read_sheet sheet) (λ s. and_then (planned s) (λ σ. value (bundle_bytes (bundle_of s σ)))) out e in
    let s = r.0 in
    let q = and_then-value (planned s) (λ σ. value (bundle_bytes (bundle_of s σ))) out r.2 in
    let b = bundle_of s q.0 in
    let p = proper sheet s r.1 in
    let a = plan-accepted s p (proper-sized sheet s y r.1) (barred s) true q.0 q.1 in
    let w : bundle_bytes b ≡ out = cc q.2 in
    (b, check-is sheet out s b r.1 (subst (λ o. read_bundle s o ≡ value b) w (read_back s b (omega (arith, p.form.links)) a.1)) ∙ a.0)

-- what a call that returned 0 was answered
pub check-value : (sheet bundle work work' : List ℕ) (p : ℕ) → GivesCheck sheet bundle work work' p 0 → (b : Bundle) × (check sheet bundle ≡ value b)
unfolding check_answer
check-value sheet bundle work work' p g =
    let v = returned-0 (check_answer sheet bundle (length work)) (numbered-long fixed (length work) (check sheet bundle) (numbered-check sheet bundle)) g.returns in
    (v.0, (long-value (length work) (check sheet bundle) v.0 v.1).1)

pub check-returns : (sheet bundle work work' : List ℕ) (p r : ℕ) (b : Bundle) → fixed ≤ length work → GivesCheck sheet bundle work work' p r → check sheet bundle ≡ value b → r ≡ 0
unfolding check_answer
check-returns sheet bundle work work' p r b l g e = g.returns ∙ ap number (enough (check sheet bundle) (length work) l ∙ e)

start-value : (sheet bundle : List ℕ) (work state : ℕ) → 0 ≡ number (start_answer sheet bundle work state)
    → (s : Sheet) × (b : Bundle) × (start_answer sheet bundle work state ≡ value (s, b)) × (starting sheet bundle ≡ value (s, b)) × (fixed ≤ state)
unfolding start_answer
start-value sheet bundle work state e =
    let v = returned-0 (start_answer sheet bundle work state) (numbered-long fixed work (long_enough fixed state (starting sheet bundle)) (numbered-long fixed state (starting sheet bundle) (numbered-starting sheet bundle))) e in
    let x = long-value work (long_enough fixed state (starting sheet bundle)) v.0 v.1 in
    let y = long-value state (starting sheet bundle) v.0 x.1 in
    (v.0.0, v.0.1, v.1, y.1, y.0)

plan-value : (sheet work work' out out' : List ℕ) (n : ℕ) → GivesPlan sheet work work' out out' n 0 → plan sheet ≡ value (take n out')
unfolding plan_answer
plan-value sheet work work' out out' n g = (wrote (plan sheet) g (numbered-plan sheet) refl).0

-- a bundle that is accepted is one that the machine starts on
starts-checked : (s : Sheet) (b x : Bundle) → checked s b ≡ value x → admitted s b ≡ value b
unfolding checked admitted
starts-checked s b x e =
    let p = unless-value 26 (at26 s b) _ x e in
    let q = unless_at-value (at_message s b) _ x p.1 in
    let f = unless-value 37 (at37 s b) _ x q.1 in
    let r = unless-value 28 (at28 s b) _ x f.1 in
    rw (p.0, q.0, f.0, r.0)

-- what a started machine holds: 0 was returned, and its words keep the state after the choices that were made
begun-keeps : {sheet bundle work work' state state' made : List ℕ} {p r : ℕ} → Begun sheet bundle work work' state state' made p r → (s : Sheet) (b : Bundle)
    → start_answer sheet bundle (length work) (length state) ≡ value (s, b)
    → (r ≡ 0) × (p ≡ (run_of s b made).stepped) × (length state' ≡ length state) × Represents s b state' (run_of s b made).state
unfolding run_of run_from
begun-keeps (started g) s b e = (g.returns ∙ ap number e, g.place ∙ ap (place_or (λ x. 0)) e, g.long, g.keeps s b e)
begun-keeps (ran {choices} g) s b e = (g.returns ∙ ap number e, g.place ∙ ap (place_or (stepped_in choices)) e, g.long, g.keeps s b e)

begun-returns : {sheet bundle work work' state state' made : List ℕ} {p r : ℕ} → Begun sheet bundle work work' state state' made p r → r ≡ number (start_answer sheet bundle (length work) (length state))
begun-returns (started g) = g.returns
begun-returns (ran g) = g.returns

start-read : (sheet bundle : List ℕ) (s : Sheet) (b : Bundle) → starting sheet bundle ≡ value (s, b) → (read_sheet sheet ≡ value s) × (read_bundle s bundle ≡ value b)
unfolding starting admitted_bytes admitted
start-read sheet bundle s b e =
    let p = and_then-value (read_sheet sheet) _ (s, b) e in
    let q = and_then-value (admitted_bytes p.0 bundle) (λ b. value (p.0, b)) (s, b) p.2 in
    let r = and_then-value (read_bundle p.0 bundle) (admitted p.0) q.0 q.1 in
    let u = unless-value 26 (at26 p.0 r.0) _ q.0 r.2 in
    let v = unless_at-value (at_message p.0 r.0) _ q.0 u.1 in
    let f = unless-value 37 (at37 p.0 r.0) _ q.0 v.1 in
    let w = unless-value 28 (at28 p.0 r.0) _ q.0 f.1 in
    let pair : ◌≡◌ {A = Sheet × Bundle} (p.0, q.0) (s, b) = value_same q.2 in
    let es : p.0 ≡ s = ap (λ (z : Sheet × Bundle). z.0) pair in
    let eb : r.0 ≡ b = value_same w.1 ∙ ap (λ (z : Sheet × Bundle). z.1) pair in
    (p.1 ∙ ap value es, subst (λ (y : Sheet). read_bundle y bundle ≡ value b) es (r.1 ∙ ap value eb))

-- the start's answer on a bundle that is accepted
start-accepted : (sheet bundle : List ℕ) (s : Sheet) (b : Bundle) (work state : ℕ) → fixed ≤ work → fixed ≤ state → read_sheet sheet ≡ value s → read_bundle s bundle ≡ value b
    → check sheet bundle ≡ value b → start_answer sheet bundle work state ≡ value (s, b)
unfolding start_answer starting admitted_bytes
start-accepted sheet bundle s b work state l m e f c =
    enough (long_enough fixed state (starting sheet bundle)) work l ∙ enough (starting sheet bundle) state m
    ∙ rw (e, f, starts-checked s b b (sym (check-is sheet bundle s b e f) ∙ c))

-- one sheet and one bundle are read
one-read : {sheet bundle : List ℕ} (x y : Read sheet bundle) → (x.s ≡ y.s) × (x.b ≡ y.b)
one-read {sheet} {bundle} x y =
    let e : x.s ≡ y.s = value_same (sym x.sheet_is ∙ y.sheet_is) in
    (e, value_same (sym x.bundle_is ∙ ap (λ (z : Sheet). read_bundle z bundle) e ∙ y.bundle_is))

check-read : (sheet bundle area area' : List ℕ) (q : ℕ) → GivesCheck sheet bundle area area' q 0 → (x : Read sheet bundle) × (check sheet bundle ≡ value x.b) × ((cs : List Choice) → InTime x.s x.b cs (early_of x.s x.b cs))
check-read sheet bundle area area' q g =
    let v = check-value sheet bundle area area' q g in
    let c = check-promised sheet bundle v.0 v.1 in
    (record { s = c.0; b = v.0; sheet_is = c.1; bundle_is = c.2 }, v.1, c.3)

module _ {sheet bundle : List ℕ} (x : Read sheet bundle) where
  checked-here : (area area' : List ℕ) (q : ℕ) → GivesCheck sheet bundle area area' q 0 → (check sheet bundle ≡ value x.b) × ((cs : List Choice) → InTime x.s x.b cs (early_of x.s x.b cs))
  checked-here area area' q g =
      let v = check-read sheet bundle area area' q g in
      let e = one-read v.0 x in
      (v.1 ∙ ap value e.1, subst (λ (t : Sheet). (cs : List Choice) → InTime t x.b cs (early_of t x.b cs)) e.0 (subst (λ (c : Bundle). (cs : List Choice) → InTime v.0.s c cs (early_of v.0.s c cs)) e.1 v.2))

  begun-agrees : {work work' state state' made : List ℕ} {p r : ℕ} → fixed ≤ length state → start_answer sheet bundle (length work) (length state) ≡ value (x.s, x.b)
      → Begun sheet bundle work work' state state' made p r
      → (r ≡ 0) × (p ≡ (run_of x.s x.b made).stepped) × ((ks ps last : List ℕ) → Stepped ks ps state' last → Agrees x.s x.b made ks ps last)
  begun-agrees {made = made} l e g =
      let k = begun-keeps g x.s x.b e in
      (k.0, k.1, λ ks ps last c. agreed x.s x.b made (omega (arith, k.2)) k.3 c)

  about : About x
  about =
      record {
        promised = λ area area' q g. (checked-here area area' q g).1;
        accepted =
            λ area area' q c work work' state state' made p r l m g.
            let h = checked-here area area' q c in
            let a = begun-agrees m (start-accepted sheet bundle x.s x.b (length work) (length state) l m x.sheet_is x.bundle_is h.0) g in
            (a.0, λ ks ps last z. (stated-of x.s x.b h.1 (made ++ ks), a.2 ks ps last z));
        exactly =
            λ area area' q r l g h.
            let holds : r ≡ 0 → (cs : List Choice) → InTime x.s x.b cs (early_of x.s x.b cs) = λ z. (checked-here area area' q (subst (GivesCheck sheet bundle area area' q) z g)).1 in
            let accepts : ((ks : List ℕ) → OnTime x.s x.b (run_of x.s x.b ks)) → r ≡ 0 =
            λ z. check-returns sheet bundle area area' q r x.b l g (check-is sheet bundle x.s x.b x.sheet_is x.bundle_is ∙ accepted x.s x.b (passing x.s x.b h z)) in
            ((λ z. stated-of x.s x.b (holds z), accepts), (holds, λ z. accepts (stated-of x.s x.b z)));
        planned =
            λ work work' out out' n y g e area area' q r l c.
            let v = plan-checked sheet bundle y (plan-value sheet work work' out out' n g ∙ ap value e) in
            check-returns sheet bundle area area' q r v.0 l c v.1;
        stated = on-time x.s x.b;
        agrees =
            λ work work' state state' made p g.
            let v = start-value sheet bundle (length work) (length state) (begun-returns g) in
            let y = start-read sheet bundle v.0 v.1 v.3 in
            let e = one-read (record { s = v.0; b = v.1; sheet_is = y.0; bundle_is = y.1 }) x in
            let a = begun-agrees v.4 (v.2 ∙ ap₂ (λ (t : Sheet) (c : Bundle). value (t, c)) e.0 e.1) g in
            (a.1, a.2);
      }

pub demand : Demand
demand =
    record {
      checked = λ sheet bundle area area' q g. (check-read sheet bundle area area' q g).0;
      planned =
          λ sheet work work' out out' n y g.
          let v = plan-checked sheet (take n out') y (plan-value sheet work work' out out' n g) in
          let c = check-promised sheet (take n out') v.0 v.1 in
          record { s = c.0; b = v.0; sheet_is = c.1; bundle_is = c.2 };
      begun =
          λ sheet bundle work work' state state' made p g.
          let v = start-value sheet bundle (length work) (length state) (begun-returns g) in
          let y = start-read sheet bundle v.0 v.1 v.3 in
          record { s = v.0; b = v.1; sheet_is = y.0; bundle_is = y.1 };
      whole = about;
    }
