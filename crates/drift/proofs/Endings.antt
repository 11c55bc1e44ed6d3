-- The report from a recorded run, and behind the refusals.
use Prim.Native.Nat.{ℕ, ◌+◌, ◌*◌, ◌-◌, ◌≤◌, ◌<◌}
use native.Mathlib.Omega.{arith}
use mathlib.Core.Bool.{Bool, true, false}
use mathlib.Core.Option.{none, some}
use mathlib.Core.Path.{◌≡◌, refl, sym, ap, ◌∙◌, subst}
use mathlib.Core.List.{List, []}
use lib.ListN.{length, drop, get_or, replicate, length-replicate, length-drop}
use lib.Dec.{eqb}
use borrow.Author.Tests.{eqb-true, ne_eqb, ltb-false}
use borrow.Rule.Slice.PartMut.{mid_of}
use Rattle.folds.specs.Folds.{pick}
use Rattle.folds.specs.Answers.{Answer, value, refused, and_then, fitting}
use Rattle.folds.proofs.Tests.{unless-value, not_some}
use Rattle.folds.proofs.Laws.{sum_zeros, first-none}
use Rattle.folds.proofs.Lists.{get_d_replicate, gather_cong}
use Rattle.numbers.specs.Number.{Bytes, number_bytes, stored}
use Rattle.numbers.proofs.Laws.{length-stored}
use Rattle.numbers.proofs.Puts.{kept, front, fits_not, fits-well}
use Rattle.std.specs.Prelude.{⊤, Result, Ok, Err}
use Rattle.bundle_reader.specs.Answers.{outline_of}
use Rattle.bundle_reader.specs.declared.bytes.Outline.{Outline}
use Rattle.refusals.specs.Refusals.{refusal, WriteIs}
use Rattle.refusals.specs.declared.Refusal.{Refusal}
use Rattle.sheet.specs.Sheet.{Sheet, task_count}
use Rattle.sheet.specs.Tables.{sheet_in}
use Rattle.graph.specs.Graph.{read_sheet}
use Rattle.levelling.specs.Opened.{OpenIs}
use Rattle.levelling.proofs.Opens.{open-refusal, open-value}
use Rattle.bundle.specs.Bundle.{Bundle, run, programme_count, programme_of}
use Rattle.bundle.specs.Format.{read_bundle}
use Rattle.bundle.specs.Counts.{command_count}
use Rattle.bundle.proofs.Rounds.{read_fits}
use Rattle.admission.specs.Counting.{weigh, whole, is, each}
use Rattle.admission.specs.Messages.{Published}
use Rattle.admission.specs.Fields.{Known, Seen}
use Rattle.admission.specs.Views.{ViewIs, Shown}
use Rattle.admission.specs.Admitted.{admitted, admitted_bytes, judged_of}
use Rattle.admission.specs.declared.view.View.{View}
use Rattle.admission.proofs.Areas.{known_in}
use Rattle.admission.proofs.Admits.{admitted-published}
use Rattle.admission.proofs.Few.{commands-whole}
use Rattle.admission.proofs.Messages.{run-once}
use Rattle.admission.proofs.Weights.{weigh-each}
use Rattle.machine.specs.Machine.{State, fresh_state, processor_of, stated}
use Rattle.machine.specs.Runs.{left, left_of, latest, settled}
use Rattle.machine.proofs.Steps.{left-moved}
use Rattle.machine.proofs.Runs.{fresh-left, ended-all}
use Rattle.stepping_machine.specs.Layout as lay
use Rattle.stepping_machine.specs.Represents.{Represents}
use Rattle.stepping_machine.specs.Settling.{SettleIs}
use Rattle.stepping_machine.specs.Starts.{AdmitIs}
use Rattle.stepping_machine.proofs.Going.{settles-to}
use Rattle.stepping_machine.proofs.Starting.{short-fit}
use Rattle.checker.specs.Checker.{unfinished, at29, at30, closing, checked}
use Rattle.checker.specs.Verdicts.{verdict_of, checked_bytes, FinishIs, JudgementIs}
use Rattle.checker.proofs.Accepted.{passes}
use Rattle.checker.proofs.Closing.{judged-refused, judged-ends}
use Rattle.checker.proofs.Verdicts.{good-value, refused-value}
use Rattle.drift.specs.Drift.{finishing, drift_of}
use Rattle.drift.specs.Tails.{Steps}
use Rattle.drift.specs.Following.{Follows, commands, through, Trail, fresh, behind, end_of}
use Rattle.drift.specs.Recording.{most_steps, most_ends, Noted, NoteIs}
use Rattle.drift.specs.Tracing.{slot_of, Traced, TracedIs}
use Rattle.drift.specs.Reporting.{drift_bytes, reported_bytes, report, slot_bytes, told, PutIs, AdmittedIs, PartIs, ReportIs}
use Rattle.drift.proofs.Following.{step_is, many-on, follows-left}
use Rattle.drift.proofs.Drifting.{drift-is}
use Rattle.drift.proofs.Putting.{length-slots, drift-long}

-- what is left, by a trail
trail-many : {s : Sheet} {b : Bundle} {es : Steps} {σ : State} → Trail s b es σ → length σ.processors ≡ programme_count b
trail-many fresh = length-replicate _ _
trail-many {s} {b} (behind {ρ = ρ} {τ = τ} k c r n e) = many-on s b (stated s b) ρ k c τ (step_is s b (stated s b) ρ k c τ n e) (trail-many r)

trail-left : {s : Sheet} {b : Bundle} {es : Steps} {σ : State} → Trail s b es σ → (t : ℕ) → left b σ (is (run t)) + weigh (is (run t)) (commands es) ≡ whole b (is (run t))
unfolding weigh
trail-left {s} {b} fresh t = omega (arith, fresh-left s b (is (run t)))
trail-left {s} {b} (behind {ρ = ρ} {τ = τ} k c r n e) t =
    let p = step_is s b (stated s b) ρ k c τ n e in
    omega (arith, trail-left r t, left-moved s b ρ k c (stated s b k c) p.v (trail-many r) n (is (run t)), ap (λ (q : State). left b q (is (run t))) p.here)

-- back at the fresh state, the slots have the report
slots-are : {s : Sheet} {b : Bundle} {φ : State} {claim : ℕ} {w order slots : List ℕ} → Published s b → left b φ each ≡ 0 → finishing s b ≡ claim → Traced s b φ claim w order slots 0
    → (t : ℕ) → t < task_count s → get_or slots t 0 ≡ drift_of s b t
slots-are {s} {b} {φ} {claim} {slots = slots} p over f h t l = go h.trail h.count h.follows (h.slot t l)
  where
    go : {es : Steps} {σ : State} (trail : Trail s b es σ) → length es ≡ 0 → (r : Follows s b (stated s b) h.rest σ φ)
        → get_or slots t 0 ≡ slot_of (weigh (is (run t)) (commands h.rest)) (end_of trail t) (claim - through s b (stated s b) t r) → get_or slots t 0 ≡ drift_of s b t
    go (behind k c x n e) z r q = absurd (omega arith)
    go fresh z r q =
        let ran : weigh (is (run t)) (commands h.rest) ≡ 1 =
        omega (arith, follows-left s b (stated s b) r (length-replicate _ _) (is (run t)), fresh-left s b (is (run t)), run-once s b p.once t l, ended-all s b φ over (is (run t))) in
        q ∙ ap (λ (u : Bool). pick u (end_of {s = s} {b = b} {es = []} {σ = fresh_state s b} fresh t) (claim - through s b (stated s b) t r)) (ne_eqb (weigh (is (run t)) (commands h.rest)) 0 (λ y. omega arith))
        ∙ ap (λ (x : ℕ). x - through s b (stated s b) t r) (sym f) ∙ sym (drift-is s b p r over t l)

-- 12, or the report
pub put-short : (w order slots : List ℕ) (steps n claim : ℕ) (old : List ℕ) → length old < 4 * n → PutIs w order slots w steps n claim old old (Err (refusal 12 (4 * n)))
put-short w order slots steps n claim old l =
    record {
      area = refl;
      long = refl;
      is =
          λ s b e p few short h over f.
          let z : length (drift_bytes s b) ≡ 4 * n = drift-long s b ∙ ap (λ (x : ℕ). 4 * x) e in
          rw (fits_not (length old) (drift_bytes s b) (omega arith)) (record { answer = ap (λ (i : ℕ). Err (refusal 12 i)) (sym z); left = kept old 12 (length (drift_bytes s b)) });
    }

pub put-done : {w order slots w' slots' : List ℕ} {steps n claim : ℕ} {old last : List ℕ} → TracedIs w order slots w' slots' steps claim → 4 * n ≤ length old
    → last ≡ stored old 0 (slot_bytes slots' n) → PutIs w order slots w' steps n claim old last (Ok (4 * n))
unfolding slot_bytes drift_bytes
put-done {order = order} {slots' = slots'} {n = n} {claim = claim} {old = old} {last = last} g l e =
    record {
      area = g.long;
      long = ap length e ∙ length-stored old 0 (slot_bytes slots' n) (omega (arith, length-slots slots' n));
      is =
          λ s b c p few short h over f.
          let tr = g.all_traced s b h few short (λ t k. omega (arith, trail-left h.trail t, run-once s b p.once t k)) in
          let z : length (drift_bytes s b) ≡ 4 * n = drift-long s b ∙ ap (λ (x : ℕ). 4 * x) c in
          let bytes : slot_bytes slots' n ≡ drift_bytes s b = ap (slot_bytes slots') (sym c) ∙ gather_cong (task_count s) _ _ (λ t k. ap (number_bytes 4) (slots-are p over f tr t k)) in
          rw (fits-well (length old) (drift_bytes s b) (omega arith)) (record { answer = ap Ok (sym z); left = e ∙ ap (stored old 0) bytes ∙ front old (drift_bytes s b) });
    }

-- 29 and 30 of a state
none_left : (b : Bundle) (σ : State) → at29 b σ ≡ none → left b σ each ≡ 0
unfolding at29 unfinished left left_of
none_left b σ e =
    sum_zeros (programme_count b) (left_of b σ each)
    (λ k h.
    let p = programme_of b k in
    let i = (processor_of σ k).position in
    omega (arith, weigh-each (drop i p), length-drop i p, ltb-false i (length p) (first-none (programme_count b) (unfinished b σ) e k h)))

claimed : (b : Bundle) (σ : State) → at30 b σ ≡ none → latest σ ≡ b.claim
unfolding at30
claimed b σ e = go (eqb b.claim (latest σ)) refl e
  where
    go : (u : Bool) → eqb b.claim (latest σ) ≡ u → pick u none (some (latest σ)) ≡ none → latest σ ≡ b.claim
    go true q r = sym (eqb-true b.claim (latest σ) q)
    go false q r = not_some (sym r)

good-end : (b : Bundle) (σ : State) → Ok tt ≡ verdict_of (closing b σ) → (left b σ each ≡ 0) × (latest σ ≡ b.claim)
unfolding closing
good-end b σ e =
    let a = good-value (closing b σ) e in
    let r29 = unless-value 29 (at29 b σ) _ a.0 a.1 in
    let r30 = unless-value 30 (at30 b σ) _ a.0 r29.1 in
    (none_left b σ r29.0, claimed b σ r30.0)

-- the notes at the start
noted-fresh : (s : Sheet) (b : Bundle) (w : List ℕ) → whole b each ≤ most_steps → Represents s b w (fresh_state s b) → Noted s b w (replicate most_steps 0) (replicate most_ends 0) 0
unfolding end_of
noted-fresh s b w short h =
    record {
      steps = [];
      state = fresh_state s b;
      trail = fresh;
      represents = h;
      count = refl;
      ordered = tt;
      ended = λ t l. get_d_replicate most_ends t 0;
      room = omega (arith, fresh-left s b each, length-replicate {A = ℕ} most_steps 0);
      long = omega (arith, length-replicate {A = ℕ} most_ends 0);
    }

module _ {w mid order slots : List ℕ} {steps n claim : ℕ} (settles : SettleIs w mid) (notes : NoteIs w (replicate most_steps 0) (replicate most_ends 0) 0 mid order slots steps) {o : Result ⊤ Refusal} (ends : FinishIs mid claim o) where
  pub admitted-bad : (old : List ℕ) (r : Refusal) → o ≡ Err r → AdmittedIs w mid n claim old old (Err r)
  admitted-bad old r e =
      record {
        area = notes.long;
        long = refl;
        mid = mid;
        verdict = o;
        settles = settles;
        finishes = ends;
        is = λ s b c p short f few h. rw e (record { answer = refl; left = kept old r.number r.place });
      }

  pub admitted-good : {w' old last : List ℕ} {r : Result ℕ Refusal} → o ≡ Ok tt → PutIs mid order slots w' steps n claim old last r → AdmittedIs w w' n claim old last r
  unfolding finishing
  admitted-good {w'} {old} {last} {r} e g =
      record {
        area = g.area ∙ notes.long;
        long = g.long;
        mid = mid;
        verdict = o;
        settles = settles;
        finishes = ends;
        is =
            λ s b c p short f few h.
            let x = notes.notes s b (noted-fresh s b w short h) in
            let here = good-end b x.state (sym e ∙ ends.is_end s b x.state x.represents f) in
            let there = good-end b (settled s b) (sym e ∙ ends.is_end s b (settled s b) (settles-to settles s b p h) f) in
            rw e (g.is s b c p few (omega (arith, x.room, notes.order_long, length-replicate {A = ℕ} most_steps 0)) x here.0 (there.1 ∙ f));
      }

-- 21 to 37
module _ (sheet bundle w u : List ℕ) (v : View) (f : Result Outline Refusal) (h : AdmitIs sheet bundle w u v f) where
  pub part-refused : (old : List ℕ) (r : Refusal) → f ≡ Err r → PartIs sheet bundle w u v old old (Err r)
  unfolding reported_bytes
  part-refused old r e =
      let j = judged-refused sheet bundle w u v f h r e in
      record {
        area = h.long;
        long = refl;
        is = λ s k. rw (refused-value (checked_bytes s bundle) r (j.is s k)) (record { answer = refl; left = kept old r.number r.place });
      }

  pub part-ends : Seen sheet v → Bytes bundle → (out : Outline) → f ≡ Ok out → {w' old last : List ℕ} {r : Result ℕ Refusal} → AdmittedIs u w' v.tasks out.claim old last r → PartIs sheet bundle w w' v old last r
  unfolding reported_bytes checked_bytes admitted_bytes outline_of
  part-ends seen bytes out e {w'} {old} {last} {r} g =
      record {
        area = g.area ∙ h.long;
        long = g.long;
        is = λ s k. by s k (read_bundle s bundle) refl (sym e ∙ h.is s k) (λ y q. (h.represents s k y q).0) (j.is s k);
      }
    where
      j : JudgementIs sheet bundle w g.mid v g.verdict
      j = judged-ends sheet bundle w u v f h g.mid out g.verdict e g.settles g.finishes

      few : out.commands ≤ most_steps
      few = omega (arith, short-fit sheet bundle w u [] v f h out e seen bytes)

      last_step : (s : Sheet) (y : Bundle) (a : Answer Bundle) → checked s y ≡ a → g.verdict ≡ verdict_of a → WriteIs (told g.verdict (fitting (length old) (drift_bytes s y))) old last r
          → WriteIs (and_then (and_then a (λ b. value (drift_bytes s b))) (fitting (length old))) old last r
      last_step s y (refused i k) q z x = rw z at x
      last_step s y (value b) q z x =
          let same : y ≡ b = (passes s y b q).1 in
          subst (λ (o : Bundle). WriteIs (fitting (length old) (drift_bytes s o)) old last r) same (rw z at x)

      of : (s : Sheet) (y : Bundle) → Known s sheet v → read_bundle s bundle ≡ value y → (o : Answer Bundle) → admitted s y ≡ o → Ok out ≡ judged_of o
          → ((x : Bundle) → admitted s y ≡ value x → Represents s x u (fresh_state s x)) → g.verdict ≡ verdict_of (checked s y)
          → WriteIs (and_then (and_then (checked s y) (λ b. value (drift_bytes s b))) (fitting (length old))) old last r
      of s y k read (refused i l) z d start verdict = absurd cc
      of s y k read (value x) z d start verdict =
          let q = admitted-published s y x z in
          let el : y.claim ≡ out.claim = ap (λ (i : Bundle). i.claim) q.2 ∙ third d in
          let count : command_count y ≡ out.commands = ap command_count q.2 ∙ second d in
          let fits = read_fits s bundle y bytes read in
          last_step s y (checked s y) refl verdict
          (g.is s y k.tasks q.0 (omega (arith, commands-whole y, few)) el (omega (arith, fits.claimed)) (start y (z ∙ ap value (sym q.2))))
        where
          third : Ok out ≡ judged_of (value x) → x.claim ≡ out.claim
          third d = let p : out ≡ outline_of x = cc in sym (ap (λ (i : Outline). i.claim) p)

          second : Ok out ≡ judged_of (value x) → command_count x ≡ out.commands
          second d = let p : out ≡ outline_of x = cc in sym (ap (λ (i : Outline). i.commands) p)

      by : (s : Sheet) → Known s sheet v → (o : Answer Bundle) → read_bundle s bundle ≡ o → Ok out ≡ judged_of (and_then o (admitted s))
          → ((x : Bundle) → and_then o (admitted s) ≡ value x → Represents s x u (fresh_state s x)) → g.verdict ≡ verdict_of (and_then o (checked s))
          → WriteIs (and_then (and_then (and_then o (checked s)) (λ b. value (drift_bytes s b))) (fitting (length old))) old last r
      by s k (value y) read d start verdict = of s y k read (admitted s y) refl d start verdict
      by s k (refused i l) read d start verdict = absurd cc

-- 1 to 10, and by the sheet that was read
module _ (sheet bundle work mid : List ℕ) {o : Result ⊤ Refusal} (h : OpenIs (read_sheet sheet) work mid o) where
  pub sheet-refused : (old : List ℕ) (r : Refusal) → o ≡ Err r → ReportIs sheet bundle work mid old old (Err r)
  unfolding report
  sheet-refused old r q =
      record {
        area = h.long;
        is = rw (open-refusal h r q) (record { answer = refl; left = kept old r.number r.place });
      }

  pub sheet-read : (last after old out : List ℕ) (v : View) (r : Result ℕ Refusal) → o ≡ Ok tt → Shown sheet mid → ViewIs mid v
      → PartIs sheet bundle (mid_of lay.board (length mid - lay.board) mid) last v old out r → length after ≡ length mid → ReportIs sheet bundle work after old out r
  unfolding report
  sheet-read last after old out v r q y z g e =
      record { area = e ∙ h.long; is = rw (open-value h q) (g.is (sheet_in mid) (known_in mid sheet v y z)) }
