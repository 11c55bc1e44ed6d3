-- 29 and 30 by the words, and 21 to 30 strung together.
use Prim.Native.Nat.{ℕ, ◌+◌, ◌<◌, ◌≤◌, max}
use mathlib.Core.Path.{◌≡◌, refl, sym, ap, ap₂, ◌∙◌, subst}
use mathlib.Core.Bool.{Bool, true, false}
use mathlib.Core.Option.{Option, none, some}
use mathlib.Core.Logic.{⊎_elim}
use mathlib.Core.List.{List}
use native.Mathlib.Omega.{arith}
use native.Mathlib.Numerals.{add-one}
use borrow.Author.Tests.{lt-ltb, le-ltb, eq-eqb, ne_eqb}
use lib.Dec.{ltb, eqb}
use Rattle.folds.specs.Folds.{pick, greatest}
use Rattle.folds.specs.Answers.{Answer, value, refused, unless, and_then, unless_at}
use Rattle.folds.proofs.Tests.{below_suc, not-value}
use Rattle.folds.proofs.Laws.{none_first}
use Rattle.sheet.specs.Sheet.{Sheet}
use Rattle.bundle.specs.Bundle.{Bundle, programme_count}
use Rattle.bundle.specs.Format.{read_bundle}
use Rattle.admission.specs.Messages.{at26, at_message, at28, Published}
use Rattle.admission.specs.Releases.{at37}
use Rattle.workspace.specs.Found.{found_of}
use Rattle.admission.specs.Admitted.{admitted, admitted_bytes, judged_of}
use Rattle.admission.specs.declared.view.View.{View}
use Rattle.workspace.specs.Found.{Found}
use Rattle.std.specs.Prelude.{Some, None}
use Rattle.std.specs.Prelude.{⊤, Result, Ok, Err}
use Rattle.bundle_reader.specs.Answers.{outline_of}
use Rattle.bundle_reader.specs.declared.bytes.Outline.{Outline}
use Rattle.refusals.specs.Refusals.{refusal}
use Rattle.refusals.specs.declared.Refusal.{Refusal}
use Rattle.refusals.proofs.Results.{refused-by}
use Rattle.folds.proofs.Laws.{first_found}
use Rattle.admission.proofs.Admits.{admitted-published}
use Rattle.machine.specs.Machine.{State, fresh_state}
use Rattle.machine.specs.Runs.{latest, settled}
use Rattle.checker.specs.Checker.{unfinished, at29, at30, closing, checked}
use Rattle.checker.specs.Verdicts.{verdict_of, checked_bytes, UnfinishedIs, LatestIs, FinishIs, JudgementIs}
use Rattle.stepping_machine.specs.Words.{next_in, clock_in, last_in, count_in}
use Rattle.stepping_machine.specs.Represents.{Represents}
use Rattle.stepping_machine.specs.Settling.{SettleIs}
use Rattle.stepping_machine.specs.Starts.{AdmitIs}
use Rattle.stepping_machine.proofs.Told.{left_at, latest-by}
use Rattle.stepping_machine.proofs.Going.{settles-to}

pub record Finished (w : List ℕ) (k : ℕ) : Type 0 where
  pub over_at : (j : ℕ) → j < k → last_in w j ≤ next_in w j

pub finished-none : (w : List ℕ) → Finished w 0
finished-none w = record { over_at = λ j l. absurd (omega arith) }

pub finished-more : {w : List ℕ} {k : ℕ} → Finished w k → last_in w k ≤ next_in w k → Finished w (k + 1)
finished-more {w} {k} g e =
    record {
      over_at =
          λ j l.
          ⊎_elim (λ (i : j < k). g.over_at j i) (λ (q : j ≡ k). subst (λ (i : ℕ). last_in w i ≤ next_in w i) (sym q) e) (below_suc (rw add-one at l));
    }

-- commands are left exactly where the next one is not the index behind the last
module _ (w : List ℕ) (s : Sheet) (b : Bundle) (σ : State) (h : Represents s b w σ) where
  there : (k : ℕ) → k < programme_count b → unfinished b σ k ≡ ltb (next_in w k) (last_in w k)
  unfolding unfinished
  there k l = left_at s b w σ h k (omega (arith, h.programmed.few))

pub finished-found : (w : List ℕ) (k : ℕ) → Finished w k → k < count_in w → next_in w k < last_in w k → UnfinishedIs w (Some k)
unfolding at29
finished-found w k g l e =
    record {
      is_29 =
          λ s b σ h.
          let n = h.programmed.programmes in
          sym
          (first_found (programme_count b) (unfinished b σ) k (λ j i. there w s b σ h j (omega arith) ∙ le-ltb (next_in w j) (last_in w j) (g.over_at j i))
          (there w s b σ h k (omega arith) ∙ lt-ltb (next_in w k) (last_in w k) e) (omega arith));
    }

pub finished-all : (w : List ℕ) (k : ℕ) → Finished w k → count_in w ≤ k → UnfinishedIs w None
unfolding at29
finished-all w k g l =
    record {
      is_29 =
          λ s b σ h.
          let n = h.programmed.programmes in
          sym (none_first (programme_count b) (unfinished b σ) (λ j i. there w s b σ h j i ∙ le-ltb (next_in w j) (last_in w j) (g.over_at j (omega arith))));
    }

-- the clocks
pub latest-none : (w : List ℕ) → 0 ≡ greatest 0 (clock_in w)
unfolding greatest
latest-none w = refl

pub latest-more : (w : List ℕ) (k v a r : ℕ) → a ≡ greatest k (clock_in w) → v ≡ clock_in w k → r ≡ max a v → r ≡ greatest (k + 1) (clock_in w)
unfolding greatest
latest-more w k v a r e f g = rw add-one (g ∙ ap₂ max e f)

pub latest-is : (w : List ℕ) (k a : ℕ) → a ≡ greatest k (clock_in w) → k ≡ count_in w → LatestIs w a
latest-is w k a e f = record { is_latest = λ s b σ h. e ∙ ap (λ (i : ℕ). greatest i (clock_in w)) f ∙ sym (latest-by s b w σ h) }

-- 29 and 30
pub finish-stuck : (w : List ℕ) (claim k : ℕ) (f : Found) → f ≡ Some k → UnfinishedIs w f → FinishIs w claim (Err (refusal 29 k))
unfolding closing
finish-stuck w claim k f e h =
    record {
      is_end = λ s b σ p c. ap (λ (o : Option ℕ). verdict_of (unless 29 o (unless 30 (at30 b σ) (value b)))) (ap found_of (sym e) ∙ h.is_29 s b σ p);
    }

late : (b : Bundle) (σ : State) (a claim : ℕ) → a ≡ latest σ → b.claim ≡ claim → at30 b σ ≡ pick (eqb claim a) none (some a)
unfolding at30
late b σ a claim e c = ap (λ (x : ℕ). pick (eqb b.claim x) none (some x)) (sym e) ∙ ap (λ (x : ℕ). pick (eqb x a) none (some a)) c

-- the verdict on a clock, whatever the bundle
abbrev pub on_clock : ℕ → ℕ → Result ⊤ Refusal
on_clock claim a = pick (eqb claim a) (Ok tt) (Err (refusal 30 a))

pub finish-clock : (w : List ℕ) (claim a : ℕ) (f : Found) (v : Result ⊤ Refusal) → f ≡ None → UnfinishedIs w f → LatestIs w a → v ≡ on_clock claim a → FinishIs w claim v
unfolding closing
finish-clock w claim a f v e h g q =
    record {
      is_end =
          λ s b σ p c.
          q ∙ by b (eqb claim a)
          ∙ ap (λ (o : Option ℕ). verdict_of (unless 30 o (value b))) (sym (late b σ a claim (g.is_latest s b σ p) c))
          ∙ ap (λ (o : Option ℕ). verdict_of (unless 29 o (unless 30 (at30 b σ) (value b)))) (ap found_of (sym e) ∙ h.is_29 s b σ p);
    }
  where
    by : (b : Bundle) (x : Bool) → pick x (Ok tt) (Err (refusal 30 a)) ≡ verdict_of (unless 30 (pick x none (some a)) (value b))
    by b true = refl
    by b false = refl

pub good-clock : (claim a : ℕ) → a ≡ claim → Ok tt ≡ on_clock claim a
good-clock claim a e = rw (eq-eqb claim a (sym e))

pub bad-clock : (claim a : ℕ) → (a ≡ claim → ⊥) → Err (refusal 30 a) ≡ on_clock claim a
bad-clock claim a e = rw (ne_eqb claim a (λ q. e (sym q)))

-- the checker's answer goes on where 26, 31 to 33, 37 and 28 do not apply
checked_refused : (s : Sheet) (b : Bundle) (n at : ℕ) → admitted s b ≡ refused n at → checked s b ≡ refused n at
unfolding admitted checked
checked_refused s b n at e = by (at26 s b) (at_message s b) (at37 s b) (at28 s b) e
  where
    by : (o : Option ℕ) (p : Option (ℕ × ℕ)) (r q : Option ℕ) → unless 26 o (unless_at p (unless 37 r (unless 28 q (value b)))) ≡ refused n at
        → unless 26 o (unless_at p (unless 37 r (unless 28 q (closing b (settled s b))))) ≡ refused n at
    by (some i) p r q e = e
    by none (some i) r q e = e
    by none none (some i) q e = e
    by none none none (some i) e = e
    by none none none none e = not-value (sym e)

checked-ends : (s : Sheet) (b : Bundle) → Published s b → at28 s b ≡ none → checked s b ≡ closing b (settled s b)
unfolding checked
checked-ends s b p e = rw (p.once, p.messages, p.releases, e)

module _ (sheet bundle w u : List ℕ) (v : View) (f : Result Outline Refusal) (h : AdmitIs sheet bundle w u v f) where
  pub judged-refused : (r : Refusal) → f ≡ Err r → JudgementIs sheet bundle w u v (Err r)
  unfolding admitted_bytes checked_bytes
  judged-refused r e =
      record { long = h.long; is = λ s k. sym (ap verdict_of (by s (read_bundle s bundle) (refused-by outline_of (and_then (read_bundle s bundle) (admitted s)) r (sym e ∙ h.is s k)))) }
    where
      by : (s : Sheet) (o : Answer Bundle) → and_then o (admitted s) ≡ refused r.number r.place → and_then o (checked s) ≡ refused r.number r.place
      by s (value x) q = checked_refused s x r.number r.place q
      by s (refused i j) q = q

  pub judged-ends : (x : List ℕ) (out : Outline) (r : Result ⊤ Refusal) → f ≡ Ok out → SettleIs u x → FinishIs x out.claim r → JudgementIs sheet bundle w x v r
  unfolding admitted_bytes checked_bytes outline_of
  judged-ends x out r e g t =
      record {
        long = g.runs.long ∙ h.long;
        is = λ s k. by s (read_bundle s bundle) (sym e ∙ h.is s k) (λ y q. (h.represents s k y q).0);
      }
    where
      of : (s : Sheet) (b : Bundle) (o : Answer Bundle) → admitted s b ≡ o → Ok out ≡ judged_of o
          → ((y : Bundle) → admitted s b ≡ value y → Represents s y u (fresh_state s y)) → r ≡ verdict_of (checked s b)
      of s b (refused i j) z d start = absurd cc
      of s b (value y) z d start =
          let q = admitted-published s b y z in
          let el : b.claim ≡ out.claim = ap (λ (i : Bundle). i.claim) q.2 ∙ third_of d in
          t.is_end s b (settled s b) (settles-to g s b q.0 (start b (z ∙ ap value (sym q.2)))) el ∙ ap verdict_of (sym (checked-ends s b q.0 q.1))
        where
          third_of : Ok out ≡ judged_of (value y) → y.claim ≡ out.claim
          third_of d = let q : out ≡ outline_of y = cc in sym (ap (λ (i : Outline). i.claim) q)

      by : (s : Sheet) (o : Answer Bundle) → Ok out ≡ judged_of (and_then o (admitted s)) → ((y : Bundle) → and_then o (admitted s) ≡ value y → Represents s y u (fresh_state s y))
          → r ≡ verdict_of (and_then o (checked s))
      by s (value b) d start = of s b (admitted s b) refl d start
      by s (refused i j) d start = absurd cc
