-- 21 to 26, 31 to 33 and 37 strung together.
use Prim.Native.Nat.{ℕ, ◌+◌, ◌≤◌, ◌<◌}
use mathlib.Core.Path.{◌≡◌, refl, sym, ap, ◌∙◌, subst}
use mathlib.Core.Option.{Option, none, some}
use mathlib.Core.List.{List}
use native.Mathlib.Omega.{arith}
use lib.ListN.{length}
use Rattle.folds.specs.Answers.{Answer, value, refused, unless, unless_at, and_then}
use Rattle.folds.proofs.Tests.{unless-value, unless_at-value, and_then-value, not-value}
use Rattle.numbers.specs.Number.{Bytes}
use Rattle.sheet.specs.Sheet.{Sheet, task_count, link_count}
use Rattle.bundle.specs.Bundle.{run, Bundle, programme_count}
use Rattle.bundle.specs.Format.{read_bundle}
use Rattle.bundle.specs.Counts.{Sized}
use Rattle.bundle.specs.Lies.{Laid}
use Rattle.bundle_reader.specs.Answers.{outline, outline_of, reading_of}
use Rattle.bundle_reader.specs.ReadIs.{ReadIs}
use Rattle.bundle_reader.specs.declared.bytes.Outline.{Outline}
use Rattle.refusals.specs.Refusals.{refusal, refusal_of}
use Rattle.refusals.specs.declared.Refusal.{Refusal}
use Rattle.refusals.proofs.Results.{refused-by}
use Rattle.bundle.proofs.Rounds.{read-formed}
use Rattle.bundle.proofs.Faults.{sheet_by, sized-by}
use Rattle.admission.specs.Messages.{home, at26, at_message, at28, Published}
use Rattle.admission.specs.Releases.{at37}
use Rattle.admission.specs.Notes.{slots_at, slot_of, home_in, slots_end, Apart, NotesIs}
use Rattle.admission.specs.Lasts.{WrongIs}
use Rattle.workspace.specs.Found.{found_of}
use Rattle.admission.specs.Rules.{Given, OnceIs, MessageIs}
use Rattle.admission.specs.Fields.{Known}
use Rattle.admission.specs.declared.view.View.{View}
use Rattle.admission.specs.Admitted.{freed, messaged, published, admitted, published_bytes, admitted_bytes, judged_of, Told, FreedIs, MessagesIs, RulesIs, JudgeIs}
use Rattle.workspace.specs.Found.{Found}
use Rattle.std.specs.Prelude.{⊤, Some, None, Result, Ok, Err}
use Rattle.admission.proofs.Messages.{run-once}
use Rattle.admission.proofs.Places.{placed-programme, placed-home}
use Rattle.admission.proofs.Ruled.{placed}
use Rattle.admission.proofs.Walking.{laid_by}
use Rattle.admission.proofs.Few.{commands-whole, short-of-read}
use Rattle.admission.proofs.Plain.{all-met}

-- a bundle that was read has no more programmes than the sheet has processors
pub read-few : {b : List ℕ} {p t l : ℕ} {v last : List ℕ} {r : Result Outline Refusal} → ReadIs b p t l v last r → (o : Outline) → r ≡ Ok o → o.programmes ≤ p
unfolding outline_of programme_count
read-few {b} {p} {t} {l} h o e = by (read_bundle (sheet_by p t l) b) refl (sym e ∙ h.answer (sheet_by p t l) (sized-by p t l))
  where
    by : (a : Answer Bundle) → read_bundle (sheet_by p t l) b ≡ a → Ok o ≡ reading_of a → o.programmes ≤ p
    by (value x) q f =
        let g : o ≡ outline_of x = cc in
        omega (arith, ap (λ (y : Outline). y.programmes) g, (read-formed (sheet_by p t l) b x q).few, (sized-by p t l).processors)
    by (refused n at) q f = absurd cc

module _ (sheet bundle w : List ℕ) (v : View) (u : Outline) where
  fit_is : (s : Sheet) (b : Bundle) → Told s b sheet bundle w v u.programmes u.commands u.claim → Ok u ≡ judged_of (value b)
  unfolding outline_of
  fit_is s b t = sym (three t.programmes t.commands t.claimed)
    where
      three : {x y z : ℕ} → x ≡ u.programmes → y ≡ u.commands → z ≡ u.claim → ◌≡◌ {A = Result Outline Refusal} (Ok (outline x y z)) (Ok u)
      three {x} {y} {z} p q r = ap (λ (i : ℕ). Ok (outline i y z)) p ∙ ap (λ (i : ℕ). Ok (outline u.programmes i z)) q ∙ ap (λ (i : ℕ). Ok (outline u.programmes u.commands i)) r

  -- 37
  pub freed-none : (met : ℕ) → met ≡ u.commands → FreedIs sheet bundle w w v u.programmes u.commands u.claim (Ok u) met
  unfolding freed
  freed-none met e =
      record {
        kept = record { long = refl; low = λ i l. refl };
        is =
            λ s b t g q once messages.
            fit_is s b t ∙ ap (λ (o : Option ℕ). judged_of (unless 37 o (value b))) (sym (all-met s b (sym g.notes.count ∙ q ∙ e ∙ sym t.commands ∙ commands-whole b)));
      }

  module _ (met : ℕ) (last : List ℕ) (f : Found) (h : WrongIs sheet bundle w last v f) where
    release-is : (s : Sheet) (b : Bundle) → Told s b sheet bundle w v u.programmes u.commands u.claim → Given s b sheet w v → at26 s b ≡ none → at_message s b ≡ none → found_of f ≡ at37 s b
    release-is s b t g once messages = h.is_37 s b g t.few t.bytes t.read once messages

    pub freed-wrong : (at : ℕ) → f ≡ Some at → FreedIs sheet bundle w last v u.programmes u.commands u.claim (Err (refusal 37 at)) met
    unfolding freed
    freed-wrong at e =
        record {
          kept = h.kept;
          is = λ s b t g q once messages. ap (λ (o : Option ℕ). judged_of (unless 37 o (value b))) (ap found_of (sym e) ∙ release-is s b t g once messages);
        }

    pub freed-right : f ≡ None → FreedIs sheet bundle w last v u.programmes u.commands u.claim (Ok u) met
    unfolding freed
    freed-right e =
        record {
          kept = h.kept;
          is =
              λ s b t g q once messages.
              fit_is s b t ∙ ap (λ (o : Option ℕ). judged_of (unless 37 o (value b))) (ap found_of (sym e) ∙ release-is s b t g once messages);
        }

  -- 31 to 33
  module _ (met : ℕ) (f : Result ⊤ Refusal) (h : MessageIs sheet w v f) where
    pub message-wrong : (x : Refusal) → f ≡ Err x → MessagesIs sheet bundle w w v u.programmes u.commands u.claim (Err x) met
    unfolding messaged
    message-wrong x e =
        record {
          kept = record { long = refl; low = λ i l. refl };
          is = λ s b t g q o. ap (λ (x : Option (ℕ × ℕ)). judged_of (unless_at x (freed s b))) (ap refusal_of (sym e) ∙ h.is_lowest s b g o);
        }

    pub message-right : (last : List ℕ) (r : Result Outline Refusal) → f ≡ Ok tt → FreedIs sheet bundle w last v u.programmes u.commands u.claim r met → MessagesIs sheet bundle w last v u.programmes u.commands u.claim r met
    unfolding messaged
    message-right last r e x =
        record {
          kept = x.kept;
          is =
              λ s b t g q o.
              let n : none ≡ at_message s b = ap refusal_of (sym e) ∙ h.is_lowest s b g o in
              x.is s b t g q o (sym n) ∙ ap (λ (y : Option (ℕ × ℕ)). judged_of (unless_at y (freed s b))) n;
        }

  -- 26
  module _ (mid : List ℕ) (met : ℕ) (a : NotesIs bundle w mid v.tasks v.links met) (f : Found) (h : OnceIs mid v.tasks f) where
    given : (s : Sheet) (b : Bundle) → Told s b sheet bundle w v u.programmes u.commands u.claim → Given s b sheet mid v
    given s b t =
        let k = t.known in
        record {
          known = k;
          count = met;
          notes = a.notes s b k.tasks k.links k.ranged.few_tasks k.ranged.few_links t.few t.long t.bytes t.read;
        }

    told : (s : Sheet) (b : Bundle) → Told s b sheet bundle w v u.programmes u.commands u.claim → Told s b sheet bundle mid v u.programmes u.commands u.claim
    unfolding programme_count
    told s b t =
        record {
          known = t.known;
          programmes = t.programmes;
          few = t.few;
          commands = t.commands;
          claimed = t.claimed;
          bytes = t.bytes;
          read = t.read;
          laid = λ small. laid_by (λ i j. a.kept.low i (omega (arith, t.few))) (t.laid small);
          long = omega (arith, t.long, a.kept.long);
        }

    once_is : (s : Sheet) (b : Bundle) → Told s b sheet bundle w v u.programmes u.commands u.claim → found_of f ≡ at26 s b
    once_is s b t = let g = given s b t in h.is_26 s b g.count t.known.tasks g.notes

    -- by their notes, which stay, where each task runs
    homes_by : (last : List ℕ) → Apart mid last → (s : Sheet) (b : Bundle) → Told s b sheet bundle w v u.programmes u.commands u.claim → at26 s b ≡ none → (t : ℕ) → t < task_count s → home_in last t ≡ home b (run t)
    homes_by last y s b x once t l =
        let g = given s b x in
        let p = placed s b mid g.count g.notes (run t) l (run-once s b once t l) in
        omega (arith, y.low (slots_at + slot_of (run t)) (omega (arith, g.known.ranged.few_tasks)), placed-programme p.2, placed-home p.2)

    pub rule-once : (t : ℕ) → f ≡ Some t → RulesIs sheet bundle w mid v u.programmes u.commands u.claim (Err (refusal 26 t))
    unfolding published
    rule-once t e = record { kept = a.kept; is = λ s b x. ap (λ (o : Option ℕ). judged_of (unless 26 o (messaged s b))) (ap found_of (sym e) ∙ once_is s b x); homes = homes_by mid (record { long = refl; low = λ i l. refl }) }

    pub rule-rest : (last : List ℕ) (r : Result Outline Refusal) → f ≡ None → MessagesIs sheet bundle mid last v u.programmes u.commands u.claim r met → RulesIs sheet bundle w last v u.programmes u.commands u.claim r
    unfolding published given
    rule-rest last r e q =
        record {
          kept = record { long = q.kept.long ∙ a.kept.long; low = λ i l. q.kept.low i (omega arith) ∙ a.kept.low i l };
          is =
              λ s b x.
              let o : none ≡ at26 s b = ap found_of (sym e) ∙ once_is s b x in
              q.is s b (told s b x) (given s b x) refl (sym o) ∙ ap (λ (y : Option ℕ). judged_of (unless 26 y (messaged s b))) o;
          homes = homes_by last q.kept;
        }

-- a bundle that passes 26, 31 to 33 and 37 has the published messages
pub is-published : (s : Sheet) (b x : Bundle) → published s b ≡ value x → Published s b × (b ≡ x)
unfolding published messaged freed
is-published s b x e =
    let p = unless-value 26 (at26 s b) _ x e in
    let q = unless_at-value (at_message s b) _ x p.1 in
    let r = unless-value 37 (at37 s b) _ x q.1 in
    (record { once = p.0; messages = q.0; releases = r.0 }, cc r.1)

-- and one that is admitted fits the stores too
pub admitted-published : (s : Sheet) (b x : Bundle) → admitted s b ≡ value x → Published s b × (at28 s b ≡ none) × (b ≡ x)
unfolding admitted
admitted-published s b x e =
    let p = unless-value 26 (at26 s b) _ x e in
    let q = unless_at-value (at_message s b) _ x p.1 in
    let r = unless-value 37 (at37 s b) _ x q.1 in
    let o = unless-value 28 (at28 s b) _ x r.1 in
    (record { once = p.0; messages = q.0; releases = r.0 }, o.0, cc o.1)

-- the bytes of a bundle that passes 21 to 26, 31 to 33 and 37 were read, and it has the published messages
pub read-published : (s : Sheet) (bundle : List ℕ) (b : Bundle) → published_bytes s bundle ≡ value b → (read_bundle s bundle ≡ value b) × Published s b
unfolding published_bytes
read-published s bundle b e =
    let o = and_then-value (read_bundle s bundle) (published s) b e in
    let p = is-published s o.0 b o.2 in
    (o.1 ∙ ap value p.1, subst (Published s) p.1 p.0)

-- 28 comes behind them
pub refused-too : (s : Sheet) (bundle : List ℕ) (n at : ℕ) → published_bytes s bundle ≡ refused n at → admitted_bytes s bundle ≡ refused n at
unfolding published_bytes admitted_bytes published messaged freed admitted
refused-too s bundle n at e = by (read_bundle s bundle) e
  where
    of : (x : Bundle) (o : Option ℕ) (p : Option (ℕ × ℕ)) (r q : Option ℕ) → unless 26 o (unless_at p (unless 37 r (value x))) ≡ refused n at
        → unless 26 o (unless_at p (unless 37 r (unless 28 q (value x)))) ≡ refused n at
    of x (some i) p r q e = e
    of x none (some i) r q e = e
    of x none none (some i) q e = e
    of x none none none q e = not-value (sym e)

    by : (o : Answer Bundle) → and_then o (published s) ≡ refused n at → and_then o (admitted s) ≡ refused n at
    by (value x) e = of x (at26 s x) (at_message s x) (at37 s x) (at28 s x) e
    by (refused i j) e = e

pub stored-then : (s : Sheet) (bundle : List ℕ) (b : Bundle) → published_bytes s bundle ≡ value b → admitted_bytes s bundle ≡ unless 28 (at28 s b) (value b)
unfolding admitted_bytes admitted
stored-then s bundle b e =
    let p = read-published s bundle b e in
    ap (λ (o : Answer Bundle). and_then o (admitted s)) p.0 ∙ rw (p.1.once, p.1.messages, p.1.releases) refl

sized : {s : Sheet} {sheet : List ℕ} {v : View} → Known s sheet v → Sized s v.processors v.tasks v.links
sized k = record { processors = k.processors; tasks = k.tasks; links = k.links }

module _ (sheet bundle w u : List ℕ) (v : View) (long : slots_end ≤ length w) (f : Result Outline Refusal) (h : ReadIs bundle v.processors v.tasks v.links w u f) where
  pub judge-refused : (r : Refusal) → f ≡ Err r → JudgeIs sheet bundle w u v (Err r)
  unfolding published_bytes
  judge-refused r e =
      record {
        long = h.long;
        is = λ s k. sym (ap (λ (a : Answer Bundle). judged_of (and_then a (published s))) (unread s k));
        laid = λ s k b q. not-value (sym (ap (λ (a : Answer Bundle). and_then a (published s)) (unread s k)) ∙ q);
        homes = λ s k b q. not-value (sym (ap (λ (a : Answer Bundle). and_then a (published s)) (unread s k)) ∙ q);
      }
    where
      unread : (s : Sheet) → Known s sheet v → read_bundle s bundle ≡ refused r.number r.place
      unread s k = refused-by outline_of (read_bundle s bundle) r (sym e ∙ h.answer s (sized k))

  pub judge-rules : (last : List ℕ) (out : Outline) (r : Result Outline Refusal) → Bytes bundle → f ≡ Ok out → RulesIs sheet bundle u last v out.programmes out.commands out.claim r
      → JudgeIs sheet bundle w last v r
  unfolding published_bytes outline_of programme_count
  judge-rules last out r bytes e q =
      record {
        long = q.kept.long ∙ h.long;
        is = λ s k. by s k (read_bundle s bundle) refl (sym e ∙ h.answer s (sized k));
        laid = λ s k b z. laid-at s k b (read_bundle s bundle) refl (sym e ∙ h.answer s (sized k)) z;
        homes = λ s k b z. home_at s k b (read_bundle s bundle) refl (sym e ∙ h.answer s (sized k)) z;
      }
    where
      told : (s : Sheet) → Known s sheet v → (x : Bundle) → read_bundle s bundle ≡ value x → Ok out ≡ reading_of (value x)
          → Told s x sheet bundle u v out.programmes out.commands out.claim
      told s k x o z =
          let g : out ≡ outline_of x = cc in
          record {
            known = k;
            programmes = sym (ap (λ (y : Outline). y.programmes) g);
            few = omega (arith, ap (λ (y : Outline). y.programmes) g, read-few h out e, v.few_processors);
            commands = sym (ap (λ (y : Outline). y.commands) g);
            claimed = sym (ap (λ (y : Outline). y.claim) g);
            bytes = bytes;
            read = o;
            laid = λ small. rw (k.tasks, k.links) (h.laid s (sized k) small x o);
            long = omega (arith, h.long);
          }

      by : (s : Sheet) → Known s sheet v → (o : Answer Bundle) → read_bundle s bundle ≡ o → Ok out ≡ reading_of o → r ≡ judged_of (and_then o (published s))
      by s k (value x) o z = q.is s x (told s k x o z)
      by s k (refused i j) o z = absurd cc

      laid-at : (s : Sheet) → Known s sheet v → (b : Bundle) (o : Answer Bundle) → read_bundle s bundle ≡ o → Ok out ≡ reading_of o → and_then o (published s) ≡ value b
          → Laid (task_count s) (link_count s) bundle last b.programmes
      laid-at s k b (value x) o z v =
          let a = is-published s x b v in
          let t = told s k x o z in
          let small = short-of-read s bundle x k.ranged.few_tasks k.ranged.few_links t.few bytes o a.0 in
          subst (λ (y : Bundle). Laid (task_count s) (link_count s) bundle last y.programmes) a.1 (kept-laid x t.few (t.laid small))
        where
          kept-laid : (x : Bundle) → programme_count x ≤ 16 → Laid (task_count s) (link_count s) bundle u x.programmes → Laid (task_count s) (link_count s) bundle last x.programmes
          kept-laid x few y = laid_by (λ i j. q.kept.low i (omega (arith, few))) y
      laid-at s k b (refused i j) o z v = not-value v

      home_at : (s : Sheet) → Known s sheet v → (b : Bundle) (o : Answer Bundle) → read_bundle s bundle ≡ o → Ok out ≡ reading_of o → and_then o (published s) ≡ value b
          → (t : ℕ) → t < task_count s → home_in last t ≡ home b (run t)
      home_at s k b (value x) o z v t l =
          let a = is-published s x b v in
          q.homes s x (told s k x o z) a.0.once t l ∙ ap (λ (y : Bundle). home y (run t)) a.1
      home_at s k b (refused i j) o z v t l = not-value v
