-- The ways in which the pass ends: the bundle as it is, with its releases, the checker's refusal, or 12.
use Prim.Native.Nat.{ℕ, suc, ◌+◌, ◌*◌, ◌-◌, ◌≤◌, ◌<◌}
use native.Mathlib.Omega.{arith}
use native.Mathlib.Decide.{dec_lt}
use mathlib.Core.Bool.{Bool, true, false, not, false≢true, true≢false}
use mathlib.Core.Path.{◌≡◌, refl, sym, ap, ◌∙◌, subst}
use mathlib.Core.List.{List}
use lib.ListN.{length, drop, length-append, length-drop}
use lib.Dec.{eqb}
use borrow.Author.Tests.{eqb-true}
use borrow.Rule.Slice.PartMut.{mid_of}
use Rattle.folds.specs.Answers.{Answer, value, refused, and_then, fitting, written}
use Rattle.folds.proofs.Tests.{and_then-value}
use Rattle.numbers.specs.Number.{Bytes}
use Rattle.numbers.proofs.Puts.{kept, fits_not, fits-well}
use Rattle.sheet.specs.Sheet.{Sheet, task_count, link_count}
use Rattle.sheet.specs.Tables.{sheet_in}
use Rattle.std.specs.Prelude.{⊤, Result, Ok, Err}
use Rattle.refusals.specs.Refusals.{refusal, written_of, WriteIs}
use Rattle.refusals.specs.declared.Refusal.{Refusal}
use Rattle.graph.specs.Graph.{read_sheet}
use Rattle.levelling.specs.Opened.{OpenIs}
use Rattle.levelling.proofs.Opens.{open-refusal, open-value}
use Rattle.bundle.specs.Bundle.{Bundle, programme_count}
use Rattle.bundle.specs.Format.{read_bundle}
use Rattle.bundle.specs.Writing.{bundle_bytes}
use Rattle.bundle.proofs.Rounds.{read-formed, bytes-again}
use Rattle.admission.specs.Counting.{whole}
use Rattle.admission.specs.Releases.{frees}
use Rattle.admission.specs.Messages.{Published}
use Rattle.admission.specs.Fields.{Seen}
use Rattle.admission.specs.Views.{ViewIs, Shown}
use Rattle.admission.specs.Notes.{releases_at, discards_at, slots_end, rank, NotesIs}
use Rattle.admission.specs.Lasts.{LastsIs}
use Rattle.admission.specs.Rules.{Given}
use Rattle.admission.specs.declared.view.View.{View}
use Rattle.admission.proofs.Areas.{known_in}
use Rattle.admission.proofs.Few.{short-of-read}
use Rattle.admission.proofs.Keeping.{lasts-self, given-apart}
use Rattle.stepping_machine.specs.Layout as lay
use Rattle.checker.specs.Checker.{checked}
use Rattle.checker.specs.Verdicts.{checked_bytes, JudgementIs}
use Rattle.checker.proofs.Verdicts.{good-value, refused-value}
use Rattle.checker.proofs.Accepted.{passes}
use Rattle.releasing.specs.Releasing.{releasing, passed}
use Rattle.releasing.specs.Inserting.{Lay, part, with_releases, Bare, Marked, FreesIs}
use Rattle.releasing.specs.Queues.{Queued, Above, AllIs, InsertIs}
use Rattle.releasing.specs.Passing.{passed_bytes, pass, ReleasedIs, AcceptedIs, PassIs, ReleaseIs}
use Rattle.releasing.proofs.Lays.{lay-as, lay-front, part-rest}
use Rattle.releasing.proofs.Marks.{marked}

-- what was lent is too short, or not
write-short : (old v : List ℕ) (n : ℕ) → n ≡ length v → length old < n → WriteIs (fitting (length old) v) old old (Err (refusal 12 n))
write-short old v n e l =
    let f = fits_not (length old) v (omega arith) in
    record { answer = ap (λ (i : ℕ). Err (refusal 12 i)) e ∙ sym (ap written_of f); left = kept old 12 (length v) ∙ sym (ap (written old) f) }

write-fits : {old last : List ℕ} {r : ℕ} (v : List ℕ) (n : ℕ) → n ≡ length v → n ≤ length old → Lay old 0 v last r → WriteIs (fitting (length old) v) old last (Ok n)
write-fits {old} v n e l g =
    let f = fits-well (length old) v (omega arith) in
    record { answer = ap Ok e ∙ sym (ap written_of f); left = lay-front g (omega arith) ∙ sym (ap (written old) f) }

-- what was lent keeps its length
write-long : {old last : List ℕ} {r : Result ℕ Refusal} (v : List ℕ) → WriteIs (fitting (length old) v) old last r → length last ≡ length old
unfolding written
write-long {old} {last} v g = ap length g.left ∙ by (dec_lt (length old) (length v))
  where
    by : Dec (length old < length v) → length (written old (fitting (length old) v)) ≡ length old
    by (yes l) = ap (λ (a : Answer (List ℕ)). length (written old a)) (fits_not (length old) v l)
    by (no l) = ap (λ (a : Answer (List ℕ)). length (written old a)) (fits-well (length old) v (omega arith)) ∙ omega (arith, length-append v (drop (length v) old), length-drop (length v) old)

-- the bundle as it is
pub same-short : (bundle old : List ℕ) → length old < length bundle → WriteIs (fitting (length old) bundle) old old (Err (refusal 12 (length bundle)))
same-short bundle old l = write-short old bundle (length bundle) refl l

pub same-fits : {old last : List ℕ} (bundle : List ℕ) (r : ℕ) → length bundle ≤ length old → Lay old 0 (part bundle 0 (length bundle)) last r → WriteIs (fitting (length old) bundle) old last (Ok r)
same-fits bundle r l g =
    let h = lay-as (part-rest bundle 0 (omega arith)) g in
    write-fits bundle r (omega (arith, h.next)) (omega (arith, h.next)) h

-- with its releases, which were measured
module _ {bundle w own own' old : List ℕ} {need : ℕ} (g : InsertIs bundle w own own' need) where
  pub released-short : length old < need → ReleasedIs bundle w old old (Err (refusal 12 need))
  released-short l =
      record { long = refl; is = λ s b h k q. let x = (g.is s b h k q).next in write-short old (bundle_bytes (with_releases s b)) need (omega arith) l }

  pub released-fits : {last : List ℕ} {r : ℕ} → InsertIs bundle w old last r → need ≤ length old → ReleasedIs bundle w old last (Ok need)
  released-fits f l =
      record {
        long = f.long;
        is = λ s b h k q. let x = (g.is s b h k q).next in write-fits (bundle_bytes (with_releases s b)) need (omega arith) l (f.is s b h k q);
      }

-- a bundle that the checker accepts
accepted-read : (s : Sheet) (bundle : List ℕ) (b : Bundle) → checked_bytes s bundle ≡ value b → (read_bundle s bundle ≡ value b) × Published s b
unfolding checked_bytes
accepted-read s bundle b e =
    let r = and_then-value (read_bundle s bundle) (checked s) b e in
    let p = passes s r.0 b r.2 in
    (r.1 ∙ ap value p.1, subst (Published s) p.1 p.0.published)

few-programmes : (s : Sheet) (bundle : List ℕ) (b : Bundle) → read_bundle s bundle ≡ value b → s.processors ≤ 16 → programme_count b ≤ 16
unfolding programme_count
few-programmes s bundle b e l = omega (arith, (read-formed s bundle b e).few)

some-release : (b : Bundle) → true ≡ not (eqb (whole b frees) 0) → eqb (whole b frees) 0 ≡ false
some-release b e = by (eqb (whole b frees) 0) e
  where
    by : (u : Bool) → true ≡ not u → u ≡ false
    by true q = absurd (true≢false q)
    by false q = refl

no-release : (b : Bundle) → false ≡ not (eqb (whole b frees) 0) → whole b frees ≡ 0
no-release b e = eqb-true (whole b frees) 0 (by (eqb (whole b frees) 0) e)
  where
    by : (u : Bool) → false ≡ not u → u ≡ true
    by true q = refl
    by false q = absurd (false≢true q)

-- what the code's test says
pub frees-told : {bundle : List ℕ} {r u : Bool} → FreesIs bundle r → r ≡ u → FreesIs bundle u
frees-told {bundle} g e = subst (FreesIs bundle) e g

pub accepted-same : {sheet bundle w old last : List ℕ} {v : View} {r : Result ℕ Refusal} → FreesIs bundle true → Bytes bundle → WriteIs (fitting (length old) bundle) old last r
    → AcceptedIs sheet bundle w w v old last r
unfolding releasing
accepted-same {sheet} {bundle} {w} {old} {last} {v} {r} f bytes g =
    record {
      area = refl;
      long = write-long bundle g;
      is =
          λ s k b e.
          let a = accepted-read s bundle b e in
          rw (some-release b (f.is s b k.ranged.few_links bytes a.0), bytes-again s bundle b bytes a.0) g;
    }

-- the marks stand where no queue does
marked-above : {s : Sheet} {b : Bundle} {w last : List ℕ} → Above w last → Marked s b w → Marked s b last
marked-above {s} {b} g h =
    record {
      results = λ t l k i y. ap (λ (u : ℕ). eqb u (4096 * suc k + rank b k i)) (g.high (releases_at + t) (omega arith)) ∙ h.results t l k i y;
      messages = λ l m k i y. ap (λ (u : ℕ). eqb u (4096 * suc k + rank b k i)) (g.high (discards_at + l) (omega arith)) ∙ h.messages l m k i y;
    }

pub accepted-released : {sheet bundle w u x y old last : List ℕ} {v : View} {r : Result ℕ Refusal} {met : ℕ} → FreesIs bundle false → Bytes bundle → slots_end ≤ length w → NotesIs bundle w u v.tasks v.links met
    → LastsIs sheet u x v → AllIs x y v.tasks v.links → ReleasedIs bundle y old last r → AcceptedIs sheet bundle w y v old last r
unfolding releasing
accepted-released {sheet} {bundle} {w} {u} {x} {y} {old} {last} {v} {r} {met} f bytes long notes lasts all g =
    record {
      area = all.above.long ∙ lasts.apart.long ∙ notes.kept.long;
      long = g.long;
      is =
          λ s k b e.
          let a = accepted-read s bundle b e in
          let none-there = no-release b (f.is s b k.ranged.few_links bytes a.0) in
          let few = few-programmes s bundle b a.0 k.ranged.few_processors in
          let bare : Bare s b bundle =
          record {
            few_tasks = k.ranged.few_tasks;
            few_links = k.ranged.few_links;
            few = few;
            bytes = bytes;
            read = a.0;
            once = a.1.once;
            messages = a.1.messages;
            plain = none-there;
          }
          in
          let given : Given s b sheet u v =
          record { known = k; count = met; notes = notes.notes s b k.tasks k.links k.ranged.few_tasks k.ranged.few_links few long bytes a.0 }
          in
          let queued : Queued (task_count s) (link_count s) y 0 =
          subst (λ (n : ℕ). Queued n (link_count s) y 0) (sym k.tasks) (subst (λ (m : ℕ). Queued v.tasks m y 0) (sym k.links) all.queued)
          in
          rw none-there (g.is s b bare (marked-above all.above (marked bare (given-apart lasts.apart given) ((lasts-self lasts).is s k))) queued);
    }

-- the pass by the checker's answer
passed-by : (s : Sheet) (bundle : List ℕ) → passed_bytes s bundle ≡ and_then (checked_bytes s bundle) (λ b. value (bundle_bytes (releasing s b)))
unfolding passed_bytes checked_bytes passed
passed-by s bundle = by (read_bundle s bundle)
  where
    inner : (a : Answer Bundle) → and_then (and_then a (λ c. value (releasing s c))) (λ c. value (bundle_bytes c)) ≡ and_then a (λ b. value (bundle_bytes (releasing s b)))
    inner (value c) = refl
    inner (refused n at) = refl

    by : (a : Answer Bundle)
        → and_then a (λ b. and_then (and_then (checked s b) (λ c. value (releasing s c))) (λ c. value (bundle_bytes c))) ≡ and_then (and_then a (checked s)) (λ b. value (bundle_bytes (releasing s b)))
    by (value b) = inner (checked s b)
    by (refused n at) = refl

pub pass-refused : {sheet bundle w u old : List ℕ} {v : View} {o : Result ⊤ Refusal} (r : Refusal) → JudgementIs sheet bundle w u v o → o ≡ Err r → PassIs sheet bundle w u v old old (Err r)
pass-refused {sheet} {bundle} {old = old} r g e =
    record {
      area = g.long;
      long = refl;
      is =
          λ s k.
          let a : passed_bytes s bundle ≡ refused r.number r.place =
          passed-by s bundle ∙ ap (λ (x : Answer Bundle). and_then x (λ b. value (bundle_bytes (releasing s b)))) (refused-value (checked_bytes s bundle) r (sym e ∙ g.is s k))
          in
          rw a (record { answer = refl; left = kept old r.number r.place });
    }

pub pass-good : {sheet bundle w u x old last : List ℕ} {v : View} {o : Result ⊤ Refusal} {r : Result ℕ Refusal} → JudgementIs sheet bundle w u v o → o ≡ Ok tt → AcceptedIs sheet bundle u x v old last r
    → PassIs sheet bundle w x v old last r
pass-good {sheet} {bundle} g e h =
    record {
      area = h.area ∙ g.long;
      long = h.long;
      is =
          λ s k.
          let a = good-value (checked_bytes s bundle) (sym e ∙ g.is s k) in
          let p : passed_bytes s bundle ≡ value (bundle_bytes (releasing s a.0)) =
          passed-by s bundle ∙ ap (λ (y : Answer Bundle). and_then y (λ b. value (bundle_bytes (releasing s b)))) a.1
          in
          rw p (h.is s k a.0 a.1);
    }

-- an accepted bundle is short
pub good-short : {sheet bundle w u : List ℕ} {v : View} {o : Result ⊤ Refusal} → Seen sheet v → Bytes bundle → JudgementIs sheet bundle w u v o → o ≡ Ok tt → length bundle < 4294967296
good-short {sheet} {bundle} seen bytes g e =
    let s = seen.board in
    let k = seen.known in
    let a = good-value (checked_bytes s bundle) (sym e ∙ g.is s k) in
    let r = accepted-read s bundle a.0 a.1 in
    short-of-read s bundle a.0 k.ranged.few_tasks k.ranged.few_links (few-programmes s bundle a.0 r.0 k.ranged.few_processors) bytes r.0 r.1

-- 1 to 10, and by the sheet that was read
module _ (sheet bundle work mid : List ℕ) {o : Result ⊤ Refusal} (h : OpenIs (read_sheet sheet) work mid o) where
  pub sheet-refused : (old : List ℕ) (r : Refusal) → o ≡ Err r → ReleaseIs sheet bundle work mid old old (Err r)
  unfolding pass
  sheet-refused old r q =
      record {
        area = h.long;
        is = rw (open-refusal h r q) (record { answer = refl; left = kept old r.number r.place });
      }

  pub sheet-read : (last after old out : List ℕ) (v : View) (r : Result ℕ Refusal) → o ≡ Ok tt → Shown sheet mid → ViewIs mid v
      → PassIs sheet bundle (mid_of lay.board (length mid - lay.board) mid) last v old out r → length after ≡ length mid → ReleaseIs sheet bundle work after old out r
  unfolding pass
  sheet-read last after old out v r q y z g e =
      record { area = e ∙ h.long; is = rw (open-value h q) (g.is (sheet_in mid) (known_in mid sheet v y z)) }
