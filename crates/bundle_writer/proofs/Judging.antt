-- Values judged as the reader would judge their bytes: the state of that, and the ways on and out.
use Prim.Native.Nat.{ℕ, suc, ◌+◌, ◌<◌, ◌≤◌}
use mathlib.Core.Path.{◌≡◌, refl, sym, ap, subst, ◌∙◌}
use mathlib.Core.Bool.{Bool, true, false, true≢false, false≢true}
use mathlib.Core.Option.{Option, none, some}
use mathlib.Core.List.{List, [], ◌∷◌, ◌++◌}
use native.Mathlib.Omega.{arith}
use native.Mathlib.Numerals.{add-one, add-two}
use borrow.Author.Tests.{lt-ltb, le-ltb, eqb-false}
use lib.ListN.{length, get_or, drop, length-append, drop_of_length-le}
use lib.Seq.{drop-cons}
use lib.Dec.{eqb, ltb}
use Rattle.folds.specs.Folds.{pick, both}
use Rattle.folds.specs.Answers.{refused}
use Rattle.numbers.specs.Number.{number_bytes}
use Rattle.numbers.proofs.Laws.{number-of-bytes}
use Rattle.commands.specs.Commands.{Outcome, refuse, go, verdict, judge_kind, judge}
use Rattle.commands.specs.Reading.{Going}
use Rattle.commands.proofs.Going.{comes, starts, goes, refuses, ends}
use Rattle.sheet.specs.Sheet.{Sheet}
use Rattle.bundle.specs.Bundle.{Command}
use Rattle.bundle.specs.Format.{Kind, opening, running, sending, receiving, releasing, discarding, claiming, kind_of, width, inside, after, closes, ended, bundle_format, read_bundle}
use Rattle.bundle.specs.Writing.{claim_bytes, operand_bytes, value_bytes}
use Rattle.bundle.specs.Sizes.{short_size, long_size}
use Rattle.bundle.specs.Counts.{Sized, fault_below, limit_of, count_format}
use Rattle.bundle.specs.Kinds.{is_message, is_task, OfLink, sends, receives, discards, OfTask, runs, releases}
use Rattle.bundle_writer.specs.Writes.{judged_of, RefusalIs, known_fault, open_fault, cut_kind, cut_number}
use Rattle.bundle_writer.specs.Judges.{Judging, Judges, NextIs, went_on, spot}
use Rattle.bundle_writer.specs.declared.writer.Spot.{Spot}
use Rattle.std.specs.Prelude.{⊤, Result, Ok, Err}
use Rattle.refusals.specs.Refusals.{number, refusal, fault_of, placed}
use Rattle.refusals.specs.declared.Refusal.{Refusal}
use Rattle.refusals.specs.declared.Fault.{Fault}
use Rattle.refusals.specs.declared.Fault.TheVariants.{BundleOutOfTurn}
use Rattle.bundle.proofs.Steps.{on-claim}
use Rattle.bundle.proofs.Parts.{drop-operand, length-within}
use Rattle.bundle.proofs.Faults.{judge-sized, fault-link, fault-task, message-kind, task-kind, strange-kind}

-- the faults of commands whose operands are there
module _ (m n x : ℕ) (b : List ℕ) where
  fault-of-task : {k : Kind} → OfTask k → fault_below m n k (x ∷ b) ≡ known_fault m n x
  unfolding fault_below
  fault-of-task k = fault-task k m n (x ∷ b) ∙ rw (le-ltb (suc (length b)) 1 (omega arith))

  fault-of-link : {k : Kind} → OfLink k → x < 65536 → fault_below m n k (number_bytes 2 x ++ b) ≡ known_fault m n x
  unfolding fault_below
  fault-of-link k h = fault-link k m n (number_bytes 2 x ++ b) ∙ rw (le-ltb (suc (suc (length b))) 2 (omega arith), number-of-bytes 2 x b h)

  fault-opening : fault_below m n opening (x ∷ b) ≡ open_fault m n x
  unfolding fault_below
  fault-opening = rw (le-ltb (suc (length b)) 1 (omega arith))

  fault-claiming : fault_below m n claiming (number_bytes 4 x ++ b) ≡ pick (both (ltb 0 m) (eqb n 0)) (some 23) none
  unfolding fault_below
  fault-claiming = rw (le-ltb (suc (suc (suc (suc (length b))))) 4 (omega arith))

module _ (p t l n : ℕ) where
  judge-head : (c : ℕ) (o : Option Kind) (b : List ℕ) → kind_of c ≡ o → judge (count_format p t l) n (c ∷ b) ≡ judge_kind (count_format p t l) n o b
  unfolding judge
  judge-head c o b e = ap (λ (o : Option Kind). judge_kind (count_format p t l) n o b) e

  -- a command byte that nothing follows
  judge-cut : (c : ℕ) (o : Option Kind) → kind_of c ≡ o → judge (count_format p t l) n (c ∷ []) ≡ refuse (cut_kind t n o)
  unfolding fault_below
  judge-cut c none e = judge-head c none [] e
  judge-cut c (some k) e = judge-head c (some k) [] e ∙ by k (both (inside t k) (eqb n 0)) refl
    where
      by : (k : Kind) (q : Bool) → both (inside t k) (eqb n 0) ≡ q → judge_kind (count_format p t l) n (some k) [] ≡ refuse (pick q 23 21)
      by opening true e = absurd (false≢true e)
      by running true e = rw e
      by sending true e = rw e
      by receiving true e = rw e
      by releasing true e = rw e
      by discarding true e = rw e
      by claiming true e = rw e
      by opening false e = refl
      by running false e = rw e
      by sending false e = rw e
      by receiving false e = rw e
      by releasing false e = rw e
      by discarding false e = rw e
      by claiming false e = rw e

-- the number that refuses a cut command, by its byte
pub cut-known : (t n c v : ℕ) (k : Kind) → c ≡ v → kind_of v ≡ some k → cut_number t n c ≡ pick (both (inside t k) (eqb n 0)) 23 21
unfolding cut_number
cut-known t n c v k e f = ap (cut_kind t n) (ap kind_of e ∙ f)

pub cut-message : (t n c : ℕ) → is_message c ≡ true → cut_number t n c ≡ pick (eqb n 0) 23 21
unfolding cut_number
cut-message t n c e = let f = message-kind c e in ap (cut_kind t n) f.is ∙ by f.among
  where
    by : {k : Kind} → OfLink k → cut_kind t n (some k) ≡ pick (eqb n 0) 23 21
    by sends = refl
    by receives = refl
    by discards = refl

pub cut-task : (t n c : ℕ) → is_task c ≡ true → cut_number t n c ≡ pick (eqb n 0) 23 21
unfolding cut_number
cut-task t n c e = let f = task-kind c e in ap (cut_kind t n) f.is ∙ by f.among
  where
    by : {k : Kind} → OfTask k → cut_kind t n (some k) ≡ pick (eqb n 0) 23 21
    by runs = refl
    by releases = refl

pub cut-strange : (t n c : ℕ) → is_message c ≡ false → is_task c ≡ false → (c ≡ 0x50 → ⊥) → (c ≡ 0x5A → ⊥) → 22 ≡ cut_number t n c
unfolding cut_number
cut-strange t n c e f g h = ap (cut_kind t n) (sym (strange-kind c e f g h))

-- the values from index i on
pub values-at : (vs : List ℕ) (claim i : ℕ) → i + 1 < length vs
    → value_bytes (drop i vs) claim ≡ get_or vs i 0 ∷ (operand_bytes (kind_of (get_or vs i 0)) (get_or vs (i + 1) 0) ++ value_bytes (drop (i + 2) vs) claim)
unfolding value_bytes
values-at vs claim i h = rw (drop-cons vs i 0 (omega arith), add-one, drop-cons vs (suc i) 0 (omega arith), add-two)

values-cut : (vs : List ℕ) (claim i : ℕ) → i + 1 ≡ length vs → value_bytes (drop i vs) claim ≡ get_or vs i 0 ∷ []
unfolding value_bytes
values-cut vs claim i h = rw (drop-cons vs i 0 (omega arith), drop_of_length-le vs {i = suc i} (omega arith))

pub values-end : (vs : List ℕ) (claim i : ℕ) → length vs ≤ i → value_bytes (drop i vs) claim ≡ claim_bytes claim
unfolding value_bytes
values-end vs claim i h = rw (drop_of_length-le vs {i = i} h)

pub some_bytes : (vs : List ℕ) (claim : ℕ) → 1 ≤ length (value_bytes vs claim)
unfolding value_bytes
some_bytes [] claim = omega arith
some_bytes (x ∷ []) claim = omega arith
some_bytes (x ∷ y ∷ vs) claim = omega arith

length-operand : (k : Kind) (x : ℕ) → length (operand_bytes (some k) x) ≡ width k
length-operand opening x = refl
length-operand running x = refl
length-operand sending x = refl
length-operand receiving x = refl
length-operand releasing x = refl
length-operand discarding x = refl
length-operand claiming x = refl

-- how many programmes are open behind a command of kind k
abbrev pub opened_behind : ℕ → Kind → ℕ
opened_behind n opening = n + 1
opened_behind n running = n
opened_behind n sending = n
opened_behind n receiving = n
opened_behind n releasing = n
opened_behind n discarding = n
opened_behind n claiming = n

length-after : (ps : List (List Command)) (n : ℕ) → length ps ≡ n → (k : Kind) (b : List ℕ) → length (after ps k b) ≡ opened_behind n k
length-after ps n e opening b = length-append ps ([] ∷ []) ∙ ap (λ (i : ℕ). i + 1) e
length-after ps n e running b = length-within ps _ ∙ e
length-after ps n e sending b = length-within ps _ ∙ e
length-after ps n e receiving b = length-within ps _ ∙ e
length-after ps n e releasing b = length-within ps _ ∙ e
length-after ps n e discarding b = length-within ps _ ∙ e
length-after ps n e claiming b = e

module _ {s : Sheet} {vs : List ℕ} {claim n at i : ℕ} {p t l : ℕ} (z : Sized s p t l) (g : Judging s vs claim n at i) where
  judged : (o : Outcome Kind) → judge (count_format p t l) n (value_bytes (drop i vs) claim) ≡ o → judge (bundle_format s) g.ps (value_bytes (drop i vs) claim) ≡ o
  judged o j = judge-sized z g.ps n g.count (value_bytes (drop i vs) claim) ∙ j

  judging-on : (k : Kind) → closes k ≡ false → i + 1 < length vs → judge (count_format p t l) n (value_bytes (drop i vs) claim) ≡ go k → Judging s vs claim (opened_behind n k) (at + (1 + width k)) (i + 2)
  judging-on k c h j =
      let y = get_or vs i 0 in
      let x = get_or vs (i + 1) 0 in
      let r = value_bytes (drop (i + 2) vs) claim in
      let e = values-at vs claim i h in
      let q : kind_of y ≡ some k = subst (λ (b : List ℕ). kind_of (get_or b 0 0) ≡ some k) e (comes (bundle_format s) g.ps (value_bytes (drop i vs) claim) k (judged (go k) j)).kind in
      let f : value_bytes (drop i vs) claim ≡ y ∷ (operand_bytes (some k) x ++ r) = e ∙ ap {B = List ℕ} (λ (o : Option Kind). y ∷ (operand_bytes o x ++ r)) q in
      let d : drop (1 + width k) (value_bytes (drop i vs) claim) ≡ r = ap (drop (1 + width k)) f ∙ drop-operand k y x r in
      let len : length (value_bytes (drop i vs) claim) ≡ (1 + width k) + length r = ap length f ∙ omega (arith, length-append (operand_bytes (some k) x) r, length-operand k x) in
      record {
        ps = after g.ps k (drop 1 (value_bytes (drop i vs) claim));
        count = length-after g.ps n g.count k (drop 1 (value_bytes (drop i vs) claim));
        going =
            subst (λ (b : List ℕ). Going (bundle_format s) (read_bundle s (value_bytes vs claim)) (after g.ps k (drop 1 (value_bytes (drop i vs) claim))) (at + (1 + width k)) b) d
            (goes (bundle_format s) g.going k c (judged (go k) j));
        size = omega (arith, len, g.size);
      }

  judging-refused : (r : ℕ) → judge (count_format p t l) n (value_bytes (drop i vs) claim) ≡ refuse r → Err (refusal r at) ≡ judged_of (value_bytes vs claim) (read_bundle s (value_bytes vs claim))
  judging-refused r j = sym (ap (judged_of (value_bytes vs claim)) (refuses (bundle_format s) g.going r (judged (refuse r) j)))

  -- a claim among the values has something behind it
  judging-tail : i + 1 < length vs → judge (count_format p t l) n (value_bytes (drop i vs) claim) ≡ go claiming → Err (refusal 24 (at + 5)) ≡ judged_of (value_bytes vs claim) (read_bundle s (value_bytes vs claim))
  unfolding ended
  judging-tail h j =
      let y = get_or vs i 0 in
      let x = get_or vs (i + 1) 0 in
      let r = value_bytes (drop (i + 2) vs) claim in
      let e = values-at vs claim i h in
      let q : kind_of y ≡ some claiming = subst (λ (b : List ℕ). kind_of (get_or b 0 0) ≡ some claiming) e (comes (bundle_format s) g.ps (value_bytes (drop i vs) claim) claiming (judged (go claiming) j)).kind in
      let f : value_bytes (drop i vs) claim ≡ y ∷ (operand_bytes (some claiming) x ++ r) = e ∙ ap {B = List ℕ} (λ (o : Option Kind). y ∷ (operand_bytes o x ++ r)) q in
      let d : length (drop 1 (value_bytes (drop i vs) claim)) ≡ 4 + length r = ap (λ (b : List ℕ). length (drop 1 b)) f ∙ omega (arith, length-append (operand_bytes (some claiming) x) r, length-operand claiming x) in
      let a : read_bundle s (value_bytes vs claim) ≡ refused 24 (at + 5) =
      ends (bundle_format s) g.going claiming refl (judged (go claiming) j) ∙ rw (lt-ltb 4 (length (drop 1 (value_bytes (drop i vs) claim))) (omega (arith, d, some_bytes (drop (i + 2) vs) claim)))
      in
      sym (ap (judged_of (value_bytes vs claim)) a)

  judging-end : length vs ≤ i → (0 < t → 0 < n) → claim < 4294967296 → Ok (at + 5) ≡ judged_of (value_bytes vs claim) (read_bundle s (value_bytes vs claim))
  judging-end h m c =
      let e = values-end vs claim i h in
      let a = on-claim s claim (subst (λ (b : List ℕ). Going (bundle_format s) (read_bundle s (value_bytes vs claim)) g.ps at b) e g.going) (λ h. let e = m (omega (arith, h, z.tasks)) in omega (arith, e, g.count)) c in
      let len : at + 5 ≡ length (value_bytes vs claim) = omega (arith, g.size, ap length e) in
      ap Ok len ∙ sym (ap (judged_of (value_bytes vs claim)) a)

pub judges-start : (vs : List ℕ) (p t l : ℕ) → Judges vs p t l 0 0 0
unfolding read_bundle
judges-start vs p t l =
    record {
      place = omega arith;
      near = omega arith;
      few = omega arith;
      each = λ s z claim c. record { ps = []; count = refl; going = starts (bundle_format s) [] (value_bytes vs claim); size = omega arith };
    }

width-most : (k : Kind) → closes k ≡ false → width k ≤ 2
width-most opening e = omega arith
width-most running e = omega arith
width-most sending e = omega arith
width-most receiving e = omega arith
width-most releasing e = omega arith
width-most discarding e = omega arith
width-most claiming e = absurd (true≢false e)

opened-most : (n : ℕ) (k : Kind) → opened_behind n k ≤ n + 1
opened-most n opening = omega arith
opened-most n running = omega arith
opened-most n sending = omega arith
opened-most n receiving = omega arith
opened-most n releasing = omega arith
opened-most n discarding = omega arith
opened-most n claiming = omega arith

-- the next command, by its two cases
module _ {vs : List ℕ} {p t l i : ℕ} where
  only-on : {at n : ℕ} → Judges vs p t l n at (i + 2) → NextIs vs p t l i (Ok (spot at n))
  only-on {at} {n} g =
      record {
        on = λ x e. let z : spot at n ≡ x = cc in subst (λ (y : Spot). Judges vs p t l y.opened y.at (i + 2)) z g;
        out = λ r e. absurd cc;
      }

  pub only_out : {r : Refusal} → RefusalIs vs p t l (Err r) → NextIs vs p t l i (Err r)
  only_out {r} g = record { on = λ x e. absurd cc; out = λ q e. let x : r ≡ q = cc in subst (λ (y : Refusal). RefusalIs vs p t l (Err y)) x g }

-- the ways by what the code tests: the command of the values at i, with the number of its fault
module _ {vs : List ℕ} {p t l n at i : ℕ} (g : Judges vs p t l n at i) (more : i + 1 < length vs) where
  -- a command of kind k, by its fault
  judged-kind : (k : Kind) → kind_of (get_or vs i 0) ≡ some k → (o : Option ℕ)
      → ((b : List ℕ) → o ≡ fault_below (limit_of p t l k) n k (operand_bytes (some k) (get_or vs (i + 1) 0) ++ b)) → (claim : ℕ)
      → judge (count_format p t l) n (value_bytes (drop i vs) claim) ≡ verdict (count_format p t l) k o
  judged-kind k e o h claim =
      let r = value_bytes (drop (i + 2) vs) claim in
      let x = get_or vs (i + 1) 0 in
      ap (judge (count_format p t l) n) (values-at vs claim i more)
      ∙ judge-head p t l n (get_or vs i 0) (some k) (operand_bytes (kind_of (get_or vs i 0)) x ++ r) e
      ∙ ap (λ (q : Option Kind). judge_kind (count_format p t l) n (some k) (operand_bytes q x ++ r)) e
      ∙ ap (verdict (count_format p t l) k) (sym (h r))

  on-kind : (k : Kind) → closes k ≡ false → kind_of (get_or vs i 0) ≡ some k → (r : Result ⊤ Fault) → r ≡ Ok tt
      → ((b : List ℕ) → fault_of r ≡ fault_below (limit_of p t l k) n k (operand_bytes (some k) (get_or vs (i + 1) 0) ++ b))
      → Judges vs p t l (opened_behind n k) (at + (1 + width k)) (i + 2)
  on-kind k c e r z h =
      record {
        place = omega arith;
        near = omega (arith, g.near, width-most k c);
        few = omega (arith, g.few, opened-most n k);
        each = λ s q claim m. judging-on q (g.each s q claim m) k c more (judged-kind k e (fault_of r) h claim ∙ ap (λ (x : Result ⊤ Fault). verdict (count_format p t l) k (fault_of x)) z);
      }

  refused-kind : (k : Kind) → kind_of (get_or vs i 0) ≡ some k → (r : Result ⊤ Fault) (m : Fault) → r ≡ Err m
      → ((b : List ℕ) → fault_of r ≡ fault_below (limit_of p t l k) n k (operand_bytes (some k) (get_or vs (i + 1) 0) ++ b)) → RefusalIs vs p t l (Err (refusal (number m) at))
  refused-kind k e r m z h =
      record { answer = λ s q claim few. judging-refused q (g.each s q claim few) (number m) (judged-kind k e (fault_of r) h claim ∙ ap (λ (x : Result ⊤ Fault). verdict (count_format p t l) k (fault_of x)) z) }

  -- a command of a link, and one of a task
  judges-message : get_or vs (i + 1) 0 < 65536 → is_message (get_or vs i 0) ≡ true → (r : Result ⊤ Fault) → fault_of r ≡ known_fault l n (get_or vs (i + 1) 0) → r ≡ Ok tt → Judges vs p t l n (at + long_size) (i + 2)
  judges-message s e r h z = let f = message-kind (get_or vs i 0) e in by f.among f.is
    where
      by : {k : Kind} → OfLink k → kind_of (get_or vs i 0) ≡ some k → Judges vs p t l n (at + long_size) (i + 2)
      by sends q = on-kind sending refl q r z (λ b. h ∙ sym (fault-of-link l n (get_or vs (i + 1) 0) b sends s))
      by receives q = on-kind receiving refl q r z (λ b. h ∙ sym (fault-of-link l n (get_or vs (i + 1) 0) b receives s))
      by discards q = on-kind discarding refl q r z (λ b. h ∙ sym (fault-of-link l n (get_or vs (i + 1) 0) b discards s))

  judges-message-no : get_or vs (i + 1) 0 < 65536 → is_message (get_or vs i 0) ≡ true → (r : Result ⊤ Fault) → fault_of r ≡ known_fault l n (get_or vs (i + 1) 0) → (m : Fault) → r ≡ Err m → RefusalIs vs p t l (Err (refusal (number m) at))
  judges-message-no s e r h m z = let f = message-kind (get_or vs i 0) e in by f.among f.is
    where
      by : {k : Kind} → OfLink k → kind_of (get_or vs i 0) ≡ some k → RefusalIs vs p t l (Err (refusal (number m) at))
      by sends q = refused-kind sending q r m z (λ b. h ∙ sym (fault-of-link l n (get_or vs (i + 1) 0) b sends s))
      by receives q = refused-kind receiving q r m z (λ b. h ∙ sym (fault-of-link l n (get_or vs (i + 1) 0) b receives s))
      by discards q = refused-kind discarding q r m z (λ b. h ∙ sym (fault-of-link l n (get_or vs (i + 1) 0) b discards s))

  judges-task : is_task (get_or vs i 0) ≡ true → (r : Result ⊤ Fault) → fault_of r ≡ known_fault t n (get_or vs (i + 1) 0) → r ≡ Ok tt → Judges vs p t l n (at + short_size) (i + 2)
  judges-task e r h z = let f = task-kind (get_or vs i 0) e in by f.among f.is
    where
      by : {k : Kind} → OfTask k → kind_of (get_or vs i 0) ≡ some k → Judges vs p t l n (at + short_size) (i + 2)
      by runs q = on-kind running refl q r z (λ b. h ∙ sym (fault-of-task t n (get_or vs (i + 1) 0) b runs))
      by releases q = on-kind releasing refl q r z (λ b. h ∙ sym (fault-of-task t n (get_or vs (i + 1) 0) b releases))

  judges-task-no : is_task (get_or vs i 0) ≡ true → (r : Result ⊤ Fault) → fault_of r ≡ known_fault t n (get_or vs (i + 1) 0) → (m : Fault) → r ≡ Err m → RefusalIs vs p t l (Err (refusal (number m) at))
  judges-task-no e r h m z = let f = task-kind (get_or vs i 0) e in by f.among f.is
    where
      by : {k : Kind} → OfTask k → kind_of (get_or vs i 0) ≡ some k → RefusalIs vs p t l (Err (refusal (number m) at))
      by runs q = refused-kind running q r m z (λ b. h ∙ sym (fault-of-task t n (get_or vs (i + 1) 0) b runs))
      by releases q = refused-kind releasing q r m z (λ b. h ∙ sym (fault-of-task t n (get_or vs (i + 1) 0) b releases))

  judges-open : get_or vs i 0 ≡ 0x50 → (r : Result ⊤ Fault) → fault_of r ≡ open_fault p n (get_or vs (i + 1) 0) → r ≡ Ok tt → Judges vs p t l (n + 1) (at + 2) (i + 2)
  judges-open e r h z = on-kind opening refl (ap kind_of e) r z (λ b. h ∙ sym (fault-opening p n (get_or vs (i + 1) 0) b))

  judges-open-no : get_or vs i 0 ≡ 0x50 → (r : Result ⊤ Fault) → fault_of r ≡ open_fault p n (get_or vs (i + 1) 0) → (m : Fault) → r ≡ Err m → RefusalIs vs p t l (Err (refusal (number m) at))
  judges-open-no e r h m z = refused-kind opening (ap kind_of e) r m z (λ b. h ∙ sym (fault-opening p n (get_or vs (i + 1) 0) b))

  -- .. and what a fault makes of each
  went_on_lem : (r : Result ⊤ Fault) (behind m : ℕ) → (r ≡ Ok tt → Judges vs p t l m behind (i + 2)) → ((x : Fault) → r ≡ Err x → RefusalIs vs p t l (Err (refusal (number x) at))) → {q : Result Spot Refusal} → q ≡ went_on r at behind m → NextIs vs p t l i q
  went_on_lem (Ok x) behind m f g e = subst (NextIs vs p t l i) (sym e) (only-on (f refl))
  went_on_lem (Err x) behind m f g e = subst (NextIs vs p t l i) (sym e) (only_out (g x refl))

  pub next-message : get_or vs (i + 1) 0 < 65536 → is_message (get_or vs i 0) ≡ true → (r : Result ⊤ Fault) → fault_of r ≡ known_fault l n (get_or vs (i + 1) 0) → {q : Result Spot Refusal} → q ≡ went_on r at (at + long_size) n → NextIs vs p t l i q
  next-message s e r h = went_on_lem r (at + long_size) n (judges-message s e r h) (judges-message-no s e r h)

  pub next-task : is_task (get_or vs i 0) ≡ true → (r : Result ⊤ Fault) → fault_of r ≡ known_fault t n (get_or vs (i + 1) 0) → {q : Result Spot Refusal} → q ≡ went_on r at (at + short_size) n → NextIs vs p t l i q
  next-task e r h = went_on_lem r (at + short_size) n (judges-task e r h) (judges-task-no e r h)

  pub next-open : get_or vs i 0 ≡ 0x50 → (r : Result ⊤ Fault) → fault_of r ≡ open_fault p n (get_or vs (i + 1) 0) → {q : Result Spot Refusal} → q ≡ went_on r at (at + 2) (n + 1) → NextIs vs p t l i q
  next-open e r h = went_on_lem r (at + 2) (n + 1) (judges-open e r h) (judges-open-no e r h)

  -- a claim among the commands
  pub judges-claim-no : get_or vs i 0 ≡ 0x5A → both (ltb 0 t) (eqb n 0) ≡ true → RefusalIs vs p t l (Err (refusal 23 at))
  judges-claim-no e z = refused-kind claiming (ap kind_of e) (Err BundleOutOfTurn) BundleOutOfTurn refl (λ b. sym (fault-claiming t n (get_or vs (i + 1) 0) b ∙ rw z))

  pub judges-tail : get_or vs i 0 ≡ 0x5A → both (ltb 0 t) (eqb n 0) ≡ false → RefusalIs vs p t l (Err (refusal 24 (at + 5)))
  judges-tail e z =
      record {
        answer = λ s q claim m.
            judging-tail q (g.each s q claim m) more
            (judged-kind claiming (ap kind_of e) none (λ b. sym (fault-claiming t n (get_or vs (i + 1) 0) b ∙ rw z)) claim);
      }

  pub judges-strange : is_message (get_or vs i 0) ≡ false → is_task (get_or vs i 0) ≡ false → (get_or vs i 0 ≡ 0x50 → ⊥) → (get_or vs i 0 ≡ 0x5A → ⊥) → RefusalIs vs p t l (Err (refusal 22 at))
  judges-strange e f h k =
      record {
        answer = λ s q claim m.
            judging-refused q (g.each s q claim m) 22
            (ap (judge (count_format p t l) n) (values-at vs claim i more) ∙ judge-head p t l n (get_or vs i 0) none _ (strange-kind (get_or vs i 0) e f h k));
      }

module _ {vs : List ℕ} {p t l n at i : ℕ} (g : Judges vs p t l n at i) where
  pub judges-cut : (r : ℕ) → i + 1 ≡ length vs → r ≡ cut_number t n (get_or vs i 0) → RefusalIs vs p t l (Err (refusal r at))
  unfolding cut_number
  judges-cut r h e =
      record {
        answer = λ s z claim m.
            judging-refused z (g.each s z claim m) r
            (ap (judge (count_format p t l) n) (values-cut vs claim i h) ∙ judge-cut p t l n (get_or vs i 0) (kind_of (get_or vs i 0)) refl ∙ ap {B = Outcome Kind} refuse (sym e));
      }

  pub judges-bare : length vs ≤ i → both (ltb 0 t) (eqb n 0) ≡ true → RefusalIs vs p t l (Err (refusal 23 at))
  unfolding judge fault_below
  judges-bare h e =
      record {
        answer = λ s z claim m.
            judging-refused z (g.each s z claim m) 23 (ap (judge (count_format p t l) n) (values-end vs claim i h) ∙ rw e);
      }

  pub judges-long : length vs ≤ i → both (ltb 0 t) (eqb n 0) ≡ false → RefusalIs vs p t l (Ok (at + 5))
  judges-long h e =
      let begun : 0 < t → 0 < n = λ q. let f : eqb n 0 ≡ false = rw (lt-ltb 0 t q) at e in omega (arith, eqb-false n 0 f) in
      record { answer = λ s z claim m. judging-end z (g.each s z claim m) h begun m }

-- a fault, by the code's test
pub went-out : (r : Result ⊤ Fault) (at behind n : ℕ) (x : Refusal) → Err x ≡ placed at r → Err x ≡ went_on r at behind n
went-out (Ok y) at behind n x h = absurd cc
went-out (Err m) at behind n x h = let q : x ≡ refusal (number m) at = cc in ap Err q

pub went-in : (r : Result ⊤ Fault) (at behind n : ℕ) → Ok tt ≡ placed at r → Ok (spot behind n) ≡ went_on r at behind n
went-in (Ok y) at behind n h = refl
went-in (Err m) at behind n h = absurd cc
