-- The pass that gives back store, of the functions of the interface.
use Prim.Native.Nat.{ℕ, ◌≤◌, ◌<◌}
use native.Mathlib.Omega.{arith}
use mathlib.Core.Path.{◌≡◌, refl, sym, ap, ◌∙◌, subst}
use mathlib.Core.List.{List}
use lib.ListN.{length, take}
use Rattle.folds.specs.Answers.{Answer, value, refused, and_then, fitting}
use Rattle.folds.proofs.Tests.{and_then-value, not-value, value_same}
use Rattle.numbers.specs.Number.{Bytes}
use Rattle.workspace.specs.Area.{fixed}
use Rattle.sheet.specs.Sheet.{Sheet, link_count}
use Rattle.graph.specs.Graph.{read_sheet}
use Rattle.graph.proofs.Proper.{proper}
use Rattle.bundle.specs.Bundle.{Bundle, programme_count}
use Rattle.bundle.specs.Format.{read_bundle}
use Rattle.bundle.specs.Writing.{bundle_bytes}
use Rattle.bundle.specs.Fits.{Fits}
use Rattle.bundle.proofs.Backs.{read_back}
use Rattle.bundle.proofs.Rounds.{bytes-again, read_fits}
use Rattle.checker.specs.Checker.{checked, check}
use Rattle.checker.proofs.Accepted.{passes}
use Rattle.releasing.specs.Releasing.{releasing, passed}
use Rattle.releasing.specs.Passing.{passed_bytes, pass}
use Rattle.releasing.proofs.Passed.{accepted-again, comes-out, passing-twice}
use Rattle.releasing.proofs.Fitting.{fits-passed}
use Rattle.releasing.proofs.Longest.{published-long}
use Rattle.releasing.proofs.Sentences.{passed-all, passed-earliest, passed-less}
use Rattle.zeldrupa.specs.Promises.{GivesCheck, release_answer, GivesRelease}
use Rattle.zeldrupa.proofs.Gives.{enough}
use Rattle.assurance.specs.Demand.{Read}
use Rattle.assurance.specs.GivingBack.{Inserted, Passed, GivingBack}
use Rattle.assurance.proofs.Numbers.{Numbered, numbered-value, numbered-then, numbered-sheet, numbered-bundle, numbered-checked}
use Rattle.assurance.proofs.Results.{value-fitting, gives-value, wrote, refused-alike}
use Rattle.assurance.proofs.Whole.{check-returns}

-- the pass of what was read, by the checker's answer
pass-is : {sheet bundle : List ℕ} (x : Read sheet bundle) → pass sheet bundle ≡ and_then (checked x.s x.b) (λ c. value (bundle_bytes (releasing x.s c)))
unfolding pass passed_bytes passed
pass-is {sheet} {bundle} x = rw (x.sheet_is, x.bundle_is) (inner (checked x.s x.b))
  where
    inner : (a : Answer Bundle)
        → and_then (and_then a (λ c. value (releasing x.s c))) (λ c. value (bundle_bytes c)) ≡ and_then a (λ c. value (bundle_bytes (releasing x.s c)))
    inner (value c) = refl
    inner (refused n at) = refl

accepted-pass : {sheet bundle : List ℕ} (x : Read sheet bundle) → checked x.s x.b ≡ value x.b → pass sheet bundle ≡ value (bundle_bytes (releasing x.s x.b))
accepted-pass x e = pass-is x ∙ ap (λ (a : Answer Bundle). and_then a (λ c. value (bundle_bytes (releasing x.s c)))) e

-- what it writes was accepted
pass-accepted : {sheet bundle v : List ℕ} (x : Read sheet bundle) → pass sheet bundle ≡ value v → (checked x.s x.b ≡ value x.b) × (v ≡ bundle_bytes (releasing x.s x.b))
pass-accepted {sheet} {bundle} {v} x e =
    let r = and_then-value (checked x.s x.b) (λ c. value (bundle_bytes (releasing x.s c))) v (sym (pass-is x) ∙ e) in
    let same = (passes x.s x.b r.0 r.1).1 in
    (r.1 ∙ ap value (sym same), value_same (sym r.2) ∙ ap (λ (c : Bundle). bundle_bytes (releasing x.s c)) (sym same))

pass-read : (sheet bundle v : List ℕ) → pass sheet bundle ≡ value v → Read sheet bundle
unfolding pass passed_bytes
pass-read sheet bundle v e =
    let r = and_then-value (read_sheet sheet) (λ s. and_then (read_bundle s bundle) (λ b. and_then (passed s b) (λ a. value (bundle_bytes a)))) v e in
    let q = and_then-value (read_bundle r.0 bundle) (λ b. and_then (passed r.0 b) (λ a. value (bundle_bytes a))) v r.2 in
    record { s = r.0; b = q.0; sheet_is = r.1; bundle_is = q.1 }

numbered-pass : (sheet bundle : List ℕ) → Numbered (pass sheet bundle)
unfolding pass passed_bytes passed
numbered-pass sheet bundle =
    numbered-then (read_sheet sheet) _ (numbered-sheet sheet)
    (λ s.
    numbered-then (read_bundle s bundle) _ (numbered-bundle s bundle)
    (λ b.
    numbered-then (and_then (checked s b) (λ a. value (releasing s a))) _ (numbered-then (checked s b) _ (numbered-checked s b) (λ a. numbered-value (releasing s a)))
    (λ a. numbered-value (bundle_bytes a))))

release-value : (sheet bundle work work' out out' : List ℕ) (n : ℕ) → GivesRelease sheet bundle work work' out out' n 0 → pass sheet bundle ≡ value (take n out')
unfolding release_answer
release-value sheet bundle work work' out out' n g = (wrote (pass sheet bundle) g (numbered-pass sheet bundle) refl).0

-- "a refused one gets the checker's refusal"
refused-pass : (sheet bundle : List ℕ) (m e : ℕ) → check sheet bundle ≡ refused m e → pass sheet bundle ≡ refused m e
unfolding check pass passed_bytes passed
refused-pass sheet bundle m e q = by (read_sheet sheet) q
  where
    inner : (s : Sheet) (a : Answer Bundle) → a ≡ refused m e → and_then (and_then a (λ c. value (releasing s c))) (λ c. value (bundle_bytes c)) ≡ refused m e
    inner s (value c) q = not-value (sym q)
    inner s (refused n at) q = cc

    of-bundle : (s : Sheet) (a : Answer Bundle) → and_then a (checked s) ≡ refused m e
        → and_then a (λ b. and_then (and_then (checked s b) (λ c. value (releasing s c))) (λ c. value (bundle_bytes c))) ≡ refused m e
    of-bundle s (value b) q = inner s (checked s b) q
    of-bundle s (refused n at) q = cc

    by : (a : Answer Sheet) → and_then a (λ s. and_then (read_bundle s bundle) (checked s)) ≡ refused m e
        → and_then a (λ s. and_then (read_bundle s bundle) (λ b. and_then (and_then (checked s b) (λ c. value (releasing s c))) (λ c. value (bundle_bytes c)))) ≡ refused m e
    by (value s) q = of-bundle s (read_bundle s bundle) q
    by (refused n at) q = cc

refusal : (sheet bundle area area' work work' out out' : List ℕ) (q r p n : ℕ) → fixed ≤ length area → fixed ≤ length work → GivesCheck sheet bundle area area' q r → 0 < r
    → GivesRelease sheet bundle work work' out out' p n → (n ≡ r) × (p ≡ q) × (out' ≡ out)
unfolding release_answer
refusal sheet bundle area area' work work' out out' q r p n l m c some g = refused-alike (pass sheet bundle) g sheet bundle (refused-pass sheet bundle) l m c some

release-answer : (sheet v : List ℕ) (work out : ℕ) → fixed ≤ work → release_answer sheet v work out ≡ and_then (pass sheet v) (fitting out)
unfolding release_answer
release-answer sheet v work out l = enough (and_then (pass sheet v) (fitting out)) work l

module _ {sheet bundle : List ℕ} (x : Read sheet bundle) (bytes : Bytes bundle) where
  few_links : link_count x.s ≤ 65536
  few_links = omega (arith, (proper sheet x.s x.sheet_is).form.links)

  fits : Fits x.s (releasing x.s x.b)
  fits = fits-passed x.s x.b (read_fits x.s bundle x.b bytes x.bundle_is)

  -- the passed bundle is short, and is read from its bytes
  short-passed : checked x.s (releasing x.s x.b) ≡ value (releasing x.s x.b) → length (bundle_bytes (releasing x.s x.b)) ≤ 10277
  unfolding programme_count
  short-passed e =
      let f = (proper sheet x.s x.sheet_is).form in
      published-long x.s (releasing x.s x.b) (passes x.s (releasing x.s x.b) (releasing x.s x.b) e).0.published fits.formed.known f.tasks f.links
      (omega (arith, fits.formed.few, f.board_few))

  read-passed : read_bundle x.s (bundle_bytes (releasing x.s x.b)) ≡ value (releasing x.s x.b)
  read-passed = read_back x.s (releasing x.s x.b) few_links fits

  passed_is : (v : List ℕ) → pass sheet bundle ≡ value v → Passed x v
  unfolding check
  passed_is v e =
      let s = x.s in
      let b = x.b in
      let a = pass-accepted x e in
      let again = accepted-again s b b a.0 in
      let read : read_bundle s v ≡ value (releasing s b) = ap (read_bundle s) a.1 ∙ read-passed in
      let y : Read sheet v = record { s = s; b = releasing s b; sheet_is = x.sheet_is; bundle_is = read } in
      let once : pass sheet v ≡ value v = accepted-pass y again.0 ∙ ap (λ (c : Bundle). value (bundle_bytes c)) (passing-twice s b) ∙ ap value (sym a.1) in
      record {
        b' = releasing s b;
        read = read;
        accepted = λ area area' q r l g. check-returns sheet v area area' q r (releasing s b) l g (rw (x.sheet_is, read) again.0);
        claim = again.1;
        short = omega (arith, short-passed again.0, ap length a.1);
        never_more = λ cs k. passed-less s b b a.0 cs k;
        inserted = λ z. record { all = passed-all s b z; earliest = λ k j m c h f l. passed-earliest s b z k j m c h f l };
        same = λ l. a.1 ∙ ap bundle_bytes (comes-out s b l) ∙ bytes-again s bundle b bytes x.bundle_is;
        twice = λ work work' out out' n r l m g. twice-is v once work work' out out' n r l m g;
      }
    where
      twice-is : (v : List ℕ) → pass sheet v ≡ value v → (work work' out out' : List ℕ) (n r : ℕ) → fixed ≤ length work → length v ≤ length out → GivesRelease sheet v work work' out out' n r
          → (r ≡ 0) × (take n out' ≡ v)
      twice-is v once work work' out out' n r l m g =
          let answer : and_then (pass sheet v) (fitting (length out)) ≡ value v =
          ap (λ (a : Answer (List ℕ)). and_then a (fitting (length out))) once ∙ value-fitting (length out) v m
          in
          let w = gives-value g v (release-answer sheet v (length work) (length out) l ∙ answer) in
          (w.0, w.2)

pub giving-back : GivingBack
giving-back =
    record {
      refused = refusal;
      reads = λ sheet bundle work work' out out' n g. pass-read sheet bundle (take n out') (release-value sheet bundle work work' out out' n g);
      passed = λ x bytes work work' out out' n g. passed_is x bytes (take n out') (release-value _ _ work work' out out' n g);
    }
