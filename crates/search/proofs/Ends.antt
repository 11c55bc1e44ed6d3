-- From the walk to the bytes that are written.
use Rattle.std.specs.Prelude.{⊤, Result, Ok, Err, Some, None}
use Rattle.std.specs.Prelude.{Option as Maybe}
use Rattle.refusals.specs.Refusals.{refusal}
use Rattle.refusals.specs.declared.Refusal.{Refusal}
use Prim.Native.Nat.{ℕ, ◌+◌, ◌-◌, ◌≤◌, ◌<◌}
use native.Mathlib.Omega.{arith}
use mathlib.Core.Bool.{Bool, true, false}
use mathlib.Core.Option.{Option, none, some}
use mathlib.Core.Path.{◌≡◌, refl, sym, ap, ◌∙◌, subst}
use mathlib.Core.Logic.{inl, inr}
use mathlib.Core.List.{List, ◌++◌, []}
use lib.ListN.{length, take, drop, length-take}
use lib.Dec.{ltb}
use borrow.Author.Tests.{lt-ltb, le-ltb}
use Rattle.folds.specs.Folds.{pick, either}
use Rattle.folds.specs.Answers.{Answer, value, refused, and_then, fitting, written}
use Rattle.folds.proofs.Tests.{part-either}
use Rattle.numbers.specs.Number.{Bytes, stored}
use Rattle.numbers.proofs.Puts.{kept, front, fits_not, fits-well}
use Rattle.sheet.specs.Sheet.{Sheet, task_count}
use Rattle.sheet.specs.Tables.{sheet_in}
use Rattle.graph.specs.Graph.{read_sheet}
use Rattle.graph.proofs.Proper.{proper, proper-sized}
use Rattle.levelling.specs.Opened.{OpenIs}
use Rattle.levelling.proofs.Opens.{open-refusal, open-value}
use Rattle.bundle.specs.Bundle.{Bundle}
use Rattle.refusals.specs.Refusals.{written_of}
use Rattle.admission.specs.Views.{ViewIs, Shown}
use Rattle.admission.specs.declared.view.View.{View}
use Rattle.admission.proofs.Areas.{known_in}
use Rattle.least.specs.Least.{In, candidates, best, best_from, most, best_or11, least_time, least_bundle}
use Rattle.least.specs.Pruned.{last_of, total, may_open, may_join, looked_from, looked}
use Rattle.least.proofs.Few.{few_links}
use Rattle.least.proofs.Pruning.{pruned-in, best-looked}
use Rattle.search.specs.Codes.{arranged, opens_of, Coded, last_length}
use Rattle.search.specs.Laying.{Small, BundleIs}
use Rattle.search.specs.Judging.{Sought}
use Rattle.search.specs.Keeping.{KeepsOf, Right, FoldIs}
use Rattle.search.specs.Walking.{floor_of, begun, Begins}
use Rattle.search.specs.Whole.{BestIs, SearchIs, LeastIs}
use Rattle.search.specs.declared.choosing.Best.{Best}
use Rattle.search.specs.declared.walking.Begun.{Begun}
use Rattle.search.proofs.Keeping.{kept-bytes}

-- the walk begins with no task, and nothing found
abbrev pub empty_one : Begun
empty_one = record { code = 0; tasks = 0; programmes = 0; own = 0; floor = 0; store = 0; work = 0 }

pub begins-empty : (sheet : List ℕ) (v : View) → Begins sheet v empty_one
unfolding Coded opens_of last_length arranged floor_of total last_of
begins-empty sheet v =
    record {
      few = omega arith;
      coded = tt;
      small = omega arith;
      programmes = refl;
      own = refl;
      low = omega arith;
      light = omega arith;
      short = omega arith;
      floor = λ s k. refl;
      store = λ s k. refl;
      work = λ s k. refl;
    }

pub none_right : (v : View) → Right v None
none_right v = record { coded = λ b q. absurd cc }

looked-in : (s : Sheet) (x : List (List ℕ)) → In x (looked s) → In x (candidates s)
unfolding looked looked_from candidates
looked-in s x i = pruned-in s.processors (task_count s) (may_open s) (may_join s) (task_count s) [] x i

pub best-done : (sheet : List ℕ) (v : View) (r : Maybe Best) → FoldIs sheet v (λ s. looked_from s v.tasks (begun empty_one)) None r → BestIs sheet v r
unfolding arranged looked
best-done sheet v r f =
    record {
      right = f.right;
      is =
          λ s k.
          let n : v.tasks ≡ task_count s = sym k.known.tasks in
          subst (KeepsOf s v r) (ap (λ (i : ℕ). best_from s (looked_from s i []) none) n ∙ best-looked s (proper sheet s k.read) (proper-sized sheet s k.bytes k.read) k.flat)
          (f.is s k (λ x i. looked-in s x (subst (λ (m : ℕ). In x (looked_from s m [])) n i)) none tt);
    }

-- bytes copied to the front
pub copied : (from old part : List ℕ) (n : ℕ) → n ≤ length from → part ≡ take n from → part ++ drop n old ≡ stored old 0 (take n from)
unfolding stored
copied from old part n l e =
    let long : n ≡ 0 + length (take n from) = omega (arith, length-take n from) in
    rw e (ap (λ (k : ℕ). take n from ++ drop k old) long)

-- what is written, by what is kept
module _ (sheet : List ℕ) (v : View) (old : List ℕ) (o : Maybe Best) (h : BestIs sheet v o) where
  pub search-none : (n : ℕ) → n ≡ v.tasks - 1 → o ≡ None → SearchIs sheet v old old (Err (refusal 11 n))
  search-none n e f = record { answer = λ s k. ap written_of (by s k); left = λ s k. kept old 11 n ∙ ap (written old) (by s k) }
    where
      go : (s : Sheet) → Sought s sheet v → (q : Option Bundle) → KeepsOf s v o q → refused 11 n ≡ and_then (best_or11 s q) (fitting (length old))
      go s k none g = ap (refused 11) (e ∙ ap (λ (i : ℕ). i - 1) (sym k.known.tasks))
      go s k (some x) g = absurd (subst (λ (y : Maybe Best). KeepsOf s v y (some x)) f g)

      by : (s : Sheet) → Sought s sheet v → refused 11 n ≡ and_then (best_or11 s (best s)) (fitting (length old))
      by s k = go s k (best s) (h.is s k)

  -- the bundle that was found, in the buffer
  module _ (r : Best) (f : o ≡ Some r) (was buf : List ℕ) (n : ℕ) (b : BundleIs sheet v was buf r.code v.tasks r.claim n) where
    long : length (take n buf) ≡ n
    long = omega (arith, length-take n buf, b.few)

    found : (s : Sheet) → Sought s sheet v → and_then (best_or11 s (best s)) (fitting (length old)) ≡ fitting (length old) (take n buf)
    found s k = go (best s) (h.is s k)
      where
        go : (q : Option Bundle) → KeepsOf s v o q → and_then (best_or11 s q) (fitting (length old)) ≡ fitting (length old) (take n buf)
        go none g = absurd (subst (λ (y : Maybe Best). KeepsOf s v y none) f g)
        go (some x) g = ap (fitting (length old)) (sym (kept-bytes s k (subst (λ (y : Maybe Best). KeepsOf s v y (some x)) f g) b))

    pub search-short : length old < n → SearchIs sheet v old old (Err (refusal 12 n))
    search-short l = record { answer = λ s k. ap written_of (by s k); left = λ s k. kept old 12 n ∙ ap (written old) (by s k) }
      where
        by : (s : Sheet) → Sought s sheet v → refused 12 n ≡ and_then (best_or11 s (best s)) (fitting (length old))
        by s k = sym (found s k ∙ fits_not (length old) (take n buf) (omega (arith, long)) ∙ ap (refused 12) long)

    pub search-done : (last : List ℕ) → n ≤ length old → last ≡ stored old 0 (take n buf) → SearchIs sheet v old last (Ok n)
    search-done last l e =
        record {
          answer = λ s k. sym (ap written_of (by s k) ∙ ap Ok long);
          left = λ s k. e ∙ front old (take n buf) ∙ ap (written old) (sym (by s k));
        }
      where
        by : (s : Sheet) → Sought s sheet v → and_then (best_or11 s (best s)) (fitting (length old)) ≡ value (take n buf)
        by s k = found s k ∙ fits-well (length old) (take n buf) (omega (arith, long))

-- of the bytes of a sheet
module _ (sheet : List ℕ) {work mid : List ℕ} {o : Result ⊤ Refusal} (h : OpenIs (read_sheet sheet) work mid o) (old : List ℕ) where
  pub sheet-refused : (r : Refusal) → o ≡ Err r → LeastIs sheet work mid old old (Err r)
  unfolding least_bundle
  sheet-refused r q =
      let e : refused r.number r.place ≡ and_then (least_bundle sheet) (fitting (length old)) = sym (ap (λ (x : Answer Sheet). and_then (and_then x least_time) (fitting (length old))) (open-refusal h r q)) in
      record { answer = ap written_of e; left = kept old r.number r.place ∙ ap (written old) e; long = h.long }

  module _ (q : o ≡ Ok tt) {v : View} (shown : Shown sheet mid) (seen : ViewIs mid v) (bytes : Bytes sheet) where
    -- "38 for a seventh task or a sheet with `48`, place the task count"
    refused-38 : either (ltb most (task_count (sheet_in mid))) (sheet_in mid).cube ≡ true → LeastIs sheet work mid old old (Err (refusal 38 v.tasks))
    unfolding least_bundle least_time
    refused-38 l =
        let s = sheet_in mid in
        let t : v.tasks ≡ task_count s = seen.tasks in
        let e : refused 38 v.tasks ≡ and_then (least_bundle sheet) (fitting (length old)) =
        sym (ap (λ (x : Answer Sheet). and_then (and_then x least_time) (fitting (length old))) (open-value h q) ∙
        ap (λ (x : Bool). and_then (pick x (refused 38 (task_count s)) (best_or11 s (best s))) (fitting (length old))) l ∙ ap (refused 38) (sym t))
        in
        record { answer = ap written_of e; left = kept old 38 v.tasks ∙ ap (written old) e; long = h.long }

    pub many-refused : most < v.tasks → LeastIs sheet work mid old old (Err (refusal 38 v.tasks))
    many-refused l = refused-38 (part-either (ltb most (task_count (sheet_in mid))) (sheet_in mid).cube (inl (lt-ltb most (task_count (sheet_in mid)) (omega (arith, seen.tasks)))))

    pub cube-refused : v.cube ≡ true → LeastIs sheet work mid old old (Err (refusal 38 v.tasks))
    cube-refused c = refused-38 (part-either (ltb most (task_count (sheet_in mid))) (sheet_in mid).cube (inr (sym seen.cube ∙ c)))

    pub small-view : v.tasks ≤ most → Small v
    small-view l =
        let t : v.tasks ≡ task_count (sheet_in mid) = seen.tasks in
        record { tasks = l; links = omega (arith, seen.links, few_links (sheet_in mid) (proper sheet (sheet_in mid) (open-value h q)) (omega (arith, t))) }

    pub searched : v.tasks ≤ most → v.cube ≡ false → (after last : List ℕ) (r : Result ℕ Refusal) → length after ≡ length mid → SearchIs sheet v old last r → LeastIs sheet work after old last r
    unfolding least_bundle least_time
    searched l c after last r long g =
        let s = sheet_in mid in
        let flat : s.cube ≡ false = sym seen.cube ∙ c in
        let small : ltb most (task_count s) ≡ false = le-ltb most (task_count s) (omega (arith, seen.tasks)) in
        let e : and_then (best_or11 s (best s)) (fitting (length old)) ≡ and_then (least_bundle sheet) (fitting (length old)) =
        sym (ap (λ (x : Answer Sheet). and_then (and_then x least_time) (fitting (length old))) (open-value h q) ∙
        ap (λ (x : Bool). and_then (pick x (refused 38 (task_count s)) (best_or11 s (best s))) (fitting (length old))) (ap (λ (x : Bool). either x s.cube) small ∙ flat))
        in
        let sought : Sought s sheet v = record { known = known_in mid sheet v shown seen; bytes = bytes; read = open-value h q; flat = flat } in
        record { answer = g.answer s sought ∙ ap written_of e; left = g.left s sought ∙ ap (written old) e; long = long ∙ h.long }
