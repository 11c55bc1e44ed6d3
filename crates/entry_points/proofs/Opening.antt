-- From an opened sheet to the ends of each part: refused, too long for the output, or done.
use Rattle.std.specs.Prelude.{⊤, Result, Ok, Err}
use Rattle.refusals.specs.Refusals.{refusal}
use Rattle.refusals.specs.declared.Refusal.{Refusal}
use Prim.Native.Nat.{ℕ, ◌+◌, ◌*◌, ◌/◌, ◌%◌, ◌<◌, ◌≤◌}
use mathlib.Core.Path.{◌≡◌, refl, sym, ap, ap₂, ◌∙◌}
use mathlib.Core.Bool.{Bool, true, false}
use mathlib.Core.List.{List, [], ◌∷◌}
use native.Mathlib.Omega.{arith}
use borrow.Author.Tests.{lt-ltb, le-ltb}
use lib.ListN.{length, get_or, set}
use mir.Val.{bool_byte}
use Rattle.folds.specs.Folds.{listed, pick}
use Rattle.folds.specs.Answers.{Answer, value, refused, and_then, fitting, written}
use Rattle.folds.proofs.Lists.{length-listed}
use Rattle.numbers.specs.Number.{stored}
use Rattle.numbers.proofs.Laws.{stored_one}
use Rattle.numbers.proofs.Puts.{kept, front, fits_not, fits-well}
use Rattle.sheet.specs.Sheet.{Sheet, task_count, link_count}
use Rattle.workspace.specs.Area.{limit_at, link_count_at, processors_at, task_count_at, unpacking_at}
use Rattle.sheet.specs.Sizes.{task_size, link_size, front_by}
use Rattle.sheet.specs.Tables.{sheet_in, Loaded}
use Rattle.sheet.specs.Writing.{task_values, link_values, sheet_of_values, value_bytes, Narrow}
use Rattle.sheet.proofs.Rows.{ranged, tasks-in, links-in}
use Rattle.sheet_writer.proofs.Stores.{all-next, all_none}
use Rattle.sheet_reader.proofs.Backs.{values-tasks, values-links, values-again, values-narrow, written-length}
use Rattle.graph.specs.Graph.{level, read_sheet}
use Rattle.levelling.specs.Opened.{OpenIs}
use Rattle.levelling.proofs.Opens.{open-refusal, open-value}
use Rattle.graph.proofs.Proper.{read-form}
use Rattle.bundle.specs.Counts.{Sized}
use Rattle.bundle_writer.specs.Writes.{Counted}
use Rattle.entry_points.specs.Values.{levels_of, tabled, board_of, task_table, link_table, board_after, no_place}
use Rattle.entry_points.specs.Parts.{outcome_of, PartIs, SheetIs}

-- the counts that a bundle's reader and writer ask for
pub open-counted : {p t l : ℕ} → p ≤ 16 → t ≤ 256 → l ≤ 1024 → Counted p t l
open-counted a b c = record { processors = omega arith; tasks = b; links = omega arith }

pub open-sized : (w : List ℕ) {p t l : ℕ} → p ≡ (sheet_in w).processors → t ≡ task_count (sheet_in w) → l ≡ link_count (sheet_in w) → Sized (sheet_in w) p t l
open-sized w a b c = record { processors = sym a; tasks = sym b; links = sym c }

module _ (f : Sheet → Answer (List ℕ)) {a : Answer Sheet} {work mid out : List ℕ} {o : Result ⊤ Refusal} (h : OpenIs a work mid o) where
  -- the sheet was refused
  pub part-refused : (r : Refusal) → o ≡ Err r → PartIs (and_then a f) work mid out out (Err r)
  part-refused r q =
      let b : and_then a f ≡ refused r.number r.place = ap (λ (x : Answer Sheet). and_then x f) (open-refusal h r q) in
      record { answer = sym (ap (outcome_of length) b); output = kept out r.number r.place ∙ sym (ap (written out) b); long = h.long }

  -- it was read, and what follows goes by the sheet in the tables
  pub part-goes : o ≡ Ok tt → (last out' : List ℕ) (p : Result ℕ Refusal) → length last ≡ length mid → p ≡ outcome_of length (f (sheet_in mid)) → out' ≡ written out (f (sheet_in mid))
      → PartIs (and_then a f) work last out out' p
  part-goes q last out' p l c d =
      let b : and_then a f ≡ f (sheet_in mid) = ap (λ (x : Answer Sheet). and_then x f) (open-value h q) in
      record { answer = c ∙ sym (ap (outcome_of length) b); output = d ∙ sym (ap (written out) b); long = l ∙ h.long }

-- a result that is too long for the output, and one that is written to its front
module _ (g : Sheet → List ℕ) (out : List ℕ) {a : Answer Sheet} {work mid : List ℕ} {o : Result ⊤ Refusal} (h : OpenIs a work mid o) (q : o ≡ Ok tt) (n : ℕ) (e : n ≡ length (g (sheet_in mid))) where
  pub part-short : length out < n → PartIs (and_then a (λ s. fitting (length out) (g s))) work mid out out (Err (refusal 12 n))
  part-short l =
      let b : fitting (length out) (g (sheet_in mid)) ≡ refused 12 (length (g (sheet_in mid))) = fits_not (length out) (g (sheet_in mid)) (omega arith) in
      part-goes (λ s. fitting (length out) (g s)) h q mid out (Err (refusal 12 n)) refl (ap (λ (i : ℕ). Err (refusal 12 i)) e ∙ sym (ap (outcome_of length) b)) (kept out 12 (length (g (sheet_in mid))) ∙ sym (ap (written out) b))

  pub part-done : n ≤ length out → (out' : List ℕ) → out' ≡ stored out 0 (g (sheet_in mid)) → PartIs (and_then a (λ s. fitting (length out) (g s))) work mid out out' (Ok n)
  part-done l out' d =
      let b : fitting (length out) (g (sheet_in mid)) ≡ value (g (sheet_in mid)) = fits-well (length out) (g (sheet_in mid)) (omega arith) in
      part-goes (λ s. fitting (length out) (g s)) h q mid out' (Ok n) refl (ap Ok e ∙ sym (ap (outcome_of length) b)) (d ∙ front out (g (sheet_in mid)) ∙ sym (ap (written out) b))

-- the levels
pub levels-length : (s : Sheet) → length (levels_of s) ≡ task_count s
unfolding levels_of
levels-length s = length-listed (task_count s) (level s)

-- the written sheet: values that are read are whole, and their links narrow
module _ (p l u : ℕ) (c : Bool) (tv lv : List ℕ) (s : Sheet) (ts : (k : ℕ) → get_or tv k 0 < 65536) (ls : (k : ℕ) → get_or lv k 0 < 65536) (small : l < 4294967296) (time : u < 65536) (e : read_sheet (value_bytes p l u c tv lv) ≡ value s) where
  pub whole-values : (length tv % 2 ≡ 0) × (length lv % 4 ≡ 0)
  whole-values = let v = values-again p l u c tv lv s ts ls small time (read-form (value_bytes p l u c tv lv) s e).0 in (v.2, v.3)

  pub need-length : (start : ℕ) → start ≡ front_by u c → start + task_size * (length tv / 2) + link_size * (length lv / 4) + 1 ≡ length (value_bytes p l u c tv lv)
  need-length start h = ap (λ (x : ℕ). x + task_size * (length tv / 2) + link_size * (length lv / 4) + 1) h ∙ sym (written-length p l u c tv lv whole-values.0 whole-values.1)

  pub few-values : {w : List ℕ} → Loaded w → sheet_in w ≡ s → (length tv / 2 ≤ 256) × (length lv / 4 ≤ 1024)
  few-values {w} h q =
      let v = values-again p l u c tv lv s ts ls small time (read-form (value_bytes p l u c tv lv) s e).0 in
      let same : sheet_in w ≡ sheet_of_values p l u c tv lv = q ∙ v.0 in
      (omega (arith, (ranged w h).few_tasks, ap task_count same, values-tasks p l u c tv lv), omega (arith, (ranged w h).few_links, ap link_count same, values-links p l u c tv lv))

  pub narrow-values : Narrow lv
  narrow-values =
      record {
        sources = λ j h. (values-narrow p l u c tv lv s ts ls small time (read-form (value_bytes p l u c tv lv) s e).0 j h).0;
        targets = λ j h. (values-narrow p l u c tv lv s ts ls small time (read-form (value_bytes p l u c tv lv) s e).0 j h).1;
      }

-- the tables of a sheet
module _ (t l b : List ℕ) {a : Answer Sheet} {work mid : List ℕ} {o : Result ⊤ Refusal} (h : OpenIs a work mid o) where
  sheet-refusal : (x : Answer Sheet) (r e : ℕ) → x ≡ refused r e → (mid' : List ℕ) → length mid' ≡ length work → SheetIs x work mid' t t l l b b (Err (refusal r e))
  sheet-refusal x r e q mid' m =
      record {
        answer = sym (ap (outcome_of no_place) q);
        tasks = kept t r e ∙ sym (ap (λ (y : Answer Sheet). written t (task_table y)) q);
        links = kept l r e ∙ sym (ap (λ (y : Answer Sheet). written l (link_table y)) q);
        board = sym (ap (board_after b) q);
        long = m;
      }

  pub sheet-refused : (r : Refusal) → o ≡ Err r → SheetIs (and_then a (tabled (length t) (length l))) work mid t t l l b b (Err r)
  sheet-refused r q =
      sheet-refusal (and_then a (tabled (length t) (length l))) r.number r.place (ap (λ (x : Answer Sheet). and_then x (tabled (length t) (length l))) (open-refusal h r q)) mid h.long

  module _ (q : o ≡ Ok tt) where
    here : and_then a (tabled (length t) (length l)) ≡ tabled (length t) (length l) (sheet_in mid)
    here = ap (λ (x : Answer Sheet). and_then x (tabled (length t) (length l))) (open-value h q)

    pub tasks-short : (n : ℕ) → n ≡ 2 * task_count (sheet_in mid) → length t < n → SheetIs (and_then a (tabled (length t) (length l))) work mid t t l l b b (Err (refusal 12 n))
    unfolding tabled
    tasks-short n e k =
        sheet-refusal (and_then a (tabled (length t) (length l))) 12 n (here ∙ rw (lt-ltb (length t) (2 * task_count (sheet_in mid)) (omega arith)) (ap (refused 12) (sym e))) mid h.long

    pub links-short : (n m : ℕ) → n ≡ 2 * task_count (sheet_in mid) → n ≤ length t → m ≡ 4 * link_count (sheet_in mid) → length l < m → SheetIs (and_then a (tabled (length t) (length l))) work mid t t l l b b (Err (refusal 12 m))
    unfolding tabled
    links-short n m e k e' k' =
        sheet-refusal (and_then a (tabled (length t) (length l))) 12 m
        (here ∙ rw (le-ltb (length t) (2 * task_count (sheet_in mid)) (omega arith), lt-ltb (length l) (4 * link_count (sheet_in mid)) (omega arith)) (ap (refused 12) (sym e'))) mid h.long

    pub sheet-done : 2 * task_count (sheet_in mid) ≤ length t → 4 * link_count (sheet_in mid) ≤ length l → (t' l' b' : List ℕ)
        → t' ≡ stored t 0 (task_values (sheet_in mid).tasks) → l' ≡ stored l 0 (link_values (sheet_in mid).links) → b' ≡ board_of (sheet_in mid)
        → SheetIs (and_then a (tabled (length t) (length l))) work mid t t' l l' b b' (Ok 0)
    unfolding tabled
    sheet-done k k' t' l' b' p r c =
        let v : and_then a (tabled (length t) (length l)) ≡ value (sheet_in mid) =
        here ∙ rw (le-ltb (length t) (2 * task_count (sheet_in mid)) (omega arith), le-ltb (length l) (4 * link_count (sheet_in mid)) (omega arith)) in
        record {
          answer = sym (ap (outcome_of no_place) v);
          tasks = p ∙ front t (task_values (sheet_in mid).tasks) ∙ sym (ap (λ (y : Answer Sheet). written t (task_table y)) v);
          links = r ∙ front l (link_values (sheet_in mid).links) ∙ sym (ap (λ (y : Answer Sheet). written l (link_table y)) v);
          board = c ∙ sym (ap (board_after b) v);
          long = h.long;
        }

-- one level more
pub level-next : (f : ℕ → ℕ) (b m : List ℕ) (t x : ℕ) → m ≡ stored b 0 (listed t f) → t < length m → x ≡ f t → set m t x ≡ stored b 0 (listed (t + 1) f)
level-next f b m t x p h e =
    all-next 1 (λ y. y ∷ []) (λ ys. ys) refl (λ ys y. refl) (λ y. refl) f b m (set m t x) t t p
    (stored_one m t x h ∙ ap (λ (y : ℕ). stored m t (y ∷ [])) e) (omega arith)

pub level-none : (f : ℕ → ℕ) (b : List ℕ) → b ≡ stored b 0 (listed 0 f)
level-none f b = all_none 1 (λ y. y ∷ []) (λ ys. ys) refl (λ ys y. refl) (λ y. refl) f b

-- 1 for a cube
pub cube-bit : (b : Bool) → bool_byte b ≡ pick b 1 0
cube-bit true = refl
cube-bit false = refl

-- the words that hold processors, limit, counts and unpacking time are the sheet's, and c says whether it is a cube
pub board-is : (w : List ℕ) (c : ℕ) → c ≡ pick (sheet_in w).cube 1 0
    → get_or w processors_at 0 ∷ get_or w limit_at 0 ∷ get_or w task_count_at 0 ∷ get_or w link_count_at 0 ∷ get_or w unpacking_at 0 ∷ c ∷ [] ≡ board_of (sheet_in w)
unfolding sheet_in
board-is w c e =
    ap₂ (λ (n m : ℕ). get_or w processors_at 0 ∷ get_or w limit_at 0 ∷ n ∷ m ∷ get_or w unpacking_at 0 ∷ c ∷ []) (sym (tasks-in w)) (sym (links-in w))
    ∙ ap (λ (x : ℕ). get_or w processors_at 0 ∷ get_or w limit_at 0 ∷ task_count (sheet_in w) ∷ link_count (sheet_in w) ∷ get_or w unpacking_at 0 ∷ x ∷ []) e
