-- What zeldrupa_generate wrote is read without refusal, as the definition's sheet.
use Prim.Native.Nat.{ℕ, ◌+◌, ◌*◌, ◌≤◌, ◌<◌}
use native.Mathlib.Omega.{arith}
use mathlib.Core.Bool.{Bool, true, false}
use mathlib.Core.Option.{none}
use mathlib.Core.Path.{◌≡◌, refl, sym, ap, subst, ◌∙◌}
use mathlib.Core.List.{List}
use lib.ListN.{length, take}
use Rattle.folds.specs.Answers.{Answer, value, and_then, fitting}
use Rattle.folds.proofs.Tests.{and_then-value, not-value, value_same}
use Rattle.workspace.specs.Area.{fixed}
use Rattle.sheet.specs.Sheet.{Sheet, task_count, link_count, source_of, target_of}
use Rattle.sheet.specs.Writing.{sheet_bytes, task_values}
use Rattle.graph.specs.Graph.{circle, read_sheet}
use Rattle.graph.specs.Paths.{Path, here, along, steps}
use Rattle.graph.proofs.Reaches.{Declared}
use Rattle.graph.proofs.Plain.{none-circle}
use Rattle.generator.specs.Load.{outside, sheet_from, generated}
use Rattle.generator.proofs.Ranges.{Inside, inside, generated-no, generated-sheet}
use Rattle.generator.proofs.Fills.{few_links}
use Rattle.generator.proofs.Readable.{tasks-made, later-made, proper-made, form-again}
use Rattle.zeldrupa.specs.Promises.{generate_answer, GivesGenerated}
use Rattle.assurance.specs.Loads.{Loads}
use Rattle.assurance.proofs.Numbers.{Numbered, numbered-value, numbered-refused, numbered-then, numbered-pick, numbered-long, numbered-fitting}
use Rattle.assurance.proofs.Results.{long-value, fitting-value, gave}
use Rattle.assurance.proofs.Trips.{sheet-left, read-sheet-is}

-- where every link leads to a later task, so does every path, and none leads back
module _ (s : Sheet) (later : (l : ℕ) → l < link_count s → source_of s l < target_of s l) where
  rises : {a b : ℕ} (p : Path s a b) → a + steps p ≤ b
  rises here = omega arith
  rises (along l h e p) = omega (arith, rises p, later l h)

  no-circle : Declared s → circle s ≡ none
  no-circle d = none-circle s d (λ t c. absurd (omega (arith, rises c.path, c.some)))

module _ (seed n m p l : ℕ) (small : l < 4294967296) where
  abbrev sheet : Sheet
  sheet = sheet_from seed n p l m

  read_made : Inside seed n m p → read_sheet (sheet_bytes sheet) ≡ value sheet
  unfolding read_sheet
  read_made h =
      let r = (proper-made seed n m p l h small).ranged in
      rw (form-again seed n m p l h small, no-circle sheet (later-made seed n m p l h) record { source = r.source; target = r.target })

  numbered-generated : Numbered (generated seed n m p l)
  unfolding generated
  numbered-generated = numbered-pick (outside seed n m p) _ _ (numbered-refused 6 0 (omega arith)) (numbered-value sheet)

  -- a sheet that is given is the definition's, of arguments in their ranges
  given : (s : Sheet) → generated seed n m p l ≡ value s → (b : Bool) → outside seed n m p ≡ b → Inside seed n m p × (sheet ≡ s)
  given s e true q = not-value (sym (generated-no seed n m p l q) ∙ e)
  given s e false q = (inside seed n m p q, value_same (sym (generated-sheet seed n m p l q) ∙ e))

  wrote : (work work' out out' : List ℕ) (k : ℕ) → GivesGenerated seed n m p l work work' out out' k 0 → Inside seed n m p × (take k out' ≡ sheet_bytes sheet) × (k ≡ length (sheet_bytes sheet))
  unfolding generate_answer
  wrote work work' out out' k g =
      let f : Sheet → Answer (List ℕ) = λ s. fitting (length out) (sheet_bytes s) in
      let a = and_then (generated seed n m p l) f in
      let v = gave g (numbered-long fixed (length work) a (numbered-then (generated seed n m p l) f numbered-generated (λ s. numbered-fitting (length out) (sheet_bytes s)))) refl in
      let q = and_then-value (generated seed n m p l) f (take k out') (long-value (length work) a (take k out') v.0).1 in
      let i = given q.0 q.1 (outside seed n m p) refl in
      let bytes : take k out' ≡ sheet_bytes sheet = sym (fitting-value (length out) (sheet_bytes q.0) (take k out') q.2) ∙ ap sheet_bytes (sym i.1) in
      (i.0, bytes, v.1 ∙ ap length bytes)

pub loads : Loads
loads seed n m p l small work work' out out' k g =
    let w = wrote seed n m p l small work work' out out' k g in
    let s = sheet_from seed n p l m in
    let read : read_sheet (take k out') ≡ value s = ap read_sheet w.1 ∙ read_made seed n m p l small w.0 in
    let tasks : task_count s ≡ n = tasks-made seed n m p l w.0 in
    record {
      bytes = w.1;
      reads = read;
      values =
          λ area area' t t' lk lk' b b' place r long room-t room-l given.
          let left = sheet-left (take k out') given s (read-sheet-is (take k out') s (length area) (length t) (length lk) long (omega arith) (omega (arith, few_links seed n p l m)) read) in
          (left.0, subst (λ (x : ℕ). take (2 * x) t' ≡ task_values s.tasks) tasks left.1, left.2, left.3);
      again =
          λ area area' put put' j h.
          let o = wrote seed n m p l small area area' put put' j h in
          (o.2 ∙ sym w.2, o.1 ∙ sym w.1);
    }
