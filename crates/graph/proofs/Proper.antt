-- What holds of a sheet that was read from bytes, and what levels and circles are for it, in plain words.
use Prim.Native.Nat.{ℕ, ◌<◌}
use native.Mathlib.Omega.{arith}
use mathlib.Core.Option.{Option, none, some}
use mathlib.Core.Path.{◌≡◌, refl, sym, ap, ◌∙◌}
use mathlib.Core.List.{List}
use Rattle.folds.specs.Answers.{Answer, value, refused, unless, and_then}
use Rattle.folds.proofs.Tests.{and_then-value, unless-value, not-value, value_same}
use Rattle.numbers.specs.Number.{Bytes}
use Rattle.sheet.specs.Sheet.{Sheet, task_count}
use Rattle.sheet.specs.Format.{read_form}
use Rattle.graph.specs.Graph.{circle, level, read_sheet}
use Rattle.graph.specs.Paths.{LevelIs, LowestOnCircle}
use Rattle.graph.proofs.Reaches.{Declared}
use Rattle.graph.proofs.Plain.{level-plain, circle-lowest, lowest-circle}
use Rattle.sheet.proofs.Numbers.{form-numbered}
use Rattle.graph.proofs.Forms.{Formed, Sized, form-read, form-sizes}

-- a sheet that `read_sheet` gives; the widths of its numbers are in `Sized`, where its bytes are bytes
pub record Proper (s : Sheet) : Type 0 where
  pub form : Formed s
  pub free : circle s ≡ none

pub read-form : (b : List ℕ) (s : Sheet) → read_sheet b ≡ value s → (read_form b ≡ value s) × (circle s ≡ none)
unfolding read_sheet
read-form b s e =
    let m = and_then-value (read_form b) (λ s. unless 10 (circle s) (value s)) s e in
    let u = unless-value 10 (circle m.0) (value m.0) s m.2 in
    let q : m.0 ≡ s = value_same u.1 in
    (m.1 ∙ ap value q, ap circle (sym q) ∙ u.0)

pub form-declared : (b : List ℕ) (s : Sheet) → read_form b ≡ value s → Declared s
form-declared b s e = let f = form-read b s e in record { source = f.source; target = f.target }

pub proper : (b : List ℕ) (s : Sheet) → read_sheet b ≡ value s → Proper s
proper b s e = let q = read-form b s e in record { form = form-read b s q.0; free = q.1 }

pub proper-declared : {s : Sheet} → Proper s → Declared s
proper-declared p = record { source = p.form.source; target = p.form.target }

pub proper-sized : (b : List ℕ) (s : Sheet) → Bytes b → read_sheet b ≡ value s → Sized s
proper-sized b s h e = form-sizes b s h (read-form b s e).0

-- the levels of a sheet that was read
pub read-levels : (b : List ℕ) (s : Sheet) → read_sheet b ≡ value s → (t : ℕ) → t < task_count s → LevelIs s t (level s t)
read-levels b s e t h = let p = proper b s e in level-plain s (proper-declared p) p.free t h

-- refusal 10 is at the lowest task on a circle of a sheet whose form was read
pub record LoopAt (b : List ℕ) (t : ℕ) : Type 0 where
  pub sheet : Sheet
  pub form : read_form b ≡ value sheet
  pub lowest : LowestOnCircle sheet t

pub refused-loop : (b : List ℕ) (t : ℕ) → read_sheet b ≡ refused 10 t → LoopAt b t
unfolding read_sheet
refused-loop b t e = go (read_form b) refl e
  where
    by : (s : Sheet) (o : Option ℕ) → read_form b ≡ value s → circle s ≡ o → unless 10 o (value s) ≡ refused 10 t → LoopAt b t
    by s none f c q = not-value (sym q)
    by s (some u) f c q =
        let r : u ≡ t = cc in
        record { sheet = s; form = f; lowest = circle-lowest s (form-declared b s f) t (c ∙ ap some r) }

    go : (a : Answer Sheet) → read_form b ≡ a → and_then a (λ s. unless 10 (circle s) (value s)) ≡ refused 10 t → LoopAt b t
    go (value s) f q = by s (circle s) f refl q
    go (refused n at) f q = let r : n ≡ 10 = cc in absurd (omega (arith, (form-numbered b n at f).1))

pub loop-refused : (b : List ℕ) (t : ℕ) → LoopAt b t → read_sheet b ≡ refused 10 t
unfolding read_sheet
loop-refused b t l = rw (l.form, lowest-circle l.sheet (form-declared b l.sheet l.form) t l.lowest)
