-- A part of the work area that is lent, and the sheet in the tables.
use Prim.Native.Nat.{ℕ, ◌-◌}
use mathlib.Core.Path.{◌≡◌, sym, ap, subst, ◌∙◌}
use mathlib.Core.List.{List}
use native.Mathlib.Omega.{arith}
use lib.ListN.{length, drop, length-drop}
use lib.Seq.{take_all}
use borrow.Rule.Slice.PartMut.{mid_of}
use Rattle.sheet.specs.Sizes.{front_of, middle_of}
use Rattle.sheet.specs.Tables.{sheet_in}
use Rattle.sheet.proofs.Rows.{ranged}
use Rattle.admission.specs.Fields.{Fields, Known, Seen}
use Rattle.admission.specs.Views.{ViewIs, Shown}
use Rattle.admission.specs.declared.view.View.{View}

pub part-long : (w : List ℕ) (a : ℕ) → length (mid_of a (length w - a) w) ≡ length w - a
part-long w a = ap length (take_all (length w - a) (drop a w) (omega (arith, length-drop a w))) ∙ length-drop a w

-- a view of the tables is one of the bytes that they were read from
pub known_in : (w sheet : List ℕ) (v : View) → Shown sheet w → ViewIs w v → Known (sheet_in w) sheet v
known_in w sheet v h g =
    let e : middle_of (sheet_in w) ≡ v.middle = omega (arith, g.front, g.tasks, v.behind) in
    record {
      fields = subst (λ (i : ℕ). Fields (sheet_in w) sheet i v.middle) (sym g.front) (subst (Fields (sheet_in w) sheet (front_of (sheet_in w))) e h.fields);
      ranged = ranged w h.loaded;
      processors = sym g.processors;
      tasks = sym g.tasks;
      links = sym g.links;
      limited = sym g.limit;
      unpacked = sym g.unpacking;
      wired = sym g.cube;
    }

pub seen-in : (w sheet : List ℕ) (v : View) → Shown sheet w → ViewIs w v → Seen sheet v
seen-in w sheet v h g = record { board = sheet_in w; known = known_in w sheet v h g }
