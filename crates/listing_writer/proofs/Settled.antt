-- "Of a longer input it reads the first 8,512, which settle the answer": no more than 8,458 bytes stand before a sheet's end, so that a
-- longer input is refused within them, and the refusal is the same.
use Prim.Native.Nat.{ℕ, zero, suc, ◌+◌, ◌*◌, ◌≤◌, ◌<◌}
use mathlib.Core.Path.{◌≡◌, refl, sym, ap, subst, ◌∙◌}
use mathlib.Core.Bool.{true, false, not, false≢true}
use mathlib.Core.Option.{Option, none, some}
use mathlib.Core.List.{List, [], ◌∷◌, ◌++◌}
use native.Mathlib.Omega.{arith}
use native.Mathlib.Decide.{dec_lt}
use borrow.Author.Tests.{le-ltb, lt-ltb, leb-false, not-true, eqb-true, eqb-false}
use lib.ListN.{length, take, drop, length-append, take-append-drop}
use lib.Seq.{take_all, length-take-le}
use lib.Dec.{eqb, ltb}
use Rattle.folds.specs.Answers.{Answer, value, and_then, unless}
use Rattle.folds.proofs.Tests.{both-parts}
use Rattle.numbers.specs.Number.{number_at}
use Rattle.commands.specs.Commands.{Outcome, refuse, go, verdict, judge_kind, judge}
use Rattle.commands.specs.Reading.{Going}
use Rattle.commands.proofs.Going.{starts, goes, refuses, ends}
use Rattle.sheet.specs.Sheet.{Sheet, task_count, link_count}
use Rattle.sheet.specs.Sizes.{board_size, unpacking_size, cube_size, task_size, link_size, front_by, middle_of}
use Rattle.sheet.specs.Format.{Kind, board, unpack, wire, task, link, end, unwired, kind_of, width, Progress, fresh, fault, task_from, link_from, with_command, ended, sheet_format, read_form}
use Rattle.sheet.specs.Faults.{begun}
use Rattle.sheet.proofs.Judging.{sound-of}
use Rattle.sheet.proofs.Fronts.{front-none, front-some, front-cube, front-most}
use Rattle.graph.specs.Graph.{circle, read_sheet}
use Rattle.planner.specs.Planner.{planned}
use Rattle.listing.specs.Listing.{lines_of, listing}

-- a command with all its operands is judged without what stands behind them
module _ (p : Progress) (a b c d e f : ℕ) (u v : List ℕ) where
  abbrev ops : List ℕ → List ℕ
  ops x = a ∷ b ∷ c ∷ d ∷ e ∷ f ∷ x

  room : (k : Kind) (x : List ℕ) → width k ≤ length (ops x)
  room board x = omega arith
  room unpack x = omega arith
  room wire x = omega arith
  room task x = omega arith
  room link x = omega arith
  room end x = omega arith

  fault-same : (k : Kind) → fault p k (ops u) ≡ fault p k (ops v)
  unfolding fault number_at
  fault-same k = go k (le-ltb (length (ops u)) (width k) (room k u)) (le-ltb (length (ops v)) (width k) (room k v))
    where
      go : (k : Kind) → ltb (length (ops u)) (width k) ≡ false → ltb (length (ops v)) (width k) ≡ false → fault p k (ops u) ≡ fault p k (ops v)
      go board x y = rw (x, y)
      go unpack x y = rw (x, y)
      go wire x y = rw (x, y)
      go task x y = rw (x, y)
      go link x y = rw (x, y)
      go end x y = rw (x, y)

  kind-same : (o : Option Kind) → judge_kind sheet_format p o (ops u) ≡ judge_kind sheet_format p o (ops v)
  kind-same none = refl
  kind-same (some k) = ap (verdict sheet_format k) (fault-same k)

  judge-same : (h : ℕ) → judge sheet_format p (h ∷ ops u) ≡ judge sheet_format p (h ∷ ops v)
  unfolding judge
  judge-same h = kind-same (kind_of h)

-- a sheet so far, and the bytes still to be read: with them the longest sheet is passed
record Ample (s : Sheet) (d : List ℕ) : Type 0 where
  tasks : task_count s ≤ 256
  links : link_count s ≤ 1024
  long : 8512 ≤ length d + (middle_of s + link_size * link_count s)

module _ (rest : List ℕ) (w w' : Answer Sheet) where
  abbrev Same : Sheet → ℕ → List ℕ → Type 0
  Same s e d = Ample s d → Going sheet_format w (begun s) e d → Going sheet_format w' (begun s) e (d ++ rest) → w ≡ w'

  module _ (s : Sheet) (at h a b c d e f : ℕ) (x : List ℕ) where
    abbrev all : List ℕ
    all = h ∷ a ∷ b ∷ c ∷ d ∷ e ∷ f ∷ x

    ended_same : ended (begun s) at (drop 1 all) ≡ ended (begun s) at (drop 1 (all ++ rest))
    unfolding ended
    ended_same = rw (lt-ltb 0 (length (drop 1 all)) (omega arith), lt-ltb 0 (length (drop 1 (all ++ rest))) (omega arith))

    more-unpack : judge sheet_format (begun s) all ≡ go unpack → Ample s all → Ample (with_command s unpack (drop 1 all)) (drop unpacking_size all)
    unfolding task_count link_count
    more-unpack j m =
        let k = sound-of (begun s) all unpack j in
        let first = both-parts (eqb s.unpacking 0) (unwired s) k.turn in
        let time : ℕ = number_at 2 (drop 1 all) 0 in
        record {
          tasks = m.tasks;
          links = m.links;
          long = omega (arith, m.long, front-cube s.unpacking s.cube, front-none s.unpacking (eqb-true _ 0 first.0), front-cube time s.cube, front-some time (eqb-false _ 0 k.range));
        }

    more-cube : judge sheet_format (begun s) all ≡ go wire → Ample s all → Ample (with_command s wire (drop 1 all)) (drop cube_size all)
    unfolding task_count link_count
    more-cube j m =
        let none : s.cube ≡ false = not-true s.cube (both-parts (not s.cube) _ (sound-of (begun s) all wire j).turn).0 in
        record {
          tasks = m.tasks;
          links = m.links;
          long = omega (arith, m.long, ap (front_by s.unpacking) none, front-cube s.unpacking true);
        }

    more-task : judge sheet_format (begun s) all ≡ go task → Ample s all → Ample (with_command s task (drop 1 all)) (drop task_size all)
    unfolding task_count link_count
    more-task j m =
        let one = length-append s.tasks (task_from (drop 1 all) ∷ []) in
        record {
          tasks = omega (arith, one, leb-false 256 (task_count s) (sound-of (begun s) all task j).space);
          links = m.links;
          long = omega (arith, one, m.long);
        }

    more-link : judge sheet_format (begun s) all ≡ go link → Ample s all → Ample (with_command s link (drop 1 all)) (drop link_size all)
    unfolding task_count link_count
    more-link j m =
        let one = length-append s.links (link_from (drop 1 all) ∷ []) in
        record {
          tasks = m.tasks;
          links = omega (arith, one, leb-false 1024 (link_count s) (sound-of (begun s) all link j).space);
          long = omega (arith, one, m.long);
        }

    same : judge sheet_format (begun s) (all ++ rest) ≡ judge sheet_format (begun s) all
    same = sym (judge-same (begun s) a b c d e f x (x ++ rest) h)

    by-outcome : ((s' : Sheet) (at' : ℕ) (d' : List ℕ) → length d' < length all → Same s' at' d') → (o : Outcome Kind) → judge sheet_format (begun s) all ≡ o → Same s at all
    unfolding number_at
    by-outcome rec (refuse r) j m g g' = refuses sheet_format g r j ∙ sym (refuses sheet_format g' r (same ∙ j))
    by-outcome rec (go board) j m g g' = absurd (false≢true (sound-of (begun s) all board j).turn)
    by-outcome rec (go unpack) j m g g' = rec _ _ _ (omega arith) (more-unpack j m) (goes sheet_format g unpack refl j) (goes sheet_format g' unpack refl (same ∙ j))
    by-outcome rec (go wire) j m g g' = rec _ _ _ (omega arith) (more-cube j m) (goes sheet_format g wire refl j) (goes sheet_format g' wire refl (same ∙ j))
    by-outcome rec (go task) j m g g' = rec _ _ _ (omega arith) (more-task j m) (goes sheet_format g task refl j) (goes sheet_format g' task refl (same ∙ j))
    by-outcome rec (go link) j m g g' = rec _ _ _ (omega arith) (more-link j m) (goes sheet_format g link refl j) (goes sheet_format g' link refl (same ∙ j))
    by-outcome rec (go end) j m g g' = ends sheet_format g end refl j ∙ ended_same ∙ sym (ends sheet_format g' end refl (same ∙ j))

  settle : (n : ℕ) (s : Sheet) (at : ℕ) (d : List ℕ) → length d < n → Same s at d
  settle zero s at d l m g g' = absurd (omega arith)
  settle (suc n) s at (h ∷ a ∷ b ∷ c ∷ d ∷ e ∷ f ∷ x) l m g g' =
      by-outcome s at h a b c d e f x (λ s' at' d' k. settle n s' at' d' (omega arith)) (judge sheet_format (begun s) (h ∷ a ∷ b ∷ c ∷ d ∷ e ∷ f ∷ x)) refl m g g'
  settle (suc n) s at [] l m g g' = absurd (omega (arith, m.tasks, m.links, m.long, front-most s.unpacking s.cube))
  settle (suc n) s at (h ∷ []) l m g g' = absurd (omega (arith, m.tasks, m.links, m.long, front-most s.unpacking s.cube))
  settle (suc n) s at (h ∷ a ∷ []) l m g g' = absurd (omega (arith, m.tasks, m.links, m.long, front-most s.unpacking s.cube))
  settle (suc n) s at (h ∷ a ∷ b ∷ []) l m g g' = absurd (omega (arith, m.tasks, m.links, m.long, front-most s.unpacking s.cube))
  settle (suc n) s at (h ∷ a ∷ b ∷ c ∷ []) l m g g' = absurd (omega (arith, m.tasks, m.links, m.long, front-most s.unpacking s.cube))
  settle (suc n) s at (h ∷ a ∷ b ∷ c ∷ d ∷ []) l m g g' = absurd (omega (arith, m.tasks, m.links, m.long, front-most s.unpacking s.cube))
  settle (suc n) s at (h ∷ a ∷ b ∷ c ∷ d ∷ e ∷ []) l m g g' = absurd (omega (arith, m.tasks, m.links, m.long, front-most s.unpacking s.cube))

  -- the first command
  module _ (h a b c d e f : ℕ) (x : List ℕ) where
    abbrev whole : List ℕ
    whole = h ∷ a ∷ b ∷ c ∷ d ∷ e ∷ f ∷ x

    begins : length whole ≡ 8512 → Ample (with_command fresh.sheet board (drop 1 whole)) (drop board_size whole)
    unfolding task_count link_count
    begins l = record { tasks = omega arith; links = omega arith; long = omega (arith, front-none 0 refl) }

    by_first : length whole ≡ 8512 → (o : Outcome Kind) → judge sheet_format fresh whole ≡ o → Going sheet_format w fresh 0 whole → Going sheet_format w' fresh 0 (whole ++ rest) → w ≡ w'
    unfolding number_at
    by_first l (refuse r) j g g' = refuses sheet_format g r j ∙ sym (refuses sheet_format g' r (sym (judge-same fresh a b c d e f x (x ++ rest) h) ∙ j))
    by_first l (go board) j g g' =
        settle (suc (length (drop board_size whole))) _ _ _ (omega arith) (begins l) (goes sheet_format g board refl j)
        (goes sheet_format g' board refl (sym (judge-same fresh a b c d e f x (x ++ rest) h) ∙ j))
    by_first l (go unpack) j g g' = absurd (false≢true (sound-of fresh whole unpack j).turn)
    by_first l (go wire) j g g' = absurd (false≢true (sound-of fresh whole wire j).turn)
    by_first l (go task) j g g' = absurd (false≢true (sound-of fresh whole task j).turn)
    by_first l (go link) j g g' = absurd (false≢true (sound-of fresh whole link j).turn)
    by_first l (go end) j g g' = absurd (false≢true (sound-of fresh whole end j).turn)

  first : (t : List ℕ) → length t ≡ 8512 → Going sheet_format w fresh 0 t → Going sheet_format w' fresh 0 (t ++ rest) → w ≡ w'
  first (h ∷ a ∷ b ∷ c ∷ d ∷ e ∷ f ∷ x) l g g' = by_first h a b c d e f x l (judge sheet_format fresh (h ∷ a ∷ b ∷ c ∷ d ∷ e ∷ f ∷ x)) refl g g'
  first [] l g g' = absurd (omega arith)
  first (h ∷ []) l g g' = absurd (omega arith)
  first (h ∷ a ∷ []) l g g' = absurd (omega arith)
  first (h ∷ a ∷ b ∷ []) l g g' = absurd (omega arith)
  first (h ∷ a ∷ b ∷ c ∷ []) l g g' = absurd (omega arith)
  first (h ∷ a ∷ b ∷ c ∷ d ∷ []) l g g' = absurd (omega arith)
  first (h ∷ a ∷ b ∷ c ∷ d ∷ e ∷ []) l g g' = absurd (omega arith)

form-settled : (b : List ℕ) → read_form (take 8512 b) ≡ read_form b
unfolding read_form
form-settled b = go (dec_lt 8512 (length b))
  where
    go : Dec (8512 < length b) → read_form (take 8512 b) ≡ read_form b
    go (no l) = ap read_form (take_all 8512 b (omega arith))
    go (yes l) =
        let t : List ℕ = take 8512 b in
        first (drop 8512 b) (read_form t) (read_form b) t (length-take-le 8512 b (omega arith)) (starts sheet_format fresh t)
        (subst (λ (x : List ℕ). Going sheet_format (read_form b) fresh 0 x) (sym (take-append-drop 8512 b)) (starts sheet_format fresh b))

-- what the program lists for the first 8,512 bytes is the listing of the whole input
pub settled : (b : List ℕ) → listing (take 8512 b) ≡ listing b
unfolding listing read_sheet
settled b =
    ap (λ (a : Answer Sheet). lines_of (and_then (and_then a (λ s. unless 10 (circle s) (value s))) (λ s. and_then (planned s) (λ σ. value (s, σ))))) (form-settled b)
