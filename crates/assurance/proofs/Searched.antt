-- The least time for small sheets, of the functions of the interface.
use Prim.Native.Nat.{ℕ, ◌-◌, ◌≤◌, ◌<◌}
use native.Mathlib.Omega.{arith}
use mathlib.Core.Bool.{Bool, true, false}
use mathlib.Core.Option.{Option, none, some, some-injective}
use mathlib.Core.Path.{◌≡◌, refl, sym, ap, ◌∙◌, subst}
use mathlib.Core.Logic.{◌⊎◌, inl, inr, ◌↔◌, ⊎_elim}
use mathlib.Core.List.{List}
use lib.ListN.{length, take}
use lib.Dec.{ltb}
use borrow.Author.Tests.{lt-ltb, le-ltb}
use Rattle.folds.specs.Folds.{pick, either}
use Rattle.folds.specs.Answers.{Answer, value, refused, and_then, fitting, number, place_or, cleared}
use Rattle.folds.proofs.Tests.{and_then-value, value_same, part-either}
use Rattle.numbers.specs.Number.{Bytes}
use Rattle.workspace.specs.Area.{fixed}
use Rattle.sheet.specs.Sheet.{Sheet, task_count}
use Rattle.graph.specs.Graph.{read_sheet}
use Rattle.bundle.specs.Bundle.{Bundle}
use Rattle.bundle.specs.Format.{read_bundle}
use Rattle.bundle.specs.Writing.{bundle_bytes}
use Rattle.bundle.proofs.Rounds.{bytes-again}
use Rattle.checker.specs.Checker.{checked, check}
use Rattle.checker.proofs.Accepted.{passes}
use Rattle.better.specs.Orders.{Rank, by_rank}
use Rattle.better.specs.Ranks.{runners, rank_by, rank_of}
use Rattle.least.specs.Written.{Written, NoRelease}
use Rattle.least.specs.Ranking.{order}
use Rattle.least.specs.Least.{best, most, best_or11, least_time, least_bundle}
use Rattle.least.specs.Promise.{NoneAccepted, Found, LeastTime}
use Rattle.least.proofs.Best.{least-time}
use Rattle.entry_points.specs.Values.{no_place}
use Rattle.zeldrupa.specs.Promises.{least_answer, check_answer}
use Rattle.zeldrupa.proofs.Gives.{enough}
use Rattle.assurance.specs.Choosing.{Accepted, Before}
use Rattle.assurance.specs.LeastTimes.{InForm, Wrote, Asked, LeastTimes}
use Rattle.assurance.proofs.Numbers.{Numbered, numbered-value, numbered-refused, numbered-then, numbered-pick, numbered-sheet}
use Rattle.assurance.proofs.Results.{wrote}
use Rattle.assurance.proofs.Whole.{check-value, check-returns}

-- no refusal has the number 0
numbered-least : (sheet : List ℕ) → Numbered (least_bundle sheet)
unfolding least_bundle least_time
numbered-least sheet =
    numbered-then (read_sheet sheet) least_time (numbered-sheet sheet)
    (λ s. numbered-pick (either (ltb most (task_count s)) s.cube) (refused 38 (task_count s)) (best_or11 s (best s)) (numbered-refused 38 (task_count s) (omega arith)) (by s (best s)))
  where
    by : (s : Sheet) (o : Option Bundle) → Numbered (best_or11 s o)
    by s none = numbered-refused 11 (task_count s - 1) (omega arith)
    by s (some b) = numbered-value (bundle_bytes b)

-- what was written is the least time's
record Least (sheet out : List ℕ) : Type 0 where
  s : Sheet
  read : read_sheet sheet ≡ value s
  found : Found sheet s out

least-of : (sheet out : List ℕ) → Wrote sheet out → Least sheet out
unfolding least_answer least_bundle
least-of sheet out w =
    let e : least_bundle sheet ≡ value out = (wrote (least_bundle sheet) w.call (numbered-least sheet) refl).0 ∙ ap value w.front in
    let r = and_then-value (read_sheet sheet) least_time out e in
    record { s = r.0; read = r.1; found = (least-time r.0 sheet w.bytes r.1).found out r.2 }

-- an accepted bundle, as it was read
read_of : (sheet bytes : List ℕ) (s : Sheet) (c : Bundle) → read_sheet sheet ≡ value s → check sheet bytes ≡ value c → read_bundle s bytes ≡ value c
unfolding check
read_of sheet bytes s c read e =
    let q = and_then-value (read_bundle s bytes) (checked s) c (rw read at e) in
    q.1 ∙ ap value (passes s q.0 c q.2).1

best_of : (sheet out : List ℕ) → Wrote sheet out → (other : List ℕ) → Bytes other → Accepted sheet other → InForm sheet other → Before sheet other out → ⊥
unfolding rank_of order
best_of sheet out w other bytes a f h =
    let l = least-of sheet out w in
    let c = check-value sheet other a.area a.area' a.place a.check in
    let same : f.s ≡ l.s = value_same (sym f.sheet_is ∙ l.read) in
    let read = read_of sheet other l.s c.0 l.read c.1 in
    let b-is : f.b ≡ c.0 = value_same (sym (subst (λ (s : Sheet). read_bundle s other ≡ value f.b) same f.bundle_is) ∙ read) in
    let form : Written l.s c.0 = subst (Written l.s) b-is (subst (λ (s : Sheet). Written s f.b) same f.form) in
    let again = bytes-again l.s other c.0 bytes read in
    let x : h.x ≡ record { claim = c.0.claim; runners = runners c.0; bytes = bundle_bytes c.0 } =
    some-injective _ _ (sym h.x_is ∙ ap (rank_by other) c.1) ∙ ap (λ (z : List ℕ). record { claim = c.0.claim; runners = runners c.0; bytes = z }) (sym again)
    in
    let b = l.found.bundle in
    let y : h.y ≡ record { claim = b.claim; runners = runners b; bytes = bundle_bytes b } =
    some-injective _ _ (sym h.y_is ∙ ap (rank_by out) l.found.accepted) ∙ ap (λ (z : List ℕ). record { claim = b.claim; runners = runners b; bytes = z }) (sym l.found.bytes)
    in
    l.found.best other c.0 c.1 form (sym (ap (λ (r : Rank). by_rank r h.y) x ∙ ap (by_rank _) y) ∙ h.less)

least-claim : (sheet out : List ℕ) → Wrote sheet out → (other : List ℕ) → Accepted sheet other → (s : Sheet) (b c : Bundle)
    → read_sheet sheet ≡ value s → s.unpacking ≡ 0 → read_bundle s out ≡ value b → read_bundle s other ≡ value c → NoRelease c → b.claim ≤ c.claim
least-claim sheet out w other a s b c read idle is_b is_c plain =
    let l = least-of sheet out w in
    let d = check-value sheet other a.area a.area' a.place a.check in
    let same : l.s ≡ s = value_same (sym l.read ∙ read) in
    let b-is : l.found.bundle ≡ b = value_same (sym (read_of sheet out s l.found.bundle read l.found.accepted) ∙ is_b) in
    let c-is : d.0 ≡ c = value_same (sym (read_of sheet other s d.0 read d.1) ∙ is_c) in
    omega (arith, l.found.least (ap (λ (z : Sheet). z.unpacking) same ∙ idle) other d.0 d.1 (subst NoRelease (sym c-is) plain), ap (λ (z : Bundle). z.claim) b-is, ap (λ (z : Bundle). z.claim) c-is)

-- what a call on a sheet that is read answers
module _ (sheet : List ℕ) (s : Sheet) (p r : ℕ) (a : Asked sheet s p r) where
  answered : least_answer sheet (length a.work) (length a.lent) ≡ and_then (least_time s) (fitting (length a.lent))
  unfolding least_answer least_bundle
  answered = enough (and_then (least_bundle sheet) (fitting (length a.lent))) (length a.work) a.enough ∙ rw a.read

  returned : r ≡ number (and_then (least_time s) (fitting (length a.lent)))
  returned = a.call.ends.returns ∙ ap number answered

  placed : p ≡ place_or length (and_then (least_time s) (fitting (length a.lent)))
  placed = a.call.ends.place ∙ ap (place_or length) answered

  time : LeastTime sheet s
  time = least-time s sheet a.bytes a.read

  -- no bundle without releases is accepted
  abbrev Nothing : Type 0
  Nothing = (other : List ℕ) (c : Bundle) → Accepted sheet other → read_bundle s other ≡ value c → NoRelease c → ⊥

  pub none-accepted : NoneAccepted sheet → Nothing
  none-accepted h other c y is_c plain =
      let v = check-value sheet other y.area y.area' y.place y.check in
      h other v.0 v.1 (subst NoRelease (value_same (sym is_c ∙ read_of sheet other s v.0 a.read v.1)) plain)

  -- a return of 11 is the definition's 11
  eleven : task_count s ≤ most → s.cube ≡ false → r ≡ 11 → (q : ℕ) × (least_time s ≡ refused 11 q)
  unfolding least_time
  eleven few flat e = go (best s) refl
    where
      small : either (ltb most (task_count s)) s.cube ≡ false
      small = ap (λ (x : Bool). either x s.cube) (le-ltb most (task_count s) few) ∙ flat

      go : (o : Option Bundle) → best s ≡ o → (q : ℕ) × (pick (either (ltb most (task_count s)) s.cube) (refused 38 (task_count s)) (best_or11 s (best s)) ≡ refused 11 q)
      go none f = (task_count s - 1, ap (λ (t : Bool). pick t (refused 38 (task_count s)) (best_or11 s (best s))) small ∙ ap (best_or11 s) f)
      go (some b) f =
          absurd (not-11 (ltb (length a.lent) (length (bundle_bytes b)))
          (sym e ∙ returned ∙ ap (λ (x : Answer (List ℕ)). number (and_then x (fitting (length a.lent)))) (ap (λ (t : Bool). pick t (refused 38 (task_count s)) (best_or11 s (best s))) small ∙ ap (best_or11 s) f)))
        where
          not-11 : (t : Bool) → 11 ≡ number (pick t (refused 12 (length (bundle_bytes b))) (value (bundle_bytes b))) → ⊥
          not-11 true q = omega arith
          not-11 false q = omega arith

  pub exactly : task_count s ≤ most → s.cube ≡ false → (r ≡ 11) ↔ Nothing
  unfolding check_answer
  exactly few flat = (
    (λ e. none-accepted (time.refused_11 (eleven few flat e).0 (eleven few flat e).1).1),
    λ h. returned ∙ ap (λ (x : Answer (List ℕ)). number (and_then x (fitting (length a.lent)))) (time.only_11 few flat (λ other c e plain. h other c (accepting other c e) (read_of sheet other s c a.read e) plain)),
  )
    where
      accepting : (other : List ℕ) (c : Bundle) → check sheet other ≡ value c → Accepted sheet other
      accepting other c e =
          record {
            area = a.work;
            area' = cleared fixed a.work;
            place = place_or no_place (check_answer sheet other (length a.work));
            check = record { returns = sym (ap number (enough (check sheet other) (length a.work) a.enough ∙ e)); place = refl; area = refl };
          }

  pub eleven-place : task_count s ≤ most → s.cube ≡ false → r ≡ 11 → p ≡ task_count s - 1
  eleven-place few flat e =
      let z = eleven few flat e in
      placed ∙ ap (λ (x : Answer (List ℕ)). place_or length (and_then x (fitting (length a.lent)))) z.1 ∙ (time.refused_11 z.0 z.1).0

  pub too_many : (most < task_count s) ⊎ (s.cube ≡ true) → (r ≡ 38) × (p ≡ task_count s)
  unfolding least_time
  too_many h =
      let e : least_time s ≡ refused 38 (task_count s) =
      ap (λ (t : Bool). pick t (refused 38 (task_count s)) (best_or11 s (best s)))
      (part-either (ltb most (task_count s)) s.cube (⊎_elim (λ m. inl (lt-ltb most (task_count s) m)) (λ c. inr c) h))
      in
      (returned ∙ ap (λ (x : Answer (List ℕ)). number (and_then x (fitting (length a.lent)))) e, placed ∙ ap (λ (x : Answer (List ℕ)). place_or length (and_then x (fitting (length a.lent)))) e)

pub least-times : LeastTimes
least-times =
    record {
      accepted =
          λ sheet out w area area' q r long g.
          let l = least-of sheet out w in
          check-returns sheet out area area' q r l.found.bundle long g l.found.accepted;
      in_form =
          λ sheet out w.
          let l = least-of sheet out w in
          record { s = l.s; b = l.found.bundle; sheet_is = l.read; bundle_is = read_of sheet out l.s l.found.bundle l.read l.found.accepted; form = l.found.form };
      best = best_of;
      least = least-claim;
      exactly_11 = exactly;
      at_11 = eleven-place;
      many = too_many;
    }
