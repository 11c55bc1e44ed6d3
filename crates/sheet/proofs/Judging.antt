-- What refuses each kind of command, by the bytes at its offset; and what holds of a command that nothing refuses.
use Prim.Native.Nat.{ℕ, ◌+◌, ◌-◌, ◌<◌, ◌≤◌, zero-le}
use mathlib.Core.Path.{◌≡◌, refl, sym, ap, ap₂, ◌∙◌}
use mathlib.Core.Bool.{Bool, true, false, not}
use mathlib.Core.Option.{none, some}
use mathlib.Core.List.{List, [], ◌∷◌}
use mathlib.Core.Logic.{◌≢◌}
use native.Mathlib.Omega.{arith}
use native.Mathlib.Nat.{add-zero, add_assoc}
use borrow.Author.Tests.{ne_eqb, eq-eqb, le-ltb, lt-ltb, le-leb, lt-leb, not-false, ltb-false}
use lib.ListN.{length, get_or, drop, length-drop}
use lib.Seq.{get_or-drop}
use lib.Dec.{eqb, ltb, leb}
use Rattle.folds.specs.Folds.{pick, both, first_of}
use Rattle.folds.proofs.Firsts.{first_of-none}
use Rattle.numbers.specs.Number.{number_at}
use Rattle.numbers.proofs.Laws.{number_at-drop}
use Rattle.commands.specs.Commands.{refuse, go, judge, judge_kind}
use Rattle.commands.proofs.Going.{judge-at, comes}
use Rattle.workspace.specs.Area.{link_count_at, task_count_at}
use Rattle.sheet.specs.Sheet.{Sheet, task_count, link_count}
use Rattle.sheet.specs.Sizes.{unpacking_size, task_size, link_size}
use Rattle.sheet.specs.Format.{Kind, board, unpack, wire, task, link, end, unwired, bare, kind_of, width, Progress, fresh, in_turn, full, out_of_range, loose, doubled, fault, sheet_format}
use Rattle.sheet.specs.Faults.{begun, task_fault, link_fault}
use Rattle.sheet.specs.Tables.{sheet_in, pair_in, Filling}
use Rattle.sheet.proofs.Rows.{tasks-in, links-in}

-- a command whose first byte is known
pub judge-known : (p : Progress) (b : List ℕ) (at v : ℕ) → at < length b → get_or b at 0 ≡ v → judge sheet_format p (drop at b) ≡ judge_kind sheet_format p (kind_of v) (drop (at + 1) b)
judge-known p b at v h e = judge-at sheet_format p b at h ∙ ap (λ (x : ℕ). judge_kind sheet_format p (kind_of x) (drop (at + 1) b)) e

pub judge-strange : (p : Progress) (b : List ℕ) (at : ℕ) → at < length b
    → get_or b at 0 ≢ 0x4D → get_or b at 0 ≢ 0x55 → get_or b at 0 ≢ 0x48 → get_or b at 0 ≢ 0x54 → get_or b at 0 ≢ 0x45 → get_or b at 0 ≢ 0x51 → judge sheet_format p (drop at b) ≡ refuse 2
judge-strange p b at h m u c t l e = judge-at sheet_format p b at h ∙ simp (ne_eqb _ _ m, ne_eqb _ _ u, ne_eqb _ _ c, ne_eqb _ _ t, ne_eqb _ _ l, ne_eqb _ _ e)

-- 3 and 1, and then what the numbers say
pub fault-unpack : (s : Sheet) (ops : List ℕ) → fault (begun s) unpack ops ≡ pick (not (bare s)) (some 3) (pick (ltb (length ops) 2) (some 1) (pick (eqb (number_at 2 ops 0) 0) (some 6) none))
unfolding fault
fault-unpack s ops = refl

pub fault-wire : (s : Sheet) (ops : List ℕ) → fault (begun s) wire ops ≡ pick (not (unwired s)) (some 3) none
unfolding fault
fault-wire s ops = simp (le-ltb (length ops) 0 zero-le)

pub fault-task : (s : Sheet) (ops : List ℕ) → fault (begun s) task ops ≡ pick (not (eqb (link_count s) 0)) (some 3) (pick (ltb (length ops) 4) (some 1) (task_fault (task_count s) (number_at 2 ops 0)))
unfolding fault task_fault
fault-task s ops = refl

pub fault-link : (s : Sheet) (ops : List ℕ) → fault (begun s) link ops ≡ pick (ltb (length ops) 6) (some 1) (link_fault s (get_or ops 0 0) (get_or ops 1 0))
unfolding fault link_fault
fault-link s ops = refl

pub fault-end : (s : Sheet) (ops : List ℕ) → fault (begun s) end ops ≡ none
unfolding fault
fault-end s ops = simp (le-ltb (length ops) 0 zero-le)

pub fault-board : (s : Sheet) (ops : List ℕ) → fault (begun s) board ops ≡ some 3
unfolding fault
fault-board s ops = refl

-- the first command
pub out-of-turn : (k : Kind) (ops : List ℕ) → in_turn fresh k ≡ false → fault fresh k ops ≡ some 3
unfolding fault
out-of-turn k ops h = rw h

pub fault-opening : (b : List ℕ) → fault fresh board (drop 1 b) ≡ first_of ((ltb (length b - 1) 5, 1) ∷ (not (both (leb 1 (get_or b 1 0)) (leb (get_or b 1 0) 16)), 6) ∷ [])
unfolding fault
fault-opening b = simp (length-drop, get_or-drop)

-- the faults that a command that is not refused does not have
pub record Sound (p : Progress) (k : Kind) (ops : List ℕ) : Type 0 where
  pub turn : in_turn p k ≡ true
  pub room : width k ≤ length ops
  pub space : full p.sheet k ≡ false
  pub range : out_of_range k ops ≡ false
  pub tight : loose p.sheet k ops ≡ false
  pub single : doubled p.sheet k ops ≡ false

pub sound : (p : Progress) (k : Kind) (ops : List ℕ) → fault p k ops ≡ none → Sound p k ops
unfolding fault
sound p k ops e =
    let f =
    first_of-none
    ((not (in_turn p k), 3) ∷
    (ltb (length ops) (width k), 1) ∷
    (full p.sheet k, 5) ∷ (out_of_range k ops, 6) ∷ (loose p.sheet k ops, 7) ∷ (doubled p.sheet k ops, 8) ∷ [])
    e in
    record {
      turn = not-false _ f.0;
      room = ltb-false _ _ f.1.0;
      space = f.1.1.0;
      range = f.1.1.1.0;
      tight = f.1.1.1.1.0;
      single = f.1.1.1.1.1.0;
    }

pub sound-of : (p : Progress) (d : List ℕ) (k : Kind) → judge sheet_format p d ≡ go k → Sound p k (drop 1 d)
sound-of p d k j = sound p k _ (comes sheet_format p d k j).clear

-- whether nothing but an unpacking time stands behind the board, by the tables
pub unwired-in : (w : List ℕ) (c : Bool) (n m : ℕ) → c ≡ (sheet_in w).cube → n ≡ get_or w task_count_at 0 → m ≡ get_or w link_count_at 0
    → unwired (sheet_in w) ≡ both (not c) (both (eqb n 0) (eqb m 0))
unwired-in w c n m p q r = rw (tasks-in w ∙ sym q, links-in w ∙ sym r, ← p)

-- each way out of judging an unpacking time and a cube
module _ (s : Sheet) where
  pub wire-turn : (ops : List ℕ) → unwired s ≡ false → fault (begun s) wire ops ≡ some 3
  wire-turn ops h = fault-wire s ops ∙ rw h

  pub wire-clear : (ops : List ℕ) → unwired s ≡ true → fault (begun s) wire ops ≡ none
  wire-clear ops h = fault-wire s ops ∙ rw h

  pub unpack-again : (ops : List ℕ) → s.unpacking ≢ 0 → fault (begun s) unpack ops ≡ some 3
  unpack-again ops h = fault-unpack s ops ∙ rw (ne_eqb s.unpacking 0 h)

  module _ (first : s.unpacking ≡ 0) where
    pub unpack-turn : (ops : List ℕ) → unwired s ≡ false → fault (begun s) unpack ops ≡ some 3
    unpack-turn ops h = fault-unpack s ops ∙ rw (eq-eqb s.unpacking 0 first, h)

    module _ (b : List ℕ) (at : ℕ) (bare-board : unwired s ≡ true) where
      pub unpack-cut : at < length b → length b - at < unpacking_size → fault (begun s) unpack (drop (at + 1) b) ≡ some 1
      unpack-cut l h = fault-unpack s (drop (at + 1) b) ∙ rw (eq-eqb s.unpacking 0 first, bare-board, length-drop (at + 1) b, lt-ltb (length b - (at + 1)) 2 (omega arith))

      unpack-number : (time : ℕ) → unpacking_size ≤ length b - at → time ≡ number_at 2 b (at + 1)
          → fault (begun s) unpack (drop (at + 1) b) ≡ pick (eqb time 0) (some 6) none
      unpack-number time h q =
          let same : number_at 2 (drop (at + 1) b) 0 ≡ time = number_at-drop 2 (at + 1) b 0 ∙ ap (number_at 2 b) (add-zero (at + 1)) ∙ sym q in
          fault-unpack s (drop (at + 1) b)
          ∙ rw (eq-eqb s.unpacking 0 first, bare-board, length-drop (at + 1) b, le-ltb (length b - (at + 1)) 2 (omega arith), same)

      pub unpack-zero : (time : ℕ) → unpacking_size ≤ length b - at → time ≡ number_at 2 b (at + 1) → time ≡ 0 → fault (begun s) unpack (drop (at + 1) b) ≡ some 6
      unpack-zero time h q z = unpack-number time h q ∙ rw (eq-eqb time 0 z)

      pub unpack-clear : (time : ℕ) → unpacking_size ≤ length b - at → time ≡ number_at 2 b (at + 1) → time ≢ 0 → fault (begun s) unpack (drop (at + 1) b) ≡ none
      unpack-clear time h q z = unpack-number time h q ∙ rw (ne_eqb time 0 z)

-- a task and a link, by the words of the sheet so far
module _ (w : List ℕ) where
  pub task-turn : (m : ℕ) (ops : List ℕ) → m ≡ get_or w link_count_at 0 → m ≢ 0 → fault (begun (sheet_in w)) task ops ≡ some 3
  task-turn m ops e h = fault-task (sheet_in w) ops ∙ rw (ne_eqb (link_count (sheet_in w)) 0 (λ q. h (e ∙ sym (links-in w) ∙ q)))

  pub task-cut : (b : List ℕ) (m at : ℕ) → m ≡ get_or w link_count_at 0 → m ≡ 0 → at < length b → length b - at < task_size → fault (begun (sheet_in w)) task (drop (at + 1) b) ≡ some 1
  task-cut b m at e z l h =
      fault-task (sheet_in w) (drop (at + 1) b)
      ∙ rw (eq-eqb (link_count (sheet_in w)) 0 (links-in w ∙ sym e ∙ z), length-drop (at + 1) b, lt-ltb (length b - (at + 1)) 4 (omega arith))

  pub task-numbers : (b : List ℕ) (n m at work : ℕ) → n ≡ get_or w task_count_at 0 → m ≡ get_or w link_count_at 0 → m ≡ 0 → task_size ≤ length b - at → work ≡ number_at 2 b (at + 1)
      → fault (begun (sheet_in w)) task (drop (at + 1) b) ≡ task_fault n work
  task-numbers b n m at work e₁ e₂ z h q =
      let same : number_at 2 (drop (at + 1) b) 0 ≡ work = number_at-drop 2 (at + 1) b 0 ∙ ap (number_at 2 b) (add-zero (at + 1)) ∙ sym q in
      fault-task (sheet_in w) (drop (at + 1) b)
      ∙ rw (eq-eqb (link_count (sheet_in w)) 0 (links-in w ∙ sym e₂ ∙ z), length-drop (at + 1) b, le-ltb (length b - (at + 1)) 4 (omega arith))
      (ap₂ task_fault (tasks-in w ∙ sym e₁) same)

  pub link-cut : (b : List ℕ) (at : ℕ) → at < length b → length b - at < link_size → fault (begun (sheet_in w)) link (drop (at + 1) b) ≡ some 1
  link-cut b at l h = fault-link (sheet_in w) (drop (at + 1) b) ∙ rw (length-drop (at + 1) b, lt-ltb (length b - (at + 1)) 6 (omega arith))

  pub link-numbers : (b : List ℕ) (at x y : ℕ) → link_size ≤ length b - at → x ≡ get_or b (at + 1) 0 → y ≡ get_or b (at + 2) 0
      → fault (begun (sheet_in w)) link (drop (at + 1) b) ≡ link_fault (sheet_in w) x y
  link-numbers b at x y h p q =
      let p' : get_or (drop (at + 1) b) 0 0 ≡ x = get_or-drop (at + 1) b 0 0 ∙ ap (λ (i : ℕ). get_or b i 0) (add-zero (at + 1)) ∙ sym p in
      let q' : get_or (drop (at + 1) b) 1 0 ≡ y = get_or-drop (at + 1) b 1 0 ∙ ap (λ (i : ℕ). get_or b i 0) (add_assoc at 1 1) ∙ sym q in
      fault-link (sheet_in w) (drop (at + 1) b) ∙ rw (length-drop (at + 1) b, le-ltb (length b - (at + 1)) 6 (omega arith)) (ap₂ (link_fault (sheet_in w)) p' q')

  -- by the numbers of a link
  pub link-over : (m x y : ℕ) → m ≡ get_or w link_count_at 0 → 1024 ≤ m → link_fault (sheet_in w) x y ≡ some 5
  unfolding link_fault
  link-over m x y e h = rw (le-leb 1024 (link_count (sheet_in w)) (omega (arith, links-in w)))

  module _ (n m x y : ℕ) (e : (n ≡ get_or w task_count_at 0) × (m ≡ get_or w link_count_at 0)) (few : m < 1024) where
    few_links : leb 1024 (link_count (sheet_in w)) ≡ false
    few_links = lt-leb 1024 (link_count (sheet_in w)) (omega (arith, links-in w, e.1))

    pub link-source-loose : n ≤ x → link_fault (sheet_in w) x y ≡ some 7
    unfolding link_fault
    link-source-loose h = rw (few_links, le-leb (task_count (sheet_in w)) x (omega (arith, tasks-in w, e.0)))

    pub link-target-loose : x < n → n ≤ y → link_fault (sheet_in w) x y ≡ some 7
    unfolding link_fault
    link-target-loose h k =
        rw (few_links, lt-leb (task_count (sheet_in w)) x (omega (arith, tasks-in w, e.0)), le-leb (task_count (sheet_in w)) y (omega (arith, tasks-in w, e.0)))

  module _ (n m x y : ℕ) (f : Filling w) (e : (n ≡ get_or w task_count_at 0) × (m ≡ get_or w link_count_at 0)) (few : m < 1024) (hx : x < n) (hy : y < n) where
    pub link-joined : link_fault (sheet_in w) x y ≡ pick (pair_in w x y) (some 8) none
    unfolding link_fault
    link-joined =
        rw (
          few_links n m x y e few,
          lt-leb (task_count (sheet_in w)) x (omega (arith, tasks-in w, e.0)),
          lt-leb (task_count (sheet_in w)) y (omega (arith, tasks-in w, e.0)),
          f.pairs x y (omega (arith, e.0)) (omega (arith, e.0)),
        )

    pub link-twice : pair_in w x y ≡ true → link_fault (sheet_in w) x y ≡ some 8
    link-twice h = link-joined ∙ rw h

    pub link-clear : pair_in w x y ≡ false → link_fault (sheet_in w) x y ≡ none
    link-clear h = link-joined ∙ rw h
