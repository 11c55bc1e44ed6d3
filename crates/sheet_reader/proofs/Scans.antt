-- The state of a scan of bytes, and the ways on and out.
use Prim.Native.Nat.{ℕ, ◌+◌, ◌*◌, ◌-◌, ◌<◌, ◌≤◌}
use mathlib.Core.Path.{◌≡◌, refl, sym, ap, ap₂, subst, ◌∙◌}
use mathlib.Core.Bool.{Bool, true, false, not, true≢false}
use mathlib.Core.Logic.{◌≢◌}
use mathlib.Core.Option.{Option, some}
use mathlib.Core.List.{List, [], ◌∷◌, ◌++◌}
use native.Mathlib.Omega.{arith}
use native.Mathlib.Nat.{add-zero}
use native.Mathlib.Decide.{dec_lt}
use borrow.Author.Tests.{leb-false, leb-true, not-false, eqb-true, eqb-false, ne_eqb, lt-ltb, le-ltb}
use lib.ListN.{length, get_or, drop, length-drop}
use lib.Seq.{get_or-drop, drop-drop}
use lib.Dec.{eqb, ltb, leb}
use Rattle.folds.specs.Folds.{pick}
use Rattle.folds.specs.Answers.{Answer, value, refused}
use Rattle.folds.proofs.Tests.{not-value, either-none, both-parts, both_false, value_same}
use Rattle.numbers.specs.Number.{number_at}
use Rattle.numbers.proofs.Laws.{number_at-drop, number_lt}
use Rattle.commands.specs.Commands.{Outcome, refuse, go, judge, judge_kind, verdict, read_all}
use Rattle.commands.specs.Reading.{Going}
use Rattle.commands.proofs.Going.{starts, goes, refuses, ends, comes}
use Rattle.workspace.specs.Area.{fixed, link_count_at, pairs_at, task_count_at}
use Rattle.sheet.specs.Sheet.{Sheet, Task, Link, task_count, link_count}
use Rattle.sheet.specs.Sizes.{board_size, unpacking_size, cube_size, task_size, link_size}
use Rattle.sheet.specs.Format.{Kind, board, unpack, wire, task, link, end, unwired, kind_of, width, Progress, fresh, closes, fault, with_command, task_from, link_from, ended, joins, sheet_format, read_form}
use Rattle.sheet.specs.Tables.{sheet_in, pair_in, Loaded, Filling, LoadedOf, Blanked, task_words, link_words, pair_words, unpacking_words, cube_words}
use Rattle.sheet.specs.Faults.{begun}
use Rattle.sheet_reader.specs.Answers.{outcome, outcome_of, is_unpacking, is_cube, is_task, is_link, reading_of, closed_of, ReadIs}
use Rattle.sheet_reader.specs.Scanning.{Absent, BoardRead, Scanning, Walking, Linking, added_words}
use Rattle.sheet_reader.specs.declared.bytes.Next.{Next}
use Rattle.std.specs.Prelude.{⊤, Result, Ok, Err, is_ok}
use Rattle.refusals.specs.Refusals.{number, refusal, fault_of, placed}
use Rattle.refusals.proofs.Results.{fault-by}
use Rattle.refusals.specs.declared.Refusal.{Refusal}
use Rattle.refusals.specs.declared.Fault.{Fault}
use Rattle.sheet.proofs.Rows.{tasks-in, links-in}
use Rattle.sheet.proofs.Fills.{task-long, task-count, task-away, sheet-task, link-long, link-count, link-away, pair-long, pair-away, unpacking-away, unpacking-long, sheet-unpacking, cube-away, cube-long, sheet-cube}
use Rattle.sheet.proofs.Joins.{unpacking-loaded, cube-loaded, task-loaded, filling-link, link-sheet, blank-sheet, blank-filling}
use Rattle.sheet.proofs.Judging.{judge-known, sound-of, wire-clear, wire-turn}
use Rattle.sheet.proofs.Rounds.{byte_of, first_byte}

-- how an answer ends up as a reading
pub read-refused : (a : Answer Sheet) (w last : List ℕ) (r e : ℕ) → length last ≡ length w → a ≡ refused r e → ReadIs a w last (Err (refusal r e))
read-refused a w last r e long h =
    record { long = long; answer = sym (ap reading_of h); loaded = λ s q. not-value (sym h ∙ q); held = λ s q. not-value (sym h ∙ q) }

pub read-value : (a : Answer Sheet) (w last : List ℕ) → length last ≡ length w → Loaded last → a ≡ value (sheet_in last) → ReadIs a w last (Ok tt)
read-value a w last long l h =
    record {
      long = long;
      answer = sym (ap reading_of h);
      loaded = λ s q. l;
      held = λ s q. value_same (sym h ∙ q);
    }

-- an unpacking time, a cube, a task or a link comes
pub unpacking-comes : (o : Outcome Kind) → is_unpacking o ≡ true → o ≡ go unpack
unpacking-comes (refuse r) e = absurd (true≢false (sym e))
unpacking-comes (go board) e = absurd (true≢false (sym e))
unpacking-comes (go unpack) e = refl
unpacking-comes (go wire) e = absurd (true≢false (sym e))
unpacking-comes (go task) e = absurd (true≢false (sym e))
unpacking-comes (go link) e = absurd (true≢false (sym e))
unpacking-comes (go end) e = absurd (true≢false (sym e))

pub cube-comes : (o : Outcome Kind) → is_cube o ≡ true → o ≡ go wire
cube-comes (refuse r) e = absurd (true≢false (sym e))
cube-comes (go board) e = absurd (true≢false (sym e))
cube-comes (go unpack) e = absurd (true≢false (sym e))
cube-comes (go wire) e = refl
cube-comes (go task) e = absurd (true≢false (sym e))
cube-comes (go link) e = absurd (true≢false (sym e))
cube-comes (go end) e = absurd (true≢false (sym e))

pub task-comes : (o : Outcome Kind) → is_task o ≡ true → o ≡ go task
task-comes (refuse r) e = absurd (true≢false (sym e))
task-comes (go board) e = absurd (true≢false (sym e))
task-comes (go unpack) e = absurd (true≢false (sym e))
task-comes (go wire) e = absurd (true≢false (sym e))
task-comes (go task) e = refl
task-comes (go link) e = absurd (true≢false (sym e))
task-comes (go end) e = absurd (true≢false (sym e))

pub link-comes : (o : Outcome Kind) → is_link o ≡ true → o ≡ go link
link-comes (refuse r) e = absurd (true≢false (sym e))
link-comes (go board) e = absurd (true≢false (sym e))
link-comes (go unpack) e = absurd (true≢false (sym e))
link-comes (go wire) e = absurd (true≢false (sym e))
link-comes (go task) e = absurd (true≢false (sym e))
link-comes (go link) e = refl
link-comes (go end) e = absurd (true≢false (sym e))

-- f asks for commands of kind k, whose first byte stands at `at`, or another
module _ (f : Outcome Kind → Bool) (p : Progress) (b : List ℕ) (at : ℕ) {c : ℕ} (e : c ≡ get_or b at 0) where
  pub other_byte : (k : Kind) → ((o : Outcome Kind) → f o ≡ true → o ≡ go k) → c ≢ byte_of k → f (judge sheet_format p (drop at b)) ≡ false
  other_byte k only h = by (f (judge sheet_format p (drop at b))) refl
    where
      by : (x : Bool) → f (judge sheet_format p (drop at b)) ≡ x → f (judge sheet_format p (drop at b)) ≡ false
      by true q =
          absurd (h (e ∙ sym (get_or-drop at b 0 0 ∙ ap (λ (i : ℕ). get_or b i 0) (add-zero at)) ∙ ap (λ (d : List ℕ). get_or d 0 0) (first_byte p (drop at b) k (only _ q))))
      by false q = q

-- a test of a command of kind k tells what becomes of it
pub told : (k : Kind) (r : Result ⊤ Fault) → outcome k r ≡ verdict sheet_format k (fault_of r)
told k (Ok x) = refl
told k (Err n) = refl

-- f asks for commands of kind k, whose first byte stands at `at`: it is what nothing refuses there
pub its-byte : (f : Outcome Kind → Bool) (p : Progress) (b : List ℕ) (at : ℕ) (k : Kind) → ((r : Result ⊤ Fault) → f (outcome k r) ≡ is_ok r) → kind_of (byte_of k) ≡ some k → at < length b → get_or b at 0 ≡ byte_of k → (r : Result ⊤ Fault)
    → outcome k r ≡ judge_kind sheet_format p (some k) (drop (at + 1) b) → is_ok r ≡ f (judge sheet_format p (drop at b))
its-byte f p b at k tells known h q r found =
    sym (tells r) ∙ ap f (found ∙ ap (λ (x : Option Kind). judge_kind sheet_format p x (drop (at + 1) b)) (sym known) ∙ sym (judge-known p b at (byte_of k) h q))

-- a cube stands at `at`
pub cube-by : (s : Sheet) (b : List ℕ) (at : ℕ) → at < length b → get_or b at 0 ≡ 0x48 → is_cube (judge sheet_format (begun s) (drop at b)) ≡ unwired s
cube-by s b at h e = ap is_cube (judge-known (begun s) b at 0x48 h e) ∙ by (unwired s) refl
  where
    by : (t : Bool) → unwired s ≡ t → is_cube (verdict sheet_format wire (fault (begun s) wire (drop (at + 1) b))) ≡ unwired s
    by true q = ap (λ o. is_cube (verdict sheet_format wire o)) (wire-clear s (drop (at + 1) b) q) ∙ sym q
    by false q = ap (λ o. is_cube (verdict sheet_format wire o)) (wire-turn s (drop (at + 1) b) q) ∙ sym q

no-tasks : (p l u : ℕ) (c : Bool) → task_count (record { processors = p; limit = l; unpacking = u; cube = c; tasks = []; links = [] }) ≡ 0
unfolding task_count
no-tasks p l u c = refl

no-links : (p l u : ℕ) (c : Bool) → link_count (record { processors = p; limit = l; unpacking = u; cube = c; tasks = []; links = [] }) ≡ 0
unfolding link_count
no-links p l u c = refl

-- behind the end command: bytes, or the sheet
ended-tail : (s : Sheet) (d : List ℕ) (e : ℕ) → 0 < length d → ended (begun s) e d ≡ refused 4 (e + 1)
unfolding ended
ended-tail s d e h = rw (lt-ltb 0 (length d) h)

ended-whole : (s : Sheet) (d : List ℕ) (e : ℕ) → length d ≡ 0 → ended (begun s) e d ≡ value s
unfolding ended
ended-whole s d e h = rw (le-ltb 0 (length d) (omega arith))

module _ {a : Answer Sheet} {d w₀ w : List ℕ} {n m e : ℕ} (s : Scanning a d w₀ w n m e) where
  -- the scan goes on behind a command of kind k
  goes_on : (k : Kind) (w' : List ℕ) (n' m' : ℕ) → closes k ≡ false → judge sheet_format (begun (sheet_in w)) d ≡ go k
      → Loaded w' → length w' ≡ length w → get_or w' task_count_at 0 ≡ n' → get_or w' link_count_at 0 ≡ m' → sheet_in w' ≡ with_command (sheet_in w) k (drop 1 d)
      → Scanning a (drop (1 + width k) d) w₀ w' n' m' (e + (1 + width k))
  goes_on k w' n' m' c j f l e₁ e₂ h =
      record {
        long = l ∙ s.long;
        loaded = f;
        tasks = e₁;
        links = e₂;
        going = subst (λ (p : Progress). Going sheet_format a p (e + (1 + width k)) (drop (1 + width k) d)) (sym (ap begun h)) (goes sheet_format s.going k c j);
      }

  pub task-few : judge sheet_format (begun (sheet_in w)) d ≡ go task → n < 256
  task-few j = omega (arith, leb-false 256 (task_count (sheet_in w)) (sound-of _ d task j).space, tasks-in w, s.tasks)

  pub link-few : judge sheet_format (begun (sheet_in w)) d ≡ go link → m < 1024
  link-few j = omega (arith, leb-false 1024 (link_count (sheet_in w)) (sound-of _ d link j).space, links-in w, s.links)

  -- an unpacking time
  pub scan-unpack : (u : ℕ) → judge sheet_format (begun (sheet_in w)) d ≡ go unpack → u ≡ number_at 2 d 1 → u < 65536
      → Scanning a (drop unpacking_size d) w₀ (unpacking_words w u) n m (e + unpacking_size)
  scan-unpack u j q h =
      let long : fixed ≤ length w = s.loaded.long in
      let away = unpacking-away w u long in
      goes_on unpack (unpacking_words w u) n m refl j
      (unpacking-loaded w u s.loaded h)
      (unpacking-long w u long)
      (away task_count_at (λ r. omega arith) ∙ s.tasks)
      (away link_count_at (λ r. omega arith) ∙ s.links)
      (sheet-unpacking w u long
      ∙ ap (λ (x : ℕ). record { processors = (sheet_in w).processors; limit = (sheet_in w).limit; unpacking = x; cube = (sheet_in w).cube; tasks = (sheet_in w).tasks; links = (sheet_in w).links }) (q ∙ sym (number_at-drop 2 1 d 0)))

  -- a cube
  pub scan-cube : judge sheet_format (begun (sheet_in w)) d ≡ go wire → Scanning a (drop cube_size d) w₀ (cube_words w) n m (e + cube_size)
  scan-cube j =
      let long : fixed ≤ length w = s.loaded.long in
      let away = cube-away w long in
      goes_on wire (cube_words w) n m refl j
      (cube-loaded w s.loaded)
      (cube-long w long)
      (away task_count_at (λ r. omega arith) ∙ s.tasks)
      (away link_count_at (λ r. omega arith) ∙ s.links)
      (sheet-cube w long)

  -- a task
  pub scan-task : (work store : ℕ) → judge sheet_format (begun (sheet_in w)) d ≡ go task → work ≡ number_at 2 d 1 → store ≡ number_at 2 d 3 → work < 65536 → store < 65536
      → Scanning a (drop task_size d) w₀ (task_words w n work store) (n + 1) m (e + task_size)
  scan-task work store j e₁ e₂ h₁ h₂ =
      let long : fixed ≤ length w = s.loaded.long in
      let few = task-few j in
      let from : task_from (drop 1 d) ≡ record { work = work; store = store } =
      let p : number_at 2 (drop 1 d) 0 ≡ work = number_at-drop 2 1 d 0 ∙ sym e₁ in
      let q : number_at 2 (drop 1 d) 2 ≡ store = number_at-drop 2 1 d 2 ∙ sym e₂ in
      λ x. record { work = p x; store = q x } in
      goes_on task (task_words w n work store) (n + 1) m refl j
      (task-loaded w n work store s.loaded s.tasks few h₁ h₂)
      (task-long w n work store long few)
      (task-count w n work store long few)
      (task-away w n work store long few 1 (λ q. omega arith) (λ q. omega arith) ∙ s.links)
      (sheet-task w n work store long few s.tasks h₁
      ∙ ap (λ (t : Task). record { processors = (sheet_in w).processors; limit = (sheet_in w).limit; unpacking = (sheet_in w).unpacking; cube = (sheet_in w).cube; tasks = (sheet_in w).tasks ++ t ∷ []; links = (sheet_in w).links }) (sym from))

  -- the ends of a link
  module _ (x y : ℕ) (j : judge sheet_format (begun (sheet_in w)) d ≡ go link) (p : x ≡ get_or d 1 0) (q : y ≡ get_or d 2 0) where
    first-end : get_or (drop 1 d) 0 0 ≡ x
    first-end = get_or-drop 1 d 0 0 ∙ sym p

    second-end : get_or (drop 1 d) 1 0 ≡ y
    second-end = get_or-drop 1 d 1 0 ∙ sym q

    tight : (leb (task_count (sheet_in w)) (get_or (drop 1 d) 0 0) ≡ false) × (leb (task_count (sheet_in w)) (get_or (drop 1 d) 1 0) ≡ false)
    tight = either-none _ _ (sound-of _ d link j).tight

    pub source-small : x < get_or w task_count_at 0
    source-small = omega (arith, leb-false (task_count (sheet_in w)) (get_or (drop 1 d) 0 0) tight.0, first-end, tasks-in w)

    pub target_small : y < get_or w task_count_at 0
    target_small = omega (arith, leb-false (task_count (sheet_in w)) (get_or (drop 1 d) 1 0) tight.1, second-end, tasks-in w)

    single : joins (sheet_in w) x y ≡ false
    single = ap₂ (joins (sheet_in w)) (sym first-end) (sym second-end) ∙ (sound-of _ d link j).single

    pub link-single : Filling w → pair_in w x y ≡ false
    link-single f = f.pairs x y source-small target_small ∙ single

    pub link-filling : Filling w → (c b : ℕ) → c < 65536 → b < 65536 → Filling (link_words (pair_words w x y) m x y c b)
    link-filling f c b h₁ h₂ = filling-link w m x y c b f s.links (link-few j) source-small target_small h₁ h₂ single

    -- a link
    pub scan_link : Filling w → (c b : ℕ) → c ≡ number_at 2 d 3 → b ≡ number_at 2 d 5 → c < 65536 → b < 65536
        → Scanning a (drop link_size d) w₀ (link_words (pair_words w x y) m x y c b) n (m + 1) (e + link_size)
    scan_link f c b e₃ e₄ h₁ h₂ =
        let few = link-few j in
        let long : fixed ≤ length w = s.loaded.long in
        let small : (x < 256) × (y < 256) = (omega (arith, source-small, s.loaded.tasks), omega (arith, target_small, s.loaded.tasks)) in
        let v-long = pair-long w x y long small.0 small.1 in
        let v-fixed : fixed ≤ length (pair_words w x y) = omega arith in
        let from : link_from (drop 1 d) ≡ record { source = x; target = y; cost = c; bytes = b } =
        let q₃ : number_at 2 (drop 1 d) 2 ≡ c = number_at-drop 2 1 d 2 ∙ sym e₃ in
        let q₄ : number_at 2 (drop 1 d) 4 ≡ b = number_at-drop 2 1 d 4 ∙ sym e₄ in
        λ i. record { source = first-end i; target = second-end i; cost = q₃ i; bytes = q₄ i } in
        goes_on link (link_words (pair_words w x y) m x y c b) n (m + 1) refl j
        (link-filling f c b h₁ h₂).loaded
        (link-long (pair_words w x y) m x y c b v-fixed few ∙ v-long)
        (link-away (pair_words w x y) m x y c b v-fixed few 0 (λ q. omega arith) (λ q. omega arith) (λ q. omega arith)
        ∙ pair-away w x y long small.0 small.1 0 (omega arith) ∙ s.tasks)
        (link-count (pair_words w x y) m x y c b v-fixed few)
        (link-sheet w m x y c b f s.links few source-small target_small h₁ h₂
        ∙ ap (λ (l : Link). record { processors = (sheet_in w).processors; limit = (sheet_in w).limit; unpacking = (sheet_in w).unpacking; cube = (sheet_in w).cube; tasks = (sheet_in w).tasks; links = (sheet_in w).links ++ l ∷ [] }) (sym from))

  pub scan-refuse : (r : ℕ) → judge sheet_format (begun (sheet_in w)) d ≡ refuse r → ReadIs a w₀ w (Err (refusal r e))
  scan-refuse r j = read-refused a w₀ w r e s.long (refuses sheet_format s.going r j)

  pub scan-refused : (t : Result Next Fault) (r : Refusal) → outcome_of t ≡ judge sheet_format (begun (sheet_in w)) d → Err r ≡ placed e t → ReadIs a w₀ w (Err r)
  scan-refused t r j h =
      let f = fault-by e t r h in
      subst (λ (x : Refusal). ReadIs a w₀ w (Err x)) (sym f.is) (scan-refuse (number f.fault) (sym j ∙ ap outcome_of f.found))

  -- the end: bytes behind it, or the sheet
  scan-end : judge sheet_format (begun (sheet_in w)) d ≡ go end → a ≡ ended (begun (sheet_in w)) e (drop 1 d)
  scan-end j = ends sheet_format s.going end refl j

  pub scan-tail : judge sheet_format (begun (sheet_in w)) d ≡ go end → 0 < length (drop 1 d) → ReadIs a w₀ w (Err (refusal 4 (e + 1)))
  scan-tail j h = read-refused a w₀ w 4 (e + 1) s.long (scan-end j ∙ ended-tail (sheet_in w) (drop 1 d) e h)

  pub scan-whole : judge sheet_format (begun (sheet_in w)) d ≡ go end → length (drop 1 d) ≡ 0 → ReadIs a w₀ w (Ok tt)
  scan-whole j h = read-value a w₀ w s.long s.loaded (scan-end j ∙ ended-whole (sheet_in w) (drop 1 d) e h)

-- an unpacking time comes only where there was none, and neither it nor a cube comes behind a cube, a task or a link
unpack-first : (w d : List ℕ) → judge sheet_format (begun (sheet_in w)) d ≡ go unpack → ((sheet_in w).unpacking ≡ 0) × (unwired (sheet_in w) ≡ true)
unpack-first w d j =
    let p = both-parts (eqb (sheet_in w).unpacking 0) (unwired (sheet_in w)) (sound-of (begun (sheet_in w)) d unpack j).turn in
    (eqb-true _ 0 p.0, p.1)

board-read : (b w : List ℕ) (at : ℕ) → unwired (sheet_in w) ≡ false → BoardRead b w at
board-read b w at h =
    record {
      no_unpacking = λ j. true≢false (sym (unpack-first w (drop at b) j).1 ∙ h);
      no_cube = λ j. true≢false (sym (sound-of (begun (sheet_in w)) (drop at b) wire j).turn ∙ h);
    }

wired-cube : (s : Sheet) → s.cube ≡ true → unwired s ≡ false
wired-cube s e = rw e

wired-task : (w : List ℕ) (n : ℕ) → get_or w task_count_at 0 ≡ n + 1 → unwired (sheet_in w) ≡ false
wired-task w n e = rw (tasks-in w ∙ e, ne_eqb (n + 1) 0 (λ q. omega arith)) (both_false (not (sheet_in w).cube))

wired-link : (w : List ℕ) (m : ℕ) → get_or w link_count_at 0 ≡ m + 1 → unwired (sheet_in w) ≡ false
wired-link w m e = rw (links-in w ∙ e, ne_eqb (m + 1) 0 (λ q. omega arith), both_false (eqb (task_count (sheet_in w)) 0)) (both_false (not (sheet_in w).cube))

-- behind a link no task comes
behind-link : (w d : List ℕ) (m : ℕ) → get_or w link_count_at 0 ≡ m + 1 → judge sheet_format (begun (sheet_in w)) d ≢ go task
behind-link w d m e j =
    let none : link_count (sheet_in w) ≡ 0 = eqb-true (link_count (sheet_in w)) 0 (sound-of _ d task j).turn in
    omega (arith, links-in w)

-- bytes of which the first `at` are read
module _ {a : Answer Sheet} {b w₀ w : List ℕ} {n m at : ℕ} (s : Walking a b w₀ w n m at) where
  operand : (i x : ℕ) → at + i ≡ x → get_or (drop at b) i 0 ≡ get_or b x 0
  operand i x e = get_or-drop at b i 0 ∙ ap (λ (k : ℕ). get_or b k 0) e

  operand16 : (i x : ℕ) → at + i ≡ x → number_at 2 (drop at b) i ≡ number_at 2 b x
  operand16 i x e = number_at-drop 2 at b i ∙ ap (number_at 2 b) e

  -- a command stands there whole
  pub walk-room : (k : Kind) → judge sheet_format (begun (sheet_in w)) (drop at b) ≡ go k → at + (1 + width k) ≤ length b
  walk-room k j =
      omega (arith, simp length-drop at (sound-of _ (drop at b) k j).room, simp length-drop at (comes sheet_format _ (drop at b) k j).more)

  -- an unpacking time, in the words that a callee left
  pub unpacking-added : (w' : List ℕ) (u : ℕ) → judge sheet_format (begun (sheet_in w)) (drop at b) ≡ go unpack → ((k : ℕ) → get_or b k 0 < 256)
      → u ≡ number_at 2 b (at + 1) → w' ≡ unpacking_words w u → Walking a b w₀ w' n m (at + unpacking_size) × Absent unpack b w' (at + unpacking_size)
  unpacking-added w' u j small q e =
      let here : u ≡ number_at 2 (drop at b) 1 = q ∙ sym (operand16 1 (at + 1) refl) in
      let time : u ≢ 0 = λ z. eqb-false _ 0 (sound-of _ (drop at b) unpack j).range (number_at-drop 2 1 (drop at b) 0 ∙ sym here ∙ z) in
      subst (λ (v : List ℕ). Walking a b w₀ v n m (at + unpacking_size) × Absent unpack b v (at + unpacking_size)) (sym e) (
        record {
          room = walk-room unpack j;
          scanning =
              subst (λ (d : List ℕ). Scanning a d w₀ (unpacking_words w u) n m (at + unpacking_size)) (drop-drop unpacking_size at b)
              (scan-unpack s.scanning u j here (omega (arith, number_lt 2 b (at + 1) small)));
        },
        λ k. time (sym (ap (λ (t : Sheet). t.unpacking) (sheet-unpacking w u s.scanning.loaded.long)) ∙ (unpack-first (unpacking_words w u) (drop (at + unpacking_size) b) k).0),
      )

  -- a cube, in the words that a callee left
  pub cube-added : (w' : List ℕ) → judge sheet_format (begun (sheet_in w)) (drop at b) ≡ go wire → w' ≡ cube_words w → Walking a b w₀ w' n m (at + cube_size) × BoardRead b w' (at + cube_size)
  cube-added w' j e =
      subst (λ (v : List ℕ). Walking a b w₀ v n m (at + cube_size) × BoardRead b v (at + cube_size)) (sym e) (
        record {
          room = walk-room wire j;
          scanning = subst (λ (d : List ℕ). Scanning a d w₀ (cube_words w) n m (at + cube_size)) (drop-drop cube_size at b) (scan-cube s.scanning j);
        },
        board-read b (cube_words w) (at + cube_size) (wired-cube (sheet_in (cube_words w)) (ap (λ (t : Sheet). t.cube) (sheet-cube w s.scanning.loaded.long))),
      )

  pub walk-task : judge sheet_format (begun (sheet_in w)) (drop at b) ≡ go task → ((k : ℕ) → get_or b k 0 < 256)
      → Walking a b w₀ (task_words w n (number_at 2 b (at + 1)) (number_at 2 b (at + 3))) (n + 1) m (at + task_size)
  walk-task j small =
      let work : ℕ = number_at 2 b (at + 1) in
      let store : ℕ = number_at 2 b (at + 3) in
      record {
        room = walk-room task j;
        scanning =
            subst (λ (d : List ℕ). Scanning a d w₀ (task_words w n work store) (n + 1) m (at + task_size)) (drop-drop task_size at b)
            (scan-task s.scanning work store j (sym (operand16 1 (at + 1) refl)) (sym (operand16 3 (at + 3) refl)) (number_lt 2 b (at + 1) small) (number_lt 2 b (at + 3) small));
      }

  -- the same of the words that a callee left
  pub task-added : (w' : List ℕ) → judge sheet_format (begun (sheet_in w)) (drop at b) ≡ go task → ((k : ℕ) → get_or b k 0 < 256)
      → w' ≡ task_words w n (number_at 2 b (at + 1)) (number_at 2 b (at + 3)) → Walking a b w₀ w' (n + 1) m (at + task_size) × BoardRead b w' (at + task_size)
  task-added w' j small e =
      let t = walk-task j small in
      subst (λ (v : List ℕ). Walking a b w₀ v (n + 1) m (at + task_size) × BoardRead b v (at + task_size)) (sym e) (t, board-read b _ (at + task_size) (wired-task _ n t.scanning.tasks))

  -- no task comes, at an offset that is equal
  pub tasks-end : (e : ℕ) → at ≡ e → BoardRead b w at → is_task (judge sheet_format (begun (sheet_in w)) (drop at b)) ≡ false
      → Walking a b w₀ w n m e × BoardRead b w e × Absent task b w e
  tasks-end e h g q =
      subst (λ (x : ℕ). Walking a b w₀ w n m x × BoardRead b w x × Absent task b w x) h (s, g, λ j. true≢false (sym (ap is_task j) ∙ q))

  -- no unpacking time comes, and no cube
  pub unpacking-none : is_unpacking (judge sheet_format (begun (sheet_in w)) (drop at b)) ≡ false → Absent unpack b w at
  unpacking-none q j = true≢false (sym (ap is_unpacking j) ∙ q)

  pub cube-none : is_cube (judge sheet_format (begun (sheet_in w)) (drop at b)) ≡ false → Absent wire b w at
  cube-none q j = true≢false (sym (ap is_cube j) ∙ q)

  -- from words that are as long
  pub walk_from : (v : List ℕ) → length w₀ ≡ length v → Walking a b v w n m at
  walk_from v e =
      let q = s.scanning in
      record {
        room = s.room;
        scanning = record { long = q.long ∙ e; loaded = q.loaded; tasks = q.tasks; links = q.links; going = q.going };
      }

  behind : length (drop 1 (drop at b)) ≡ length b - (at + 1)
  behind = ap length (drop-drop 1 at b) ∙ length-drop (at + 1) b

  pub walk-closes : (r : Result ⊤ Refusal) → judge sheet_format (begun (sheet_in w)) (drop at b) ≡ go end → r ≡ closed_of (length b) at → ReadIs a w₀ w r
  unfolding closed_of
  walk-closes r j e = subst (ReadIs a w₀ w) (sym e) (tail (dec_lt (at + 1) (length b)))
    where
      tail : Dec (at + 1 < length b) → ReadIs a w₀ w (pick (ltb (at + 1) (length b)) (Err (refusal 4 (at + 1))) (Ok tt))
      tail (yes h) = rw (lt-ltb (at + 1) (length b) h) (scan-tail s.scanning j (omega (arith, behind)))
      tail (no h) = rw (le-ltb (at + 1) (length b) (omega arith)) (scan-whole s.scanning j (omega (arith, behind)))

-- behind the tasks, whose rows are blank
pub scan-blank : {a : Answer Sheet} {d w₀ w w' : List ℕ} {n e : ℕ} → Scanning a d w₀ w n 0 e → (k : ℕ) → n ≡ k → Blanked (pairs_at + 8 * k) w w'
    → Filling w' × Scanning a d w₀ w' n 0 e
scan-blank {a} {d} {e = e} s k same b =
    let f = blank-filling s.loaded (s.tasks ∙ same) s.links b in (
      f,
      record {
        long = b.long ∙ s.long;
        loaded = f.loaded;
        tasks = b.low 0 (omega arith) ∙ s.tasks;
        links = b.low 1 (omega arith) ∙ s.links;
        going = subst (λ (t : Sheet). Going sheet_format a (begun t) e d) (sym (blank-sheet s.loaded (s.tasks ∙ same) s.links b)) s.going;
      },
    )

pub links-begin : {a : Answer Sheet} {b w₀ w w' : List ℕ} {n at : ℕ} → Walking a b w₀ w n 0 at → BoardRead b w at → Absent task b w at
    → Blanked (pairs_at + 8 * n) w w' → Linking a b w' w' n 0 at
links-begin {a} {b} {n = n} {at = at} s g h k =
    let q = s.scanning in
    let r = scan-blank q n refl k in
    let same = ap (λ (t : Sheet). judge sheet_format (begun t) (drop at b)) (sym (blank-sheet q.loaded q.tasks q.links k)) in
    record {
      walking = walk_from (record { room = s.room; scanning = r.1 }) _ (sym (k.long ∙ q.long));
      filling = r.0;
      board = record { no_unpacking = λ j. g.no_unpacking (same ∙ j); no_cube = λ j. g.no_cube (same ∙ j) };
      without_task = λ j. h (same ∙ j);
    }

module _ {a : Answer Sheet} {b w₀ w : List ℕ} {n m at : ℕ} (s : Linking a b w₀ w n m at) where
  pub walk-single : judge sheet_format (begun (sheet_in w)) (drop at b) ≡ go link → pair_in w (get_or b (at + 1) 0) (get_or b (at + 2) 0) ≡ false
  walk-single j = link-single s.walking.scanning _ _ j (sym (operand s.walking 1 (at + 1) refl)) (sym (operand s.walking 2 (at + 2) refl)) s.filling

  -- a link more, in the words that a callee left
  pub link-added : (w' : List ℕ) → judge sheet_format (begun (sheet_in w)) (drop at b) ≡ go link → ((k : ℕ) → get_or b k 0 < 256)
      → w' ≡ added_words b at w m → Linking a b w₀ w' n (m + 1) (at + link_size)
  unfolding added_words
  link-added w' j small e =
      let x : ℕ = get_or b (at + 1) 0 in
      let y : ℕ = get_or b (at + 2) 0 in
      let c : ℕ = number_at 2 b (at + 3) in
      let z : ℕ = number_at 2 b (at + 5) in
      let p : x ≡ get_or (drop at b) 1 0 = sym (operand s.walking 1 (at + 1) refl) in
      let q : y ≡ get_or (drop at b) 2 0 = sym (operand s.walking 2 (at + 2) refl) in
      let c-small : c < 65536 = number_lt 2 b (at + 3) small in
      let z-small : z < 65536 = number_lt 2 b (at + 5) small in
      let t = scan_link s.walking.scanning x y j p q s.filling c z (sym (operand16 s.walking 3 (at + 3) refl)) (sym (operand16 s.walking 5 (at + 5) refl)) c-small z-small in
      subst (λ (v : List ℕ). Linking a b w₀ v n (m + 1) (at + link_size)) (sym e)
      (record {
        walking = record { room = walk-room s.walking link j; scanning = subst (λ (d : List ℕ). Scanning a d w₀ (link_words (pair_words w x y) m x y c z) n (m + 1) (at + link_size)) (drop-drop link_size at b) t };
        filling = link-filling s.walking.scanning x y j p q s.filling c z c-small z-small;
        board = board-read b _ (at + link_size) (wired-link _ m t.links);
        without_task = behind-link (link_words (pair_words w x y) m x y c z) (drop (at + link_size) b) m t.links;
      })

  -- no link comes, at an offset that is equal
  pub links_end : (e : ℕ) → at ≡ e → is_link (judge sheet_format (begun (sheet_in w)) (drop at b)) ≡ false
      → Linking a b w₀ w n m e × Absent link b w e
  links_end e h q =
      subst (λ (x : ℕ). Linking a b w₀ w n m x × Absent link b w x) h
      (s, λ j. true≢false (sym (ap is_link j) ∙ q))

  pub link-from : (v : List ℕ) → length w₀ ≡ length v → Linking a b v w n m at
  link-from v e = record { walking = walk_from s.walking v e; filling = s.filling; board = s.board; without_task = s.without_task }

-- behind the board command
pub bare-counts : {p l u : ℕ} {c : Bool} {v w : List ℕ} → LoadedOf (record { processors = p; limit = l; unpacking = u; cube = c; tasks = []; links = [] }) v w → (get_or w task_count_at 0 ≡ 0) × (get_or w link_count_at 0 ≡ 0)
bare-counts {p} {l} {u} {c} {v} {w} f = (sym (tasks-in w) ∙ ap task_count f.sheet ∙ no-tasks p l u c, sym (links-in w) ∙ ap link_count f.sheet ∙ no-links p l u c)

pub scan-board : {a : Answer Sheet} {d u : List ℕ} {e : ℕ} (v w : List ℕ) (p l : ℕ) → length w ≡ length v → LoadedOf (record { processors = p; limit = l; unpacking = 0; cube = false; tasks = []; links = [] }) u w
    → Going sheet_format a (begun (sheet_in w)) e d → Scanning a d v w 0 0 e
scan-board v w p l long f g =
    record {
      long = long;
      loaded = f.loaded;
      tasks = (bare-counts f).0;
      links = (bare-counts f).1;
      going = g;
    }

-- the board command: refused, or read
pub open-refuse : (b w : List ℕ) (o : Result ⊤ Fault) (r : Refusal) → outcome board o ≡ judge sheet_format fresh b → Err r ≡ placed 0 o → ReadIs (read_form b) w w (Err r)
unfolding read_form
open-refuse b w o r e h =
    let f = fault-by 0 o r h in
    subst (λ (x : Refusal). ReadIs (read_form b) w w (Err x)) (sym f.is)
    (read-refused _ w w (number f.fault) 0 refl (refuses sheet_format (starts sheet_format fresh b) (number f.fault) (sym e ∙ ap (outcome board) f.found)))

pub open-go : (b : List ℕ) (o : Result ⊤ Fault) (x : ⊤) → outcome board o ≡ judge sheet_format fresh b → o ≡ Ok x → judge sheet_format fresh b ≡ go board
open-go b o x e h = sym e ∙ ap (outcome board) h

pub open-room : (b : List ℕ) → judge sheet_format fresh b ≡ go board → (board_size ≤ length b) × (get_or b 1 0 ≤ 16)
open-room b j =
    let k = sound-of fresh b board j in
    let inside = both-parts (leb 1 (get_or (drop 1 b) 0 0)) (leb (get_or (drop 1 b) 0 0) 16) (not-false _ k.range) in
    (omega (arith, simp length-drop at k.room, (comes sheet_format _ _ board j).more), omega (arith, leb-true (get_or (drop 1 b) 0 0) 16 inside.1, get_or-drop 1 b 0 0))

pub walk-starts : (b w : List ℕ) (p l : ℕ) → judge sheet_format fresh b ≡ go board → p ≡ get_or b 1 0 → l ≡ number_at 4 b 2 → (v : List ℕ)
    → LoadedOf (record { processors = p; limit = l; unpacking = 0; cube = false; tasks = []; links = [] }) v w → Walking (read_form b) b w w 0 0 board_size
unfolding read_form
walk-starts b w p l j e₁ e₂ v f =
    let room = open-room b j in
    let p' : get_or (drop 1 b) 0 0 ≡ p = get_or-drop 1 b 0 0 ∙ sym e₁ in
    let l' : number_at 4 (drop 1 b) 1 ≡ l = number_at-drop 4 1 b 1 ∙ sym e₂ in
    let here : begun (record { processors = get_or (drop 1 b) 0 0; limit = number_at 4 (drop 1 b) 1; unpacking = 0; cube = false; tasks = []; links = [] }) ≡ begun (sheet_in w) =
    ap₂ (λ (x y : ℕ). begun (record { processors = x; limit = y; unpacking = 0; cube = false; tasks = []; links = [] })) p' l' ∙ sym (ap begun f.sheet) in
    record {
      room = room.0;
      scanning = scan-board w w p l refl f (subst (λ (q : Progress). Going sheet_format (read_all sheet_format fresh b) q board_size (drop board_size b)) here (goes sheet_format (starts sheet_format fresh b) board refl j));
    }

-- reading from words that are as long as those lent
pub read_through : {a : Answer Sheet} {w mid last : List ℕ} {r : Result ⊤ Refusal} → ReadIs a mid last r → length mid ≡ length w → ReadIs a w last r
read_through h e = record { long = h.long ∙ e; answer = h.answer; loaded = h.loaded; held = h.held }
