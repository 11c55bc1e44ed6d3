-- The round trips of sheets and bundles through the functions of the interface.
use Prim.Native.Nat.{ℕ, zero, suc, ◌*◌, ◌/◌, ◌≤◌}
use native.Mathlib.Omega.{arith}
use mathlib.Core.Path.{◌≡◌, refl, sym, ap, ap₂, ◌∙◌}
use mathlib.Core.Bool.{Bool, true, false}
use mathlib.Core.List.{List, [], ◌∷◌}
use borrow.Author.Tests.{le-ltb}
use lib.ListN.{length, get_or, take}
use lib.Dec.{ltb}
use Rattle.folds.specs.Folds.{pick}
use Rattle.folds.specs.Answers.{Answer, value, and_then, long_enough, fitting, number, place_or, written}
use Rattle.folds.proofs.Tests.{and_then-value, value_same}
use Rattle.workspace.specs.Area.{fixed}
use Rattle.sheet.specs.Sheet.{Sheet, task_count, link_count}
use Rattle.sheet.specs.Writing.{sheet_of_values, task_values, link_values}
use Rattle.sheet.specs.Writing as sheets
use Rattle.sheet.proofs.Rounds as sheet-rounds
use Rattle.sheet.proofs.Values.{task-values-length, link-values-length, task-values-again, link-values-again}
use Rattle.sheet_reader.proofs.Backs as sheet-backs
use Rattle.graph.specs.Graph.{read_sheet}
use Rattle.graph.proofs.Proper.{read-form}
use Rattle.bundle.specs.Bundle.{Bundle}
use Rattle.bundle.specs.Format.{read_bundle}
use Rattle.bundle.specs.Writing.{bundle_values}
use Rattle.bundle.specs.Writing as bundles
use Rattle.bundle.proofs.Rounds as bundle-rounds
use Rattle.entry_points.specs.Values.{tabled, task_table, link_table, board_after, board_of, command_table, claim_after, value_count}
use Rattle.zeldrupa.specs.Promises.{Gives, write_sheet_answer, write_bundle_answer, read_sheet_answer, GivesSheet, read_bundle_answer, GivesBundle}
use Rattle.zeldrupa.proofs.Gives.{enough}
use Rattle.assurance.specs.RoundTrips.{RoundTrips}
use Rattle.assurance.proofs.Numbers.{Numbered, returned-0, numbered-value, numbered-refused, numbered-then, numbered-pick, numbered-long, numbered-fitting, numbered-sheet, numbered-bundle}
use Rattle.assurance.proofs.Results.{long-value, past-test, fitting-value, value-fitting, written-front, gives-value, gave}

-- a cube among a sheet's values, and the value of a cube
cube-value : (c : ℕ) → c ≤ 1 → pick (sheets.cube_of c) 1 0 ≡ c
cube-value zero h = refl
cube-value (suc zero) h = refl
cube-value (suc (suc c)) h = absurd (omega arith)

cube-again : (c : Bool) → sheets.cube_of (pick c 1 0) ≡ c
cube-again true = refl
cube-again false = refl

-- the tables of a sheet that have room, and what a sheet in tables was read from
tabled-value : (t l : ℕ) (s : Sheet) → 2 * task_count s ≤ t → 4 * link_count s ≤ l → tabled t l s ≡ value s
unfolding tabled
tabled-value t l s h k = rw (le-ltb t (2 * task_count s) h, le-ltb l (4 * link_count s) k)

value-tabled : (t l : ℕ) (s x : Sheet) → tabled t l s ≡ value x → s ≡ x
unfolding tabled
value-tabled t l s x e =
    value_same (past-test (ltb l (4 * link_count s)) 12 (4 * link_count s) (value s) x (past-test (ltb t (2 * task_count s)) 12 (2 * task_count s) _ x e))

numbered-tabled : (t l : ℕ) (s : Sheet) → Numbered (tabled t l s)
unfolding tabled
numbered-tabled t l s =
    numbered-pick (ltb t (2 * task_count s)) _ _ (numbered-refused 12 (2 * task_count s) (omega arith))
    (numbered-pick (ltb l (4 * link_count s)) _ _ (numbered-refused 12 (4 * link_count s) (omega arith)) (numbered-value s))

-- what a call of zeldrupa_read_sheet leaves, by the sheet that was read
module _ (sheet : List ℕ) {work work' t t' l l' b b' : List ℕ} {p r : ℕ} (g : GivesSheet (read_sheet_answer sheet (length work) (length t) (length l)) work work' t t' l l' b b' p r) where
  pub sheet-left : (s : Sheet) → read_sheet_answer sheet (length work) (length t) (length l) ≡ value s
      → (r ≡ 0) × (take (2 * task_count s) t' ≡ task_values s.tasks) × (take (4 * link_count s) l' ≡ link_values s.links) × (b' ≡ board_of s)
  unfolding task_count link_count
  sheet-left s e = (
    g.ends.returns ∙ ap number e,
    written-front t (task_values s.tasks) t' (2 * task_count s) (sym (task-values-length s.tasks)) (g.tasks ∙ ap (λ (a : Answer Sheet). written t (task_table a)) e),
    written-front l (link_values s.links) l' (4 * link_count s) (sym (link-values-length s.links)) (g.links ∙ ap (λ (a : Answer Sheet). written l (link_table a)) e),
    g.board ∙ ap (board_after b) e,
  )

  sheet-gave : r ≡ 0 → (s : Sheet) × (read_sheet_answer sheet (length work) (length t) (length l) ≡ value s) × (read_sheet sheet ≡ value s)
  unfolding read_sheet_answer
  sheet-gave z =
      let a = and_then (read_sheet sheet) (tabled (length t) (length l)) in
      let v = returned-0 (long_enough fixed (length work) a) (numbered-long fixed (length work) a (numbered-then (read_sheet sheet) _ (numbered-sheet sheet) (numbered-tabled (length t) (length l)))) (sym z ∙ g.ends.returns) in
      let q = and_then-value (read_sheet sheet) (tabled (length t) (length l)) v.0 (long-value (length work) a v.0 v.1).1 in
      (v.0, v.1, q.1 ∙ ap value (value-tabled (length t) (length l) q.0 v.0 q.2))

-- the bytes that zeldrupa_write_sheet wrote, and the sheet that they are
wrote-sheet : (processors limit unpacking cube : ℕ) (tasks links work work' out out' : List ℕ) (n : ℕ) → Gives (write_sheet_answer processors limit unpacking cube tasks links (length work) (length out)) work work' out out' n 0
    → (s : Sheet) × (read_sheet (sheets.value_bytes processors limit unpacking (sheets.cube_of cube) tasks links) ≡ value s) × (take n out' ≡ sheets.value_bytes processors limit unpacking (sheets.cube_of cube) tasks links)
unfolding write_sheet_answer
wrote-sheet processors limit unpacking cube tasks links work work' out out' n g =
    let bytes = sheets.value_bytes processors limit unpacking (sheets.cube_of cube) tasks links in
    let a = and_then (read_sheet bytes) (λ s. fitting (length out) bytes) in
    let v = (gave g (numbered-long fixed (length work) a (numbered-then (read_sheet bytes) _ (numbered-sheet bytes) (λ s. numbered-fitting (length out) bytes))) refl).0 in
    let q = and_then-value (read_sheet bytes) (λ s. fitting (length out) bytes) (take n out') (long-value (length work) a (take n out') v).1 in
    (q.0, q.1, sym (fitting-value (length out) bytes (take n out') q.2))

wrote-bundle : (sheet commands : List ℕ) (claim : ℕ) (work work' out out' : List ℕ) (n : ℕ) → Gives (write_bundle_answer sheet commands claim (length work) (length out)) work work' out out' n 0
    → (s : Sheet) × (b : Bundle) × (read_sheet sheet ≡ value s) × (read_bundle s (bundles.value_bytes commands claim) ≡ value b) × (take n out' ≡ bundles.value_bytes commands claim)
unfolding write_bundle_answer
wrote-bundle sheet commands claim work work' out out' n g =
    let bytes = bundles.value_bytes commands claim in
    let inner : Sheet → Answer (List ℕ) = λ s. and_then (read_bundle s bytes) (λ b. fitting (length out) bytes) in
    let a = and_then (read_sheet sheet) inner in
    let numbered = numbered-then (read_sheet sheet) inner (numbered-sheet sheet) (λ s. numbered-then (read_bundle s bytes) _ (numbered-bundle s bytes) (λ b. numbered-fitting (length out) bytes)) in
    let v = (gave g (numbered-long fixed (length work) a numbered) refl).0 in
    let q = and_then-value (read_sheet sheet) inner (take n out') (long-value (length work) a (take n out') v).1 in
    let x = and_then-value (read_bundle q.0 bytes) (λ b. fitting (length out) bytes) (take n out') q.2 in
    (q.0, x.0, q.1, x.1, sym (fitting-value (length out) bytes (take n out') x.2))

-- what a call of zeldrupa_read_bundle leaves, by the bundle that was read
module _ (sheet bundle : List ℕ) {work work' c c' : List ℕ} {t t' p r : ℕ} (g : GivesBundle (read_bundle_answer sheet bundle (length work) (length c)) work work' c c' t t' p r) where
  bundle-left : (b : Bundle) → read_bundle_answer sheet bundle (length work) (length c) ≡ value b
      → (r ≡ 0) × (p ≡ length (bundle_values b)) × (take p c' ≡ bundle_values b) × (t' ≡ b.claim)
  bundle-left b e =
      let long : p ≡ length (bundle_values b) = g.ends.place ∙ ap (place_or value_count) e in (
        g.ends.returns ∙ ap number e,
        long,
        written-front c (bundle_values b) c' p long (g.commands ∙ ap (λ (a : Answer Bundle). written c (command_table a)) e),
        g.claim ∙ ap (claim_after t) e,
      )

  bundle-gave : r ≡ 0 → (s : Sheet) × (b : Bundle) × (read_bundle_answer sheet bundle (length work) (length c) ≡ value b) × (read_sheet sheet ≡ value s) × (read_bundle s bundle ≡ value b)
  unfolding read_bundle_answer
  bundle-gave z =
      let last : Bundle → Answer Bundle = λ b. and_then (fitting (length c) (bundle_values b)) (λ v. value b) in
      let inner : Sheet → Answer Bundle = λ s. and_then (read_bundle s bundle) last in
      let a = and_then (read_sheet sheet) inner in
      let numbered = numbered-then (read_sheet sheet) inner (numbered-sheet sheet) (λ s. numbered-then (read_bundle s bundle) last (numbered-bundle s bundle) (λ b. numbered-then (fitting (length c) (bundle_values b)) (λ v. value b) (numbered-fitting (length c) (bundle_values b)) (λ v. numbered-value b))) in
      let v = returned-0 (long_enough fixed (length work) a) (numbered-long fixed (length work) a numbered) (sym z ∙ g.ends.returns) in
      let q = and_then-value (read_sheet sheet) inner v.0 (long-value (length work) a v.0 v.1).1 in
      let x = and_then-value (read_bundle q.0 bundle) last v.0 q.2 in
      let y = and_then-value (fitting (length c) (bundle_values x.0)) (λ w. value x.0) v.0 x.2 in
      (q.0, v.0, v.1, q.1, x.1 ∙ y.2)

pub read-sheet-is : (sheet : List ℕ) (s : Sheet) (work t l : ℕ) → fixed ≤ work → 2 * task_count s ≤ t → 4 * link_count s ≤ l → read_sheet sheet ≡ value s → read_sheet_answer sheet work t l ≡ value s
unfolding read_sheet_answer
read-sheet-is sheet s work t l h i j e = enough (and_then (read_sheet sheet) (tabled t l)) work h ∙ ap (λ (a : Answer Sheet). and_then a (tabled t l)) e ∙ tabled-value t l s i j

read-bundle-is : (sheet bundle : List ℕ) (s : Sheet) (b : Bundle) (work c : ℕ) → fixed ≤ work → length (bundle_values b) ≤ c → read_sheet sheet ≡ value s → read_bundle s bundle ≡ value b
    → read_bundle_answer sheet bundle work c ≡ value b
unfolding read_bundle_answer
read-bundle-is sheet bundle s b work c h i e f = enough _ work h ∙ rw (e, f, value-fitting c (bundle_values b) i)

write-sheet-is : (processors limit unpacking cube : ℕ) (tasks links sheet : List ℕ) (s : Sheet) (work out : ℕ) → fixed ≤ work → length sheet ≤ out
    → sheets.value_bytes processors limit unpacking (sheets.cube_of cube) tasks links ≡ sheet → read_sheet sheet ≡ value s → write_sheet_answer processors limit unpacking cube tasks links work out ≡ value sheet
unfolding write_sheet_answer
write-sheet-is processors limit unpacking cube tasks links sheet s work out h room same e = enough _ work h ∙ rw (same, e, value-fitting out sheet room)

write-bundle-is : (sheet commands bundle : List ℕ) (claim : ℕ) (s : Sheet) (b : Bundle) (work out : ℕ) → fixed ≤ work → length bundle ≤ out
    → bundles.value_bytes commands claim ≡ bundle → read_sheet sheet ≡ value s → read_bundle s bundle ≡ value b → write_bundle_answer sheet commands claim work out ≡ value bundle
unfolding write_bundle_answer
write-bundle-is sheet commands bundle claim s b work out h room same e f = enough _ work h ∙ rw (same, e, f, value-fitting out bundle room)

pub round-trips : RoundTrips
unfolding sheet_of_values
round-trips =
    record {
      sheet_values_again =
          λ processors limit unpacking cube tasks links small time wired small-tasks small-links work work' out out' n g area area' t t' l l' b b' p r long room-t room-l read.
          let v = wrote-sheet processors limit unpacking cube tasks links work work' out out' n g in
          let s = v.0 in
          let again = sheet-backs.values-again processors limit unpacking (sheets.cube_of cube) tasks links s small-tasks small-links small time (read-form _ s v.1).0 in
          let nt : task_count s ≡ length tasks / 2 = ap task_count again.0 ∙ sheet-backs.values-tasks processors limit unpacking (sheets.cube_of cube) tasks links in
          let nl : link_count s ≡ length links / 4 = ap link_count again.0 ∙ sheet-backs.values-links processors limit unpacking (sheets.cube_of cube) tasks links in
          let et : 2 * task_count s ≡ length tasks = omega (arith, again.2) in
          let el : 4 * link_count s ≡ length links = omega (arith, again.3) in
          let left = sheet-left (take n out') read s (read-sheet-is (take n out') s (length area) (length t) (length l) long (omega arith) (omega arith) (ap read_sheet v.2 ∙ v.1)) in (
            left.0,
            ap (λ (k : ℕ). take k t') (sym et) ∙ left.1 ∙ ap (λ (x : Sheet). task_values x.tasks) again.0 ∙ task-values-again processors limit unpacking (sheets.cube_of cube) tasks links again.2,
            ap (λ (k : ℕ). take k l') (sym el) ∙ left.2 ∙ ap (λ (x : Sheet). link_values x.links) again.0 ∙ link-values-again processors limit unpacking (sheets.cube_of cube) tasks links again.3,
            left.3
                ∙ ap₂ (λ (x y : ℕ). s.processors ∷ s.limit ∷ x ∷ y ∷ s.unpacking ∷ pick s.cube 1 0 ∷ []) nt nl
                ∙ ap (λ (x : Sheet). x.processors ∷ x.limit ∷ length tasks / 2 ∷ length links / 4 ∷ x.unpacking ∷ pick x.cube 1 0 ∷ []) again.0
                ∙ ap (λ (c : ℕ). processors ∷ limit ∷ length tasks / 2 ∷ length links / 4 ∷ unpacking ∷ c ∷ []) (cube-value cube wired),
          );
      sheet_bytes_again =
          λ sheet bytes work work' t t' l l' b b' p g area area' out out' n r long room write.
          let v = sheet-gave sheet g refl in
          let s = v.0 in
          let left = sheet-left sheet g s v.1 in
          let vt : take (2 * get_or b' 2 0) t' ≡ task_values s.tasks = ap (λ (x : List ℕ). take (2 * get_or x 2 0) t') left.3 ∙ left.1 in
          let vl : take (4 * get_or b' 3 0) l' ≡ link_values s.links = ap (λ (x : List ℕ). take (4 * get_or x 3 0) l') left.3 ∙ left.2 in
          let same : sheets.value_bytes (get_or b' 0 0) (get_or b' 1 0) (get_or b' 4 0) (sheets.cube_of (get_or b' 5 0)) (take (2 * get_or b' 2 0) t') (take (4 * get_or b' 3 0) l') ≡ sheet =
          ap₂ (λ (x y : List ℕ). sheets.value_bytes (get_or b' 0 0) (get_or b' 1 0) (get_or b' 4 0) (sheets.cube_of (get_or b' 5 0)) x y) vt vl
          ∙ ap (λ (x : List ℕ). sheets.value_bytes (get_or x 0 0) (get_or x 1 0) (get_or x 4 0) (sheets.cube_of (get_or x 5 0)) (task_values s.tasks) (link_values s.links)) left.3
          ∙ ap (λ (c : Bool). sheets.value_bytes s.processors s.limit s.unpacking c (task_values s.tasks) (link_values s.links)) (cube-again s.cube)
          ∙ sheet-backs.bytes-of-values s ∙ sheet-rounds.bytes-again sheet s bytes (read-form sheet s v.2).0 in
          gives-value write sheet (write-sheet-is _ _ _ _ _ _ sheet s (length area) (length out) long room same v.2);
      bundle_values_again =
          λ sheet commands claim small small-commands work work' out out' n g area area' c c' t t' p r long room read.
          let v = wrote-bundle sheet commands claim work work' out out' n g in
          let s = v.0 in
          let b = v.1 in
          let again = bundle-rounds.values-again s commands claim b small-commands small v.3 in
          let left = bundle-left sheet (take n out') read b (read-bundle-is sheet (take n out') s b (length area) (length c) long (omega (arith, ap length again.0)) v.2 (ap (read_bundle s) v.4 ∙ v.3)) in
          (left.0, left.1 ∙ ap length again.0, left.2 ∙ again.0, left.3 ∙ again.1);
      bundle_bytes_again =
          λ sheet bundle bytes work work' c c' t t' p g area area' out out' n r long room write.
          let v = bundle-gave sheet bundle g refl in
          let s = v.0 in
          let b = v.1 in
          let left = bundle-left sheet bundle g b v.2 in
          let same : bundles.value_bytes (take p c') t' ≡ bundle =
          ap₂ bundles.value_bytes left.2 left.3 ∙ bundle-rounds.bytes-of-values b ∙ bundle-rounds.bytes-again s bundle b bytes v.4 in
          gives-value write bundle (write-bundle-is sheet (take p c') bundle t' s b (length area) (length out) long room same v.3 v.4);
    }
