-- The best arrangement rises: otherwise two of its programmes could change places, and the bundle would be better. So only rising ones need be looked at.
use Prim.Native.Nat.{ℕ, zero, suc, ◌+◌, ◌≤◌, ◌<◌}
use native.Mathlib.Omega.{arith}
use native.Mathlib.Decide.{dec_lt}
use mathlib.Core.Bool.{Bool, true, false, not, true≢false, false≢true}
use mathlib.Core.Option.{Option, none, some}
use mathlib.Core.Path.{◌≡◌, refl, sym, ap, ap₂, ◌∙◌, subst}
use mathlib.Core.Logic.{◌≢◌, ◌⊎◌, ⊎_elim}
use mathlib.Core.List.{List, [], ◌∷◌, ◌++◌, append_assoc}
use lib.ListN.{length, get_or, length-append}
use lib.Seq.{get_or_at}
use lib.Dec.{eqb}
use borrow.Author.Tests.{eqb-true, eq-eqb, ne_eqb}
use Rattle.folds.specs.Folds.{pick, bit, both, either, sum, first, keep, gather}
use Rattle.folds.specs.Answers.{value}
use Rattle.folds.proofs.Tests.{equal-or, both-parts, not_some, value_same}
use Rattle.folds.proofs.Laws.{sum-front, sum_zeros, first_some, first_cong}
use Rattle.numbers.specs.Number.{number_at, number_bytes}
use Rattle.numbers.proofs.Laws.{number-of-bytes}
use Rattle.sheet.specs.Sheet.{Sheet, task_count, link_count, source_of, target_of}
use Rattle.graph.proofs.Proper.{Proper}
use Rattle.graph.proofs.Forms.{Sized}
use Rattle.bundle.specs.Bundle.{Command, run, send, receive, Bundle, programme_count, programme_of}
use Rattle.bundle.specs.Writing.{command_bytes, programme_bytes, programmes_bytes, claim_bytes, bundle_bytes}
use Rattle.bundle.specs.Fits.{Known, Each, Formed, Fits}
use Rattle.bundle.proofs.Parts.{each_append}
use Rattle.bundle.specs.Format.{read_bundle}
use Rattle.bundle.proofs.Backs.{read_back}
use Rattle.admission.specs.Counting.{weigh, whole_of, whole, same, is}
use Rattle.admission.specs.Messages.{home, before}
use Rattle.admission.specs.Unsplit.{inside_ok}
use Rattle.admission.proofs.Weights.{weigh-gather, same_refl}
use Rattle.admission.proofs.Before.{before-skip}
use Rattle.checker.specs.Checker.{checked}
use Rattle.checker.proofs.Accepted.{Passes, passes, accepted}
use Rattle.planner.proofs.Schedules.{tally}
use Rattle.least.specs.Written.{among, brings_in, receive_in, send_in, block_in, blocks_in, programme_in, programmes_in, Busy, Written}
use Rattle.better.specs.Orders.{Rank, by_bytes}
use Rattle.better.specs.Ranks.{runs_task, runners}
use Rattle.least.specs.Ranking.{ahead, lower}
use Rattle.least.specs.Heads.{leads_to, receive_or, head_command, head_bytes, head_of, rises}
use Rattle.least.specs.Least.{In, candidates, bundle_in, best_from, best}
use Rattle.least.proofs.Orders.{lower-less, lower-more, lower-rest, comparable, level-rank, ahead-bytes}
use Rattle.least.proofs.Standing.{at_home, once, inside}
use Rattle.least.proofs.Candidates.{tally_all-append}
use Rattle.least.proofs.Normal.{programmes_in-append}
use Rattle.least.proofs.Arranging.{each-parts, known-all, blocks-run, one_none, runs-all, weigh_all, whole-list}
use Rattle.least.proofs.Swapping.{passes-turned}
use Rattle.least.proofs.Best.{Works, best-holds, best-from, candidate-is, found-is, not_behind, best-fits}

-- the order of bytes
lower-front : (x y z : List ℕ) → lower (x ++ y) (x ++ z) ≡ lower y z
lower-front [] y z = refl
lower-front (a ∷ x) y z = lower-rest a a (x ++ y) (x ++ z) refl ∙ lower-front x y z

lower-longer : (x y r q : List ℕ) → length x ≡ length y → lower x y ≡ true → lower (x ++ r) (y ++ q) ≡ true
unfolding lower by_bytes
lower-longer [] [] r q e h = absurd (false≢true h)
lower-longer [] (b ∷ y) r q e h = absurd (omega arith)
lower-longer (a ∷ x) [] r q e h = absurd (omega arith)
lower-longer (a ∷ x) (b ∷ y) r q e h = go (dec_lt a b) (dec_lt b a) (lower-longer x y r q (omega arith))
  where
    go : Dec (a < b) → Dec (b < a) → (lower x y ≡ true → lower (x ++ r) (y ++ q) ≡ true) → lower (a ∷ (x ++ r)) (b ∷ (y ++ q)) ≡ true
    go (yes l) m f = lower-less a b (x ++ r) (y ++ q) l
    go (no l) (yes m) f = absurd (false≢true (sym (lower-more a b x y m) ∙ h))
    go (no l) (no m) f = let s : a ≡ b = omega arith in lower-rest a b (x ++ r) (y ++ q) s ∙ f (sym (lower-rest a b x y s) ∙ h)

-- the bytes of no run or receive begin another's
command-lower : (u t : ℕ) (o v : Option ℕ) (r q : List ℕ) → lower (command_bytes (receive_or u o)) (command_bytes (receive_or t v)) ≡ true
    → lower (command_bytes (receive_or u o) ++ r) (command_bytes (receive_or t v) ++ q) ≡ true
unfolding lower by_bytes
command-lower u t none none r q h = lower-longer (command_bytes (run u)) (command_bytes (run t)) r q refl h
command-lower u t none (some l) r q h = refl
command-lower u t (some m) none r q h = absurd (false≢true h)
command-lower u t (some m) (some l) r q h = lower-longer (command_bytes (receive m)) (command_bytes (receive l)) r q refl h

pub programmes_bytes-append : (k : ℕ) (xs ys : List (List Command)) → programmes_bytes k (xs ++ ys) ≡ programmes_bytes k xs ++ programmes_bytes (k + length xs) ys
programmes_bytes-append k [] ys = let e : k ≡ k + 0 = omega arith in ap (λ (n : ℕ). programmes_bytes n ys) e
programmes_bytes-append k (x ∷ xs) ys =
    let e : suc k + length xs ≡ k + suc (length xs) = omega arith in
    ap {B = List ℕ} (λ r. 0x50 ∷ k ∷ r)
    (ap (λ r. programme_bytes x ++ r) (programmes_bytes-append (suc k) xs ys ∙ ap (λ (n : ℕ). programmes_bytes (suc k) xs ++ programmes_bytes n ys) e) ∙
    sym (append_assoc (programme_bytes x) (programmes_bytes (suc k) xs) (programmes_bytes (k + suc (length xs)) ys)))

-- what a gathered list of receives begins with
abbrev receives : ℕ → (ℕ → Bool) → List Command
receives n p = gather n (λ l. pick (p l) (receive l ∷ []) [])

abbrev Starts : List Command → Option ℕ → Type 0
Starts cs none = cs ≡ []
Starts cs (some l) = (r : List Command) × (cs ≡ receive l ∷ r)

starts : (n : ℕ) (p : ℕ → Bool) → Starts (receives n p) (first n p)
unfolding gather first
starts zero p = refl
starts (suc n) p = go (first n p) (p n) (starts n p)
  where
    go : (o : Option ℕ) (x : Bool) → Starts (receives n p) o → Starts (receives n p ++ pick x (receive n ∷ []) []) (keep o x n)
    go none true e = ([], rw e)
    go none false e = rw e
    go (some l) x e = (e.0 ++ pick x (receive n ∷ []) [], rw e.1)

begins : (n : ℕ) (p : ℕ → Bool) (t : ℕ) (rest : List Command) → (r : List Command) × (receives n p ++ (run t ∷ rest) ≡ receive_or t (first n p) ∷ r)
begins n p t rest = go (first n p) (starts n p)
  where
    go : (o : Option ℕ) → Starts (receives n p) o → (r : List Command) × (receives n p ++ (run t ∷ rest) ≡ receive_or t o ∷ r)
    go none e = (rest, rw e)
    go (some l) e = (e.0 ++ (run t ∷ rest), rw e.1)

-- two tasks whose programmes begin alike are the same
module _ (s : Sheet) (few : link_count s ≤ 65536) where
  head-one : (t u : ℕ) → head_bytes s t ≡ head_bytes s u → t ≡ u
  unfolding head_bytes head_command
  head-one t u e = go (first (link_count s) (leads_to s t)) (first (link_count s) (leads_to s u)) refl refl e
    where
      go : (o v : Option ℕ) → first (link_count s) (leads_to s t) ≡ o → first (link_count s) (leads_to s u) ≡ v → command_bytes (receive_or t o) ≡ command_bytes (receive_or u v) → t ≡ u
      go none none a c f = cc
      go none (some l) a c f = let z : ◌≡◌ {A = ℕ} 0x52 0x56 = cc in absurd (omega arith)
      go (some m) none a c f = let z : ◌≡◌ {A = ℕ} 0x56 0x52 = cc in absurd (omega arith)
      go (some m) (some l) a c f =
          let x = first_some (link_count s) (leads_to s t) m a in
          let y = first_some (link_count s) (leads_to s u) l c in
          let z : number_bytes 2 m ≡ number_bytes 2 l = tails f in
          let q : m ≡ l = sym (number-of-bytes 2 m [] (omega (arith, x.0))) ∙ ap (λ (r : List ℕ). number_at 2 (r ++ []) 0) z ∙ number-of-bytes 2 l [] (omega (arith, y.0)) in
          sym (eqb-true (target_of s m) t x.1) ∙ ap (target_of s) q ∙ eqb-true (target_of s l) u y.1
        where
          tails : {a b : ℕ} {x y : List ℕ} → a ∷ x ≡ b ∷ y → x ≡ y
          tails e = cc

pub among-tally : (u : ℕ) (ts : List ℕ) → among u ts ≡ true → 0 < tally u ts
unfolding among
among-tally u [] e = absurd (false≢true e)
among-tally u (v ∷ vs) e = go (eqb u v) refl e (among-tally u vs)
  where
    go : (x : Bool) → eqb u v ≡ x → either x (among u vs) ≡ true → (among u vs ≡ true → 0 < tally u vs) → 0 < bit (eqb u v) + tally u vs
    go true q f r = rw q (omega arith)
    go false q f r = rw q (omega (arith, r f))

-- a programme of an accepted bundle begins with its first task's first receive, or its run
module _ (s : Sheet) (b : Bundle) (passes : Passes s b) (k t : ℕ) (ts : List ℕ) (text : programme_of b k ≡ programme_in s (t ∷ ts)) where
  abbrev mine : List ℕ
  mine = t ∷ ts

  runs_here : (u : ℕ) → whole_of b (is (run u)) k ≡ tally u mine
  unfolding whole_of programme_in
  runs_here u = ap (weigh (is (run u))) text ∙ blocks-run s mine mine u

  here-home : (u : ℕ) → u < task_count s → 0 < tally u mine → home b (run u) ≡ k
  here-home u h l = at_home b (run u) k (omega (arith, once s b passes.published u h)) (omega (arith, runs_here u))

  abbrev tail : List Command
  tail = gather (link_count s) (send_in s mine t) ++ blocks_in s mine ts

  spread : programme_in s mine ≡ gather (link_count s) (receive_in s mine t) ++ (run t ∷ tail)
  unfolding programme_in blocks_in block_in
  spread = append_assoc (gather (link_count s) (receive_in s mine t)) (run t ∷ gather (link_count s) (send_in s mine t)) (blocks_in s mine ts)

  no_run : (u : ℕ) → weigh (is (run u)) (gather (link_count s) (receive_in s mine t)) ≡ 0
  unfolding receive_in is
  no_run u =
      weigh-gather (is (run u)) (link_count s) (receive_in s mine t) ∙
      sum_zeros (link_count s) (λ l. weigh (is (run u)) (receive_in s mine t l)) (λ l h. one_none s (brings_in s mine t l) u (receive l) refl)

  not_first : (u : ℕ) → before (run u) (run t) (programme_in s mine) ≡ false
  unfolding before
  not_first u =
      rw spread
      (before-skip (run u) (run t) (gather (link_count s) (receive_in s mine t)) (run t ∷ tail) (no_run u) (no_run t) ∙
      rw (same_refl (run t)))

  -- no source of the first task runs here
  from-elsewhere : Proper s → (l : ℕ) → l < link_count s → target_of s l ≡ t → among (source_of s l) mine ≡ false
  unfolding inside_ok
  from-elsewhere proper l h q = go (among (source_of s l) mine) refl
    where
      go : (x : Bool) → among (source_of s l) mine ≡ x → among (source_of s l) mine ≡ false
      go false e = e
      go true e =
          let src-home = here-home (source_of s l) (proper.form.source l h) (among-tally (source_of s l) mine e) in
          let tgt-home = here-home (target_of s l) (proper.form.target l h) (omega (arith, ap bit (eq-eqb (target_of s l) t q))) in
          let ok = inside s b passes.published l h (src-home ∙ sym tgt-home) in
          let z = both-parts (eqb (whole b (is (send l)) + whole b (is (receive l))) 0) _ ok in
          absurd (false≢true (sym (not_first (source_of s l)) ∙ ap (before (run (source_of s l)) (run t)) (sym text) ∙ ap₂ (λ (v : ℕ) (j : ℕ). before (run (source_of s l)) (run v) (programme_of b j)) (sym q) (sym tgt-home) ∙ z.1))

  pub head-of : Proper s → (r : List Command) × (programme_in s mine ≡ head_command s t ∷ r)
  unfolding head_command receive_in brings_in
  head-of proper =
      let z = begins (link_count s) (brings_in s mine t) t tail in
      (z.0, spread ∙ z.1 ∙ ap {B = List Command} (λ (o : Option ℕ). receive_or t o ∷ z.0) (first_cong (link_count s) (brings_in s mine t) (leads_to s t) agree))
    where
      agree : (l : ℕ) → l < link_count s → both (eqb (target_of s l) t) (not (among (source_of s l) mine)) ≡ eqb (target_of s l) t
      agree l h =
          ⊎_elim (λ q. rw (eq-eqb (target_of s l) t q, from-elsewhere proper l h q)) (λ d. rw (ne_eqb (target_of s l) t d)) (equal-or (target_of s l) t)

-- runners do not depend on the order
abbrev pub sum_over : (List Command → ℕ) → List (List Command) → ℕ
sum_over g [] = 0
sum_over g (p ∷ ps) = g p + sum_over g ps

sum_over-append : (g : List Command → ℕ) (xs ys : List (List Command)) → sum_over g (xs ++ ys) ≡ sum_over g xs + sum_over g ys
sum_over-append g [] ys = omega arith
sum_over-append g (x ∷ xs) ys = omega (arith, sum_over-append g xs ys)

sum_over_lem : (g : List Command → ℕ) (ps : List (List Command)) → sum (length ps) (λ k. g (get_or ps k [])) ≡ sum_over g ps
unfolding sum
sum_over_lem g [] = refl
sum_over_lem g (p ∷ ps) = omega (arith, sum-front (length ps) (λ k. g (get_or (p ∷ ps) k [])), sum_over_lem g ps)

pub runners-over : (b : Bundle) → runners b ≡ sum_over (λ p. bit (runs_task p)) b.programmes
unfolding runners programme_count programme_of
runners-over b = sum_over_lem (λ p. bit (runs_task p)) b.programmes

abbrev made : List (List Command) → ℕ → Bundle
made ps c = record { programmes = ps; claim = c }

-- two programmes change places
module _ (s : Sheet) (proper : Proper s) (xs : List (List Command)) (t : ℕ) (ts : List ℕ) (u : ℕ) (us : List ℕ) (zs : List (List Command)) (claim : ℕ) where
  abbrev P : List Command
  P = programme_in s (t ∷ ts)

  abbrev Q : List Command
  Q = programme_in s (u ∷ us)

  abbrev pub first-order : Bundle
  first-order = record { programmes = xs ++ P ∷ Q ∷ zs; claim = claim }

  abbrev pub second-order : Bundle
  second-order = record { programmes = xs ++ Q ∷ P ∷ zs; claim = claim }

  bytes-at : (b : Bundle) (x : List Command) (ys : List (List Command)) → b.programmes ≡ xs ++ x ∷ ys → (c : Command) (r : List Command) → x ≡ c ∷ r
      → (rest : List ℕ) × (bundle_bytes b ≡ programmes_bytes 0 xs ++ (0x50 ∷ (0 + length xs) ∷ (command_bytes c ++ rest)))
  unfolding bundle_bytes
  bytes-at b x ys e c r f =
      let more = programmes_bytes (suc (0 + length xs)) ys in (
        (programme_bytes r ++ more) ++ claim_bytes b.claim,
        ap (λ (p : List (List Command)). programmes_bytes 0 p ++ claim_bytes b.claim) (e ∙ ap (λ (p : List Command). xs ++ p ∷ ys) f) ∙
            ap (λ (l : List ℕ). l ++ claim_bytes b.claim) (programmes_bytes-append 0 xs ((c ∷ r) ∷ ys)) ∙
            append_assoc (programmes_bytes 0 xs) (programmes_bytes (0 + length xs) ((c ∷ r) ∷ ys)) (claim_bytes b.claim) ∙
            ap {B = List ℕ} (λ (l : List ℕ). programmes_bytes 0 xs ++ (0x50 ∷ (0 + length xs) ∷ l))
            (append_assoc (command_bytes c ++ programme_bytes r) more (claim_bytes b.claim) ∙ append_assoc (command_bytes c) (programme_bytes r) (more ++ claim_bytes b.claim) ∙
            ap (λ (l : List ℕ). command_bytes c ++ l) (sym (append_assoc (programme_bytes r) more (claim_bytes b.claim)))),
      )

  at-t : programme_of first-order (length xs) ≡ P
  unfolding programme_of
  at-t = get_or_at xs P (Q ∷ zs) [] (length xs) refl

  at-u : programme_of first-order (suc (length xs)) ≡ Q
  unfolding programme_of
  at-u =
      ap (λ (ps : List (List Command)). get_or ps (suc (length xs)) []) (sym (append_assoc xs (P ∷ []) (Q ∷ zs))) ∙
      get_or_at (xs ++ P ∷ []) Q zs [] (suc (length xs)) (length-append xs (P ∷ []) ∙ omega arith)

  pub swapped : s.cube ≡ false → Passes s first-order → lower (head_bytes s u) (head_bytes s t) ≡ true → Passes s second-order × (ahead second-order first-order ≡ true)
  unfolding head_bytes head_command
  swapped flat passes low =
      let hp = head-of s first-order passes (length xs) t ts at-t proper in
      let hq = head-of s first-order passes (suc (length xs)) u us at-u proper in
      let x = bytes-at first-order P (Q ∷ zs) refl (head_command s t) hp.0 hp.1 in
      let y = bytes-at second-order Q (P ∷ zs) refl (head_command s u) hq.0 hq.1 in
      let n = length xs in (
        passes-turned s proper xs P Q zs claim flat passes,
        ahead-bytes second-order first-order refl same-runners ∙
            ap₂ lower y.1 x.1 ∙ lower-front (programmes_bytes 0 xs) _ _ ∙ lower-rest 0x50 0x50 _ _ refl ∙ lower-rest (0 + n) (0 + n) _ _ refl ∙
            command-lower u t (first (link_count s) (leads_to s u)) (first (link_count s) (leads_to s t)) y.0 x.0 low,
      )
    where
      same-runners : runners second-order ≡ runners first-order
      same-runners =
          omega (
            arith,
            runners-over second-order,
            runners-over first-order,
            sum_over-append (λ p. bit (runs_task p)) xs (Q ∷ P ∷ zs),
            sum_over-append (λ p. bit (runs_task p)) xs (P ∷ Q ∷ zs),
          )

-- where an arrangement does not rise, two neighbours are the wrong way round
record Falls (s : Sheet) (a : List (List ℕ)) : Type 0 where
  front : List (List ℕ)
  one : List ℕ
  two : List ℕ
  back : List (List ℕ)
  parts : a ≡ front ++ one ∷ two ∷ back
  falls : lower (head_bytes s (head_of one)) (head_bytes s (head_of two)) ≡ false

falling : (s : Sheet) (a : List (List ℕ)) → rises s a ≡ false → Falls s a
unfolding rises
falling s [] e = absurd (true≢false e)
falling s (ts ∷ []) e = absurd (true≢false e)
falling s (ts ∷ us ∷ a) e = go (lower (head_bytes s (head_of ts)) (head_bytes s (head_of us))) refl e (falling s (us ∷ a))
  where
    go : (x : Bool) → lower (head_bytes s (head_of ts)) (head_bytes s (head_of us)) ≡ x → both x (rises s (us ∷ a)) ≡ false → (rises s (us ∷ a) ≡ false → Falls s (us ∷ a)) → Falls s (ts ∷ us ∷ a)
    go false q f r = record { front = []; one = ts; two = us; back = a; parts = refl; falls = q }
    go true q f r =
        let z = r f in
        record { front = ts ∷ z.front; one = z.one; two = z.two; back = z.back; parts = ap {B = List (List ℕ)} (λ x. ts ∷ x) z.parts; falls = z.falls }

each-swap : {A : Type 0} (R : A → Type 0) (xs : List A) (x y : A) (zs : List A) → Each R (xs ++ x ∷ y ∷ zs) → Each R (xs ++ y ∷ x ∷ zs)
each-swap R xs x y zs h = let z = each-parts R xs (x ∷ y ∷ zs) h in each_append R xs (y ∷ x ∷ zs) z.0 (z.1.1.0, (z.1.0, z.1.1.1))

module _ (s : Sheet) (proper : Proper s) (sized : Sized s) (flat : s.cube ≡ false) where
  -- an accepted bundle in the written form that does not rise is not the best
  beaten : (xs : List (List ℕ)) (ts us : List ℕ) (zs : List (List ℕ)) (b : Bundle) → b.programmes ≡ programmes_in s (xs ++ ts ∷ us ∷ zs) → Each Busy (xs ++ ts ∷ us ∷ zs)
      → Formed s b → Passes s b → lower (head_bytes s (head_of ts)) (head_bytes s (head_of us)) ≡ false → (c : Bundle) × Formed s c × (checked s c ≡ value c) × Written s c × (ahead c b ≡ true)
  unfolding programmes_in
  beaten xs [] us zs b w busy formed ok e = absurd (omega (arith, (each-parts Busy xs ([] ∷ us ∷ zs) busy).1.0))
  beaten xs (t ∷ ts) [] zs b w busy formed ok e = absurd (omega (arith, (each-parts Busy xs ((t ∷ ts) ∷ [] ∷ zs) busy).1.1.0))
  beaten xs (t ∷ ts) (u ∷ us) zs b w busy formed ok e =
      let X = programmes_in s xs in
      let Z = programmes_in s zs in
      let P = programme_in s (t ∷ ts) in
      let Q = programme_in s (u ∷ us) in
      let text : b.programmes ≡ X ++ P ∷ Q ∷ Z = w ∙ programmes_in-append s xs ((t ∷ ts) ∷ (u ∷ us) ∷ zs) in
      let same : b ≡ first-order s proper X t ts u us Z b.claim = ap (λ (ps : List (List Command)). made ps b.claim) text in
      let d : t ≢ u = apart in
      let low : lower (head_bytes s u) (head_bytes s t) ≡ true =
      ⊎_elim (λ p. absurd (true≢false (sym p ∙ e))) (λ p. ⊎_elim (λ q. absurd (d (head-one s (omega (arith, proper.form.links)) t u q))) (λ q. q) p) (comparable (head_bytes s t) (head_bytes s u))
      in
      let z = swapped s proper X t ts u us Z b.claim flat (subst (Passes s) same ok) low in
      let c = second-order s proper X t ts u us Z b.claim in
      let known = subst (Each (Each (Known s))) text formed.known in (
        c,
        record {
          busy = λ some. omega (arith, formed.busy some, ap length text, length-append X (P ∷ Q ∷ Z), length-append X (Q ∷ P ∷ Z));
          few = omega (arith, formed.few, ap length text, length-append X (P ∷ Q ∷ Z), length-append X (Q ∷ P ∷ Z));
          known = each-swap (Each (Known s)) X P Q Z known;
        },
        accepted s c z.0,
        record { tasks = xs ++ (u ∷ us) ∷ (t ∷ ts) ∷ zs; busy = each-swap Busy xs (t ∷ ts) (u ∷ us) zs busy; written = sym (programmes_in-append s xs ((u ∷ us) ∷ (t ∷ ts) ∷ zs)) },
        subst (λ (x : Bundle). ahead c x ≡ true) (sym same) z.1,
      )
    where
      apart : t ≢ u
      apart q =
          omega (
            arith,
            once s b ok.published t (each-parts (Each (λ v. v < task_count s)) xs ((t ∷ ts) ∷ (u ∷ us) ∷ zs) (known-all s (xs ++ (t ∷ ts) ∷ (u ∷ us) ∷ zs) (subst (Each (Each (Known s))) w formed.known))).1.0.0,
            whole-list s b (is (run t)),
            ap (weigh_all s (is (run t))) w,
            runs-all s (xs ++ (t ∷ ts) ∷ (u ∷ us) ∷ zs) t,
            tally_all-append t xs ((t ∷ ts) ∷ (u ∷ us) ∷ zs),
            ap bit (eq-eqb t t refl),
            ap bit (eq-eqb t u q),
          )

  pub best-rises : (b : Bundle) → best s ≡ some b → (a : List (List ℕ)) → Each Busy a → b.programmes ≡ programmes_in s a → rises s a ≡ true
  best-rises b e a busy w = go (rises s a) refl
    where
      go : (x : Bool) → rises s a ≡ x → rises s a ≡ true
      go true q = q
      go false q =
          let f = falling s a q in
          let z = found-is s proper sized b e in
          let c = beaten f.front f.one f.two f.back b (w ∙ ap (programmes_in s) f.parts) (subst (Each Busy) f.parts busy) z.1 (passes s b b z.2).0 f.falls in
          let n = not_behind s proper sized c.0 c.1 c.2 c.3 in
          let same : n.0 ≡ b = (cc (n.1, e)) in
          absurd (true≢false (sym c.4 ∙ subst (λ (x : Bundle). ahead c.0 x ≡ false) (sym (sym same)) n.2))

  -- any list of candidates that has all accepted rising ones has the same best
  pub best-of-part : (cs : List (List (List ℕ))) → ((a : List (List ℕ)) → In a cs → In a (candidates s))
      → ((a : List (List ℕ)) → In a (candidates s) → Works s a → rises s a ≡ true → In a cs) → best_from s cs none ≡ best s
  unfolding best bundle_in
  best-of-part cs sub full = go (best s) (best_from s cs none) refl refl
    where
      go : (o v : Option Bundle) → best s ≡ o → best_from s cs none ≡ v → v ≡ o
      go none none e f = refl
      go none (some y) e f =
          ⊎_elim (λ q. not_some q) (λ z. not_some (sym e ∙ (best-holds s (candidates s) none z.0 (sub z.0 z.1) z.2).1)) (best-from s cs none y f)
      go (some x) v e f =
          ⊎_elim (λ q. not_some q)
          (λ z.
          let a = z.0 in
          let c = candidate-is s proper sized a z.1 z.2 in
          let up = best-rises x e a c.0 (ap (λ (y : Bundle). y.programmes) z.3) in
          let h = best-holds s cs none a (full a z.1 z.2 up) z.2 in
          sym f ∙ h.1 ∙ ap some (alike h.0 h.1 (subst (λ (y : Bundle). ahead y h.0 ≡ false) (sym z.3) h.2)))
          (best-from s (candidates s) none x e)
        where
          alike : (y : Bundle) → best_from s cs none ≡ some y → ahead x y ≡ false → y ≡ x
          alike y g n =
              ⊎_elim (λ q. not_some q)
              (λ z.
              let a = z.0 in
              let c = candidate-is s proper sized a (sub a z.1) z.2 in
              let h = best-holds s (candidates s) none a (sub a z.1) z.2 in
              let same : h.0 ≡ x = (cc (h.1, e)) in
              let back : ahead y x ≡ false = subst (λ (v : Bundle). ahead v x ≡ false) (sym z.3) (subst (λ (v : Bundle). ahead (bundle_in s a) v ≡ false) same h.2) in
              let r = level-rank y x back n in
              let fx = best-fits s proper sized x e in
              let claims : y.claim ≡ x.claim = ap (λ (v : Rank). v.claim) r in
              let bytes : bundle_bytes y ≡ bundle_bytes x = ap (λ (v : Rank). v.bytes) r in
              let few : link_count s ≤ 65536 = omega (arith, proper.form.links) in
              let fy : Fits s y = record { formed = subst (Formed s) (sym z.3) c.1; claimed = omega (arith, claims, fx.claimed) } in
              value_same (sym (read_back s y few fy) ∙ ap (read_bundle s) bytes ∙ read_back s x few fx))
              (best-from s cs none y g)
