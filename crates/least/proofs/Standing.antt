-- What stands where in a bundle with the published messages, and what its programmes need at least.
use Prim.Native.Nat.{ℕ, zero, suc, ◌+◌, ◌≤◌, ◌<◌}
use native.Mathlib.Omega.{arith}
use mathlib.Core.Bool.{Bool, true, false, false≢true}
use mathlib.Core.Option.{Option, none, some}
use mathlib.Core.Path.{◌≡◌, refl, sym, ap, ◌∙◌}
use mathlib.Core.Logic.{◌≢◌, ⊎_elim}
use mathlib.Core.List.{List, [], ◌∷◌}
use lib.ListN.{length, take, get_or, get_elem?}
use lib.Seq.{take_all}
use lib.Dec.{ltb, eqb}
use borrow.Author.Tests.{eqb-true, eq-eqb, ne_eqb, ltb-true, lt-ltb, ltb-false}
use Rattle.folds.specs.Folds.{pick, bit, sum, first, or_value}
use Rattle.folds.proofs.Tests.{equal-or, both-parts}
use Rattle.folds.proofs.Laws.{sum_mono, sum-add, sum_zeros, sum-only, term-le-sum, first-none, first_some}
use Rattle.sheet.specs.Sheet.{Sheet, task_count, link_count, source_of, target_of, store_of, bytes_of}
use Rattle.bundle.specs.Bundle.{Command, run, send, receive, release, discard, Bundle, programme_count, programme_of}
use Rattle.bundle.specs.Fits.{Known, Each, Formed}
use Rattle.admission.specs.Counting.{weigh, whole_of, whole, same, is, need, gives, in_use}
use Rattle.admission.specs.Releases.{is_release, frees}
use Rattle.admission.specs.Messages.{holds, home, before, Published}
use Rattle.admission.specs.Unsplit.{inside_ok, across_ok, link_ok}
use Rattle.admission.proofs.Weights.{programme-or, standing, weigh-split, weigh-drop}
use Rattle.admission.proofs.Rights.{balance}
use Rattle.admission.proofs.Splits.{link-right}
use Rattle.admission.proofs.Before.{before-takes}
use Rattle.admission.proofs.Messages.{home-is, run-once, inputs}
use Rattle.admission.proofs.Walking.{each-elem}
use Rattle.least.specs.Written.{NoRelease}

-- an element of a list each of whose elements has P
each-get_or : (P : Command → Type 0) (ps : List (List Command)) (k : ℕ) → Each (Each P) ps → Each P (get_or ps k [])
each-get_or P [] k h = tt
each-get_or P (p ∷ ps) zero h = h.0
each-get_or P (p ∷ ps) (suc k) h = each-get_or P ps k h.1

-- where c stands before d, both stand
pub before-second : (c d : Command) (p : List Command) → before c d p ≡ true → 0 < weigh (is d) p
unfolding before weigh is
before-second c d [] e = absurd (false≢true e)
before-second c d (x ∷ p) e = go (same d x) (same c x) refl refl e (before-second c d p)
  where
    go : (u v : Bool) → same d x ≡ u → same c x ≡ v → pick u false (pick v (ltb 0 (weigh (is d) p)) (before c d p)) ≡ true → (before c d p ≡ true → 0 < weigh (is d) p) → 0 < weigh (is d) (x ∷ p)
    go true v a f q r = rw a (omega arith)
    go false true a f q r = omega (arith, ltb-true 0 (weigh (is d) p) q)
    go false false a f q r = omega (arith, r q)

pub before-first : (c d : Command) (p : List Command) → before c d p ≡ true → 0 < weigh (is c) p
unfolding before weigh is
before-first c d [] e = absurd (false≢true e)
before-first c d (x ∷ p) e = go (same d x) (same c x) refl refl e (before-first c d p)
  where
    go : (u v : Bool) → same d x ≡ u → same c x ≡ v → pick u false (pick v (ltb 0 (weigh (is d) p)) (before c d p)) ≡ true → (before c d p ≡ true → 0 < weigh (is c) p) → 0 < weigh (is c) (x ∷ p)
    go true v a f q r = absurd (false≢true q)
    go false true a f q r = rw f (omega arith)
    go false false a f q r = omega (arith, r q)

-- a command of the programme of k stands in the bundle
part-whole : (b : Bundle) (f : Command → ℕ) (k : ℕ) → whole_of b f k ≤ whole b f
unfolding whole_of whole weigh
part-whole b f k = ⊎_elim (λ h. term-le-sum (programme_count b) (whole_of b f) k h) (λ q. rw q (omega arith)) (programme-or b k)

pub of-whole : (b : Bundle) (c : Command) (k : ℕ) → whole_of b (is c) k ≤ whole b (is c)
of-whole b c k = part-whole b (is c) k

-- a command that stands somewhere stands at home
pub home-stands : (b : Bundle) (c : Command) → 0 < whole b (is c) → 0 < weigh (is c) (programme_of b (home b c))
unfolding whole home holds whole_of
home-stands b c h = go (first (programme_count b) (holds b c)) refl
  where
    go : (o : Option ℕ) → first (programme_count b) (holds b c) ≡ o → 0 < weigh (is c) (programme_of b (or_value o 0))
    go none q = absurd (omega (arith, sum_zeros (programme_count b) (whole_of b (is c)) (λ k l. omega (arith, ltb-false 0 (whole_of b (is c) k) (first-none (programme_count b) (holds b c) q k l)))))
    go (some k) q = ltb-true 0 _ (first_some (programme_count b) (holds b c) k q).1

-- one that stands in k, and once in all, is at home there
pub at_home : (b : Bundle) (c : Command) (k : ℕ) → whole b (is c) ≤ 1 → 0 < whole_of b (is c) k → home b c ≡ k
unfolding whole_of weigh
at_home b c k h e = ⊎_elim (λ l. home-is b c k l h e) (λ q. absurd (omega (arith, ap (weigh (is c)) q))) (programme-or b k)

module _ (s : Sheet) (b : Bundle) (formed : Formed s b) where
  pub known-programme : (k : ℕ) → Each (Known s) (programme_of b k)
  unfolding programme_of
  known-programme k = each-get_or (Known s) b.programmes k formed.known

  pub known_at : (k i : ℕ) (c : Command) → get_elem? (programme_of b k) i ≡ some c → Known s c
  known_at k i c e = each-elem (Known s) (programme_of b k) i c (known-programme k) e

module _ (s : Sheet) (b : Bundle) (published : Published s b) where
  pub once : (t : ℕ) → t < task_count s → whole b (is (run t)) ≡ 1
  once = run-once s b published.once

  pub home_below : (t : ℕ) → t < task_count s → home b (run t) < programme_count b
  unfolding weigh
  home_below t h =
      ⊎_elim (λ l. l) (λ q. absurd (omega (arith, ap (weigh (is (run t))) q, home-stands b (run t) (omega (arith, once t h))))) (programme-or b (home b (run t)))

  pub run_home : (t k : ℕ) → t < task_count s → 0 < whole_of b (is (run t)) k → home b (run t) ≡ k
  run_home t k h e = at_home b (run t) k (omega (arith, once t h)) e

  pub run_at : (k i t : ℕ) → t < task_count s → get_elem? (programme_of b k) i ≡ some (run t) → home b (run t) ≡ k
  unfolding whole_of
  run_at k i t h e = run_home t k h (standing (run t) (programme_of b k) i e)

  link-ok : (l : ℕ) → l < link_count s → link_ok s b l (home b (run (source_of s l))) (home b (run (target_of s l))) ≡ true
  link-ok l h = link-right s b published.messages l h

  -- 27 of a link between processors
  pub across : (l : ℕ) → l < link_count s → home b (run (source_of s l)) ≢ home b (run (target_of s l))
      → across_ok s b l (home b (run (source_of s l))) (home b (run (target_of s l))) ≡ true
  across l h d = rw (ne_eqb _ _ d) at (link-ok l h)

  pub inside : (l : ℕ) → l < link_count s → home b (run (source_of s l)) ≡ home b (run (target_of s l)) → inside_ok s b l (home b (run (target_of s l))) ≡ true
  inside l h q = rw (eq-eqb _ _ q) at (link-ok l h)

  -- a link with a send is one between processors
  sends-across : (l k : ℕ) → l < link_count s → 0 < whole_of b (is (send l)) k → home b (run (source_of s l)) ≢ home b (run (target_of s l))
  unfolding inside_ok
  sends-across l k h e q =
      let z = both-parts (eqb (whole b (is (send l)) + whole b (is (receive l))) 0) _ (inside l h q) in
      omega (arith, eqb-true (whole b (is (send l)) + whole b (is (receive l))) 0 z.0, of-whole b (send l) k)

  -- a send stands behind its source's run
  pub send_at : (k i l : ℕ) → l < link_count s → get_elem? (programme_of b k) i ≡ some (send l)
      → (home b (run (source_of s l)) ≡ k) × (0 < weigh (is (run (source_of s l))) (take i (programme_of b k)))
  unfolding across_ok whole_of
  send_at k i l h e =
      let src = source_of s l in
      let j = home b (run src) in
      let here = standing (send l) (programme_of b k) i e in
      let a = both-parts (eqb (whole b (is (send l))) 1) _ (across l h (sends-across l k h here)) in
      let c = both-parts (eqb (whole b (is (receive l))) 1) _ a.1 in
      let d = both-parts (before (run src) (send l) (programme_of b j)) _ c.1 in
      let few : whole b (is (send l)) ≤ 1 = omega (arith, eqb-true (whole b (is (send l))) 1 a.0) in
      let q : j ≡ k = sym (at_home b (send l) j few (before-second (run src) (send l) (programme_of b j) d.0)) ∙ at_home b (send l) k few here in
      (q, before-takes (run src) (send l) (programme_of b k) i (rw q at d.0) e)

  -- a receive stands at home with its target's run
  pub receive-stands : (l : ℕ) → l < link_count s → home b (run (source_of s l)) ≢ home b (run (target_of s l)) → 0 < weigh (is (receive l)) (programme_of b (home b (run (target_of s l))))
  unfolding across_ok
  receive-stands l h d =
      let a = both-parts (eqb (whole b (is (send l))) 1) _ (across l h d) in
      let c = both-parts (eqb (whole b (is (receive l))) 1) _ a.1 in
      let e = both-parts (before (run (source_of s l)) (send l) (programme_of b (home b (run (source_of s l))))) _ c.1 in
      before-first (receive l) (run (target_of s l)) (programme_of b (home b (run (target_of s l)))) e.1

  -- where a task runs, the receive of each link from another processor stands before
  pub received : (k i t : ℕ) → t < task_count s → get_elem? (programme_of b k) i ≡ some (run t) → (l : ℕ) → l < link_count s → source_of s l < task_count s → target_of s l ≡ t
      → home b (run (source_of s l)) ≢ k → 0 < weigh (is (receive l)) (take i (programme_of b k))
  unfolding whole_of
  received k i t h e l m n q d =
      ⊎_elim (λ (x : weigh (is (run (source_of s l))) (take i (programme_of b k)) ≡ 0). omega (arith, inputs s b published k i t h e l m q))
      (λ x. absurd (d (run_home (source_of s l) k n (omega (arith, weigh-split (is (run (source_of s l))) (programme_of b k) i)))))
      (equal-or (weigh (is (run (source_of s l))) (take i (programme_of b k))) 0)

-- what a programme needs is at least the need of each command that stands in it
module _ (s : Sheet) where
  abbrev pub held : List Command → Command → ℕ
  held p c = pick (ltb 0 (weigh (is c) p)) (need s c) 0

  abbrev held_by : Command → Command → ℕ
  held_by x c = pick (same c x) (need s c) 0

  held_more : (x : Command) (p : List Command) (c : Command) → held (x ∷ p) c ≤ held_by x c + held p c
  unfolding weigh is
  held_more x p c = go (same c x) refl
    where
      go : (v : Bool) → same c x ≡ v → held (x ∷ p) c ≤ held_by x c + held p c
      go true e = rw (e, lt-ltb 0 (1 + weigh (is c) p) (omega arith)) (omega arith)
      go false e = let z : 0 + weigh (is c) p ≡ weigh (is c) p = omega arith in rw (e, z) (omega arith)

  abbrev pub tasks_held : List Command → ℕ
  tasks_held p = sum (task_count s) (λ t. held p (run t))

  abbrev pub links_held : List Command → ℕ
  links_held p = sum (link_count s) (λ l. held p (receive l))

  one-task : (x : Command) → Known s x → sum (task_count s) (λ t. held_by x (run t)) + sum (link_count s) (λ l. held_by x (receive l)) ≡ need s x
  one-task (run u) h =
      omega (
        arith,
        sum-only (task_count s) (λ t. held_by (run u) (run t)) u h (λ j d. rw (ne_eqb j u d)),
        ap (λ v. pick v (store_of s u) 0) (eq-eqb u u refl),
        sum_zeros (link_count s) (λ l. held_by (run u) (receive l)) (λ l m. refl),
      )
  one-task (send u) h = omega (arith, sum_zeros (task_count s) (λ t. held_by (send u) (run t)) (λ l m. refl), sum_zeros (link_count s) (λ l. held_by (send u) (receive l)) (λ l m. refl))
  one-task (receive u) h =
      omega (
        arith,
        sum_zeros (task_count s) (λ t. held_by (receive u) (run t)) (λ l m. refl),
        sum-only (link_count s) (λ l. held_by (receive u) (receive l)) u h (λ j d. rw (ne_eqb j u d)),
        ap (λ v. pick v (bytes_of s u) 0) (eq-eqb u u refl),
      )
  one-task (release u) h = omega (arith, sum_zeros (task_count s) (λ t. held_by (release u) (run t)) (λ l m. refl), sum_zeros (link_count s) (λ l. held_by (release u) (receive l)) (λ l m. refl))
  one-task (discard u) h = omega (arith, sum_zeros (task_count s) (λ t. held_by (discard u) (run t)) (λ l m. refl), sum_zeros (link_count s) (λ l. held_by (discard u) (receive l)) (λ l m. refl))

  pub need-most : (p : List Command) → Each (Known s) p → tasks_held p + links_held p ≤ weigh (need s) p
  unfolding weigh
  need-most [] h = omega (arith, sum_zeros (task_count s) (λ t. held [] (run t)) (λ l m. refl), sum_zeros (link_count s) (λ l. held [] (receive l)) (λ l m. refl))
  need-most (x ∷ p) h =
      omega (
        arith,
        sum_mono (task_count s) (λ t. held (x ∷ p) (run t)) (λ t. held_by x (run t) + held p (run t)) (λ t m. held_more x p (run t)),
        sum-add (task_count s) (λ t. held_by x (run t)) (λ t. held p (run t)),
        sum_mono (link_count s) (λ l. held (x ∷ p) (receive l)) (λ l. held_by x (receive l) + held p (receive l)) (λ l m. held_more x p (receive l)),
        sum-add (link_count s) (λ l. held_by x (receive l)) (λ l. held p (receive l)),
        one-task x h.0,
        need-most p h.1,
      )

-- a programme without releases gives nothing back, so that behind all its commands everything is in use
plain_at : (p : List Command) → weigh frees p ≡ 0 → (i : ℕ) (c : Command) → get_elem? p i ≡ some c → is_release c ≡ true → ⊥
plain_at p h i c e f = omega (arith, weigh-split frees p i, weigh-drop frees p i c e, ap bit f)

plain-gives : (s : Sheet) (p : List Command) → weigh frees p ≡ 0 → weigh (gives s) p ≡ 0
unfolding weigh
plain-gives s [] h = refl
plain-gives s (run t ∷ p) h = omega (arith, plain-gives s p (omega arith))
plain-gives s (send l ∷ p) h = omega (arith, plain-gives s p (omega arith))
plain-gives s (receive l ∷ p) h = omega (arith, plain-gives s p (omega arith))
plain-gives s (release t ∷ p) h = absurd (omega arith)
plain-gives s (discard l ∷ p) h = absurd (omega arith)

pub plain-use : (s : Sheet) (p : List Command) → weigh frees p ≡ 0 → in_use s p (length p) ≡ weigh (need s) p
plain-use s p h =
    let q : take (length p) p ≡ p = take_all (length p) p (omega arith) in
    omega (arith, balance s p (λ i c e f. absurd (plain_at p h i c e f)) (length p), ap (weigh (gives s)) q, ap (weigh (need s)) q, plain-gives s p h)

module _ (b : Bundle) (plain : NoRelease b) where
  pub plain-programme : (k : ℕ) → weigh frees (programme_of b k) ≡ 0
  unfolding whole_of
  plain-programme k = omega (arith, part-whole b frees k)

  pub no-release : (k i : ℕ) (c : Command) → get_elem? (programme_of b k) i ≡ some c → is_release c ≡ true → ⊥
  no-release k i c e f = plain_at (programme_of b k) (plain-programme k) i c e f
