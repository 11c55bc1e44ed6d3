-- A bundle with the published messages is short: at most two commands for each task, its run and its release, and three for each link.
use Prim.Native.Nat.{ℕ, zero, suc, ◌+◌, ◌*◌, ◌<◌, ◌≤◌}
use mathlib.Core.Path.{◌≡◌, refl, sym, ◌∙◌, subst}
use mathlib.Core.Bool.{true}
use mathlib.Core.List.{List, [], ◌∷◌}
use native.Mathlib.Omega.{arith}
use lib.ListN.{length, get_or, take}
use lib.Seq.{take_all}
use Rattle.folds.specs.Folds.{sum}
use Rattle.folds.specs.Answers.{value}
use Rattle.folds.proofs.Laws.{sum-front, sum-cong, sum-add, sum-le, sum_mono, sum-swap, term-le-sum}
use Rattle.numbers.specs.Number.{Bytes}
use Rattle.sheet.specs.Sheet.{Sheet, task_count, link_count}
use Rattle.bundle.specs.Bundle.{Bundle, Command, run, send, receive, release, discard, programme_count, programme_of}
use Rattle.bundle.specs.Format.{read_bundle}
use Rattle.bundle.specs.Fits.{Known, Each}
use Rattle.bundle.specs.Counts.{commands_in, command_count}
use Rattle.bundle.specs.Lies.{size_of, Lies, over, more}
use Rattle.bundle.proofs.Rounds.{read-formed}
use Rattle.admission.specs.Counting.{weigh, whole_of, whole, each, is}
use Rattle.admission.specs.Releases.{is_release, gets}
use Rattle.admission.specs.Messages.{Published}
use Rattle.admission.proofs.Splits.{message-once}
use Rattle.admission.proofs.Weights.{weigh-each, is-refl}
use Rattle.admission.proofs.Rights.{all_right, within-got}
use Rattle.admission.proofs.Messages.{run-once}
use Rattle.admission.proofs.Rows.{Rows, claims, opens, rows}

-- the commands by their kinds
module _ (s : Sheet) where
  abbrev tasks : (ℕ → Command) → List Command → ℕ
  tasks m p = sum (task_count s) (λ x. weigh (is (m x)) p)

  abbrev links : (ℕ → Command) → List Command → ℕ
  links m p = sum (link_count s) (λ x. weigh (is (m x)) p)

  abbrev kinds : List Command → ℕ
  kinds p = tasks run p + tasks release p + links send p + links receive p + links discard p

  task-at : (m : ℕ → Command) (x : ℕ) → x < task_count s → 1 ≤ sum (task_count s) (λ y. is (m y) (m x))
  task-at m x h = omega (arith, term-le-sum (task_count s) (λ y. is (m y) (m x)) x h, is-refl (m x))

  link_at : (m : ℕ → Command) (x : ℕ) → x < link_count s → 1 ≤ sum (link_count s) (λ y. is (m y) (m x))
  link_at m x h = omega (arith, term-le-sum (link_count s) (λ y. is (m y) (m x)) x h, is-refl (m x))

  task-more : (m : ℕ → Command) (c : Command) (p : List Command) → tasks m (c ∷ p) ≡ sum (task_count s) (λ x. is (m x) c) + tasks m p
  unfolding weigh
  task-more m c p = sum-add (task_count s) (λ x. is (m x) c) (λ x. weigh (is (m x)) p)

  link-more : (m : ℕ → Command) (c : Command) (p : List Command) → links m (c ∷ p) ≡ sum (link_count s) (λ x. is (m x) c) + links m p
  unfolding weigh
  link-more m c p = sum-add (link_count s) (λ x. is (m x) c) (λ x. weigh (is (m x)) p)

  kinds-more : (c : Command) (p : List Command) → Known s c → kinds p + 1 ≤ kinds (c ∷ p)
  kinds-more c p h =
      by c h (task-more run c p) (task-more release c p) (link-more send c p) (link-more receive c p) (link-more discard c p)
    where
      by : (c : Command) → Known s c → tasks run (c ∷ p) ≡ sum (task_count s) (λ x. is (run x) c) + tasks run p
          → tasks release (c ∷ p) ≡ sum (task_count s) (λ x. is (release x) c) + tasks release p → links send (c ∷ p) ≡ sum (link_count s) (λ x. is (send x) c) + links send p
          → links receive (c ∷ p) ≡ sum (link_count s) (λ x. is (receive x) c) + links receive p
          → links discard (c ∷ p) ≡ sum (link_count s) (λ x. is (discard x) c) + links discard p → kinds p + 1 ≤ kinds (c ∷ p)
      by (run x) h e f g i j = omega (arith, task-at run x h)
      by (send x) h e f g i j = omega (arith, link_at send x h)
      by (receive x) h e f g i j = omega (arith, link_at receive x h)
      by (release x) h e f g i j = omega (arith, task-at release x h)
      by (discard x) h e f g i j = omega (arith, link_at discard x h)

  by_kind : (p : List Command) → Each (Known s) p → weigh each p ≤ kinds p
  unfolding weigh
  by_kind [] h = omega arith
  by_kind (c ∷ p) h = omega (arith, kinds-more c p h.0, by_kind p h.1)

pub each_at : {A : Type 0} (P : A → Type 0) (d : A) (xs : List A) (i : ℕ) → Each P xs → i < length xs → P (get_or xs i d)
each_at P d [] i h l = absurd (omega arith)
each_at P d (x ∷ xs) zero h l = h.0
each_at P d (x ∷ xs) (suc i) h l = each_at P d xs i h.1 (omega arith)

module _ (s : Sheet) (b : Bundle) (p : Published s b) where
  -- a release stands no more often than what it releases
  pub freed-once : (x : Command) → is_release x ≡ true → whole b (is x) ≤ whole b (is (gets x))
  unfolding whole whole_of
  freed-once x h =
      sum_mono (programme_count b) (whole_of b (is x)) (whole_of b (is (gets x)))
      (λ k l.
      let q = programme_of b k in
      let e : take (length q) q ≡ q = take_all (length q) q (omega arith) in
      subst (λ (y : List Command). weigh (is x) y ≤ weigh (is (gets x)) y) e (within-got s q (all_right s b p.releases k) x h (length q)))

  over-tasks : (m : ℕ → Command) → ((t : ℕ) → t < task_count s → whole b (is (m t)) ≤ 1) → sum (programme_count b) (λ k. tasks s m (programme_of b k)) ≤ task_count s
  unfolding whole whole_of
  over-tasks m h =
      omega (
        arith,
        sum-swap (programme_count b) (task_count s) (λ k t. weigh (is (m t)) (programme_of b k)),
        sum-le (task_count s) 1 (λ t. whole b (is (m t))) h,
      )

  over-links : (m : ℕ → Command) → ((l : ℕ) → l < link_count s → whole b (is (m l)) ≤ 1) → sum (programme_count b) (λ k. links s m (programme_of b k)) ≤ link_count s
  unfolding whole whole_of
  over-links m h =
      omega (
        arith,
        sum-swap (programme_count b) (link_count s) (λ k l. weigh (is (m l)) (programme_of b k)),
        sum-le (link_count s) 1 (λ l. whole b (is (m l))) h,
      )

  pub few-commands : Each (Each (Known s)) b.programmes → whole b each ≤ 2 * task_count s + 3 * link_count s
  unfolding whole whole_of programme_count programme_of
  few-commands known =
      let n = programme_count b in
      let at : (List Command → ℕ) → ℕ → ℕ = λ f k. f (programme_of b k) in
      let runs = at (tasks s run) in
      let frees = at (tasks s release) in
      let sends = at (links s send) in
      let takes = at (links s receive) in
      let drops = at (links s discard) in
      let once : (t : ℕ) → t < task_count s → whole b (is (run t)) ≤ 1 = λ t h. omega (arith, run-once s b p.once t h) in
      omega (
        arith,
        sum_mono n (whole_of b each) (λ k. runs k + frees k + sends k + takes k + drops k) (λ k h. by_kind s (programme_of b k) (each_at (Each (Known s)) [] b.programmes k known h)),
        sum-add n (λ k. runs k + frees k + sends k + takes k) drops,
        sum-add n (λ k. runs k + frees k + sends k) takes,
        sum-add n (λ k. runs k + frees k) sends,
        sum-add n runs frees,
        over-tasks run once,
        over-tasks release (λ t h. omega (arith, freed-once (release t) refl, once t h)),
        over-links send (λ l h. (message-once s b p.messages l h).0),
        over-links receive (λ l h. (message-once s b p.messages l h).1),
        over-links discard (λ l h. omega (arith, freed-once (discard l) refl, (message-once s b p.messages l h).1)),
      )

-- the bytes of commands, at most three each
lies-long : {t l : ℕ} {b : List ℕ} {o e : ℕ} {p : List Command} → Lies t l b o e p → e ≤ o + 3 * length p
lies-long over = omega arith
lies-long (more {c = c} h r) = omega (arith, size-most c, lies-long r)
  where
    size-most : (c : Command) → size_of c ≤ 3
    size-most (run x) = omega arith
    size-most (send x) = omega arith
    size-most (receive x) = omega arith
    size-most (release x) = omega arith
    size-most (discard x) = omega arith

rows_long : {t l : ℕ} {b : List ℕ} {o : ℕ} {ps : List (List Command)} → Rows t l b o ps → length b ≤ o + 2 * length ps + 3 * commands_in ps + 5
rows_long (claims e) = omega arith
rows_long (opens h x r) = omega (arith, lies-long x, rows_long r)

-- all commands, counted both ways
lengths : (ps : List (List Command)) → commands_in ps ≡ sum (length ps) (λ k. length (get_or ps k []))
unfolding sum
lengths [] = refl
lengths (p ∷ ps) = omega (arith, lengths ps, sum-front (length ps) (λ k. length (get_or (p ∷ ps) k [])))

pub commands-whole : (b : Bundle) → command_count b ≡ whole b each
unfolding command_count whole whole_of programme_count programme_of
commands-whole b =
    lengths b.programmes ∙ sum-cong (length b.programmes) (λ k. length (get_or b.programmes k [])) (whole_of b each) (λ k h. sym (weigh-each (get_or b.programmes k [])))

module _ (s : Sheet) (bundle : List ℕ) (b : Bundle) (few : task_count s ≤ 256) (less : link_count s ≤ 1024) (small : programme_count b ≤ 16) (bytes : Bytes bundle)
    (read : read_bundle s bundle ≡ value b) (p : Published s b) where
  pub few-of-read : whole b each ≤ 3584
  few-of-read = omega (arith, few-commands s b p (read-formed s bundle b read).known)

  -- so its offsets fit words
  pub short-of-read : length bundle < 4294967296
  unfolding programme_count command_count
  short-of-read = omega (arith, rows_long (rows s (omega arith) bundle b bytes read), commands-whole b, few-of-read)
