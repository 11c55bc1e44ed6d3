-- How long a bundle with the published messages is: two bytes for each run and release of a result, three for each command of a link, two for each programme and five for the claim.
use Prim.Native.Nat.{ℕ, zero, suc, ◌+◌, ◌*◌, ◌<◌, ◌≤◌}
use native.Mathlib.Omega.{arith}
use mathlib.Core.Bool.{true}
use mathlib.Core.Path.{◌≡◌, refl, subst}
use mathlib.Core.List.{List, [], ◌∷◌}
use lib.ListN.{length, get_or, take, length-append}
use lib.Seq.{take_all}
use Rattle.folds.specs.Folds.{sum}
use Rattle.folds.proofs.Laws.{sum-front, sum-add, sum-le, sum_mono, sum-swap, term-le-sum}
use Rattle.sheet.specs.Sheet.{Sheet, task_count, link_count}
use Rattle.bundle.specs.Bundle.{Bundle, Command, run, send, receive, release, discard, programme_count, programme_of}
use Rattle.bundle.specs.Writing.{command_bytes, programme_bytes, programmes_bytes, claim_bytes, bundle_bytes}
use Rattle.bundle.specs.Fits.{Known, Each}
use Rattle.bundle.specs.Lies.{size_of}
use Rattle.admission.specs.Counting.{weigh, whole_of, whole, is}
use Rattle.admission.specs.Releases.{is_release, gets}
use Rattle.admission.specs.Messages.{Published}
use Rattle.admission.proofs.Splits.{message-once}
use Rattle.admission.proofs.Weights.{is-refl}
use Rattle.admission.proofs.Rights.{all_right, within-got}
use Rattle.admission.proofs.Messages.{run-once}
use Rattle.admission.proofs.Few.{each_at}
use Rattle.releasing.proofs.Rests.{size-length}

programme-long : (p : List Command) → length (programme_bytes p) ≡ weigh size_of p
unfolding weigh
programme-long [] = refl
programme-long (c ∷ p) = omega (arith, length-append (command_bytes c) (programme_bytes p), size-length c, programme-long p)

programmes-long : (k : ℕ) (ps : List (List Command)) → length (programmes_bytes k ps) ≡ 2 * length ps + sum (length ps) (λ i. weigh size_of (get_or ps i []))
unfolding sum
programmes-long k [] = refl
programmes-long k (p ∷ ps) =
    omega (
      arith,
      length-append (programme_bytes p) (programmes_bytes (suc k) ps),
      programme-long p,
      programmes-long (suc k) ps,
      sum-front (length ps) (λ i. weigh size_of (get_or (p ∷ ps) i [])),
    )

bundle-long : (b : Bundle) → length (bundle_bytes b) ≡ 5 + 2 * programme_count b + whole b size_of
unfolding bundle_bytes programme_count whole whole_of programme_of
bundle-long b = omega (arith, length-append (programmes_bytes 0 b.programmes) (claim_bytes b.claim), programmes-long 0 b.programmes)

five : (n : ℕ) (f g h i j : ℕ → ℕ) → sum n (λ k. 2 * (f k + g k) + 3 * (h k + i k + j k)) ≡ 2 * (sum n f + sum n g) + 3 * (sum n h + sum n i + sum n j)
unfolding sum
five zero f g h i j = refl
five (suc n) f g h i j = omega (arith, five n f g h i j)

-- the commands that m makes of the numbers below n
module _ (n : ℕ) (m : ℕ → Command) where
  abbrev many : List Command → ℕ
  many p = sum n (λ x. weigh (is (m x)) p)

  many_more : (c : Command) (p : List Command) → many (c ∷ p) ≡ sum n (λ x. is (m x) c) + many p
  unfolding weigh
  many_more c p = sum-add n (λ x. is (m x) c) (λ x. weigh (is (m x)) p)

  one_at : (x : ℕ) → x < n → 1 ≤ sum n (λ y. is (m y) (m x))
  one_at x h = omega (arith, term-le-sum n (λ y. is (m y) (m x)) x h, is-refl (m x))

  over-all : (b : Bundle) → ((x : ℕ) → x < n → whole b (is (m x)) ≤ 1) → sum (programme_count b) (λ k. many (programme_of b k)) ≤ n
  unfolding whole whole_of
  over-all b h = omega (arith, sum-swap (programme_count b) n (λ k x. weigh (is (m x)) (programme_of b k)), sum-le n 1 (λ x. whole b (is (m x))) h)

module _ (s : Sheet) where
  abbrev runs : List Command → ℕ
  runs = many (task_count s) run

  abbrev frees : List Command → ℕ
  frees = many (task_count s) release

  abbrev sends : List Command → ℕ
  sends = many (link_count s) send

  abbrev takes : List Command → ℕ
  takes = many (link_count s) receive

  abbrev drops : List Command → ℕ
  drops = many (link_count s) discard

  by_size : (p : List Command) → Each (Known s) p → weigh size_of p ≤ 2 * (runs p + frees p) + 3 * (sends p + takes p + drops p)
  unfolding weigh
  by_size [] h = omega arith
  by_size (c ∷ p) h =
      by c h.0 (by_size p h.1) (many_more (task_count s) run c p) (many_more (task_count s) release c p) (many_more (link_count s) send c p) (many_more (link_count s) receive c p)
      (many_more (link_count s) discard c p)
    where
      by : (c : Command) → Known s c → weigh size_of p ≤ 2 * (runs p + frees p) + 3 * (sends p + takes p + drops p) → runs (c ∷ p) ≡ sum (task_count s) (λ x. is (run x) c) + runs p
          → frees (c ∷ p) ≡ sum (task_count s) (λ x. is (release x) c) + frees p → sends (c ∷ p) ≡ sum (link_count s) (λ x. is (send x) c) + sends p
          → takes (c ∷ p) ≡ sum (link_count s) (λ x. is (receive x) c) + takes p → drops (c ∷ p) ≡ sum (link_count s) (λ x. is (discard x) c) + drops p
          → size_of c + weigh size_of p ≤ 2 * (runs (c ∷ p) + frees (c ∷ p)) + 3 * (sends (c ∷ p) + takes (c ∷ p) + drops (c ∷ p))
      by (run x) k i e f g u v = omega (arith, one_at (task_count s) run x k)
      by (send x) k i e f g u v = omega (arith, one_at (link_count s) send x k)
      by (receive x) k i e f g u v = omega (arith, one_at (link_count s) receive x k)
      by (release x) k i e f g u v = omega (arith, one_at (task_count s) release x k)
      by (discard x) k i e f g u v = omega (arith, one_at (link_count s) discard x k)

  module _ (b : Bundle) (p : Published s b) where
    -- a release stands no more often than what it releases
    freed-once : (x : Command) → is_release x ≡ true → whole b (is x) ≤ whole b (is (gets x))
    unfolding whole whole_of
    freed-once x h =
        sum_mono (programme_count b) (whole_of b (is x)) (whole_of b (is (gets x)))
        (λ k l.
        let q = programme_of b k in
        let e : take (length q) q ≡ q = take_all (length q) q (omega arith) in
        subst (λ (y : List Command). weigh (is x) y ≤ weigh (is (gets x)) y) e (within-got s q (all_right s b p.releases k) x h (length q)))

    all-sizes : Each (Each (Known s)) b.programmes → whole b size_of ≤ 4 * task_count s + 9 * link_count s
    unfolding whole whole_of programme_count programme_of
    all-sizes known =
        let n = programme_count b in
        let at : (List Command → ℕ) → ℕ → ℕ = λ f k. f (programme_of b k) in
        let once : (t : ℕ) → t < task_count s → whole b (is (run t)) ≤ 1 = λ t h. omega (arith, run-once s b p.once t h) in
        let per : ℕ → ℕ = λ k. 2 * (at runs k + at frees k) + 3 * (at sends k + at takes k + at drops k) in
        omega (
          arith,
          sum_mono n (whole_of b size_of) per (λ k h. by_size (programme_of b k) (each_at (Each (Known s)) [] b.programmes k known h)),
          five n (at runs) (at frees) (at sends) (at takes) (at drops),
          over-all (task_count s) run b once,
          over-all (task_count s) release b (λ t h. omega (arith, freed-once (release t) refl, once t h)),
          over-all (link_count s) send b (λ l h. (message-once s b p.messages l h).0),
          over-all (link_count s) receive b (λ l h. (message-once s b p.messages l h).1),
          over-all (link_count s) discard b (λ l h. omega (arith, freed-once (discard l) refl, (message-once s b p.messages l h).1)),
        )

    -- "a passed bundle has at most 10,277 bytes"
    pub published-long : Each (Each (Known s)) b.programmes → task_count s ≤ 256 → link_count s ≤ 1024 → programme_count b ≤ 16 → length (bundle_bytes b) ≤ 10277
    published-long known few less small = omega (arith, bundle-long b, all-sizes known)
