-- The queue with one task more.
use Prim.Native.Nat.{ℕ, ◌+◌, ◌-◌, ◌*◌, ◌≤◌, ◌<◌}
use mathlib.Core.Path.{◌≡◌, ap, sym, ◌∙◌}
use mathlib.Core.Logic.{◌≢◌}
use mathlib.Core.List.{List}
use native.Mathlib.Omega.{arith}
use native.Mathlib.Decide.{dec_lt, ℕ_discrete}
use borrow.Author.Tests.{lt-ltb, le-ltb}
use lib.ListN.{length, get_or, set, length-set}
use lib.Seq.{get_or-set_same, get_or-set_other}
use lib.Dec.{ltb}
use Rattle.workspace.specs.Area.{fixed, marks_at, opened_at, queue_at}
use Rattle.folds.specs.Folds.{bit}
use Rattle.folds.proofs.Tests.{bit_le}
use Rattle.folds.proofs.Laws.{sum-le, sum-point}
use Rattle.topological_order.specs.Words.{Outside, Grown, place_in, degree_in, in_queue, Queued, pushed}
use Rattle.adjacency.proofs.Frames.{only_none, only_set}
use Rattle.graph.proofs.Reaches.{sum_less}
use Rattle.topological_order.proofs.Frames.{outside-none, outside_set}
use Rattle.topological_order.proofs.Places.{place-far, degree-far, place-put, degree-none}

pub in-queue : (w : List ℕ) (t : ℕ) → place_in w t < 256 → in_queue w t ≡ 1
unfolding in_queue
in-queue w t h = rw (lt-ltb (place_in w t) 256 h)

pub off-queue : (w : List ℕ) (t : ℕ) → 256 ≤ place_in w t → in_queue w t ≡ 0
unfolding in_queue
off-queue w t h = rw (le-ltb (place_in w t) 256 h)

-- a task of the queue is not one beside it
pub apart : (w : List ℕ) (t u : ℕ) → place_in w t < 256 → 256 ≤ place_in w u → t ≢ u
apart w t u h g e = let x : place_in w t ≡ place_in w u = ap (place_in w) e in absurd (omega arith)

in-queue-le : (w : List ℕ) (t : ℕ) → in_queue w t ≤ 1
unfolding in_queue
in-queue-le w t = bit_le (ltb (place_in w t) 256)

-- while a task is not in the queue there is room in it
pub queued-room : {n k : ℕ} {w : List ℕ} (u : ℕ) → Queued n k w → u < n → 256 ≤ place_in w u → k < n
queued-room {n} {k} {w} u q h l =
    let a = sum_less n (in_queue w) (λ t. 1) u (λ t p. in-queue-le w t) h (rw (off-queue w u l) (omega arith)) in
    omega (arith, q.count, sum-le n 1 (λ t. 1) (λ t p. omega arith))

pub queued-few : {n k : ℕ} {w : List ℕ} → Queued n k w → k ≤ n
queued-few {n} {k} {w} q = omega (arith, q.count, sum-le n 1 (in_queue w) (λ t p. in-queue-le w t))

-- a queue of n tasks holds all
pub queued-all : {n k : ℕ} {w : List ℕ} → Queued n k w → k ≡ n → (t : ℕ) → t < n → place_in w t < 256
queued-all {n} {k} {w} q e t h = go (dec_lt (place_in w t) 256)
  where
    go : Dec (place_in w t < 256) → place_in w t < 256
    go (yes l) = l
    go (no l) = absurd (omega (arith, queued-room t q h (omega arith)))

module _ (n k u : ℕ) (w : List ℕ) (few : n ≤ 256) (long : fixed ≤ length w) (u-in : u < n) (free : 256 ≤ place_in w u) (q : Queued n k w) where
  abbrev new : List ℕ
  new = set (set w (queue_at + k) u) (marks_at + u) (65536 * (256 - k))

  room : k < n
  room = queued-room u q u-in free

  queue-here : get_or new (queue_at + k) 0 ≡ u
  queue-here = let r = room in get_or-set_other (set w (queue_at + k) u) (marks_at + u) (queue_at + k) (65536 * (256 - k)) 0 (omega arith) ∙ get_or-set_same w (queue_at + k) u 0 (omega arith)

  queue-else : (j : ℕ) → j < k → get_or new (queue_at + j) 0 ≡ get_or w (queue_at + j) 0
  queue-else j h = let r = room in get_or-set_other (set w (queue_at + k) u) (marks_at + u) (queue_at + j) (65536 * (256 - k)) 0 (omega arith) ∙ get_or-set_other w (queue_at + k) (queue_at + j) u 0 (omega arith)

  place_here : place_in new u ≡ k
  place_here = let r = room in place-put (set w (queue_at + k) u) u (simp length-set (omega arith)) k (omega arith)

  place-else : (t : ℕ) → t < n → t ≢ u → place_in new t ≡ place_in w t
  place-else t g h = place-far (set w (queue_at + k) u) (marks_at + u) (65536 * (256 - k)) t (λ x. h (omega arith)) ∙ place-far w (queue_at + k) u t (omega arith)

  task' : (j : ℕ) → j < k + 1 → Dec (j ≡ k) → get_or new (queue_at + j) 0 < n
  task' j h (yes e) = rw (e, queue-here) u-in
  task' j h (no e) = rw (queue-else j (omega arith)) (q.task j (omega arith))

  place' : (j : ℕ) → j < k + 1 → Dec (j ≡ k) → place_in new (get_or new (queue_at + j) 0) ≡ j
  place' j h (yes e) = rw e (ap (place_in new) queue-here ∙ place_here)
  place' j h (no e) =
      let r = room in
      let old : place_in w (get_or w (queue_at + j) 0) ≡ j = q.place j (omega arith) in
      ap (place_in new) (queue-else j (omega arith)) ∙ place-else (get_or w (queue_at + j) 0) (q.task j (omega arith)) (apart w (get_or w (queue_at + j) 0) u (omega arith) free) ∙ old

  few' : (t : ℕ) → t < n → place_in new t < 256 → Dec (t ≡ u) → place_in new t < k + 1
  few' t h l (yes e) = rw (e, place_here) (omega arith)
  few' t h l (no e) = let p = place-else t h e in omega (arith, q.few t h (omega arith))

  back' : (t : ℕ) → t < n → place_in new t < 256 → Dec (t ≡ u) → get_or new (queue_at + place_in new t) 0 ≡ t
  back' t h l (yes e) = rw e (ap (λ (x : ℕ). get_or new (queue_at + x) 0) place_here ∙ queue-here)
  back' t h l (no e) =
      let p : place_in new t ≡ place_in w t = place-else t h e in
      let f = q.few t h (omega arith) in
      ap (λ (x : ℕ). get_or new (queue_at + x) 0) p ∙ queue-else (place_in w t) f ∙ q.back t h (omega arith)

  queue-same : (j : ℕ) → j < n → j ≢ u → in_queue new j ≡ in_queue w j
  unfolding in_queue
  queue-same j h d = ap (λ (x : ℕ). bit (ltb x 256)) (place-else j h d)

  queued-more : Queued n (k + 1) new
  queued-more =
      let r = room in
      let h : place_in new u < 256 = rw place_here (omega arith) in
      let one : in_queue new u ≡ in_queue w u + 1 = in-queue new u h ∙ sym (ap (λ (x : ℕ). x + 1) (off-queue w u free)) in
      record {
        task = λ j p. task' j p (ℕ_discrete j k);
        place = λ j p. place' j p (ℕ_discrete j k);
        few = λ t p l. few' t p l (ℕ_discrete t u);
        back = λ t p l. back' t p l (ℕ_discrete t u);
        count = ap (λ (x : ℕ). x + 1) q.count ∙ sym (sum-point n (in_queue w) (in_queue new) u 1 u-in one queue-same);
      }

  pub queued-push : Queued n (k + 1) (pushed w k u)
  unfolding pushed
  queued-push = queued-more

  pub push-here : place_in (pushed w k u) u ≡ k
  unfolding pushed
  push-here = place_here

  pub push_else : (t : ℕ) → t < n → t ≢ u → place_in (pushed w k u) t ≡ place_in w t
  unfolding pushed
  push_else = place-else

  -- no link out of u is left, and of the others as many as before
  pub push-none : degree_in (pushed w k u) u ≡ 0
  unfolding pushed
  push-none = degree-none (set w (queue_at + k) u) u (simp length-set (omega arith)) k

  pub push-due : (t : ℕ) → t < n → t ≢ u → degree_in (pushed w k u) t ≡ degree_in w t
  unfolding pushed
  push-due t g h = degree-far (set w (queue_at + k) u) (marks_at + u) (65536 * (256 - k)) t (λ x. h (omega arith)) ∙ degree-far w (queue_at + k) u t (omega arith)

  pub push-low : (i : ℕ) → i < marks_at → get_or (pushed w k u) i 0 ≡ get_or w i 0
  unfolding pushed
  push-low i h = get_or-set_other (set w (queue_at + k) u) (marks_at + u) i (65536 * (256 - k)) 0 (omega arith) ∙ get_or-set_other w (queue_at + k) i u 0 (omega arith)

  pub push-outside : Outside w (pushed w k u)
  unfolding pushed
  push-outside = let r = room in outside_set (marks_at + u) (65536 * (256 - k)) (omega arith) (omega arith) (outside_set (queue_at + k) u (omega arith) (omega arith) (outside-none w))

  pub push-grown : Grown k (k + 1) w (pushed w k u)
  unfolding pushed
  push-grown =
      let r = room in
      record {
        only = only_set (marks_at + u) (65536 * (256 - k)) (omega arith) (omega arith) (only_set (queue_at + k) u (omega arith) (omega arith) (only_none marks_at opened_at w));
        more = omega arith;
        queue = queue-else;
      }
