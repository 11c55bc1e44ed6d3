-- Lines: how long each is, and that its parts put one behind the other are the line.
use Prim.Native.Nat.{ℕ, zero, suc, ◌+◌, ◌*◌, ◌≤◌, ◌<◌}
use mathlib.Core.Path.{◌≡◌, sym, ap, ap₂}
use mathlib.Core.List.{List, ◌++◌, append_assoc}
use native.Mathlib.Omega.{arith}
use lib.ListN.{length, get_or, length-append}
use Rattle.workspace.specs.Area.{finishes_at}
use Rattle.folds.specs.Folds.{bit, gather}
use Rattle.folds.proofs.Tests.{pick-le}
use Rattle.folds.proofs.Laws.{sum-le}
use Rattle.folds.proofs.Lists.{gather-part}
use Rattle.folds.proofs.Loops.{gather-zero, gather-one}
use Rattle.sheet.specs.Sheet.{Sheet, task_count}
use Rattle.sheet.specs.Tables.{sheet_in, Loaded}
use Rattle.sheet.proofs.Rows.{ranged}
use Rattle.planner.specs.Schedule.{Schedule, place_of, start_of, finish_of}
use Rattle.planner.specs.Placing.{is_open}
use Rattle.planner.specs.Planner.{running, claim_of}
use Rattle.schedule.specs.Layout.{schedule_in}
use Rattle.schedule.proofs.Rows.{start-in, finish-in}
use Rattle.listing.specs.Listing.{decimal, field, line_end, plan_word, refused_word, plan_line, task_line, refusal_line, schedule_lines}
use Rattle.listing_writer.specs.Lines.{two_fields, Standing}
use Rattle.numbers.specs.Number.{Put}
use Rattle.numbers.proofs.Puts.{put_then, put_as, put-none}
use Rattle.listing_writer.proofs.Digits.{decimal-length, decimal-short}

-- no more processors run a task than the board has
pub running-few : (s : Sheet) (σ : Schedule) → running s σ ≤ s.processors
unfolding running
running-few s σ = omega (arith, sum-le s.processors 1 (λ k. bit (is_open s σ k)) (λ k h. pick-le (is_open s σ k) 1 0 1 (omega arith) (omega arith)))

-- lengths
pub fields-length : (a b : ℕ) → length (two_fields a b) ≡ 3 + length (decimal a) + length (decimal b)
unfolding two_fields
fields-length a b = omega (arith, length-append (decimal a) (field b ++ line_end), length-append (decimal b) line_end)

pub plan-length : (s : Sheet) (σ : Schedule) → length (plan_line s σ) ≡ 7 + length (decimal (running s σ)) + length (decimal (claim_of s σ))
unfolding plan_line two_fields
plan-length s σ = omega (arith, length-append plan_word (two_fields (running s σ) (claim_of s σ)), fields-length (running s σ) (claim_of s σ))

pub refusal-length : (number place : ℕ) → length (refusal_line number place) ≡ 10 + length (decimal number) + length (decimal place)
unfolding refusal_line two_fields
refusal-length number place = omega (arith, length-append refused_word (two_fields number place), fields-length number place)

pub task-length : (σ : Schedule) (t : ℕ)
    → length (task_line σ t) ≡ 4 + length (decimal t) + length (decimal (place_of σ t)) + length (decimal (start_of σ t)) + length (decimal (finish_of σ t))
unfolding task_line two_fields
task-length σ t =
    omega (
      arith,
      length-append (decimal t) (field (place_of σ t) ++ two_fields (start_of σ t) (finish_of σ t)),
      length-append (field (place_of σ t)) (two_fields (start_of σ t) (finish_of σ t)),
      fields-length (start_of σ t) (finish_of σ t),
    )

pub schedule-length : (s : Sheet) (σ : Schedule) → length (schedule_lines s σ) ≡ length (plan_line s σ) + length (gather (task_count s) (task_line σ))
unfolding schedule_lines
schedule-length s σ = length-append (plan_line s σ) (gather (task_count s) (task_line σ))

-- one line more
pub needed-more : (f : ℕ → List ℕ) (a n r t : ℕ) → n ≡ a + length (gather t f) → r ≡ length (f t) → n + r ≡ a + length (gather (t + 1) f)
needed-more f a n r t p q = omega (arith, p, q, ap length (gather-one t f), length-append (gather t f) (f t))

-- the digits of a number that was read
pub digits_of : {x y : ℕ} → x ≡ y → length (decimal x) ≡ length (decimal y)
digits_of e = ap (λ (k : ℕ). length (decimal k)) e

-- the parts of each line
put_three : {b m₁ m₂ r : List ℕ} {at i j k : ℕ} {u v w : List ℕ} → at ≤ length b → Put b at u m₁ i → Put m₁ i v m₂ j → Put m₂ j w r k → Put b at (u ++ (v ++ w)) r k
put_three {u = u} {v = v} {w = w} h p q s = put_as (append_assoc u v w) (put_then h (put_then h p q) s)

pub fields-put : {b m₁ m₂ r : List ℕ} {at i j k : ℕ} (x y : ℕ) → at ≤ length b → Put b at (field x) m₁ i → Put m₁ i (field y) m₂ j → Put m₂ j line_end r k → Put b at (two_fields x y) r k
unfolding two_fields
fields-put x y h p q s = put_three h p q s

pub plan-put : {b m r : List ℕ} {i j x y : ℕ} (s : Sheet) (σ : Schedule) → x ≡ running s σ → y ≡ claim_of s σ → Put b 0 plan_word m i → Put m i (two_fields x y) r j → Put b 0 (plan_line s σ) r j
unfolding plan_line two_fields
plan-put s σ d e p q = put_then (omega arith) p (put_as (ap₂ two_fields d e) q)

pub refusal-put : {b m r : List ℕ} {i j : ℕ} (number place : ℕ) → Put b 0 refused_word m i → Put m i (two_fields number place) r j → Put b 0 (refusal_line number place) r j
unfolding refusal_line two_fields
refusal-put number place p q = put_then (omega arith) p q

pub task-put : {b m₁ m₂ r : List ℕ} {at i j k x y z : ℕ} (σ : Schedule) (t : ℕ) → at ≤ length b → x ≡ place_of σ t → y ≡ start_of σ t → z ≡ finish_of σ t
    → Put b at (decimal t) m₁ i → Put m₁ i (field x) m₂ j → Put m₂ j (two_fields y z) r k → Put b at (task_line σ t) r k
unfolding task_line two_fields
task-put σ t h d e f p q s = put_three h p (put_as (ap field d) q) (put_as (ap₂ two_fields e f) s)

-- room for the parts of a line that has room
pub fields-room : (b m₁ : List ℕ) {at i : ℕ} (x y : ℕ) → at + length (two_fields x y) ≤ length b → Put b at (field x) m₁ i → length m₁ ≡ length b
    → i + length (field y) ≤ length m₁
fields-room b m₁ x y h p e = omega (arith, fields-length x y, p.next)

pub end-room : (b m₁ m₂ : List ℕ) {at i j : ℕ} (x y : ℕ) → at + length (two_fields x y) ≤ length b → Put b at (field x) m₁ i → length m₁ ≡ length b
    → Put m₁ i (field y) m₂ j → length m₂ ≡ length m₁ → j < length m₂
end-room b m₁ m₂ x y h p e q f = omega (arith, fields-length x y, p.next, q.next)

pub plan-room : (b m : List ℕ) {i : ℕ} (s : Sheet) (σ : Schedule) (x y : ℕ) → x ≡ running s σ → y ≡ claim_of s σ → length (plan_line s σ) ≤ length b
    → Put b 0 plan_word m i → length m ≡ length b → i + length (two_fields x y) ≤ length m
plan-room b m s σ x y d e h p k = omega (arith, fields-length x y, plan-length s σ, digits_of d, digits_of e, p.next)

pub refusal-room : (b m : List ℕ) {i : ℕ} (number place : ℕ) → length (refusal_line number place) ≤ length b
    → Put b 0 refused_word m i → length m ≡ length b → i + length (two_fields number place) ≤ length m
refusal-room b m number place h p k = omega (arith, fields-length number place, refusal-length number place, p.next)

module _ (b : List ℕ) {at : ℕ} (σ : Schedule) (t x y z : ℕ) (d : x ≡ place_of σ t) (e : y ≡ start_of σ t) (f : z ≡ finish_of σ t) (h : at + length (task_line σ t) ≤ length b) where
  pub task-room : (m₁ : List ℕ) {i : ℕ} → Put b at (decimal t) m₁ i → length m₁ ≡ length b → i + length (field x) ≤ length m₁
  task-room m₁ p k = omega (arith, task-length σ t, digits_of d, p.next)

  pub times-room : (m₁ m₂ : List ℕ) {i j : ℕ} → Put b at (decimal t) m₁ i → length m₁ ≡ length b → Put m₁ i (field x) m₂ j → length m₂ ≡ length m₁ → j + length (two_fields y z) ≤ length m₂
  times-room m₁ m₂ p k q l = omega (arith, task-length σ t, fields-length y z, digits_of d, digits_of e, digits_of f, p.next, q.next)

pub tasks-room : (b m : List ℕ) {at i : ℕ} (f : ℕ → List ℕ) (n t : ℕ) → at + length (gather n f) ≤ length b → t < n → Put b at (gather t f) m i → length m ≡ length b → i + length (f t) ≤ length m
tasks-room b m f n t h l p k = omega (arith, gather-part n f t l, p.next)

pub schedule-room : (b m : List ℕ) {i : ℕ} (s : Sheet) (σ : Schedule) → length (schedule_lines s σ) ≤ length b → Put b 0 (plan_line s σ) m i → length m ≡ length b
    → i + length (gather (task_count s) (task_line σ)) ≤ length m
schedule-room b m s σ h p k = omega (arith, schedule-length s σ, p.next)

-- the lines of tasks, one by one
pub tasks-none : (f : ℕ → List ℕ) (b : List ℕ) (at : ℕ) → at ≤ length b → Put b at (gather 0 f) b at
tasks-none f b at h = put_as (sym (gather-zero f)) (put-none b at)

pub tasks-more : {b m r : List ℕ} {at i j : ℕ} (f : ℕ → List ℕ) (t : ℕ) → at ≤ length b → Put b at (gather t f) m i → Put m i (f t) r j → Put b at (gather (t + 1) f) r j
tasks-more f t h p q = put_as (sym (gather-one t f)) (put_then h p q)

pub schedule-put : {b m r : List ℕ} {i j : ℕ} (s : Sheet) (σ : Schedule) → Put b 0 (plan_line s σ) m i → Put m i (gather (task_count s) (task_line σ)) r j → Put b 0 (schedule_lines s σ) r j
unfolding schedule_lines
schedule-put s σ p q = put_then (omega arith) p q

pub tasks-all : {b m : List ℕ} {at i : ℕ} (f : ℕ → List ℕ) (t n : ℕ) → Put b at (gather t f) m i → t ≡ n → Put b at (gather n f) m i
tasks-all f t n p e = put_as (ap (λ (k : ℕ). gather k f) e) p

-- the length of all lines, one by one
pub needed-none : (a : ℕ) (f : ℕ → List ℕ) → a ≡ a + length (gather 0 f)
needed-none a f = omega (arith, ap length (gather-zero f))

pub needed-all : (s : Sheet) (σ : Schedule) (t a n : ℕ) → a ≡ length (plan_line s σ) → n ≡ a + length (gather t (task_line σ)) → t ≡ task_count s → n ≡ length (schedule_lines s σ)
needed-all s σ t a n p q e = omega (arith, schedule-length s σ, ap (λ (k : ℕ). length (gather k (task_line σ))) e)

-- 29 bytes are enough for each line
gather-most : (f : ℕ → List ℕ) (n : ℕ) → ((t : ℕ) → t < n → length (f t) ≤ 29) → length (gather n f) ≤ 29 * n
unfolding gather
gather-most f zero h = omega arith
gather-most f (suc n) h = omega (arith, length-append (gather n f) (f n), gather-most f n (λ t l. h t (omega arith)), h n (omega arith))

module _ (w : List ℕ) (loaded : Loaded w) (standing : Standing (sheet_in w) (schedule_in w)) (words : (i : ℕ) → get_or w i 0 < 4294967296) where
  line-most : (t : ℕ) → t < task_count (sheet_in w) → length (task_line (schedule_in w) t) ≤ 29
  line-most t h =
      omega (
        arith,
        task-length (schedule_in w) t,
        decimal-short 2 t (omega (arith, (ranged w loaded).few_tasks)),
        decimal-short 1 (place_of (schedule_in w) t) (omega (arith, standing.places t h)),
        decimal-short 9 (start_of (schedule_in w) t) (omega (arith, start-in w t h, words (finishes_at + t))),
        decimal-short 9 (finish_of (schedule_in w) t) (omega (arith, finish-in w t h, words (finishes_at + t))),
      )

  pub schedule-most : length (schedule_lines (sheet_in w) (schedule_in w)) ≤ 29 * (task_count (sheet_in w) + 1)
  schedule-most =
      omega (
        arith,
        schedule-length (sheet_in w) (schedule_in w),
        plan-length (sheet_in w) (schedule_in w),
        decimal-short 1 (running (sheet_in w) (schedule_in w)) (omega (arith, running-few (sheet_in w) (schedule_in w), (ranged w loaded).few_processors)),
        decimal-length (claim_of (sheet_in w) (schedule_in w)),
        gather-most (task_line (schedule_in w)) (task_count (sheet_in w)) line-most,
      )
