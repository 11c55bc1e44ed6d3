-- One draw further, and so many; a task and a try by their draws.
use Rattle.std.proofs.Common.{◌≡◌, ℕ, zero, suc, ◌+◌, ◌*◌, ◌%◌, ◌^◌, List, refl, ap, ◌∙◌, ap₂, arith}
use Rattle.sheet.specs.Sheet.{Link}
use Rattle.sheet.specs.Tables.{task_words}
use Rattle.generator.specs.Draw.{xorshift, next_of, draw_of, start_of, after, drawn}
use Rattle.generator.specs.Load.{task_behind, try_behind, task_at, try_at}
use Rattle.generator.specs.declared.draws.Draws.{Draws}

pub next-is : (d : Draws) (x y : ℕ) → x ≡ xorshift d.shifted → y ≡ (d.grown + 362437) % 2 ^ 32 → record { shifted = x; grown = y } ≡ next_of d
unfolding next_of
next-is d x y p q = λ i. record { shifted = p i; grown = q i }

pub after_none : (d : Draws) → d ≡ after 0 d
unfolding after
after_none d = refl

-- so many draws behind so many others
pub after-add : (m n : ℕ) (d : Draws) → after m (after n d) ≡ after (n + m) d
unfolding after
after-add zero n d = ap (λ (k : ℕ). after k d) {x = n} {y = n + 0} (omega arith)
after-add (suc m) n d =
    let e : suc (n + m) ≡ n + suc m = omega arith in
    ap next_of (after-add m n d) ∙ ap (λ (k : ℕ). after k d) e

-- two draws
module _ (d e f : Draws) (p : e ≡ next_of d) (q : f ≡ next_of e) where
  pub first-is : (x : ℕ) → x ≡ draw_of e → x ≡ drawn 1 d
  unfolding drawn after
  first-is x r = r ∙ ap draw_of p

  pub second-states : f ≡ after 2 d
  unfolding after
  second-states = q ∙ ap next_of p

  pub second_is : (x : ℕ) → x ≡ draw_of f → x ≡ drawn 2 d
  unfolding drawn
  second_is x r = r ∙ ap draw_of second-states

  -- a task's words by its draws
  pub task-put : (w w' : List ℕ) (i x y : ℕ) → x ≡ draw_of e → y ≡ draw_of f → w' ≡ task_words w i (1 + x % 100) (y % 64)
      → (f ≡ after 2 d) × (w' ≡ task_words w i (task_behind d).work (task_behind d).store)
  unfolding task_behind
  task-put w w' i x y r s h =
      (second-states, h ∙ ap₂ (λ (a b : ℕ). task_words w i (1 + a % 100) (b % 64)) (first-is x r) (second_is y s))

  -- and two more
  module _ (g k : Draws) (p₂ : g ≡ next_of f) (q₂ : k ≡ next_of g) where
    pub fourth-states : k ≡ after 4 d
    unfolding after
    fourth-states = q₂ ∙ ap next_of (p₂ ∙ ap next_of second-states)

    -- a try's link by its draws
    pub try-is : (n x y u v : ℕ) → x ≡ draw_of e → y ≡ draw_of f → u ≡ draw_of g → v ≡ draw_of k
        → ◌≡◌ {A = Link} (record { source = x % n; target = y % n; cost = u % 50; bytes = v % 16 }) (try_behind n d)
    unfolding try_behind drawn after
    try-is n x y u v r s t z =
        let third : u ≡ drawn 3 d = t ∙ ap draw_of (p₂ ∙ ap next_of second-states) in
        let fourth : v ≡ drawn 4 d = z ∙ ap draw_of fourth-states in
        λ i. record { source = first-is x r i % n; target = second_is y s i % n; cost = third i % 50; bytes = fourth i % 16 }

-- the next task and the next try, by the states
pub task-at : (seed i : ℕ) (d : Draws) → d ≡ after (2 * i) (start_of seed) → task_behind d ≡ task_at seed i
unfolding task_at
task-at seed i d e = ap task_behind e

pub try-at : (seed n j : ℕ) (d : Draws) → d ≡ after (2 * n + 4 * j) (start_of seed) → try_behind n d ≡ try_at seed n j
unfolding try_at
try-at seed n j d e = ap (try_behind n) e

pub states-on : (m k k' : ℕ) (s d e : Draws) → d ≡ after k s → e ≡ after m d → k + m ≡ k' → e ≡ after k' s
states-on m k k' s d e p q r = q ∙ ap (after m) p ∙ after-add m k s ∙ ap (λ (x : ℕ). after x s) r
