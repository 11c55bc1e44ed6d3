-- C-12's order as tests: which bundle is ahead, and which bytes are lower.
use Prim.Native.Nat.{ℕ, ◌≤◌, ◌<◌}
use native.Mathlib.Omega.{arith}
use native.Mathlib.Decide.{dec_lt}
use mathlib.Core.Bool.{Bool, true, false, true≢false}
use mathlib.Core.Path.{◌≡◌, refl, sym, ap, ◌∙◌}
use mathlib.Core.Logic.{◌⊎◌, inl, inr}
use mathlib.Core.List.{List, ◌∷◌}
use borrow.Author.Tests.{lt-ltb, le-ltb}
use Rattle.folds.specs.Folds.{pick}
use Rattle.bundle.specs.Bundle.{Bundle}
use Rattle.bundle.specs.Writing.{bundle_bytes}
use Rattle.better.specs.Orders.{by_number, by_bytes, by_rank}
use Rattle.better.specs.Ranks.{runners}
use Rattle.better.specs.Choices as choices
use Rattle.std.specs.declared.cmp.Ordering.{Ordering as Order}
use Rattle.std.specs.declared.cmp.Ordering.TheVariants.{Less, Equal, Greater}
use Rattle.better.proofs.Chains.{turned, Ordered, ranked-by, bytes, bytes_same, rank_same, strict}
use Rattle.least.specs.Ranking.{rank, order, choice, is_less, ahead, lower}

-- equal numbers tell nothing
same_number : (x y : ℕ) → x ≡ y → by_number x y ≡ Equal
same_number x y e = simp (le-ltb x y (omega arith), le-ltb y x (omega arith))

pub lower-less : (x y : ℕ) (xs ys : List ℕ) → x < y → lower (x ∷ xs) (y ∷ ys) ≡ true
unfolding lower by_bytes
lower-less x y xs ys h = rw (lt-ltb x y h)

pub lower-more : (x y : ℕ) (xs ys : List ℕ) → y < x → lower (x ∷ xs) (y ∷ ys) ≡ false
unfolding lower by_bytes
lower-more x y xs ys h = simp (le-ltb x y (omega arith), lt-ltb y x h)

pub lower-rest : (x y : ℕ) (xs ys : List ℕ) → x ≡ y → lower (x ∷ xs) (y ∷ ys) ≡ lower xs ys
unfolding lower by_bytes
lower-rest x y xs ys h = simp (le-ltb x y (omega arith), le-ltb y x (omega arith))

-- of two lists of bytes one is lower, unless they are equal
pub comparable : (x y : List ℕ) → (lower x y ≡ true) ⊎ ((x ≡ y) ⊎ (lower y x ≡ true))
unfolding lower
comparable x y = go (by_bytes x y) refl
  where
    go : (o : Order) → by_bytes x y ≡ o → (is_less (by_bytes x y) ≡ true) ⊎ ((x ≡ y) ⊎ (is_less (by_bytes y x) ≡ true))
    go Less e = inl (ap is_less e)
    go Equal e = inr (inl (bytes_same x y e))
    go Greater e = inr (inr (ap is_less ((bytes (List ℕ) (λ a. a)).turns x y ∙ ap turned e)))

-- of bundles
ordered : Ordered Bundle order
unfolding order
ordered = ranked-by Bundle rank

pub not-better : (a b : Bundle) → ahead a b ≡ false → order a b ≡ Less → ⊥
unfolding ahead
not-better a b e f = true≢false (sym (ap is_less f) ∙ e)

pub ahead-self : (a : Bundle) → ahead a a ≡ false
unfolding ahead order
ahead-self a = go (order a a) refl
  where
    go : (o : Order) → order a a ≡ o → is_less o ≡ false
    go Less e = absurd (strict (rank a) e)
    go Equal e = refl
    go Greater e = refl

-- not ahead is transitive
pub not-ahead : (a b c : Bundle) → ahead b a ≡ false → ahead c b ≡ false → ahead c a ≡ false
unfolding ahead
not-ahead a b c e f = go (order c a) (order c b) refl refl
  where
    go : (o u : Order) → order c a ≡ o → order c b ≡ u → is_less o ≡ false
    go Equal u p q = refl
    go Greater u p q = refl
    go Less Less p q = absurd (true≢false (sym (ap is_less q) ∙ f))
    go Less Equal p q = absurd (true≢false (ap is_less (sym p ∙ ordered.alike c b a q) ∙ e))
    go Less Greater p q = absurd (true≢false (sym (ap is_less (ordered.chain b c a (ordered.turns c b ∙ ap turned q) p)) ∙ e))

-- neither ahead: of the same rank
pub level-rank : (a b : Bundle) → ahead a b ≡ false → ahead b a ≡ false → rank a ≡ rank b
unfolding ahead order
level-rank a b e f = go (order a b) refl
  where
    go : (o : Order) → order a b ≡ o → rank a ≡ rank b
    go Less q = absurd (true≢false (sym (ap is_less q) ∙ e))
    go Equal q = rank_same (rank a) (rank b) q
    go Greater q = absurd (true≢false (sym (ap is_less (ordered.turns a b ∙ ap turned q)) ∙ f))

-- by the claim; where that tells nothing by the processors that run a task; and then by the bytes
pub ahead_lower : (a b : Bundle) → a.claim < b.claim → ahead a b ≡ true
unfolding ahead order by_rank
ahead_lower a b h = simp (lt-ltb a.claim b.claim h)

pub ahead-higher : (a b : Bundle) → b.claim < a.claim → ahead a b ≡ false
unfolding ahead order by_rank
ahead-higher a b h = simp (le-ltb a.claim b.claim (omega arith), lt-ltb b.claim a.claim h)

pub ahead-fewer : (a b : Bundle) → a.claim ≡ b.claim → runners a < runners b → ahead a b ≡ true
unfolding ahead order by_rank
ahead-fewer a b e h = simp (same_number a.claim b.claim e, lt-ltb (runners a) (runners b) h)

pub ahead_more : (a b : Bundle) → a.claim ≡ b.claim → runners b < runners a → ahead a b ≡ false
unfolding ahead order by_rank
ahead_more a b e h = simp (same_number a.claim b.claim e, le-ltb (runners a) (runners b) (omega arith), lt-ltb (runners b) (runners a) h)

pub ahead-bytes : (a b : Bundle) → a.claim ≡ b.claim → runners a ≡ runners b → ahead a b ≡ lower (bundle_bytes a) (bundle_bytes b)
unfolding ahead order by_rank lower
ahead-bytes a b e f = simp (same_number a.claim b.claim e, same_number (runners a) (runners b) f)

-- the better claims no more
pub ahead-claim : (a b : Bundle) → ahead b a ≡ false → a.claim ≤ b.claim
ahead-claim a b e = go (dec_lt b.claim a.claim)
  where
    go : Dec (b.claim < a.claim) → a.claim ≤ b.claim
    go (yes h) = absurd (true≢false (sym (ahead_lower b a h) ∙ e))
    go (no h) = omega arith

-- the choice as one test: the second if it is ahead
pub choice-by : (a b : Bundle) → choice a b ≡ pick (ahead b a) b a
unfolding choice ahead
choice-by a b = go (order a b) refl
  where
    go : (o : Order) → order a b ≡ o → choices.of_side a b (choices.ahead o) ≡ pick (is_less (order b a)) b a
    go Less e = rw (ordered.turns a b ∙ ap turned e)
    go Equal e = rw (ordered.turns a b ∙ ap turned e)
    go Greater e = rw (ordered.turns a b ∙ ap turned e)

pub choice-first : (a b : Bundle) → ahead a (choice a b) ≡ false
unfolding ahead
choice-first a b = rw (choice-by a b) (go (order b a) refl)
  where
    go : (o : Order) → order b a ≡ o → is_less (order a (pick (is_less o) b a)) ≡ false
    go Less e = ap is_less (ordered.turns b a ∙ ap turned e)
    go Equal e = ahead-self a
    go Greater e = ahead-self a

pub choice-second : (a b : Bundle) → ahead b (choice a b) ≡ false
choice-second a b = rw (choice-by a b) (go (ahead b a) refl)
  where
    go : (x : Bool) → ahead b a ≡ x → ahead b (pick x b a) ≡ false
    go true e = ahead-self b
    go false e = e

pub choice-one : (a b : Bundle) → (choice a b ≡ a) ⊎ (choice a b ≡ b)
choice-one a b = rw (choice-by a b) (go (ahead b a))
  where
    go : (x : Bool) → (pick x b a ≡ a) ⊎ (pick x b a ≡ b)
    go true = inr refl
    go false = inl refl
