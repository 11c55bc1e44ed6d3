-- What `leading` finds, and what every placing step finds: a processor of the board on which the task fits.
use Prim.Native.Nat.{ℕ, zero, suc, ◌≤◌, ◌<◌}
use native.Mathlib.Omega.{arith}
use mathlib.Core.Bool.{Bool, true, false, not}
use mathlib.Core.Option.{Option, none, some}
use mathlib.Core.Path.{◌≡◌, refl, sym, ap, ◌∙◌}
use mathlib.Core.Logic.{◌⊎◌, inl, inr, ⊎_elim}
use lib.Dec.{ltb}
use Rattle.folds.specs.Folds.{pick, both, first, leading, least, prefer, or_else, is_some}
use Rattle.folds.proofs.Tests.{below_suc, both-parts, not_some}
use Rattle.folds.proofs.Laws.{first_some}
use Rattle.sheet.specs.Sheet.{Sheet}
use Rattle.planner.specs.Schedule.{Schedule}
use Rattle.planner.specs.Placing.{fits, holds_predecessor, is_open}
use Rattle.planner.specs.Planner.{may_join, join, may_take, idle, may_open, another, may_share, share, may_crowd, last_resort, choice}

pick-or : {A : Type 0} (b : Bool) (x y z : A) → pick b x y ≡ z → (x ≡ z) ⊎ (y ≡ z)
pick-or true x y z e = inl e
pick-or false x y z e = inr e

pub leading-some : (n : ℕ) (p : ℕ → Bool) (a : ℕ → ℕ → Bool) (i : ℕ) → leading n p a ≡ some i → (i < n) × (p i ≡ true)
unfolding leading
leading-some zero p a i e = not_some e
leading-some (suc n) p a i e = go (leading n p a) (p n) refl refl e (leading-some n p a i)
  where
    here : p n ≡ true → some n ≡ some i → (i < suc n) × (p i ≡ true)
    here c f = let z : n ≡ i = cc in (omega arith, rw z at c)

    go : (o : Option ℕ) (b : Bool) → leading n p a ≡ o → p n ≡ b → pick b (prefer a n o) o ≡ some i → (leading n p a ≡ some i → (i < n) × (p i ≡ true)) → (i < suc n) × (p i ≡ true)
    go none true q c f r = here c f
    go none false q c f r = not_some f
    go (some j) false q c f r = let m = r (q ∙ f) in (omega arith, m.1)
    go (some j) true q c f r = ⊎_elim (here c) (λ g. let m = r (q ∙ g) in (omega arith, m.1)) (pick-or (a n j) (some n) (some j) (some i) f)

pub leading-none : (n : ℕ) (p : ℕ → Bool) (a : ℕ → ℕ → Bool) → leading n p a ≡ none → (i : ℕ) → i < n → p i ≡ false
unfolding leading
leading-none zero p a e i h = absurd (omega arith)
leading-none (suc n) p a e i h = go (leading n p a) (p n) refl refl e (λ q l. leading-none n p a q i l)
  where
    go : (o : Option ℕ) (b : Bool) → leading n p a ≡ o → p n ≡ b → pick b (prefer a n o) o ≡ none → (leading n p a ≡ none → i < n → p i ≡ false) → p i ≡ false
    go none true q c f r = not_some (sym f)
    go none false q c f r = ⊎_elim (r q) (λ g. ap p g ∙ c) (below_suc h)
    go (some j) false q c f r = not_some (sym f)
    go (some j) true q c f r = ⊎_elim (λ g. not_some (sym g)) (λ g. not_some (sym g)) (pick-or (a n j) (some n) (some j) none f)

-- folds of what is alike
pub leading-cong : (n : ℕ) (p q : ℕ → Bool) (a b : ℕ → ℕ → Bool) → ((i : ℕ) → i < n → p i ≡ q i) → ((i j : ℕ) → a i j ≡ b i j) → leading n p a ≡ leading n q b
unfolding leading
leading-cong zero p q a b f g = refl
leading-cong (suc n) p q a b f g = rw (f n (omega arith), leading-cong n p q a b (λ i l. f i (omega arith)) g) (by (q n) (leading n q b))
  where
    by : (u : Bool) (o : Option ℕ) → pick u (prefer a n o) o ≡ pick u (prefer b n o) o
    by true none = refl
    by true (some j) = rw (g n j)
    by false o = refl

pub least-cong : (n : ℕ) (p q : ℕ → Bool) (f g : ℕ → ℕ) → ((i : ℕ) → i < n → p i ≡ q i) → ((i : ℕ) → f i ≡ g i) → least n p f ≡ least n q g
unfolding least
least-cong n p q f g h e = leading-cong n p q (λ a b. ltb (f a) (f b)) (λ a b. ltb (g a) (g b)) h (λ i j. rw (e i, e j))

pub or_else-some : (o u : Option ℕ) (k : ℕ) → or_else o u ≡ some k → (o ≡ some k) ⊎ (u ≡ some k)
or_else-some none u k e = inr e
or_else-some (some j) u k e = inl e

-- k is on the board, and t fits it
pub record Room (s : Sheet) (σ : Schedule) (t k : ℕ) : Type 0 where
  pub board : k < s.processors
  pub fit : fits s σ t k ≡ true

module _ (s : Sheet) (guard : Schedule → ℕ → ℕ → Bool) (σ : Schedule) (t k : ℕ) where
  found : (n : ℕ) (p : ℕ → Bool) (a : ℕ → ℕ → Bool) → n ≤ s.processors → (p k ≡ true → fits s σ t k ≡ true) → leading n p a ≡ some k → Room s σ t k
  found n p a h f e = let m = leading-some n p a k e in record { board = omega arith; fit = f m.1 }

  open-fits : (b : Bool) → both (both (is_open s σ k) (fits s σ t k)) b ≡ true → fits s σ t k ≡ true
  open-fits b e = (both-parts (is_open s σ k) _ (both-parts (both (is_open s σ k) (fits s σ t k)) b e).0).1

  shared : (amended : Bool) → σ.opened ≤ s.processors → pick amended (share s guard σ t) none ≡ some k → Room s σ t k
  unfolding share may_share
  shared false h e = not_some e
  shared true h e = go (is_some (another s guard σ t)) e
    where
      go : (b : Bool) → pick b (first σ.opened (may_share s guard σ t)) none ≡ some k → Room s σ t k
      go true f = let m = first_some σ.opened (may_share s guard σ t) k f in record { board = omega arith; fit = open-fits _ m.1 }
      go false f = not_some f

  pub chosen : (amended : Bool) → σ.opened ≤ s.processors → choice s guard amended σ t ≡ some k → Room s σ t k
  unfolding choice join idle another last_resort least may_join may_take may_open may_crowd
  chosen amended h e =
      ⊎_elim (found σ.opened (may_join s guard σ t) _ h (λ m. (both-parts (holds_predecessor s σ t k) _ (both-parts (both (holds_predecessor s σ t k) (fits s σ t k)) _ m).0).1))
      (λ q. ⊎_elim (found σ.opened (may_take s guard σ t) _ h (λ m. open-fits _ m))
      (λ q. ⊎_elim (shared amended h)
      (λ q. ⊎_elim (found s.processors (may_open s guard σ t) _ (omega arith) (λ m. (both-parts (not (is_open s σ k)) _ m).1))
      (found σ.opened (may_crowd s guard σ t) _ h (λ m. (both-parts (is_open s σ k) _ m).1))
      (or_else-some (another s guard σ t) (last_resort s guard σ t) k q))
      (or_else-some (pick amended (share s guard σ t) none) (or_else (another s guard σ t) (last_resort s guard σ t)) k q))
      (or_else-some (idle s guard σ t) (or_else (pick amended (share s guard σ t) none) (or_else (another s guard σ t) (last_resort s guard σ t))) k q))
      (or_else-some (join s guard σ t) (or_else (idle s guard σ t) (or_else (pick amended (share s guard σ t) none) (or_else (another s guard σ t) (last_resort s guard σ t)))) k e)
