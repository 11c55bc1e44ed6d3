-- The leading one of several is the one with the greatest key.
use Prim.Native.Nat.{ℕ, zero, suc, ◌-◌, ◌%◌, ◌≤◌, ◌<◌, max}
use mathlib.Core.Bool.{Bool, true, false}
use mathlib.Core.Option.{Option, none, some}
use mathlib.Core.Path.{◌≡◌, refl, ap, ◌∙◌}
use native.Mathlib.Omega.{arith}
use native.Mathlib.Decide.{dec_lt}
use borrow.Author.Tests.{lt-ltb, le-ltb}
use lib.Dec.{ltb}
use Rattle.folds.specs.Folds.{pick, greatest, prefer, leading}
use Rattle.readiness.specs.Keys.{index_of}

pub index-more : (n x : ℕ) → 0 < x → index_of n x ≡ some (n - 1 - x % n)
index-more n zero h = absurd (omega arith)
index-more n (suc x) h = refl

-- of the indices below n with p, `before` is the order of their keys, none of which is 0
module _ (n : ℕ) (p : ℕ → Bool) (before : ℕ → ℕ → Bool) (key : ℕ → ℕ) (agrees : (a b : ℕ) → b < a → a < n → before a b ≡ ltb (key b) (key a)) (some_key : (i : ℕ) → i < n → 0 < key i) where
  abbrev key_if : ℕ → ℕ
  key_if i = pick (p i) (key i) 0

  abbrev Leads : ℕ → Option ℕ → ℕ → Type 0
  Leads m none g = g ≡ 0
  Leads m (some j) g = (g ≡ key j) × (j < m)

  leads-step : (m : ℕ) (o : Option ℕ) (g : ℕ) → m < n → (b : Bool) → p m ≡ b → Leads m o g → Leads (suc m) (pick (p m) (prefer before m o) o) (max g (key_if m))
  leads-step m none g f false e h = rw e (omega arith)
  leads-step m (some j) g f false e h = rw e (let x = h.0 in (omega arith, omega (arith, h.1)))
  leads-step m none g f true e h = rw e (omega arith, omega arith)
  leads-step m (some j) g f true e h = rw (e, agrees m j h.1 f) (go (dec_lt (key j) (key m)))
    where
      go : Dec (key j < key m) → Leads (suc m) (pick (ltb (key j) (key m)) (some m) (some j)) (max g (key m))
      go (yes d) = rw (lt-ltb (key j) (key m) d) (let x = h.0 in (omega arith, omega arith))
      go (no d) = rw (le-ltb (key j) (key m) (omega arith)) (let x = h.0 in (omega arith, omega (arith, h.1)))

  leads : (m : ℕ) → m ≤ n → Leads m (leading m p before) (greatest m key_if)
  unfolding leading greatest
  leads zero h = refl
  leads (suc m) h = leads-step m (leading m p before) (greatest m key_if) (omega arith) (p m) refl (leads m (omega arith))

  -- it is found again in its key
  pub leader : (index : ℕ → Option ℕ) → index 0 ≡ none → ((i : ℕ) → i < n → index (key i) ≡ some i) → {g : ℕ} → g ≡ greatest n key_if → index g ≡ leading n p before
  leader index no_index index_key {g} e = go (leading n p before) (leads n (omega arith))
    where
      go : (o : Option ℕ) → Leads n o (greatest n key_if) → index g ≡ o
      go none h = ap index (e ∙ h) ∙ no_index
      go (some j) h = ap index (e ∙ h.0) ∙ index_key j h.1
