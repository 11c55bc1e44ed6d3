-- Laws of one command standing before another.
use Prim.Native.Nat.{ℕ, zero, suc, ◌<◌}
use native.Mathlib.Omega.{arith}
use mathlib.Core.Bool.{Bool, true, false, false≢true}
use mathlib.Core.Option.{some}
use mathlib.Core.Path.{◌≡◌, refl, ap, ◌∙◌}
use mathlib.Core.List.{List, [], ◌∷◌, ◌++◌}
use lib.ListN.{take, get_elem?}
use lib.Dec.{ltb}
use borrow.Author.Tests.{lt-ltb, ltb-true}
use Rattle.folds.specs.Folds.{pick, bit}
use Rattle.folds.proofs.Tests.{not_some}
use Rattle.bundle.specs.Bundle.{Command}
use Rattle.admission.specs.Counting.{weigh, same, is}
use Rattle.admission.specs.Messages.{before}
use Rattle.admission.proofs.Weights.{weigh-append, same_refl, not_same}

-- a c before the first d stands before every d
pub before-takes : (c d : Command) (p : List Command) (i : ℕ) → before c d p ≡ true → get_elem? p i ≡ some d → 0 < weigh (is c) (take i p)
unfolding before weigh is
before-takes c d [] i h e = not_some e
before-takes c d (x ∷ p) zero h e = let q : x ≡ d = cc in absurd (false≢true (rw (ap (same d) q ∙ same_refl d) at h))
before-takes c d (x ∷ p) (suc i) h e = go (same d x) (same c x) refl refl (λ g. before-takes c d p i g e)
  where
    go : (u v : Bool) → same d x ≡ u → same c x ≡ v → (before c d p ≡ true → 0 < weigh (is c) (take i p)) → 0 < weigh (is c) (take (suc i) (x ∷ p))
    go true v a f r = absurd (false≢true (rw a at h))
    go false true a f r = rw f (omega arith)
    go false false a f r = omega (arith, r (rw (a, f) at h))

-- a part in front that has neither, a part that has both in order, and one part with each
pub before-skip : (c d : Command) (p q : List Command) → weigh (is c) p ≡ 0 → weigh (is d) p ≡ 0 → before c d (p ++ q) ≡ before c d q
unfolding before weigh
before-skip c d [] q e f = refl
before-skip c d (x ∷ p) q e f = rw (not_same d x (omega arith), not_same c x (omega arith)) (before-skip c d p q (omega arith) (omega arith))

pub before_here : (c d : Command) (p q : List Command) → before c d p ≡ true → before c d (p ++ q) ≡ true
unfolding before
before_here c d [] q e = absurd (false≢true e)
before_here c d (x ∷ p) q e = go (same d x) (same c x) e (before_here c d p q)
  where
    go : (u v : Bool) → pick u false (pick v (ltb 0 (weigh (is d) p)) (before c d p)) ≡ true → (before c d p ≡ true → before c d (p ++ q) ≡ true)
        → pick u false (pick v (ltb 0 (weigh (is d) (p ++ q))) (before c d (p ++ q))) ≡ true
    go true v e r = e
    go false true e r = lt-ltb 0 (weigh (is d) (p ++ q)) (omega (arith, ltb-true 0 (weigh (is d) p) e, weigh-append (is d) p q))
    go false false e r = r e

pub before_split : (c d : Command) (p q : List Command) → 0 < weigh (is c) p → weigh (is d) p ≡ 0 → 0 < weigh (is d) q → before c d (p ++ q) ≡ true
unfolding before weigh is
before_split c d [] q e f g = absurd (omega arith)
before_split c d (x ∷ p) q e f g = rw (not_same d x (omega arith)) (go (same c x) refl (λ h. before_split c d p q h (omega arith) g))
  where
    go : (v : Bool) → same c x ≡ v → (0 < weigh (is c) p → before c d (p ++ q) ≡ true) → pick (same c x) (ltb 0 (weigh (is d) (p ++ q))) (before c d (p ++ q)) ≡ true
    go true h r = rw h (lt-ltb 0 (weigh (is d) (p ++ q)) (omega (arith, weigh-append (is d) p q)))
    go false h r = rw h (r (omega (arith, ap bit h)))
