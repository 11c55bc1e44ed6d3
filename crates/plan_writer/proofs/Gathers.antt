-- Lists that are gathered from the lists of an index: from the front, with some of them empty, and their lengths.
use Prim.Native.Nat.{ℕ, zero, suc, ◌+◌, ◌-◌, ◌≤◌, ◌<◌}
use mathlib.Core.Path.{◌≡◌, refl, sym, ap, ap₂, ◌∙◌}
use mathlib.Core.Logic.{◌≢◌}
use mathlib.Core.List.{List, [], ◌++◌, append_assoc, append-nil}
use native.Mathlib.Omega.{arith}
use lib.ListN.{length, length-append}
use Rattle.folds.specs.Folds.{sum, gather}
use Rattle.folds.proofs.Loops.{gather-zero, gather-one}
use Rattle.sheet.specs.Sheet.{Sheet, task_count, link_count}
use Rattle.adjacency.specs.Chains.{end_by, head_of, next_of, Chained}
use Rattle.adjacency.specs.declared.End.{End}

pub gather_cong : {X : Type 0} (n : ℕ) (f g : ℕ → List X) → ((i : ℕ) → i < n → f i ≡ g i) → gather n f ≡ gather n g
unfolding gather
gather_cong zero f g h = refl
gather_cong (suc n) f g h = ap₂ ◌++◌ (gather_cong n f g (λ i l. h i (omega arith))) (h n (omega arith))

pub gather-front : {X : Type 0} (n : ℕ) (f : ℕ → List X) → gather (suc n) f ≡ f 0 ++ gather n (λ i. f (suc i))
unfolding gather
gather-front zero f = sym (append-nil (f 0))
gather-front (suc n) f = ap (λ (x : List _). x ++ f (suc n)) (gather-front n f) ∙ append_assoc (f 0) (gather n (λ i. f (suc i))) (f (suc n))

pub gather-long : {X : Type 0} (n : ℕ) (f : ℕ → List X) → length (gather n f) ≡ sum n (λ i. length (f i))
unfolding gather sum
gather-long zero f = refl
gather-long (suc n) f = omega (arith, length-append (gather n f) (f n), gather-long n f)

-- the lists from a up to a + d are empty
pub gather-skip : {X : Type 0} (f : ℕ → List X) (a d : ℕ) → ((i : ℕ) → a ≤ i → i < a + d → f i ≡ []) → gather (a + d) f ≡ gather a f
unfolding gather
gather-skip f a zero h = let e : a + zero ≡ a = omega arith in ap (λ (k : ℕ). gather k f) e
gather-skip f a (suc d) h =
    let e : a + suc d ≡ suc (a + d) = omega arith in
    ap (λ (k : ℕ). gather k f) e ∙ ap₂ ◌++◌ (gather-skip f a d (λ i p q. h i p (omega arith))) (h (a + d) (omega arith) (omega arith)) ∙ append-nil (gather a f)

-- a walk along the chain of t, where only the links of t give something
module _ {X : Type 0} {e : End} {s : Sheet} {w : List ℕ} (d : Chained e s w) (t : ℕ) (t-in : t < task_count s) (f : ℕ → List X) (else : (l : ℕ) → end_by e s l ≢ t → f l ≡ []) where
  pub gather-first : {l : ℕ} → l ≡ head_of e w t → gather l f ≡ []
  gather-first {l} q =
      let z : 0 + l ≡ l = omega arith in
      ap (λ (k : ℕ). gather k f) (sym z) ∙ gather-skip f 0 l (λ i p k. else i (d.head_none t t-in i (omega arith))) ∙ gather-zero f

  pub gather-next : {l l' : ℕ} → l < link_count s → end_by e s l ≡ t → l' ≡ next_of e w l → l < l' → gather l' f ≡ gather l f ++ f l
  gather-next {l} {l'} h own q more =
      let z : l + 1 + (l' - (l + 1)) ≡ l' = omega arith in
      ap (λ (k : ℕ). gather k f) (sym z)
      ∙ gather-skip f (l + 1) (l' - (l + 1)) (λ i x y. else i (λ g. d.next_none l h i (omega arith) (omega arith) (rw own g)))
      ∙ gather-one l f
