-- The order of accepted bundles is total, and choices chain.
use Prim.Native.Nat.{ℕ}
use native.Mathlib.Omega.{arith}
use mathlib.Core.Path.{◌≡◌, refl, sym, ap, ap₂, ◌∙◌}
use mathlib.Core.Bool.{Bool, true, false}
use mathlib.Core.Logic.{◌⊎◌, inl, inr}
use mathlib.Core.List.{List, [], ◌∷◌}
use lib.Dec.{ltb}
use borrow.Author.Tests.{lt-ltb, ltb-true, ltb-false}
use Rattle.folds.specs.Folds.{pick}
use Rattle.better.specs.Orders.{by_number, then_by, by_bytes, Rank, by_rank}
use Rattle.better.specs.Choices.{of_side, ahead, chosen_by, chosen}
use Rattle.std.specs.declared.cmp.Ordering.{Ordering}
use Rattle.std.specs.declared.cmp.Ordering.TheVariants.{Less, Equal, Greater}

-- seen from the other side
abbrev pub turned : Ordering → Ordering
turned Less = Greater
turned Equal = Equal
turned Greater = Less

-- f orders the things of A: both sides see the same, less than less is less, and what is equal is alike to every third
pub record Ordered (A : Type 0) (f : A → A → Ordering) : Type 0 where
  pub turns : (a b : A) → f b a ≡ turned (f a b)
  pub chain : (a b c : A) → f a b ≡ Less → f b c ≡ Less → f a c ≡ Less
  pub alike : (a b c : A) → f a b ≡ Equal → f a c ≡ f b c

-- two orders with different codes are not equal
differ : {X : Type 0} (n : Ordering → ℕ) (a b : Ordering) → a ≡ b → (n a ≡ n b → ⊥) → X
differ n a b e h = absurd (h (ap n e))

code : Ordering → ℕ
code Less = 0
code Equal = 1
code Greater = 2

-- numbers
pub record Number (a b : ℕ) (o : Ordering) : Type 0 where
  pub less : o ≡ Less → ltb a b ≡ true
  pub same : o ≡ Equal → a ≡ b
  pub more : o ≡ Greater → ltb b a ≡ true

number : (a b : ℕ) → Number a b (by_number a b)
unfolding code
number a b = go (ltb a b) (ltb b a) refl refl
  where
    go : (s t : Bool) → ltb a b ≡ s → ltb b a ≡ t → Number a b (pick s Less (pick t Greater Equal))
    go true t p q = record { less = λ _. p; same = λ e. differ code Less Equal e (omega arith); more = λ e. differ code Less Greater e (omega arith) }
    go false true p q = record { less = λ e. differ code Greater Less e (omega arith); same = λ e. differ code Greater Equal e (omega arith); more = λ _. q }
    go false false p q =
        let l = ltb-false a b p in
        let m = ltb-false b a q in
        record { less = λ e. differ code Equal Less e (omega arith); same = λ _. omega arith; more = λ e. differ code Equal Greater e (omega arith) }

number-turns : (a b : ℕ) → by_number b a ≡ turned (by_number a b)
number-turns a b = go (ltb a b) (ltb b a) refl refl
  where
    go : (s t : Bool) → ltb a b ≡ s → ltb b a ≡ t → pick (ltb b a) Less (pick (ltb a b) Greater Equal) ≡ turned (pick (ltb a b) Less (pick (ltb b a) Greater Equal))
    go true true p q = absurd (omega (arith, ltb-true a b p, ltb-true b a q))
    go true false p q = simp (p, q)
    go false true p q = simp (p, q)
    go false false p q = simp (p, q)

pub number_same : (a b : ℕ) → by_number a b ≡ Equal → a ≡ b
number_same a b e = (number a b).same e

pub numbers : (A : Type 0) (key : A → ℕ) → Ordered A (λ a b. by_number (key a) (key b))
numbers A key = record {
  turns = λ a b. number-turns (key a) (key b);
  chain = λ a b c p q. simp (lt-ltb (key a) (key c) (omega (arith, ltb-true (key a) (key b) ((number (key a) (key b)).less p), ltb-true (key b) (key c) ((number (key b) (key c)).less q))));
  alike = λ a b c p. ap (λ (n : ℕ). by_number n (key c)) (number_same (key a) (key b) p);
}

-- one order and then another
pub then-turned : (o o' p p' : Ordering) → o' ≡ turned o → p' ≡ turned p → then_by o' p' ≡ turned (then_by o p)
then-turned Less o' p p' e f = rw e
then-turned Equal o' p p' e f = rw (e, f)
then-turned Greater o' p p' e f = rw e

pub then-chained : (x y z p q r : Ordering) → (x ≡ Less → y ≡ Less → z ≡ Less) → (x ≡ Equal → z ≡ y) → (y ≡ Equal → x ≡ z) → (p ≡ Less → q ≡ Less → r ≡ Less) →
    then_by x p ≡ Less → then_by y q ≡ Less → then_by z r ≡ Less
then-chained Less Less z p q r f g h i s t = rw (f refl refl)
then-chained Less Equal z p q r f g h i s t = rw (← (h refl))
then-chained Less Greater z p q r f g h i s t = cc
then-chained Equal Less z p q r f g h i s t = rw (g refl)
then-chained Equal Equal z p q r f g h i s t = rw (g refl) (i s t)
then-chained Equal Greater z p q r f g h i s t = cc
then-chained Greater y z p q r f g h i s t = cc

pub then_same : (o p : Ordering) → then_by o p ≡ Equal → (o ≡ Equal) × (p ≡ Equal)
then_same Less p e = (e, cc)
then_same Equal p e = (refl, e)
then_same Greater p e = (e, cc)

-- what is equal is alike from the other side too
alike_right : {A : Type 0} {f : A → A → Ordering} → Ordered A f → (a b c : A) → f b c ≡ Equal → f a b ≡ f a c
alike_right F a b c e = F.turns b a ∙ ap turned (F.alike b c a e) ∙ sym (F.turns c a)

module _ (A : Type 0) (f g : A → A → Ordering) (F : Ordered A f) (G : Ordered A g) where
  then-alike : (a b c : A) → then_by (f a b) (g a b) ≡ Equal → then_by (f a c) (g a c) ≡ then_by (f b c) (g b c)
  then-alike a b c p = let s = then_same (f a b) (g a b) p in ap₂ then_by (F.alike a b c s.0) (G.alike a b c s.1)

  pub in-turn : Ordered A (λ a b. then_by (f a b) (g a b))
  in-turn = record {
    turns = λ a b. then-turned (f a b) (f b a) (g a b) (g b a) (F.turns a b) (G.turns a b);
    chain = λ a b c. then-chained (f a b) (f b c) (f a c) (g a b) (g b c) (g a c) (F.chain a b c) (F.alike a b c) (alike_right F a b c) (G.chain a b c);
    alike = then-alike;
  }

-- bytes
pub bytes_same : (a b : List ℕ) → by_bytes a b ≡ Equal → a ≡ b
unfolding by_bytes
bytes_same [] [] e = refl
bytes_same [] (y ∷ b) e = cc
bytes_same (x ∷ a) [] e = cc
bytes_same (x ∷ a) (y ∷ b) e = let s = then_same (by_number x y) (by_bytes a b) e in ap₂ (λ (u : ℕ) (v : List ℕ). u ∷ v) (number_same x y s.0) (bytes_same a b s.1)

bytes-turn : (a b : List ℕ) → by_bytes b a ≡ turned (by_bytes a b)
unfolding by_bytes
bytes-turn [] [] = refl
bytes-turn [] (y ∷ b) = refl
bytes-turn (x ∷ a) [] = refl
bytes-turn (x ∷ a) (y ∷ b) = then-turned (by_number x y) (by_number y x) (by_bytes a b) (by_bytes b a) (number-turns x y) (bytes-turn a b)

abbrev plain : Ordered ℕ (λ a b. by_number a b)
plain = numbers ℕ (λ a. a)

bytes-chain : (a b c : List ℕ) → by_bytes a b ≡ Less → by_bytes b c ≡ Less → by_bytes a c ≡ Less
unfolding by_bytes
bytes-chain [] [] c e f = f
bytes-chain [] (y ∷ b) [] e f = cc
bytes-chain [] (y ∷ b) (z ∷ c) e f = refl
bytes-chain (x ∷ a) [] c e f = cc
bytes-chain (x ∷ a) (y ∷ b) [] e f = f
bytes-chain (x ∷ a) (y ∷ b) (z ∷ c) e f =
    then-chained (by_number x y) (by_number y z) (by_number x z) (by_bytes a b) (by_bytes b c) (by_bytes a c)
    (plain.chain x y z) (plain.alike x y z) (alike_right plain x y z) (bytes-chain a b c) e f

pub bytes : (A : Type 0) (key : A → List ℕ) → Ordered A (λ a b. by_bytes (key a) (key b))
bytes A key = record {
  turns = λ a b. bytes-turn (key a) (key b);
  chain = λ a b c. bytes-chain (key a) (key b) (key c);
  alike = λ a b c e. ap (λ (l : List ℕ). by_bytes l (key c)) (bytes_same (key a) (key b) e);
}

pub ranks : Ordered Rank by_rank
unfolding by_rank
ranks =
    in-turn Rank (λ a b. by_number a.claim b.claim) (λ a b. then_by (by_number a.runners b.runners) (by_bytes a.bytes b.bytes))
    (numbers Rank (λ a. a.claim))
    (in-turn Rank (λ a b. by_number a.runners b.runners) (λ a b. by_bytes a.bytes b.bytes) (numbers Rank (λ a. a.runners)) (bytes Rank (λ a. a.bytes)))

-- any two can be compared, and are alike only if they are equal
pub rank_same : (a b : Rank) → by_rank a b ≡ Equal → a ≡ b
unfolding by_rank
rank_same a b e =
    let s = then_same _ _ e in
    let t = then_same _ _ s.1 in
    let x = number_same a.claim b.claim s.0 in
    let y = number_same a.runners b.runners t.0 in
    let z = bytes_same a.bytes b.bytes t.1 in
    λ i. record { claim = x i; runners = y i; bytes = z i }

pub comparable : (a b : Rank) → (by_rank a b ≡ Less) ⊎ ((by_rank b a ≡ Less) ⊎ (a ≡ b))
comparable a b = go (by_rank a b) refl
  where
    go : (o : Ordering) → by_rank a b ≡ o → (by_rank a b ≡ Less) ⊎ ((by_rank b a ≡ Less) ⊎ (a ≡ b))
    go Less e = inl e
    go Greater e = inr (inl (ranks.turns a b ∙ ap turned e))
    go Equal e = inr (inr (rank_same a b e))

pub transitive : (a b c : Rank) → by_rank a b ≡ Less → by_rank b c ≡ Less → by_rank a c ≡ Less
transitive = ranks.chain

-- choices chain: of three, it does not matter which two are looked at first
module _ {A : Type 0} {f : A → A → Ordering} (F : Ordered A f) where
  pub by-order-chain : (a b c : A) → chosen_by f (chosen_by f a b) c ≡ chosen_by f a (chosen_by f b c)
  by-order-chain a b c = go (f a b) (f b c) refl refl
    where
      go : (x y : Ordering) → f a b ≡ x → f b c ≡ y → chosen_by f (of_side a b (ahead x)) c ≡ chosen_by f a (of_side b c (ahead y))
      go Less Less i j = rw (F.chain a b c i j, i)
      go Less Equal i j = rw (← alike_right F a b c j, i)
      go Less Greater i j = refl
      go Equal Less i j = rw (F.alike a b c i, j, i)
      go Equal Equal i j = rw (F.alike a b c i, j, i)
      go Equal Greater i j = refl
      go Greater Less i j = rw (j, i)
      go Greater Equal i j = rw (j, i)
      go Greater Greater i j = let back = F.chain c b a (F.turns b c ∙ ap turned j) (F.turns a b ∙ ap turned i) in rw (j, F.turns c a, back)

pub choices-chain : (a b c : Rank) → chosen (chosen a b) c ≡ chosen a (chosen b c)
choices-chain = by-order-chain ranks

-- things ordered by a rank that each of them has
pub ranked-by : (A : Type 0) (key : A → Rank) → Ordered A (λ a b. by_rank (key a) (key b))
ranked-by A key =
    record {
      turns = λ a b. ranks.turns (key a) (key b);
      chain = λ a b c. ranks.chain (key a) (key b) (key c);
      alike = λ a b c. ranks.alike (key a) (key b) (key c);
    }

pub strict : (a : Rank) → by_rank a a ≡ Less → ⊥
unfolding code
strict a e = let z : Less ≡ Greater = sym e ∙ ranks.turns a a ∙ ap turned e in differ code Less Greater z (omega arith)
