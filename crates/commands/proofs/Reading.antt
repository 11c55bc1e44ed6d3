-- What holds of every answer that reading commands gives: it holds of each refusal, and of what ends a reading whose state kept an invariant.
use Prim.Native.Nat.{ℕ, zero, suc, ◌+◌, ◌≤◌}
use mathlib.Core.Bool.{Bool, true, false}
use mathlib.Core.Option.{Option, none, some}
use mathlib.Core.Path.{◌≡◌, refl, sym, ap, subst, ◌∙◌}
use mathlib.Core.List.{List, [], ◌∷◌}
use native.Mathlib.Omega.{arith}
use lib.ListN.{length, drop}
use Rattle.folds.specs.Answers.{Answer, value, refused}
use Rattle.folds.proofs.Tests.{not-value}
use Rattle.commands.specs.Commands.{Format, Outcome, refuse, go, verdict, judge_kind, judge, onward, follow, read_from, read_all}
use Rattle.commands.proofs.Going.{Comes, comes}

-- I is what holds of how far reading has come and of the bytes that are left, J what is to hold of the answer
pub record Keeps {P K A : Type 0} (F : Format P K A) (I : P → List ℕ → Type 0) (J : Answer A → Type 0) : Type 0 where
  pub cut : (e : ℕ) → J (refused F.cut e)
  pub strange : (e : ℕ) → J (refused F.strange e)
  pub faulty : (p : P) (k : K) (b : List ℕ) (r e : ℕ) → F.fault p k b ≡ some r → J (refused r e)
  pub goes : (p : P) (k : K) (b : List ℕ) → F.closes k ≡ false → Comes F p k b → I p b → I (F.after p k (drop 1 b)) (drop (1 + F.width k) b)
  pub ends : (p : P) (k : K) (e : ℕ) (b : List ℕ) → F.closes k ≡ true → Comes F p k b → I p b → J (F.ended p e (drop 1 b))

module _ {P K A : Type 0} (F : Format P K A) (I : P → List ℕ → Type 0) (J : Answer A → Type 0) (keeps : Keeps F I J) where
  refused-by : (p : P) (b : List ℕ) (r e : ℕ) → judge F p b ≡ refuse r → J (refused r e)
  unfolding judge
  refused-by p [] r e h = let q : F.cut ≡ r = cc in rw (sym q) (keeps.cut e)
  refused-by p (c ∷ b) r e h = kind (F.kind_of c) h
    where
      by : (k : K) (o : Option ℕ) → F.fault p k b ≡ o → verdict F k o ≡ refuse r → J (refused r e)
      by k none f q = let z : ◌≡◌ {A = ℕ} 0 1 = cc in absurd (omega arith)
      by k (some n) f q = let x : n ≡ r = cc in keeps.faulty p k b r e (f ∙ ap some x)

      kind : (o : Option K) → judge_kind F p o b ≡ refuse r → J (refused r e)
      kind none q = let x : F.strange ≡ r = cc in rw (sym x) (keeps.strange e)
      kind (some k) q = by k (F.fault p k b) refl q

  pub reads-from : (n : ℕ) (p : P) (e : ℕ) (b : List ℕ) → I p b → J (read_from F n p e b)
  unfolding read_from
  reads-from zero p e b i = keeps.cut e
  reads-from (suc n) p e b i = by (judge F p b) refl (λ k c g. reads-from n (F.after p k (drop 1 b)) (e + (1 + F.width k)) (drop (1 + F.width k) b) (keeps.goes p k b c g i))
    where
      on : (k : K) (c : Bool) → F.closes k ≡ c → judge F p b ≡ go k → (F.closes k ≡ false → Comes F p k b → J (read_from F n (F.after p k (drop 1 b)) (e + (1 + F.width k)) (drop (1 + F.width k) b))) → J (onward F (read_from F n) p e b k c)
      on k true q j ih = keeps.ends p k e b q (comes F p b k j) i
      on k false q j ih = ih q (comes F p b k j)

      by : (o : Outcome K) → judge F p b ≡ o → ((k : K) → F.closes k ≡ false → Comes F p k b → J (read_from F n (F.after p k (drop 1 b)) (e + (1 + F.width k)) (drop (1 + F.width k) b))) → J (follow F (read_from F n) p e b o)
      by (refuse r) j ih = refused-by p b r e j
      by (go k) j ih = on k (F.closes k) refl j (ih k)

  pub reads_all : (p : P) (b : List ℕ) → I p b → J (read_all F p b)
  unfolding read_all
  reads_all p b i = reads-from (suc (length b)) p 0 b i

-- a refusal's number is between two, if that of every command and of the end is
pub record Told {A : Type 0} (lo hi : ℕ) (a : Answer A) : Type 0 where
  pub between : (n at : ℕ) → a ≡ refused n at → (lo ≤ n) × (n ≤ hi)

pub told-value : {A : Type 0} (lo hi : ℕ) (x : A) → Told lo hi (value x)
told-value lo hi x = record { between = λ n at e. not-value (sym e) }

pub told-refused : {A : Type 0} (lo hi m e : ℕ) → (lo ≤ m) × (m ≤ hi) → Told {A = A} lo hi (refused m e)
told-refused lo hi m e h = record { between = λ n at q. let p : m ≡ n = cc in subst (λ (k : ℕ). (lo ≤ k) × (k ≤ hi)) p h }

pub reads-told : {P K A : Type 0} (F : Format P K A) (lo hi : ℕ) → (lo ≤ F.cut) × (F.cut ≤ hi) → (lo ≤ F.strange) × (F.strange ≤ hi)
    → ((p : P) (k : K) (b : List ℕ) (r : ℕ) → F.fault p k b ≡ some r → (lo ≤ r) × (r ≤ hi)) → ((p : P) (e : ℕ) (b : List ℕ) → Told lo hi (F.ended p e b))
    → (p : P) (b : List ℕ) → Told lo hi (read_all F p b)
reads-told {P} {K} {A} F lo hi cut strange fault ended p b =
    reads_all F (λ (q : P) (d : List ℕ). Unit {0}) (Told lo hi)
    (record {
      cut = λ e. told-refused lo hi F.cut e cut;
      strange = λ e. told-refused lo hi F.strange e strange;
      faulty = λ q k d r e f. told-refused lo hi r e (fault q k d r f);
      goes = λ q k d c g i. tt;
      ends = λ q k e d c g i. ended q e (drop 1 d);
    }) p b tt
