-- A reading that gives a value: what each of its commands keeps, its closing command finds.
use Prim.Native.Nat.{ℕ, zero, suc, ◌+◌}
use mathlib.Core.Path.{◌≡◌, refl}
use mathlib.Core.Bool.{Bool, true, false}
use mathlib.Core.List.{List}
use lib.ListN.{length, drop}
use Rattle.folds.specs.Answers.{value}
use Rattle.folds.proofs.Tests.{not-value}
use Rattle.commands.specs.Commands.{Format, Outcome, refuse, go, judge, onward, follow, read_from, read_all}

-- the closing command, and what was kept up to it
pub record Arrives {P K A : Type 0} (F : Format P K A) (Inv : P → ℕ → List ℕ → Type 0) (v : A) : Type 0 where
  pub progress : P
  pub offset : ℕ
  pub bytes : List ℕ
  pub kept : Inv progress offset bytes
  pub kind : K
  pub last : F.closes kind ≡ true
  pub judged : judge F progress bytes ≡ go kind
  pub closed : F.ended progress offset (drop 1 bytes) ≡ value v

-- every command that does not close keeps Inv
abbrev pub Keeps : {P K A : Type 0} → Format P K A → (P → ℕ → List ℕ → Type 0) → Type 0
Keeps {P} {K} {A} F Inv =
    (p : P) (e : ℕ) (b : List ℕ) (k : K) → F.closes k ≡ false → judge F p b ≡ go k → Inv p e b → Inv (F.after p k (drop 1 b)) (e + (1 + F.width k)) (drop (1 + F.width k) b)

module _ {P K A : Type 0} (F : Format P K A) (Inv : P → ℕ → List ℕ → Type 0) (keeps : Keeps F Inv) (v : A) where
  arrives : (n : ℕ) (p : P) (e : ℕ) (b : List ℕ) → read_from F n p e b ≡ value v → Inv p e b → Arrives F Inv v
  unfolding read_from
  arrives zero p e b h i = not-value h
  arrives (suc n) p e b h i = by (judge F p b) refl h (λ q c d. arrives n q c d)
    where
      on : (k : K) → judge F p b ≡ go k → (c : Bool) → F.closes k ≡ c → onward F (read_from F n) p e b k c ≡ value v
          → ((q : P) (c : ℕ) (d : List ℕ) → read_from F n q c d ≡ value v → Inv q c d → Arrives F Inv v) → Arrives F Inv v
      on k j true c r ih = record { progress = p; offset = e; bytes = b; kept = i; kind = k; last = c; judged = j; closed = r }
      on k j false c r ih = ih (F.after p k (drop 1 b)) (e + (1 + F.width k)) (drop (1 + F.width k) b) r (keeps p e b k c j i)

      by : (o : Outcome K) → judge F p b ≡ o → follow F (read_from F n) p e b o ≡ value v
          → ((q : P) (c : ℕ) (d : List ℕ) → read_from F n q c d ≡ value v → Inv q c d → Arrives F Inv v) → Arrives F Inv v
      by (refuse r) j q ih = not-value q
      by (go k) j q ih = on k j (F.closes k) refl q ih

  pub arrives-all : (p : P) (b : List ℕ) → read_all F p b ≡ value v → Inv p 0 b → Arrives F Inv v
  unfolding read_all
  arrives-all p b = arrives (suc (length b)) p 0 b
