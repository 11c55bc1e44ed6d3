-- Programmes written command by command, as bytes or as values: one command more, one programme more.
use Prim.Native.Nat.{ℕ, zero, suc, ◌+◌, ◌<◌}
use mathlib.Core.Path.{◌≡◌, refl, sym, ap, ap₂, ◌∙◌}
use mathlib.Core.List.{List, [], ◌∷◌, ◌++◌, append_assoc, append-nil}
use native.Mathlib.Omega.{arith}
use lib.ListN.{length}
use Rattle.folds.specs.Folds.{gather}
use Rattle.bundle.specs.Bundle.{Command}
use Rattle.bundle.specs.Format.{within}
use Rattle.bundle.specs.Writing.{command_bytes, programme_bytes, programmes_bytes, command_values, programme_values, programmes_values}

module _ (f : Command → List ℕ) where
  abbrev programme_by : List Command → List ℕ
  programme_by [] = []
  programme_by (c ∷ cs) = f c ++ programme_by cs

  abbrev pub programmes_by : ℕ → List (List Command) → List ℕ
  programmes_by k [] = []
  programmes_by k (p ∷ ps) = 0x50 ∷ k ∷ (programme_by p ++ programmes_by (suc k) ps)

  programme-more : (p : List Command) (c : Command) → programme_by (p ++ c ∷ []) ≡ programme_by p ++ f c
  programme-more [] c = append-nil (f c)
  programme-more (d ∷ p) c = ap (λ x. f d ++ x) (programme-more p c) ∙ sym (append_assoc (f d) (programme_by p) (f c))

  command-more : (n : ℕ) (p : List Command) (ps : List (List Command)) (c : Command) → programmes_by n (within (p ∷ ps) c) ≡ programmes_by n (p ∷ ps) ++ f c
  command-more n p [] c =
      ap {B = List ℕ} (λ x. 0x50 ∷ n ∷ x)
      (append-nil (programme_by (p ++ c ∷ [])) ∙ programme-more p c ∙ ap (λ x. x ++ f c) (sym (append-nil (programme_by p))))
  command-more n p (q ∷ ps) c =
      ap {B = List ℕ} (λ x. 0x50 ∷ n ∷ (programme_by p ++ x)) (command-more (suc n) q ps c) ∙
      ap {B = List ℕ} (λ x. 0x50 ∷ n ∷ x) (sym (append_assoc (programme_by p) (programmes_by (suc n) (q ∷ ps)) (f c)))

  pub by-within : (ps : List (List Command)) (c : Command) → 0 < length ps → programmes_by 0 (within ps c) ≡ programmes_by 0 ps ++ f c
  by-within [] c h = absurd (omega arith)
  by-within (p ∷ ps) c h = command-more 0 p ps c

  pub by-open : (n m : ℕ) (ps : List (List Command)) → n + length ps ≡ m → programmes_by n (ps ++ [] ∷ []) ≡ programmes_by n ps ++ (0x50 ∷ m ∷ [])
  by-open n m [] e = let z : n ≡ m = omega arith in ap {B = List ℕ} (λ x. 0x50 ∷ x ∷ []) z
  by-open n m (p ∷ ps) e =
      ap {B = List ℕ} (λ x. 0x50 ∷ n ∷ (programme_by p ++ x)) (by-open (suc n) m ps (omega arith)) ∙
      ap {B = List ℕ} (λ x. 0x50 ∷ n ∷ x) (sym (append_assoc (programme_by p) (programmes_by (suc n) ps) (0x50 ∷ m ∷ [])))

byte-programme : (p : List Command) → programme_bytes p ≡ programme_by command_bytes p
byte-programme [] = refl
byte-programme (c ∷ p) = ap (λ x. command_bytes c ++ x) (byte-programme p)

value-programme : (p : List Command) → programme_values p ≡ programme_by command_values p
value-programme [] = refl
value-programme (c ∷ p) = ap (λ x. command_values c ++ x) (value-programme p)

pub byte-programmes : (k : ℕ) (ps : List (List Command)) → programmes_bytes k ps ≡ programmes_by command_bytes k ps
byte-programmes k [] = refl
byte-programmes k (p ∷ ps) = ap₂ (λ (x y : List ℕ). 0x50 ∷ k ∷ (x ++ y)) (byte-programme p) (byte-programmes (suc k) ps)

pub value-programmes : (k : ℕ) (ps : List (List Command)) → programmes_values k ps ≡ programmes_by command_values k ps
value-programmes k [] = refl
value-programmes k (p ∷ ps) = ap₂ (λ (x y : List ℕ). 0x50 ∷ k ∷ (x ++ y)) (value-programme p) (value-programmes (suc k) ps)

pub bytes-within : (ps : List (List Command)) (c : Command) → 0 < length ps → programmes_bytes 0 (within ps c) ≡ programmes_bytes 0 ps ++ command_bytes c
bytes-within ps c h =
    byte-programmes 0 (within ps c) ∙ by-within command_bytes ps c h ∙ ap (λ x. x ++ command_bytes c) (sym (byte-programmes 0 ps))

pub bytes-open : (ps : List (List Command)) → programmes_bytes 0 (ps ++ [] ∷ []) ≡ programmes_bytes 0 ps ++ (0x50 ∷ length ps ∷ [])
bytes-open ps =
    byte-programmes 0 (ps ++ [] ∷ []) ∙ by-open command_bytes 0 (length ps) ps (omega arith) ∙ ap (λ x. x ++ (0x50 ∷ length ps ∷ [])) (sym (byte-programmes 0 ps))

pub values-within : (ps : List (List Command)) (c : Command) → 0 < length ps → programmes_values 0 (within ps c) ≡ programmes_values 0 ps ++ command_values c
values-within ps c h =
    value-programmes 0 (within ps c) ∙ by-within command_values ps c h ∙ ap (λ x. x ++ command_values c) (sym (value-programmes 0 ps))

pub values-open : (ps : List (List Command)) → programmes_values 0 (ps ++ [] ∷ []) ≡ programmes_values 0 ps ++ (0x50 ∷ length ps ∷ [])
values-open ps =
    value-programmes 0 (ps ++ [] ∷ []) ∙ by-open command_values 0 (length ps) ps (omega arith) ∙ ap (λ x. x ++ (0x50 ∷ length ps ∷ [])) (sym (value-programmes 0 ps))

-- the bytes of a programme that is put together
pub programme-append : (p q : List Command) → programme_bytes (p ++ q) ≡ programme_bytes p ++ programme_bytes q
programme-append [] q = refl
programme-append (c ∷ p) q = ap (λ (x : List ℕ). command_bytes c ++ x) (programme-append p q) ∙ sym (append_assoc (command_bytes c) (programme_bytes p) (programme_bytes q))

pub programme-gather : (n : ℕ) (f : ℕ → List Command) → programme_bytes (gather n f) ≡ gather n (λ i. programme_bytes (f i))
unfolding gather
programme-gather zero f = refl
programme-gather (suc n) f = programme-append (gather n f) (f n) ∙ ap (λ (x : List ℕ). x ++ programme_bytes (f n)) (programme-gather n f)
