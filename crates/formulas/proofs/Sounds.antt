-- What is read is an allowed formula, and it is written as the text is.
use Prim.Native.Nat.{ℕ, zero, suc}
use native.Mathlib.Omega.{arith}
use mathlib.Core.Path.{◌≡◌, refl, sym, ap, subst, ◌∙◌}
use mathlib.Core.Bool.{Bool, true, false}
use mathlib.Core.Option.{Option, none, some}
use mathlib.Core.List.{List, [], ◌∷◌, ◌++◌, append_assoc, append-nil}
use lib.ListN.{length, length-append}
use lib.Dec.{ltb}
use borrow.Author.Tests.{ltb-true}
use Rattle.folds.specs.Folds.{pick}
use Rattle.formulas.specs.Grammar.{Sum, Product, Atom, number, letter, group, sum_text, product_text, atom_text, Kind, digit, small, adds, multiplies, opens, shuts, other, kind_of, Digits, SumFits, ProductFits, AtomFits, Reading, closer, most_digits, most_open, opener, plus_sign, times_sign}
use Rattle.formulas.specs.Scanning.{Spot, times_to, plus_to, product_at, sum_at, State, want, have, longer, having, opening, shutting, step_by, whole, ended, reads, stops, scan, start, read_text}
use Rattle.formulas.proofs.Bytes.{Match, matches}
use Rattle.formulas.proofs.Scans.{scan_step, scan-stop, scan-end}

abbrev pub before_text : Option Sum → List ℕ
before_text none = []
before_text (some s) = sum_text s ++ (plus_sign ∷ [])

abbrev pub factors_text : Option Product → List ℕ
factors_text none = []
factors_text (some p) = product_text p ++ (times_sign ∷ [])

abbrev pub spot_text : Spot → List ℕ
spot_text s = before_text s.before ++ factors_text s.factors

abbrev pub stack_text : List Spot → List ℕ
stack_text [] = []
stack_text (s ∷ k) = stack_text k ++ (spot_text s ++ (opener ∷ []))

-- the text that has led to a state
abbrev pub state_text : State → List ℕ
state_text (want n k s) = stack_text k ++ spot_text s
state_text (have n k s a) = stack_text k ++ (spot_text s ++ atom_text a)

abbrev pub BeforeFits : Option Sum → ℕ → Type 0
BeforeFits none n = Unit {0}
BeforeFits (some s) n = SumFits s n

abbrev pub FactorsFits : Option Product → ℕ → Type 0
FactorsFits none n = Unit {0}
FactorsFits (some p) n = ProductFits p n

abbrev pub SpotFits : Spot → ℕ → Type 0
SpotFits s n = BeforeFits s.before n × FactorsFits s.factors n

abbrev pub StackFits : List Spot → ℕ → Type 0
StackFits [] n = n ≡ most_open
StackFits (s ∷ k) n = SpotFits s (suc n) × StackFits k (suc n)

abbrev pub StateFits : State → Type 0
StateFits (want n k s) = StackFits k n × SpotFits s n
StateFits (have n k s a) = StackFits k n × SpotFits s n × AtomFits a n

-- a product and a sum that are made of a spot and an atom
product-text : (o : Option Product) (a : Atom) → product_text (times_to o a) ≡ factors_text o ++ atom_text a
product-text none a = refl
product-text (some p) a = sym (append_assoc (product_text p) (times_sign ∷ []) (atom_text a))

pub sum-text : (s : Spot) (a : Atom) → sum_text (sum_at s a) ≡ spot_text s ++ atom_text a
sum-text s a = go s.before
  where
    go : (o : Option Sum) → sum_text (plus_to o (product_at s a)) ≡ (before_text o ++ factors_text s.factors) ++ atom_text a
    go none = product-text s.factors a
    go (some x) = simp (product-text s.factors a, append_assoc)

product-fits : (o : Option Product) (a : Atom) (n : ℕ) → FactorsFits o n → AtomFits a n → ProductFits (times_to o a) n
product-fits none a n f h = h
product-fits (some p) a n f h = (f, h)

pub sum_fits : (s : Spot) (a : Atom) (n : ℕ) → SpotFits s n → AtomFits a n → SumFits (sum_at s a) n
sum_fits s a n f h = go s.before f.0
  where
    go : (o : Option Sum) → BeforeFits o n → SumFits (plus_to o (product_at s a)) n
    go none g = product-fits s.factors a n f.1 h
    go (some x) g = (g, product-fits s.factors a n f.1 h)

-- one byte more: the text is longer by it, and what is allowed stays so
pub record Step (s : State) (c : ℕ) (t : State) : Type 0 where
  pub text : state_text t ≡ state_text s ++ (c ∷ [])
  pub fits : StateFits s → StateFits t

abbrev Steps : State → ℕ → Option State → Type 0
Steps s c none = Unit {0}
Steps s c (some t) = Step s c t

pub digits_more : (ds : List ℕ) (c : ℕ) → Digits ds → kind_of c ≡ digit → Digits (ds ++ (c ∷ []))
digits_more [] c h e = (e, tt)
digits_more (d ∷ ds) c h e = (h.0, digits_more ds c h.1 e)

digit-steps : (n : ℕ) (k : List Spot) (s : Spot) (a : Atom) (c : ℕ) → kind_of c ≡ digit → Steps (have n k s a) c (having n k s (longer a c))
digit-steps n k s (letter x) c e = tt
digit-steps n k s (group x) c e = tt
digit-steps n k s (number ds) c e = go (ltb (length ds) most_digits) refl
  where
    go : (t : Bool) → ltb (length ds) most_digits ≡ t → Steps (have n k s (number ds)) c (having n k s (pick t (some (number (ds ++ (c ∷ [])))) none))
    go false q = tt
    go true q = record {
      text = simp append_assoc;
      fits = λ f. (f.0, f.1, (simp length-append (omega arith), simp length-append (omega (arith, ltb-true (length ds) most_digits q)), digits_more ds c f.2.2 e));
    }

open-steps : (n : ℕ) (k : List Spot) (s : Spot) (c : ℕ) → c ≡ opener → Steps (want n k s) c (opening n k s)
open-steps zero k s c e = tt
open-steps (suc n) k s c e = record { text = rw e (simp (append_assoc, append-nil)); fits = λ f. ((f.1, f.0), (tt, tt)) }

shut-steps : (n : ℕ) (k : List Spot) (s : Spot) (a : Atom) (c : ℕ) → c ≡ closer → Steps (have n k s a) c (shutting n k s a)
shut-steps n [] s a c e = tt
shut-steps n (o ∷ k) s a c e = record {
  text = rw e (simp (sum-text s a, append_assoc));
  fits = λ f. (f.0.1, f.0.0, (n, refl, sum_fits s a n f.1 f.2));
}

steps : (s : State) (d : Kind) (c : ℕ) → kind_of c ≡ d → Match d c → Steps s c (step_by s d c)
steps (want n k s) digit c q m = record { text = sym (append_assoc (stack_text k) (spot_text s) (c ∷ [])); fits = λ f. (f.0, f.1, (omega arith, omega arith, (q, tt))) }
steps (want n k s) small c q m = record { text = sym (append_assoc (stack_text k) (spot_text s) (c ∷ [])); fits = λ f. (f.0, f.1, q) }
steps (want n k s) adds c q m = tt
steps (want n k s) multiplies c q m = tt
steps (want n k s) opens c q m = open-steps n k s c m
steps (want n k s) shuts c q m = tt
steps (want n k s) other c q m = tt
steps (have n k s a) digit c q m = digit-steps n k s a c q
steps (have n k s a) small c q m = tt
steps (have n k s a) adds c q m = record { text = rw m (simp (sum-text s a, append_assoc, append-nil)); fits = λ f. (f.0, (sum_fits s a n f.1 f.2, tt)) }
steps (have n k s a) multiplies c q m = record { text = rw m (simp (product-text s.factors a, append_assoc)); fits = λ f. (f.0, (f.1.0, product-fits s.factors a n f.1.1 f.2)) }
steps (have n k s a) opens c q m = tt
steps (have n k s a) shuts c q m = shut-steps n k s a c m
steps (have n k s a) other c q m = tt

pub stepped : (s : State) (c : ℕ) (t : State) → step_by s (kind_of c) c ≡ some t → Step s c t
stepped s c t e = subst (λ (o : Option State). Steps s c o) e (steps s (kind_of c) c refl (matches c))

-- a text that is read to its end
pub record Read (s : State) (b : List ℕ) (x : Sum) : Type 0 where
  pub text : sum_text x ≡ state_text s ++ b
  pub fits : StateFits s → SumFits x most_open

at-end : (s : State) (x : Sum) → ended (whole s) ≡ reads x → Read s [] x
at-end (want n k s) x e = let z : ◌≡◌ {A = ℕ} 0 1 = cc in absurd (omega arith)
at-end (have n [] s a) x e =
    let q : sum_at s a ≡ x = cc in
    record { text = rw (← q) (simp (sum-text s a, append-nil)); fits = λ f. rw (← q) (rw (← f.0) (sum_fits s a n f.1 f.2)) }
at-end (have n (o ∷ k) s a) x e = let z : ◌≡◌ {A = ℕ} 0 1 = cc in absurd (omega arith)

pub sound : (b : List ℕ) (s : State) (x : Sum) → scan s b ≡ reads x → Read s b x
sound [] s x e = at-end s x (sym (scan-end s) ∙ e)
sound (c ∷ b) s x e = go (λ t q. sound b t x q) (step_by s (kind_of c) c) refl
  where
    go : ((t : State) → scan t b ≡ reads x → Read t b x) → (o : Option State) → step_by s (kind_of c) c ≡ o → Read s (c ∷ b) x
    go rest none q = let f : stops (c ∷ b) ≡ reads x = sym (scan-stop s c b q) ∙ e in let z : ◌≡◌ {A = ℕ} 0 1 = cc in absurd (omega arith)
    go rest (some t) q =
        let i = rest t (sym (scan_step s t c b q) ∙ e) in
        let j = stepped s c t q in
        record { text = i.text ∙ ap (λ (l : List ℕ). l ++ b) j.text ∙ append_assoc (state_text s) (c ∷ []) b; fits = λ f. i.fits (j.fits f) }

unfoldable pub read-reading : (b : List ℕ) (x : Sum) → read_text b ≡ reads x → Reading b
read-reading b x e = let r = sound b start x e in record { formula = x; written = r.text; allowed = r.fits (refl, (tt, tt)) }
