-- An allowed formula is read from its own text, whatever stands behind it: so a text has one reading at most.
use Prim.Native.Nat.{ℕ, suc, ◌+◌, ◌≤◌}
use native.Mathlib.Omega.{arith}
use mathlib.Core.Path.{◌≡◌, refl, sym, ap, ◌∙◌}
use mathlib.Core.Option.{Option, none, some}
use mathlib.Core.List.{List, [], ◌∷◌, ◌++◌, append_assoc, append-nil}
use lib.ListN.{length, length-append}
use borrow.Author.Tests.{lt-ltb}
use Rattle.formulas.specs.Grammar.{Sum, term, plus, Product, factor, times, Atom, number, letter, group, sum_text, product_text, atom_text, Kind, digit, kind_of, Digits, SumFits, ProductFits, AtomFits, Reading, closer, most_digits, most_open, opener, plus_sign, times_sign}
use Rattle.formulas.specs.Scanning.{Spot, bare, sum_at, State, want, have, step_by, whole, ended, reads, stops, scan, start, read_text}
use Rattle.formulas.specs.Parts.{factors_of, last_in, spot_of, last_of}

pub scan_step : (s t : State) (c : ℕ) (b : List ℕ) → step_by s (kind_of c) c ≡ some t → scan s (c ∷ b) ≡ scan t b
unfolding scan
scan_step s t c b e = rw (e, scan)

pub scan-stop : (s : State) (c : ℕ) (b : List ℕ) → step_by s (kind_of c) c ≡ none → scan s (c ∷ b) ≡ stops (c ∷ b)
unfolding scan
scan-stop s c b e = rw (e, scan)

pub scan-end : (s : State) → scan s [] ≡ ended (whole s)
unfolding scan
scan-end s = refl

pub sum-again : (s : Sum) → sum_at (spot_of s) (last_of s) ≡ s
sum-again (term (factor a)) = refl
sum-again (term (times p a)) = refl
sum-again (plus s (factor a)) = refl
sum-again (plus s (times p a)) = refl

digits_step : (n : ℕ) (k : List Spot) (s : Spot) (ds : List ℕ) (c : ℕ) → kind_of c ≡ digit → length ds + 1 ≤ most_digits →
    step_by (have n k s (number ds)) (kind_of c) c ≡ some (have n k s (number (ds ++ (c ∷ []))))
digits_step n k s ds c e l = ap (λ (d : Kind). step_by (have n k s (number ds)) d c) e ∙ simp (lt-ltb (length ds) most_digits (omega arith))

pub number-scans : (ds done : List ℕ) (n : ℕ) (k : List Spot) (s : Spot) (r : List ℕ) → Digits ds → length done + length ds ≤ most_digits →
    scan (have n k s (number done)) (ds ++ r) ≡ scan (have n k s (number (done ++ ds))) r
number-scans [] done n k s r h l = rw append-nil
number-scans (c ∷ ds) done n k s r h l =
    scan_step (have n k s (number done)) (have n k s (number (done ++ (c ∷ [])))) c (ds ++ r) (digits_step n k s done c h.0 (omega arith))
    ∙ number-scans ds (done ++ (c ∷ [])) n k s r h.1 (simp length-append (omega arith))
    ∙ ap (λ (d : List ℕ). scan (have n k s (number d)) r) (append_assoc done (c ∷ []) ds)

pub first-scans : (ds : List ℕ) (n : ℕ) (k : List Spot) (s : Spot) (r : List ℕ) → 1 ≤ length ds → Digits ds → length ds ≤ most_digits →
    scan (want n k s) (ds ++ r) ≡ scan (have n k s (number ds)) r
first-scans [] n k s r p h l = absurd (omega arith)
first-scans (c ∷ ds) n k s r p h l =
    scan_step (want n k s) (have n k s (number (c ∷ []))) c (ds ++ r) (ap (λ (d : Kind). step_by (want n k s) d c) h.0)
    ∙ number-scans ds (c ∷ []) n k s r h.1 (omega arith)

abbrev opened : (n m : ℕ) (k : List Spot) (s : Spot) → n ≡ suc m → step_by (want n k s) (kind_of opener) opener ≡ some (want m (s ∷ k) bare)
unfolding kind_of
opened n m k s e = rw e

closed : (n m : ℕ) (k : List Spot) (s : Spot) (x : Sum) → n ≡ suc m →
    step_by (have m (s ∷ k) (spot_of x) (last_of x)) (kind_of closer) closer ≡ some (have n k s (group x))
unfolding kind_of
closed n m k s x e = rw (e, sum-again x)

pub added : (s : Sum) (n : ℕ) (k : List Spot) (r : List ℕ) →
    scan (have n k (spot_of s) (last_of s)) (plus_sign ∷ r) ≡ scan (want n k (record { before = some s; factors = none })) r
unfolding kind_of
added s n k r = scan_step (have n k (spot_of s) (last_of s)) (want n k (record { before = some s; factors = none })) plus_sign r (rw (sum-again s))

pub multiplied : (p : Product) (n : ℕ) (k : List Spot) (b : Option Sum) (r : List ℕ) →
    scan (have n k (record { before = b; factors = factors_of p }) (last_in p)) (times_sign ∷ r) ≡ scan (want n k (record { before = b; factors = some p })) r
unfolding kind_of
multiplied (factor a) n k b r = scan_step (have n k (record { before = b; factors = none }) a) (want n k (record { before = b; factors = some (factor a) })) times_sign r refl
multiplied (times p a) n k b r = scan_step (have n k (record { before = b; factors = some p }) a) (want n k (record { before = b; factors = some (times p a) })) times_sign r refl

mutual
  pub sum-scans : (x : Sum) (n : ℕ) (k : List Spot) (r : List ℕ) → SumFits x n →
      scan (want n k bare) (sum_text x ++ r) ≡ scan (have n k (spot_of x) (last_of x)) r
  sum-scans (term p) n k r h = product-scans p n k none r h
  sum-scans (plus s p) n k r h =
      ap (scan (want n k bare)) (append_assoc (sum_text s) (plus_sign ∷ product_text p) r)
      ∙ sum-scans s n k (plus_sign ∷ (product_text p ++ r)) h.0
      ∙ added s n k (product_text p ++ r)
      ∙ product-scans p n k (some s) r h.1

  pub product-scans : (x : Product) (n : ℕ) (k : List Spot) (b : Option Sum) (r : List ℕ) → ProductFits x n →
      scan (want n k (record { before = b; factors = none })) (product_text x ++ r) ≡ scan (have n k (record { before = b; factors = factors_of x }) (last_in x)) r
  product-scans (factor a) n k b r h = atom-scans a n k (record { before = b; factors = none }) r h
  product-scans (times p a) n k b r h =
      ap (scan (want n k (record { before = b; factors = none }))) (append_assoc (product_text p) (times_sign ∷ atom_text a) r)
      ∙ product-scans p n k b (times_sign ∷ (atom_text a ++ r)) h.0
      ∙ multiplied p n k b (atom_text a ++ r)
      ∙ atom-scans a n k (record { before = b; factors = some p }) r h.1

  pub atom-scans : (x : Atom) (n : ℕ) (k : List Spot) (s : Spot) (r : List ℕ) → AtomFits x n →
      scan (want n k s) (atom_text x ++ r) ≡ scan (have n k s x) r
  atom-scans (number ds) n k s r h = first-scans ds n k s r h.0 h.2 h.1
  atom-scans (letter c) n k s r h = scan_step (want n k s) (have n k s (letter c)) c r (ap (λ (d : Kind). step_by (want n k s) d c) h)
  atom-scans (group x) n k s r h =
      scan_step (want n k s) (want h.0 (s ∷ k) bare) opener ((sum_text x ++ (closer ∷ [])) ++ r) (opened n h.0 k s h.1)
      ∙ ap (scan (want h.0 (s ∷ k) bare)) (append_assoc (sum_text x) (closer ∷ []) r)
      ∙ sum-scans x h.0 (s ∷ k) (closer ∷ r) h.2
      ∙ scan_step (have h.0 (s ∷ k) (spot_of x) (last_of x)) (have n k s (group x)) closer r (closed n h.0 k s x h.1)

-- a text that has a reading is read as that formula
pub reading-read : {b : List ℕ} (g : Reading b) → read_text b ≡ reads g.formula
reading-read {b} g =
    ap (scan start) (sym (append-nil (sum_text g.formula) ∙ g.written))
    ∙ sum-scans g.formula most_open [] [] g.allowed
    ∙ scan-end (have most_open [] (spot_of g.formula) (last_of g.formula))
    ∙ ap reads (sum-again g.formula)

-- every text has one reading at most
pub one-reading : {b : List ℕ} (g h : Reading b) → g.formula ≡ h.formula
one-reading g h = let e : reads g.formula ≡ reads h.formula = sym (reading-read g) ∙ reading-read h in cc
