-- Steps of the scan at places of the text.
use Prim.Native.Nat.{ℕ, ◌+◌, ◌≤◌, ◌<◌}
use native.Mathlib.Numerals.{add-one}
use mathlib.Core.Path.{◌≡◌, refl, sym, ap, ◌∙◌}
use mathlib.Core.Option.{none, some}
use mathlib.Core.List.{List, [], ◌∷◌}
use lib.ListN.{length, get_or, drop, drop_of_length-le}
use lib.Seq.{drop-cons}
use x.{}
use Rattle.formulas.specs.Grammar.{Atom, Kind, digit, small, adds, multiplies, opens, shuts, other, kind_of}
use Rattle.formulas.specs.Scanning.{Spot, State, want, have, longer, having, step_by, whole, ended, stops, scan}
use Rattle.formulas.proofs.Scans.{scan_step, scan-stop, scan-end}

-- the text from a place that it has
pub at_byte : (b : List ℕ) (e : ℕ) → e < length b → drop e b ≡ get_or b e 0 ∷ drop (e + 1) b
at_byte b e h = rw (add-one, drop-cons b e 0)

pub step-at : (b : List ℕ) (e : ℕ) (s t : State) → e < length b → step_by s (kind_of (get_or b e 0)) (get_or b e 0) ≡ some t → scan s (drop e b) ≡ scan t (drop (e + 1) b)
step-at b e s t h q = ap (scan s) (at_byte b e h) ∙ scan_step s t (get_or b e 0) (drop (e + 1) b) q

pub stop-at : (b : List ℕ) (e : ℕ) (s : State) → e < length b → step_by s (kind_of (get_or b e 0)) (get_or b e 0) ≡ none → scan s (drop e b) ≡ stops (drop e b)
stop-at b e s h q = ap (scan s) (at_byte b e h) ∙ scan-stop s (get_or b e 0) (drop (e + 1) b) q ∙ ap stops (sym (at_byte b e h))

pub end-at : (b : List ℕ) (e q : ℕ) (s : State) → length b ≤ e → length b ≤ q → ended (whole s) ≡ stops [] → scan s (drop e b) ≡ stops (drop q b)
end-at b e q s h l w = ap (scan s) (drop_of_length-le b h) ∙ scan-end s ∙ w ∙ ap stops (sym (drop_of_length-le b l))

pub no-atom : (n : ℕ) (k : List Spot) (s : Spot) (c : ℕ) (d : Kind) → (d ≡ digit → ⊥) → (d ≡ small → ⊥) → (d ≡ opens → ⊥) → step_by (want n k s) d c ≡ none
no-atom n k s c digit x y z = absurd (x refl)
no-atom n k s c small x y z = absurd (y refl)
no-atom n k s c adds x y z = refl
no-atom n k s c multiplies x y z = refl
no-atom n k s c opens x y z = absurd (z refl)
no-atom n k s c shuts x y z = refl
no-atom n k s c other x y z = refl

pub no_end : (n : ℕ) (k : List Spot) (s : Spot) (a : Atom) (c : ℕ) (d : Kind) → (d ≡ digit → longer a c ≡ none) → (d ≡ multiplies → ⊥) → (d ≡ adds → ⊥) → (d ≡ shuts → ⊥) →
    step_by (have n k s a) d c ≡ none
no_end n k s a c digit w x y z = ap (having n k s) (w refl)
no_end n k s a c small w x y z = refl
no_end n k s a c adds w x y z = absurd (y refl)
no_end n k s a c multiplies w x y z = absurd (x refl)
no_end n k s a c opens w x y z = refl
no_end n k s a c shuts w x y z = absurd (z refl)
no_end n k s a c other w x y z = refl
