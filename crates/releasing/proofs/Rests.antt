-- The bytes of a bundle from a place on: the rest of a programme, then the programmes behind it, then the claim.
use Prim.Native.Nat.{ℕ, zero, suc, ◌+◌, ◌-◌, ◌≤◌, ◌<◌}
use native.Mathlib.Omega.{arith}
use mathlib.Core.Path.{◌≡◌, refl, sym, ap, ap₂, ◌∙◌}
use mathlib.Core.List.{List, [], ◌∷◌, ◌++◌, map, append_assoc}
use lib.ListN.{length, get_or, take, drop, drop_of_length-le}
use lib.Seq.{drop-cons, drop-drop, take-append_seam, drop-append_seam}
use Rattle.folds.specs.Folds.{gather}
use Rattle.bundle.specs.Bundle.{Command, run, send, receive, release, discard, Bundle, programme_count, programme_of}
use Rattle.bundle.specs.Writing.{command_bytes, programme_bytes, programmes_bytes, claim_bytes, bundle_bytes}
use Rattle.bundle.specs.Lies.{size_of}
use Rattle.releasing.specs.Inserting.{part}

pub programme-append : (p q : List Command) → programme_bytes (p ++ q) ≡ programme_bytes p ++ programme_bytes q
programme-append [] q = refl
programme-append (c ∷ p) q = ap (λ (x : List ℕ). command_bytes c ++ x) (programme-append p q) ∙ sym (append_assoc (command_bytes c) (programme_bytes p) (programme_bytes q))

pub programme-gather : (n : ℕ) (f : ℕ → List Command) → programme_bytes (gather n f) ≡ gather n (λ i. programme_bytes (f i))
unfolding gather
programme-gather zero f = refl
programme-gather (suc n) f = programme-append (gather n f) (f n) ∙ ap (λ (x : List ℕ). x ++ programme_bytes (f n)) (programme-gather n f)

map_same : (ps : List (List Command)) → map (λ p. p) ps ≡ ps
map_same [] = refl
map_same (p ∷ ps) = ap (λ (x : List (List Command)). p ∷ x) (map_same ps)

pub size-length : (c : Command) → length (command_bytes c) ≡ size_of c
size-length (run t) = refl
size-length (send l) = refl
size-length (receive l) = refl
size-length (release t) = refl
size-length (discard l) = refl

-- each programme by g
module _ (g : List Command → List Command) (b : Bundle) where
  -- the commands q of programme k are left
  abbrev pub rest_of : ℕ → List Command → List ℕ
  rest_of k q = programme_bytes q ++ (programmes_bytes (suc k) (map g (drop (suc k) b.programmes)) ++ claim_bytes b.claim)

  pub rest-command : (k : ℕ) (c : Command) (q : List Command) → rest_of k (c ∷ q) ≡ command_bytes c ++ rest_of k q
  rest-command k c q = append_assoc (command_bytes c) (programme_bytes q) (programmes_bytes (suc k) (map g (drop (suc k) b.programmes)) ++ claim_bytes b.claim)

  pub rest-block : (k : ℕ) (u q : List Command) → rest_of k (u ++ q) ≡ programme_bytes u ++ rest_of k q
  rest-block k u q =
      let t = programmes_bytes (suc k) (map g (drop (suc k) b.programmes)) ++ claim_bytes b.claim in
      ap (λ (x : List ℕ). x ++ t) (programme-append u q) ∙ append_assoc (programme_bytes u) (programme_bytes q) t

  -- the next programme opens
  pub rest-open : (k : ℕ) → suc k < programme_count b → rest_of k [] ≡ 0x50 ∷ suc k ∷ rest_of (suc k) (g (programme_of b (suc k)))
  unfolding programme_count programme_of
  rest-open k l =
      ap (λ (x : List (List Command)). programmes_bytes (suc k) (map g x) ++ claim_bytes b.claim) (drop-cons b.programmes (suc k) [] l)
      ∙ ap (λ (x : List ℕ). 0x50 ∷ suc k ∷ x)
      (append_assoc (programme_bytes (g (get_or b.programmes (suc k) []))) (programmes_bytes (suc (suc k)) (map g (drop (suc (suc k)) b.programmes))) (claim_bytes b.claim))

  pub rest_end : (k : ℕ) → programme_count b ≤ suc k → rest_of k [] ≡ claim_bytes b.claim
  unfolding programme_count
  rest_end k l = ap (λ (x : List (List Command)). programmes_bytes (suc k) (map g x) ++ claim_bytes b.claim) (drop_of_length-le b.programmes {i = suc k} l)

  -- the first programme, or none
  pub rest-first : 0 < programme_count b → bundle_bytes (record { programmes = map g b.programmes; claim = b.claim }) ≡ 0x50 ∷ 0 ∷ rest_of 0 (g (programme_of b 0))
  unfolding bundle_bytes programme_count programme_of
  rest-first l =
      ap (λ (x : List (List Command)). programmes_bytes 0 (map g x) ++ claim_bytes b.claim) (drop-cons b.programmes 0 [] l)
      ∙ ap (λ (x : List ℕ). 0x50 ∷ 0 ∷ x) (append_assoc (programme_bytes (g (get_or b.programmes 0 []))) (programmes_bytes 1 (map g (drop 1 b.programmes))) (claim_bytes b.claim))

  pub rest-none : programme_count b ≡ 0 → bundle_bytes (record { programmes = map g b.programmes; claim = b.claim }) ≡ claim_bytes b.claim
  unfolding bundle_bytes programme_count
  rest-none l = ap (λ (x : List (List Command)). programmes_bytes 0 (map g x) ++ claim_bytes b.claim) (drop_of_length-le b.programmes {i = 0} (omega arith))

-- a bundle as it is
abbrev pub same : List Command → List Command
same p = p

pub bytes_same : (b : Bundle) → bundle_bytes (record { programmes = map same b.programmes; claim = b.claim }) ≡ bundle_bytes b
bytes_same b = ap (λ (ps : List (List Command)). bundle_bytes (record { programmes = ps; claim = b.claim })) (map_same b.programmes)

-- the first bytes of what lies at an offset, and those behind them
pub part-front : (bundle u r : List ℕ) (at z : ℕ) → drop at bundle ≡ u ++ r → z ≡ length u → (part bundle at (at + z) ≡ u) × (drop (at + z) bundle ≡ r)
part-front bundle u r at z e f =
    let n : (at + z) - at ≡ length u = omega arith in (
      ap (λ (i : ℕ). take i (drop at bundle)) n ∙ ap (take (length u)) e ∙ take-append_seam u r,
      sym (drop-drop z at bundle) ∙ ap₂ drop f e ∙ drop-append_seam u r,
    )
