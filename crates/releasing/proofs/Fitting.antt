-- The passed bundle can be written: its releases are declared, and it has no more programmes.
use Prim.Native.Nat.{ℕ, suc}
use native.Mathlib.Omega.{arith}
use mathlib.Core.Bool.{Bool, true, false}
use mathlib.Core.List.{List, [], ◌∷◌, map}
use lib.ListN.{length-map}
use lib.Dec.{eqb}
use Rattle.folds.specs.Folds.{pick, gather}
use Rattle.sheet.specs.Sheet.{Sheet, task_count, link_count}
use Rattle.bundle.specs.Bundle.{Command, release, discard, Bundle}
use Rattle.bundle.specs.Fits.{Known, Each, Fits}
use Rattle.bundle.proofs.Parts.{each_append}
use Rattle.admission.specs.Counting.{whole}
use Rattle.admission.specs.Releases.{frees}
use Rattle.releasing.specs.Releasing.{earliest, is_at, due_at, releases_at, rest_with, released, releasing}
use Rattle.releasing.specs.Inserting.{with_releases}
use Rattle.releasing.proofs.Each.{each-gather}

module _ (s : Sheet) where
  module _ (p : List Command) where
    known-due : (i : ℕ) (x : Command) → Known s x → Each (Known s) (due_at s p i x)
    unfolding due_at
    known-due i x k = go (is_at (earliest s p x) i)
      where
        go : (u : Bool) → Each (Known s) (pick u (x ∷ []) [])
        go true = (k, tt)
        go false = tt

    known-block : (i : ℕ) → Each (Known s) (releases_at s p i)
    unfolding releases_at
    known-block i =
        each_append (Known s) (gather (task_count s) (λ t. due_at s p i (release t))) (gather (link_count s) (λ l. due_at s p i (discard l)))
        (each-gather (Known s) (task_count s) (λ t. due_at s p i (release t)) (λ t l. known-due i (release t) l))
        (each-gather (Known s) (link_count s) (λ l. due_at s p i (discard l)) (λ m l. known-due i (discard m) l))

    known-rest : (i : ℕ) (r : List Command) → Each (Known s) r → Each (Known s) (rest_with (releases_at s p) i r)
    known-rest i [] h = tt
    known-rest i (c ∷ r) h =
        (h.0, each_append (Known s) (releases_at s p (suc i)) (rest_with (releases_at s p) (suc i) r) (known-block (suc i)) (known-rest (suc i) r h.1))

    known_released : Each (Known s) p → Each (Known s) (released s p)
    unfolding released
    known_released h = each_append (Known s) (releases_at s p 0) (rest_with (releases_at s p) 0 p) (known-block 0) (known-rest 0 p h)

  known-all-released : (ps : List (List Command)) → Each (Each (Known s)) ps → Each (Each (Known s)) (map (released s) ps)
  known-all-released [] h = tt
  known-all-released (p ∷ ps) h = (known_released p h.0, known-all-released ps h.1)

  fits-with : (b : Bundle) → Fits s b → Fits s (with_releases s b)
  fits-with b h =
      let f = h.formed in
      let n = length-map b.programmes (released s) in
      record {
        formed = record { busy = λ l. omega (arith, f.busy l, n); few = omega (arith, f.few, n); known = known-all-released b.programmes f.known };
        claimed = h.claimed;
      }

  pub fits-passed : (b : Bundle) → Fits s b → Fits s (releasing s b)
  unfolding releasing
  fits-passed b h = go (eqb (whole b frees) 0)
    where
      go : (u : Bool) → Fits s (pick u (with_releases s b) b)
      go true = fits-with b h
      go false = h
