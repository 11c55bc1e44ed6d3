-- A bundle is read back from its bytes.
use Prim.Native.Nat.{ℕ, suc, ◌+◌, ◌≤◌, ◌<◌}
use mathlib.Core.Path.{◌≡◌, refl, sym, ap, subst, ◌∙◌}
use mathlib.Core.List.{List, [], ◌∷◌, ◌++◌, append_assoc, append-nil}
use native.Mathlib.Omega.{arith}
use lib.ListN.{length, length-append}
use Rattle.folds.specs.Answers.{Answer, value}
use Rattle.commands.specs.Reading.{Going}
use Rattle.commands.proofs.Going.{starts}
use Rattle.sheet.specs.Sheet.{Sheet, link_count}
use Rattle.bundle.specs.Bundle.{Command, Bundle}
use Rattle.bundle.specs.Format.{within, bundle_format, read_bundle}
use Rattle.bundle.specs.Writing.{command_bytes, programme_bytes, programmes_bytes, claim_bytes, bundle_bytes}
use Rattle.bundle.specs.Fits.{Known, Each, Fits}
use Rattle.bundle.proofs.Steps.{on-open, on-command, on-claim}

pub within_end : (ps : List (List Command)) (p : List Command) (c : Command) → within (ps ++ p ∷ []) c ≡ ps ++ (p ++ c ∷ []) ∷ []
within_end [] p c = refl
within_end (q ∷ []) p c = refl
within_end (q ∷ r ∷ ps) p c = ap {B = List (List Command)} (λ x. q ∷ x) (within_end (r ∷ ps) p c)

module _ (s : Sheet) (few : link_count s ≤ 65536) (w : Answer Bundle) where
  -- the rest of a programme
  on-programme : (ps : List (List Command)) (p cs : List Command) (e : ℕ) (b : List ℕ) → Each (Known s) cs
      → Going (bundle_format s) w (ps ++ p ∷ []) e (programme_bytes cs ++ b) → (d : ℕ) × Going (bundle_format s) w (ps ++ (p ++ cs) ∷ []) d b
  on-programme ps p [] e b h g = (e, rw (append-nil p) g)
  on-programme ps p (c ∷ cs) e b h g =
      let n : 0 < length (ps ++ p ∷ []) = omega (arith, length-append ps (p ∷ [])) in
      let a = on-command s c (programme_bytes cs ++ b) (rw (append_assoc (command_bytes c) (programme_bytes cs) b) at g) n few h.0 in
      let r = on-programme ps (p ++ c ∷ []) cs a.0 b h.1 (rw (within_end ps p c) at a.1) in
      (r.0, rw (append_assoc p (c ∷ []) cs) at r.1)

  -- the rest of the programmes
  on-programmes : (ps qs : List (List Command)) (e : ℕ) (b : List ℕ) → Each (Each (Known s)) qs → length ps + length qs ≤ s.processors
      → Going (bundle_format s) w ps e (programmes_bytes (length ps) qs ++ b) → (d : ℕ) × Going (bundle_format s) w (ps ++ qs) d b
  on-programmes ps [] e b h l g = (e, rw (append-nil ps) g)
  on-programmes ps (q ∷ qs) e b h l g =
      let tail = programmes_bytes (suc (length ps)) qs ++ b in
      let longer : length (ps ++ q ∷ []) ≡ suc (length ps) = length-append ps (q ∷ []) ∙ omega arith in
      let o = on-open s (length ps) ((programme_bytes q ++ programmes_bytes (suc (length ps)) qs) ++ b) g refl (omega arith) in
      let a = on-programme ps [] q (e + 2) tail h.0 (rw (append_assoc (programme_bytes q) (programmes_bytes (suc (length ps)) qs) b) at o) in
      let r = on-programmes (ps ++ q ∷ []) qs a.0 b h.1 (omega arith)
      (subst (λ (k : ℕ). Going (bundle_format s) w (ps ++ q ∷ []) a.0 (programmes_bytes k qs ++ b)) (sym longer) a.1)
      in
      (r.0, rw (append_assoc ps (q ∷ []) qs) at r.1)

-- what is read from the bytes of a bundle is that bundle
pub read_back : (s : Sheet) (b : Bundle) → link_count s ≤ 65536 → Fits s b → read_bundle s (bundle_bytes b) ≡ value b
unfolding read_bundle bundle_bytes
read_back s b few f =
    let g = starts (bundle_format s) [] (bundle_bytes b) in
    let r = on-programmes s few (read_bundle s (bundle_bytes b)) [] b.programmes 0 (claim_bytes b.claim) f.formed.known (omega (arith, f.formed.few)) g in
    on-claim s b.claim r.1 f.formed.busy f.claimed
