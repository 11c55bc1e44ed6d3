-- That a listing fits.
use Prim.Native.Nat.{ℕ, ◌≤◌}
use mathlib.Core.Path.{◌≡◌, sym, ap, ap₂, ◌∙◌}
use mathlib.Core.List.{List, ◌++◌}
use native.Mathlib.Omega.{arith}
use lib.ListN.{length, take, drop, length-append}
use lib.Seq.{take-append_seam}
use Rattle.folds.specs.Answers.{written}
use Rattle.numbers.proofs.Puts.{fits-well}
use Rattle.listing.specs.Listing.{listing}
use Rattle.std.specs.Prelude.{Result, Ok}
use Rattle.refusals.specs.Refusals.{written_of}
use Rattle.refusals.specs.declared.Refusal.{Refusal}
use Rattle.listing_writer.specs.Listed.{FitIs}
use Rattle.console.specs.Pieces.{PutIs}

-- an output of 21,551 bytes is long enough
pub written-whole : {v out out' : List ℕ} {r : Result ℕ Refusal} → FitIs v out out' r → 21551 ≤ length out → r ≡ Ok (length v)
written-whole {v} {out} h e = h.answer ∙ ap written_of (fits-well (length out) v (omega (arith, h.short)))

pub put : (sheet out out' : List ℕ) {r : Result ℕ Refusal} (n : ℕ) → FitIs (listing sheet) out out' r → 21551 ≤ length out → r ≡ Ok n → PutIs sheet out' n
unfolding written
put sheet out out' n h e q =
    let v = listing sheet in
    let f = fits-well (length out) v (omega (arith, h.short)) in
    let x : ◌≡◌ {A = Result ℕ Refusal} (Ok (length v)) (Ok n) = sym (written-whole h e) ∙ q in
    let s : length v ≡ n = cc in
    let front : out' ≡ v ++ drop (length v) out = h.output ∙ ap (written out) f in
    record {
      within = omega (arith, ap length front, length-append v (drop (length v) out));
      same = ap₂ take (sym s) front ∙ take-append_seam v (drop (length v) out);
    }
