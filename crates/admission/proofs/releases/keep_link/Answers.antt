-- `keep_link` (src/releases.rt) keeps its contract. `x` is behind the four words that were read, `y` behind the two bytes.
use Prim.Native.Nat.{max, ℕ}
use mathlib.Core.Path.{◌∙◌, ap, refl}
use Rattle.admission.proofs.Ruled.{byte-there}
use Rattle.admission.proofs.Keeping.{keep-by}
use Rattle.admission.proofs.releases.keep_link.Goals as goal

pub returns : goal.returns
returns c =
    let sheet = c.args.sheet.now in
    keep-by sheet _ _ _ _ _ c.byte-source.result _ _ _ _ c.word-old.result _ _ _
    (byte-there sheet _ _ _ c.byte-source.ensures.0 c.source_at.ensures) c.byte-source.ensures.1 (byte-there sheet _ _ _ c.byte-target.ensures.0 c.target_at.ensures)
    c.word-a.ensures c.word-t.ensures c.word-sent.ensures refl c.word-old.ensures (c.max-last.ensures ∙ ap (λ (n : ℕ). max c.word-old.result n) c.either.ensures)
    c.put.ensures c.either-2.ensures c.put-2.ensures
