-- `link_fault` (src/rules.rt) keeps its contract.
use Rattle.admission.proofs.Ruled.{byte-there, link-by}
use Rattle.admission.proofs.rules.link_fault.Goals as goal

pub returns : goal.returns
returns c =
    let sheet = c.args.sheet.now in
    link-by _ _ _ _ _ _ _ _ _ _ _ (byte-there sheet _ _ _ c.byte-source.ensures.0 c.source_at.ensures) (byte-there sheet _ _ _ c.byte-target.ensures.0 c.target_at.ensures)
    c.word-a.ensures.0 c.word-t.ensures.0 c.word-sent.ensures.0 c.word-got.ensures.0 c.fault_by.ensures
