-- `put_link` (src/unload.rt) keeps its contract.
use Rattle.sheet.proofs.Rows.{bytes-in, cost-in, source_in, target-in, tasks-in}
use Rattle.sheet_writer.proofs.Stores.{pairs-link}
use Rattle.sheet.specs.Tables.{link_in}
use mathlib.Core.Path.{◌∙◌}
use native.Mathlib.Omega.{arith}
use Rattle.sheet_writer.proofs.unload.put_link.Goals as goal

pub put_pair-requires : goal.put_pair-requires
put_pair-requires c = (omega (arith, c.requires.l_bound.1), omega (arith, c.source.ensures.1, tasks-in c.args.w.now, c.requires.loaded.tasks), omega (arith, c.target.ensures.1, tasks-in c.args.w.now, c.requires.loaded.tasks))

pub put_pair-requires-2 : goal.put_pair-requires-2
put_pair-requires-2 c = (omega (arith, c.requires.l_bound.1, c.put_pair.auto.out), omega (arith, c.cost.ensures.1), omega (arith, c.size.ensures.1))

pub returns : goal.returns
returns c =
    let w = c.args.w.now in
    let l = c.args.l in
    let h = c.requires.l_bound.0 in
    pairs-link (link_in w l) _ _ _ _ _ _ _ _ c.put_pair.ensures c.put_pair-2.ensures (omega (arith, c.requires.l_bound.1))
    (c.source.ensures.0 ∙ source_in w l h) (c.target.ensures.0 ∙ target-in w l h) (c.cost.ensures.0 ∙ cost-in w l h) (c.size.ensures.0 ∙ bytes-in w l h)
