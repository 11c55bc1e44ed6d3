-- `put_link` (src/bytes.rt) keeps its contract.
use Rattle.std.proofs.Common.{◌∙◌, arith}
use Rattle.sheet.specs.Tables.{link_in}
use Rattle.sheet.proofs.Rows.{tasks-in, source_in, target-in, cost-in, bytes-in}
use Rattle.generator.proofs.Stores.{link-bytes}
use Rattle.generator.proofs.bytes.put_link.Goals as goal

pub overflow_cast-source : goal.overflow_cast-source
overflow_cast-source c = omega (arith, c.source-source.ensures.1, tasks-in c.args.w.now, c.requires.loaded.tasks)

pub overflow_cast-target : goal.overflow_cast-target
overflow_cast-target c = omega (arith, c.target-target.ensures.1, tasks-in c.args.w.now, c.requires.loaded.tasks)

pub put_link-requires : goal.put_link-requires
put_link-requires c =
    let few = c.requires.loaded.tasks in
    let n = tasks-in c.args.w.now in
    (c.requires.l_bound.1, omega (arith, c.source-source.ensures.1, n, few), omega (arith, c.target-target.ensures.1, n, few))

pub returns : goal.returns
returns c =
    let w = c.args.w.now in
    let l = c.args.l in
    let h = c.requires.l_bound.0 in
    link-bytes (link_in w l) _ _ _ _ _ _ _ c.put_link.ensures (c.source-source.ensures.0 ∙ source_in w l h) (c.target-target.ensures.0 ∙ target-in w l h) (c.cost-cost.ensures.0 ∙ cost-in w l h) (c.size-size.ensures.0 ∙ bytes-in w l h)
