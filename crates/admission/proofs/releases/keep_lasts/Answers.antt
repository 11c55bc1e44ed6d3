-- `keep_lasts` (src/releases.rt) keeps its contract.
use native.Mathlib.Omega.{arith}
use mathlib.Core.Path.{◌∙◌}
use Rattle.admission.proofs.Keeping.{keeping-starts, keeping-more, keeping-ends, from-copy}
use Rattle.admission.proofs.releases.keep_lasts.Goals as goal

pub loop-l-init : goal.loop-l-init
loop-l-init c =
    let h = c.copy_runs.ensures in
    (keeping-starts _ _ _ _ h c.args.v.few_tasks, omega (arith, c.requires, h.apart.long))

pub keep_link-requires : goal.keep_link-requires
keep_link-requires c = let i = c.loop-l.invariant in (omega (arith, c.args.v.few_links, c.loop-l-test.true), omega (arith, i.1, i.0.apart.long))

pub loop-l-preserved : goal.loop-l-preserved
loop-l-preserved c =
    let i = c.loop-l.invariant in
    let t = c.loop-l-test.true in
    (keeping-more i.0 _ t i.1 c.keep_link.ensures, i.1)

pub shape_of-w : goal.shape_of-w
shape_of-w c = c.loop-l.invariant.0.apart.long ∙ c.copy_runs.ensures.apart.long

pub returns : goal.returns
returns c = let i = c.loop-l.invariant in from-copy c.copy_runs.ensures (keeping-ends i.0 c.loop-l-test.false c.loop-l.auto.l-end)
