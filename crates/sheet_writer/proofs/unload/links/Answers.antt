-- `links` (src/unload.rt) keeps its contract.
use Rattle.numbers.specs.Number.{stored}
use Rattle.sheet.proofs.Rows.{all-links}
use Rattle.sheet_writer.proofs.Stores.{link_values-next, link_values-none}
use Rattle.sheet.specs.Sheet.{Link}
use Rattle.sheet.specs.Tables.{link_in}
use Rattle.sheet.specs.Writing.{link_values}
use mathlib.Core.List.{List}
use mathlib.Core.Path.{◌∙◌, ap, refl}
use native.Mathlib.Omega.{arith}
use Rattle.sheet_writer.proofs.unload.links.Goals as goal

pub loop-l-init : goal.loop-l-init
loop-l-init c = (refl, link_values-none (link_in c.args.w.now) _)

pub put_link-requires : goal.put_link-requires
put_link-requires c = record { loaded = c.requires.loaded; l_bound = (omega (arith, c.links-l-end.ensures.0, c.loop-l-test.true), omega (arith, c.links-l-end.ensures.0, c.requires.w_in_bounds, c.loop-l.invariant.0, c.loop-l-test.true)) }

pub loop-l-preserved : goal.loop-l-preserved
loop-l-preserved c = (c.put_link.auto.out ∙ c.loop-l.invariant.0, link_values-next (link_in c.args.w.now) _ _ _ c.loop-l.l c.loop-l.invariant.1 c.put_link.ensures)

pub shape_of-out : goal.shape_of-out
shape_of-out c = c.loop-l.invariant.0

pub returns : goal.returns
returns c =
    let w = c.args.w.now in
    c.loop-l.invariant.1 ∙ ap (λ (ls : List Link). stored c.args.out.now 0 (link_values ls)) (all-links w c.loop-l.l (omega (arith, c.links-l-end.ensures.0, c.loop-l-test.false)))
