-- `put_links` (src/writer.rt) keeps its contract.
use Rattle.sheet_writer.proofs.Stores.{links-next, links-none}
use Rattle.sheet.specs.Writing.{link_value}
use Rattle.sheet.specs.Writing.{link_bytes}
use Rattle.folds.specs.Folds.{listed}
use Rattle.numbers.specs.Number.{stored}
use lib.ListN.{length}
use mathlib.Core.Path.{◌≡◌, refl, ap, ◌∙◌}
use Prim.Native.Nat.{ℕ, ◌/◌}
use native.Mathlib.Omega.{arith}
use Rattle.sheet_writer.proofs.writer.put_links.Goals as goal

pub loop-j-init : goal.loop-j-init
loop-j-init c = (refl, links-none (link_value c.args.links.now) _)

pub put_link-requires : goal.put_link-requires
put_link-requires c = (omega arith, c.requires.1.sources c.loop-j.j (omega arith), c.requires.1.targets c.loop-j.j (omega arith))

pub loop-j-preserved : goal.loop-j-preserved
loop-j-preserved c = (c.put_link.auto.out ∙ c.loop-j.invariant.0, links-next (link_value c.args.links.now) _ _ _ c.loop-j.j c.loop-j.invariant.1 c.put_link.ensures)

pub shape_of-out : goal.shape_of-out
shape_of-out c = c.loop-j.invariant.0

pub returns : goal.returns
returns c =
    let e : c.loop-j.j ≡ length c.args.links.now / 4 = omega arith in
    c.loop-j.invariant.1 ∙ ap (λ (k : ℕ). stored c.args.out.now 0 (link_bytes (listed k (link_value c.args.links.now)))) e
