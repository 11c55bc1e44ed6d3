-- `add_links` (src/bytes.rt) keeps its contract.
use Rattle.sheet_reader.proofs.Scans.{link-added, link-comes, link-few, links_end, walk-room, walk-single}
use Rattle.sheet.specs.Format.{link}
use mathlib.Core.Path.{◌∙◌, sym}
use native.Mathlib.Omega.{arith}
use Rattle.sheet_reader.proofs.bytes.add_links.Goals as goal

pub loop-w-init : goal.loop-w-init
loop-w-init c = (c.requires, omega arith)

pub is_link-requires : goal.is_link-requires
is_link-requires c =
    let s = c.loop-w.invariant.0 in
    let q = s.walking in
    record { filling = s.filling; tasks_value = (sym q.scanning.tasks, sym q.scanning.links, q.room) }

pub add_link-requires : goal.add_link-requires
add_link-requires c =
    let s = c.loop-w.invariant.0 in
    let j = link-comes _ (sym c.is_link.ensures ∙ c.loop-w-test.true) in
    record { link_size_in_bounds = (walk-room s.walking link j, s.filling.loaded.long, link-few s.walking.scanning j); at_value = walk-single s j }

pub overflow_add-links : goal.overflow_add-links
overflow_add-links c = omega (arith, link-few c.loop-w.invariant.0.walking.scanning (link-comes _ (sym c.is_link.ensures ∙ c.loop-w-test.true)))

pub overflow_add-at : goal.overflow_add-at
overflow_add-at c = omega (arith, walk-room c.loop-w.invariant.0.walking link (link-comes _ (sym c.is_link.ensures ∙ c.loop-w-test.true)))

pub loop-w-smaller : goal.loop-w-smaller
loop-w-smaller c = omega (arith, walk-room c.loop-w.invariant.0.walking link (link-comes _ (sym c.is_link.ensures ∙ c.loop-w-test.true)))

pub loop-w-preserved : goal.loop-w-preserved
loop-w-preserved c = (
  link-added c.loop-w.invariant.0 _ (link-comes _ (sym c.is_link.ensures ∙ c.loop-w-test.true)) (λ i. omega (arith, c.type_inv.bytes i)) c.add_link.ensures,
  omega arith,
)

pub shape_of-w : goal.shape_of-w
shape_of-w c = c.loop-w.invariant.0.walking.scanning.long

pub returns : goal.returns
returns c =
    let i = c.loop-w.invariant in
    links_end i.0 _ i.1 (sym c.is_link.ensures ∙ c.loop-w-test.false)
