-- `try_link` (src/loads.rt) keeps its contract.
use Rattle.std.proofs.Common.{sym, ◌∙◌, arith}
use Rattle.sheet.specs.Tables.{sheet_in}
use Rattle.sheet.specs.Sheet.{Link}
use Rattle.generator.proofs.Fills.{left_alone, not-later, there, joined_by, added}
use Rattle.sheet.proofs.Rows.{links-in}
use Rattle.generator.proofs.loads.try_link.Goals as goal

pub returns-then-target-source : goal.returns-then-target-source
returns-then-target-source c =
    let x : Link = record { source = c.args.source; target = c.args.target; cost = c.args.cost; bytes = c.args.bytes } in
    left_alone c.args.w.now x c.requires.filling (not-later (sheet_in c.args.w.now) x c.if-target-source.true)

pub returns-then-joined : goal.returns-then-joined
returns-then-joined c =
    let w = c.args.w.now in
    let x : Link = record { source = c.args.source; target = c.args.target; cost = c.args.cost; bytes = c.args.bytes } in
    let set = sym (joined_by w x c.requires.filling c.requires.source_bound.0 c.requires.source_bound.1) ∙ sym c.joined.ensures ∙ c.if-joined.true in
    left_alone w x c.requires.filling (there (sheet_in w) x set)

pub join-requires : goal.join-requires
join-requires c =
    let f = c.requires.filling.loaded in
    (f.long, omega (arith, f.tasks), omega (arith, f.tasks), sym c.joined.ensures ∙ c.if-joined.false)

pub put_link-requires : goal.put_link-requires
put_link-requires c =
    let f = c.requires.filling.loaded in
    (omega (arith, f.long, c.join.auto.w), omega (arith, c.links-m.ensures.0, links-in c.args.w.now), omega (arith, f.tasks), omega (arith, f.tasks))

pub returns : goal.returns
returns c =
    let w = c.args.w.now in
    let x : Link = record { source = c.args.source; target = c.args.target; cost = c.args.cost; bytes = c.args.bytes } in
    added w _ x c.requires.filling (c.links-m.ensures.0 ∙ links-in w) c.requires.source_bound.2 c.requires.source_bound.0 c.requires.source_bound.1 (omega (arith, c.ranges.cost)) (omega (arith, c.ranges.bytes)) (omega arith)
    (sym c.joined.ensures ∙ c.if-joined.false) _ _ c.join.ensures c.put_link.ensures
