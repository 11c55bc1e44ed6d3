-- `generate` (src/sheets.rt) keeps its contract.
use mathlib.Core.Path.{sym, ◌∙◌}
use Rattle.generator.proofs.Ranges.{inside}
use Rattle.entry_points.proofs.Generating.{generate-refused, generate-short, generate-done}
use Rattle.entry_points.proofs.sheets.generate.Goals as goal

pub returns-then-are_outside : goal.returns-then-are_outside
returns-then-are_outside c =
    let a = c.args in
    rw c.at.ensures (generate-refused a.seed a.tasks a.tries a.processors a.limit a.work.now a.out.now (sym c.are_outside.ensures ∙ c.if-are_outside.true))

pub fill-requires : goal.fill-requires
fill-requires c =
    let i = inside c.args.seed c.args.tasks c.args.tries c.args.processors (sym c.are_outside.ensures ∙ c.if-are_outside.false) in
    (c.requires, i.some_task, i.few_tasks, i.few_tries, i.few_processors)

pub returns-then-out-need : goal.returns-then-out-need
returns-then-out-need c =
    let a = c.args in
    rw c.at-then-out-need.ensures (generate-short a.seed a.tasks a.tries a.processors a.limit a.work.now a.out.now _ (sym c.are_outside.ensures ∙ c.if-are_outside.false) c.fill.ensures c.byte_count-need.ensures c.if-out-need.true)

pub returns : goal.returns
returns c =
    let a = c.args in
    generate-done a.seed a.tasks a.tries a.processors a.limit a.work.now a.out.now _ (sym c.are_outside.ensures ∙ c.if-are_outside.false) c.fill.ensures c.byte_count-need.ensures c.if-out-need.false _ c.put_sheet.ensures
