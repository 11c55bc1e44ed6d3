-- `link_fault` (src/bytes.rt) keeps its contract.
use Rattle.sheet.proofs.Judging.{link-clear, link-over, link-source-loose, link-target-loose, link-twice}
use mathlib.Core.Path.{◌∙◌, sym}
use native.Mathlib.Omega.{arith}
use Rattle.sheet_reader.proofs.bytes.link_fault.Goals as goal

pub returns-then-links-ge1024 : goal.returns-then-links-ge1024
returns-then-links-ge1024 c = sym (link-over c.args.w.now _ _ _ c.requires.tasks_value.1 c.if-links-ge1024.true)

pub returns-then-tasks-source : goal.returns-then-tasks-source
returns-then-tasks-source c = sym (link-source-loose c.args.w.now _ _ _ _ c.requires.tasks_value c.if-links-ge1024.false c.if-tasks-source.true)

pub returns-then-tasks-target : goal.returns-then-tasks-target
returns-then-tasks-target c = sym (link-target-loose c.args.w.now _ _ _ _ c.requires.tasks_value c.if-links-ge1024.false c.if-tasks-source.false c.if-tasks-target.true)

pub joined-requires : goal.joined-requires
joined-requires c = (c.requires.filling.loaded.long, omega (arith, c.requires.filling.loaded.tasks, c.requires.tasks_value.0), omega (arith, c.requires.filling.loaded.tasks, c.requires.tasks_value.0))

pub returns-then-joined : goal.returns-then-joined
returns-then-joined c = sym (link-twice c.args.w.now _ _ _ _ c.requires.filling c.requires.tasks_value c.if-links-ge1024.false c.if-tasks-source.false c.if-tasks-target.false (sym c.joined.ensures ∙ c.if-joined.true))

pub returns : goal.returns
returns c = sym (link-clear c.args.w.now _ _ _ _ c.requires.filling c.requires.tasks_value c.if-links-ge1024.false c.if-tasks-source.false c.if-tasks-target.false (sym c.joined.ensures ∙ c.if-joined.false))
