-- `put_link` (src/writing.rt) keeps its contract.
use native.Mathlib.Omega.{arith}
use Rattle.schedule.specs.Layout.{schedule_in}
use Rattle.sheet.specs.Tables.{sheet_in}
use mathlib.Core.Path.{◌∙◌, refl, sym}
use Rattle.sheet.proofs.Rows.{ranged}
use Rattle.plan_writer.proofs.Lays.{laid_as, laid-over, laid-put}
use Rattle.plan_writer.proofs.Parts.{message-away, message-home}
use Rattle.plan_writer.proofs.writing.put_link.Goals as goal

pub put_message-behind-requires : goal.put_message-behind-requires
put_message-behind-requires c = (c.requires.at_in_bounds, omega (arith, c.requires.l_bound, (ranged c.args.w.now c.requires.scheduled.loaded).few_links))

pub returns-then-is_away : goal.returns-then-is_away
returns-then-is_away c =
    let a = c.args in
    laid_as (sym (message-away (sheet_in a.w.now) (schedule_in a.w.now) a.e a.k a.l (sym c.is_away.ensures ∙ c.if-is_away.true))) (laid-put (omega (arith, c.requires.at_in_bounds)) c.put_message-behind.ensures)

pub returns-else-is_away : goal.returns-else-is_away
returns-else-is_away c =
    let a = c.args in
    laid_as (sym (message-home (sheet_in a.w.now) (schedule_in a.w.now) a.e a.k a.l (sym c.is_away.ensures ∙ c.if-is_away.false))) (laid-over (omega (arith, c.requires.at_in_bounds)) refl c.put_message-behind.ensures)
