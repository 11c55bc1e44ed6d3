-- `listing_writer::list_planned` meets its contract.
use Rattle.listing_writer.proofs.Opened.{planned-refused, done-standing, planned-done}
use Rattle.listing_writer.proofs.list_planned.Goals as goal

pub list_schedule-requires : goal.list_schedule-requires
list_schedule-requires c = record { loaded = c.schedule.ensures.1.loaded; standing = done-standing c.args.w.now c.schedule.new.w _ c.schedule.ensures.0 c.in-Ok.is c.schedule.ensures.1 c.requires.stands }

pub returns-in-Err : goal.returns-in-Err
returns-in-Err c = planned-refused c.args.w.now c.schedule.new.w _ c.schedule.ensures.0 _ c.in-Err.is c.list_refusal.ensures

pub returns-in-Ok : goal.returns-in-Ok
returns-in-Ok c = planned-done c.args.w.now c.schedule.new.w _ c.schedule.ensures.0 c.in-Ok.is c.schedule.ensures.1 c.list_schedule.ensures
