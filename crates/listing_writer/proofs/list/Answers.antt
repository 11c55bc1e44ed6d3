-- `listing_writer::list` meets its contract.
use Rattle.levelling.proofs.Opens.{open-loaded, open-value, open-levelled}
use Rattle.arrivals.proofs.Singles.{read-single}
use Rattle.listing_writer.proofs.Opened.{list-refused, list_read, open-stands}
use Rattle.listing_writer.proofs.list.Goals as goal

pub list_planned-requires : goal.list_planned-requires
list_planned-requires c =
    let b = c.args.sheet.now in
    let h = c.read.ensures in
    let q = c.in-Ok.is in
    record { loaded = open-loaded h q; levelled = open-levelled h q; single = read-single b _ (open-value h q); stands = open-stands b h q }

pub returns-in-Err : goal.returns-in-Err
returns-in-Err c = list-refused c.args.sheet.now c.read.ensures _ c.in-Err.is c.list_refusal.ensures

pub returns-in-Ok : goal.returns-in-Ok
returns-in-Ok c = list_read c.args.sheet.now c.read.ensures c.in-Ok.is _ c.list_planned.auto.w c.list_planned.ensures
