-- `listing_writer::rows::most` meets its contract.
use native.Mathlib.Omega.{arith}
use Rattle.listing_writer.proofs.Parts.{schedule-most}
use Rattle.listing_writer.proofs.rows.most.Goals as goal

pub returns : goal.returns
returns c =
    let m = schedule-most c.args.w.now c.requires.loaded c.requires.standing (λ i. omega (arith, c.type_inv.w i)) in
    (omega (arith, m, c.tasks.ensures.0), omega (arith, c.tasks.ensures.1))
