-- `bundle_reader::bytes::read` meets its contract.
use Rattle.refusals.proofs.Results.{found-by}
use Rattle.std.specs.Prelude.{Ok}
use Rattle.std.proofs.lemmas.Result.{err_from_is_err_and}
use mathlib.Core.Path.{◌∙◌, ap, sym}
use Rattle.bundle_reader.proofs.Scans.{claim-on, claim-room, open-on, open-room, refused-at, scan-starts, step-on}
use native.Mathlib.Omega.{arith}
use Rattle.bundle_reader.proofs.bytes.read.Goals as goal

pub loop-size-init : goal.loop-size-init
loop-size-init c = (scan-starts _ _ _ _ _, c.requires)

pub next_at-next-requires : goal.next_at-next-requires
next_at-next-requires c = c.loop-size.invariant.0.room

pub overflow_add-commands : goal.overflow_add-commands
overflow_add-commands c = let s = step-on c.loop-size.invariant.0 _ c.next_at-next.ensures _ (found-by _ _ _ (sym c.in_ok-size.was ∙ c.at.ensures) ∙ ap Ok c.in-Step.is) in omega (arith, s.1, s.0.room, s.0.counted)

pub overflow_add-at : goal.overflow_add-at
overflow_add-at c = let s = step-on c.loop-size.invariant.0 _ c.next_at-next.ensures _ (found-by _ _ _ (sym c.in_ok-size.was ∙ c.at.ensures) ∙ ap Ok c.in-Step.is) in omega (arith, s.1, s.0.room, s.0.counted)

pub loop-size-smaller-in-Step : goal.loop-size-smaller-in-Step
loop-size-smaller-in-Step c = let s = step-on c.loop-size.invariant.0 _ c.next_at-next.ensures _ (found-by _ _ _ (sym c.in_ok-size.was ∙ c.at.ensures) ∙ ap Ok c.in-Step.is) in omega (arith, s.1, s.0.room, s.0.counted)

pub loop-size-preserved-in-Step : goal.loop-size-preserved-in-Step
loop-size-preserved-in-Step c = ((step-on c.loop-size.invariant.0 _ c.next_at-next.ensures _ (found-by _ _ _ (sym c.in_ok-size.was ∙ c.at.ensures) ∙ ap Ok c.in-Step.is)).0, c.loop-size.invariant.1)

pub bounds-words-opened : goal.bounds-words-opened
bounds-words-opened c =
    let g = c.loop-size.invariant in
    let r = open-room g.0 _ c.next_at-next.ensures (found-by _ _ _ (sym c.in_ok-size.was ∙ c.at.ensures) ∙ ap Ok c.in-Open.is) in
    omega (arith, g.1, g.0.long, r.0, r.1)

pub overflow_add-opened : goal.overflow_add-opened
overflow_add-opened c =
    let g = c.loop-size.invariant in
    let r = open-room g.0 _ c.next_at-next.ensures (found-by _ _ _ (sym c.in_ok-size.was ∙ c.at.ensures) ∙ ap Ok c.in-Open.is) in
    omega (arith, g.1, g.0.long, r.0, r.1)

pub overflow_add-at-in-Open : goal.overflow_add-at-in-Open
overflow_add-at-in-Open c =
    let g = c.loop-size.invariant in
    let r = open-room g.0 _ c.next_at-next.ensures (found-by _ _ _ (sym c.in_ok-size.was ∙ c.at.ensures) ∙ ap Ok c.in-Open.is) in
    omega (arith, g.1, g.0.long, r.0, r.1)

pub loop-size-smaller : goal.loop-size-smaller
loop-size-smaller c =
    let g = c.loop-size.invariant in
    let r = open-room g.0 _ c.next_at-next.ensures (found-by _ _ _ (sym c.in_ok-size.was ∙ c.at.ensures) ∙ ap Ok c.in-Open.is) in
    omega (arith, g.1, g.0.long, r.0, r.1)

pub loop-size-preserved : goal.loop-size-preserved
loop-size-preserved c = (open-on c.loop-size.invariant.0 _ c.next_at-next.ensures c.loop-size.invariant.1 (found-by _ _ _ (sym c.in_ok-size.was ∙ c.at.ensures) ∙ ap Ok c.in-Open.is), c.loop-size.invariant.1)

pub bounds-words-opened-in-Claim : goal.bounds-words-opened-in-Claim
bounds-words-opened-in-Claim c = let g = c.loop-size.invariant in omega (arith, g.1, g.0.few, g.0.long)

pub closing-requires : goal.closing-requires
closing-requires c = claim-room c.loop-size.invariant.0 _ c.next_at-next.ensures (found-by _ _ _ (sym c.in_ok-size.was ∙ c.at.ensures) ∙ ap Ok c.in-Claim.is)

pub returns-in-Claim : goal.returns-in-Claim
returns-in-Claim c = claim-on c.loop-size.invariant.0 _ c.next_at-next.ensures c.loop-size.invariant.1 (found-by _ _ _ (sym c.in_ok-size.was ∙ c.at.ensures) ∙ ap Ok c.in-Claim.is) _ c.closing.ensures

pub returns-in_err-size : goal.returns-in_err-size
returns-in_err-size c =
    let p = err_from_is_err_and c.from_residual.result c.from_residual.ensures.1 in
    rw (p.1, p.2) (refused-at c.loop-size.invariant.0 _ c.next_at-next.ensures _ (sym c.in_err-size.was ∙ c.at.ensures))
