-- `put_bundle` (src/writing.rt) keeps its contract.
use mathlib.Core.Path.{◌∙◌, ap}
use native.Mathlib.Omega.{arith}
use Rattle.plan_writer.proofs.Measures.{bundle-length}
use Rattle.plan_writer.proofs.Puts.{bundle-put}
use Rattle.bundle.specs.Writing.{claim_bytes}
use Rattle.schedule.specs.Layout.{schedule_in}
use Rattle.sheet.specs.Tables.{sheet_in}
use Rattle.numbers.specs.Number.{stored}
use Prim.Native.Nat.{ℕ}
use Rattle.plan_writer.proofs.writing.put_bundle.Goals as goal

pub put_programmes-at-requires : goal.put_programmes-at-requires
put_programmes-at-requires c = record { scheduled = c.requires.scheduled; w_in_bounds = omega (arith, c.requires.w_in_bounds, bundle-length (sheet_in c.args.w.now) (schedule_in c.args.w.now)) }

pub put_claim-requires : goal.put_claim-requires
put_claim-requires c = (omega (arith, c.requires.w_in_bounds, bundle-length (sheet_in c.args.w.now) (schedule_in c.args.w.now), c.put_programmes-at.ensures.next, c.put_programmes-at.auto.out), c.claim-claim.ensures.1)

pub returns : goal.returns
returns c = bundle-put (sheet_in c.args.w.now) (schedule_in c.args.w.now) c.put_programmes-at.ensures (c.put_claim.ensures ∙ ap (λ (x : ℕ). stored c.put_programmes-at.new.out c.put_programmes-at.result (claim_bytes x)) c.claim-claim.ensures.0)
