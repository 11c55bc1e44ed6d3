-- `report_admitted` (src/reports.rt) keeps its contract.
use Prim.Native.Nat.{ℕ}
use native.Mathlib.Omega.{arith}
use lib.ListN.{length-replicate}
use Rattle.drift.proofs.Endings.{admitted-bad, admitted-good}
use Rattle.drift.specs.Recording.{most_ends}
use Rattle.std.proofs.lemmas.Result.{err_from_is_err_and}
use Rattle.drift.proofs.reports.report_admitted.Goals as goal

pub put_report-requires : goal.put_report-requires
put_report-requires c = let p = c.requires in let e = c.record-steps.ensures.1 in (omega (arith, p.0, e.long), p.1, omega (arith, e.ends_long, length-replicate {A = ℕ} most_ends 0))

pub returns-in_err-finish : goal.returns-in_err-finish
returns-in_err-finish c =
    let p = err_from_is_err_and c.from_residual.result c.from_residual.ensures.1 in
    rw (p.1, p.2) (admitted-bad c.record-steps.ensures.0 c.record-steps.ensures.1 c.finish.ensures c.args.out.now _ c.in_err-finish.was)

pub shape_of-out : goal.shape_of-out
shape_of-out c = c.put_report.ensures.long

pub returns : goal.returns
returns c = admitted-good c.record-steps.ensures.0 c.record-steps.ensures.1 c.finish.ensures c.in_ok-finish.was c.put_report.ensures
