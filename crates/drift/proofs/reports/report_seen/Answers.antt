-- `report_seen` (src/reports.rt) keeps its contract.
use native.Mathlib.Omega.{arith}
use Rattle.drift.proofs.Endings.{part-refused, part-ends}
use Rattle.std.proofs.lemmas.Result.{err_from_is_err_and}
use Rattle.drift.proofs.reports.report_seen.Goals as goal

pub report_admitted-requires : goal.report_admitted-requires
report_admitted-requires c = let p = c.requires in (omega (arith, p.1, c.admit.ensures.long), c.args.v.few_tasks)

pub returns-in_err-outline : goal.returns-in_err-outline
returns-in_err-outline c =
    let p = err_from_is_err_and c.from_residual.result c.from_residual.ensures.1 in
    rw (p.1, p.2) (part-refused _ _ _ _ _ _ c.admit.ensures c.args.out.now _ c.in_err-outline.was)

pub shape_of-out : goal.shape_of-out
shape_of-out c = c.report_admitted.ensures.long

pub returns : goal.returns
returns c = part-ends _ _ _ _ _ _ c.admit.ensures c.requires.0 (λ i. omega (arith, c.shared_slice_known-2-1.given i)) _ c.in_ok-outline.was c.report_admitted.ensures
