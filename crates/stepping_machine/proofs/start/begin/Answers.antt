-- `begin` (src/start.rt) keeps its contract.
use native.Mathlib.Omega.{arith}
use Rattle.stepping_machine.proofs.Starting.{begin-refused, begin-starts, short-fit}
use Rattle.std.proofs.lemmas.Result.{err_from_is_err_and}
use Rattle.stepping_machine.proofs.start.begin.Goals as goal

pub overflow_add-outline : goal.overflow_add-outline
overflow_add-outline c = omega (arith, short-fit _ _ _ _ c.args.state.now _ _ c.admit.ensures _ c.in_ok-outline.was c.requires.0 (λ i. omega (arith, c.shared_slice_known-2-1.given i)))

pub hand_over-requires : goal.hand_over-requires
hand_over-requires c = (omega (arith, c.requires.1, c.admit.ensures.long), c.requires.2, c.args.v.few_links, c.args.v.few_tasks, short-fit _ _ _ _ c.args.state.now _ _ c.admit.ensures _ c.in_ok-outline.was c.requires.0 (λ i. omega (arith, c.shared_slice_known-2-1.given i)))

pub returns-in_err-outline : goal.returns-in_err-outline
returns-in_err-outline c =
    let p = err_from_is_err_and c.from_residual.result c.from_residual.ensures.1 in
    rw (p.1, p.2) (begin-refused _ _ _ _ _ _ _ c.admit.ensures _ c.in_err-outline.was)

pub shape_of-state : goal.shape_of-state
shape_of-state c = c.hand_over.ensures.long

pub returns : goal.returns
returns c = begin-starts _ _ _ _ _ _ _ c.admit.ensures _ c.in_ok-outline.was _ c.requires.2 c.hand_over.ensures
