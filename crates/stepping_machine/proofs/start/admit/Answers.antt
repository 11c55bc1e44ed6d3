-- `admit` (src/start.rt) keeps its contract.
use mathlib.Core.Path.{◌∙◌}
use Rattle.stepping_machine.proofs.Starting.{admit-fits, admit-over, admit-refused, ready}
use native.Mathlib.Omega.{arith}
use Rattle.std.proofs.lemmas.Result.{err_from_is_err_and}
use Rattle.stepping_machine.proofs.start.admit.Goals as goal

pub judge-requires : goal.judge-requires
judge-requires c = omega (arith, c.requires.1)

pub load-requires : goal.load-requires
load-requires c = ready _ _ _ _ _ _ c.judge.ensures _ c.in_ok-outline.was (λ i. omega (arith, c.shared_slice_known-2-1.given i)) c.requires.1 c.requires.0

pub returns-in_err-outline : goal.returns-in_err-outline
returns-in_err-outline c =
    let p = err_from_is_err_and c.from_residual.result c.from_residual.ensures.1 in
    rw (p.1, p.2) (admit-refused _ _ _ _ _ _ c.judge.ensures _ c.in_err-outline.was)

pub shape_of-w-in-Some : goal.shape_of-w-in-Some
shape_of-w-in-Some c = c.load.ensures.long ∙ c.judge.ensures.long

pub returns-in-Some : goal.returns-in-Some
returns-in-Some c =
    rw c.at.ensures (admit-over _ _ _ _ _ _ c.judge.ensures _ c.in_ok-outline.was (λ i. omega (arith, c.shared_slice_known-2-1.given i)) c.requires.1 _ _ c.load.ensures _ c.in-Some.is)

pub shape_of-w-in-None : goal.shape_of-w-in-None
shape_of-w-in-None c = c.load.ensures.long ∙ c.judge.ensures.long

pub returns-in-None : goal.returns-in-None
returns-in-None c = admit-fits _ _ _ _ _ _ c.judge.ensures _ c.in_ok-outline.was (λ i. omega (arith, c.shared_slice_known-2-1.given i)) c.requires.1 _ _ c.load.ensures c.in-None.is
