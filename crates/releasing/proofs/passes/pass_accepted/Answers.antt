-- `pass_accepted` (src/passes.rt) keeps its contract. `t` is the test for a release.
use native.Mathlib.Omega.{arith}
use Rattle.releasing.proofs.Endings.{accepted-same, accepted-released, frees-told}
use Rattle.releasing.proofs.passes.pass_accepted.Goals as goal

pub returns-then-has_release : goal.returns-then-has_release
returns-then-has_release c = accepted-same (frees-told c.has_release.ensures c.if-has_release.true) (λ k. omega (arith, c.shared_slice_known-2-1.given k)) c.put_same.ensures

pub put_released-requires : goal.put_released-requires
put_released-requires c =
    let p = c.requires in
    (record { tasks = _; links = _; queued = c.queue_all.ensures.queued }, p.1)

pub returns : goal.returns
returns c =
    accepted-released (frees-told c.has_release.ensures c.if-has_release.false) (λ k. omega (arith, c.shared_slice_known-2-1.given k)) c.requires.0
    c.note_all.ensures c.keep_lasts.ensures c.queue_all.ensures c.put_released.ensures
