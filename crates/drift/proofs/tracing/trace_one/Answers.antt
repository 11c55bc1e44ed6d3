-- `trace_one` (src/tracing.rt) keeps its contract.
use native.Mathlib.Omega.{arith}
use mathlib.Core.Path.{◌∙◌, ap, refl}
use Prim.Native.Nat.{ℕ, ◌-◌}
use Rattle.drift.specs.Tracing.{slack_slots}
use Rattle.drift.proofs.Backward.{made-run, made-send, made-receive, made-release, traced-one}
use Rattle.drift.proofs.tracing.trace_one.Goals as goal

pub returns-in-1 : goal.returns-in-1
returns-in-1 c =
    let s = c.args in
    traced-one (made-run _ _ (c.saturating_sub-p.ensures ∙ ap (λ (x : ℕ). x - 1) c.word.ensures.0) c.word-x.ensures.0 c.in-1.is
    (c.note_slack.ensures ∙ ap (λ (t : ℕ). slack_slots s.w.now s.slots.now s.k t s.claim) c.saturating_sub.ensures) c.before_run.ensures)

pub returns-in-2 : goal.returns-in-2
returns-in-2 c = traced-one (made-send _ _ (c.saturating_sub-p.ensures ∙ ap (λ (x : ℕ). x - 1) c.word.ensures.0) c.word-x.ensures.0 c.in-2.is refl c.before_send.ensures)

pub returns-in-3 : goal.returns-in-3
returns-in-3 c = traced-one (made-receive _ _ (c.saturating_sub-p.ensures ∙ ap (λ (x : ℕ). x - 1) c.word.ensures.0) c.word-x.ensures.0 c.in-3.is refl c.before_receive.ensures)

pub returns-in_default : goal.returns-in_default
returns-in_default c = traced-one (made-release _ _ (c.saturating_sub-p.ensures ∙ ap (λ (x : ℕ). x - 1) c.word.ensures.0) c.word-x.ensures.0 (λ q. omega arith) (λ q. omega arith) (λ q. omega arith) refl c.before_run-in_default.ensures)
