-- `note_slack` (src/tracing.rt) keeps its contract.
use Rattle.drift.proofs.Backward.{slack-put}
use Rattle.drift.proofs.tracing.note_slack.Goals as goal

pub returns : goal.returns
returns c = let a = c.args in slack-put a.w.now a.slots.now a.k a.t a.claim c.word.ensures.0 c.word-2.ensures.0 c.saturating_sub.ensures c.put.ensures
