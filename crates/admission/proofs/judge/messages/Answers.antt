-- `messages` (src/judge.rt) keeps its contract.
use Rattle.admission.proofs.Admits.{message-right, message-wrong}
use Rattle.std.proofs.lemmas.Result.{err_from_is_err_and}
use Rattle.admission.proofs.judge.messages.Goals as goal

pub returns-in_err-wrong_message : goal.returns-in_err-wrong_message
returns-in_err-wrong_message c =
    let p = err_from_is_err_and c.from_residual.result c.from_residual.ensures.1 in
    rw (p.1, p.2) (message-wrong _ _ _ _ _ _ _ c.wrong_message.ensures _ c.in_err-wrong_message.was)

pub returns : goal.returns
returns c = message-right _ _ _ _ _ _ _ c.wrong_message.ensures _ _ c.in_ok-wrong_message.was c.freed.ensures
