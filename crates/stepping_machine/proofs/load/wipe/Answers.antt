-- `wipe` (src/load.rt) keeps its contract.
use Rattle.stepping_machine.proofs.Opening.{wiped}
use Rattle.stepping_machine.proofs.load.wipe.Goals as goal

pub returns : goal.returns
returns c =
    let start = c.requires in
    wiped _ _ _ _ _ _ _ _ _ start.0 start.1 start.2 start.3
    c.clear_words.ensures c.clear_words-2.ensures c.put.ensures c.put-2.ensures c.put-3.ensures
