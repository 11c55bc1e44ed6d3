-- `schedule` (src/lib.rt) keeps its contract.
use mathlib.Core.Path.{refl}
use native.Mathlib.Omega.{arith}
use Rattle.turns.proofs.Beginning.{loaded₁, gathers, going-first, scheduled}
use Rattle.turns.proofs.schedule.Goals as goal

pub chain-requires : goal.chain-requires
chain-requires c = loaded₁ c.requires.loaded c.requires.levelled c.requires.single c.clear.ensures

pub gather-requires : goal.gather-requires
gather-requires c =
    let all = gathers c.requires.loaded c.requires.levelled c.requires.single c.clear.ensures c.chain.ensures.0 c.chain.ensures.1 refl in
    record { loaded = all.0; gathered_to = all.1 }

pub take_turns-requires : goal.take_turns-requires
take_turns-requires c = going-first c.requires.loaded c.requires.levelled c.requires.single c.clear.ensures c.chain.ensures.0 c.chain.ensures.1 refl c.gather.ensures.0 c.gather.ensures.1

pub returns : goal.returns
returns c = scheduled c.requires.loaded c.requires.levelled c.requires.single c.clear.ensures c.chain.ensures.0 c.chain.ensures.1 c.take_turns.ensures.1 (omega arith) c.take_turns.ensures.0
