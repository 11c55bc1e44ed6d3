-- `chain` (src/lib.rt) keeps its contract.
use mathlib.Core.Path.{ap, sym}
use native.Mathlib.Omega.{arith}
use Rattle.adjacency.proofs.Building.{chains-done, chains-still}
use Rattle.sheet.specs.Sheet.{link_count}
use Rattle.adjacency.proofs.Frames.{only-loaded, only-sheet}
use Rattle.adjacency.proofs.chain.Goals as goal

pub chain_all-requires : goal.chain_all-requires
chain_all-requires c = record { loaded = only-loaded (omega arith) c.requires c.unchain.ensures.0.only; chained_from = chains-still c.requires c.unchain.ensures.0 (ap link_count (sym (only-sheet (omega arith) c.requires c.unchain.ensures.0.only))) c.unchain.ensures.1 }

pub returns : goal.returns
returns c = chains-done c.requires c.unchain.ensures.0 c.chain_all.ensures
