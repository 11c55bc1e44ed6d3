-- `put_programmes` (src/writing.rt) keeps its contract.
use Rattle.search.proofs.writing.+put_programmes.Given as goal

abbrev pub decreases-put_programmes : goal.decreases-put_programmes
decreases-put_programmes l = l.len
