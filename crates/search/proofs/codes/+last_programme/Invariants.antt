-- `last_programme` (src/codes.rt) keeps its contract.
use Rattle.search.proofs.codes.+last_programme.Given as goal

abbrev pub decreases-last_programme : goal.decreases-last_programme
decreases-last_programme l = l.len
