-- The checker before C-20 of document 02: by runs in which a message takes its cost.
use Rattle.folds.specs.Answers.{Answer, unless, unless_at}
use Rattle.sheet.specs.Sheet.{Sheet}
use Rattle.bundle.specs.Bundle.{Bundle}
use Rattle.admission.specs.Messages.{at26, at_message, at28}
use Rattle.admission.specs.Releases.{at37}
use Rattle.machine.specs.Flat.{settled_flat}
use Rattle.checker.specs.Checker.{closing}

unfoldable pub checked_flat : Sheet → Bundle → Answer Bundle
checked_flat s b = unless 26 (at26 s b) (unless_at (at_message s b) (unless 37 (at37 s b) (unless 28 (at28 s b) (closing b (settled_flat s b)))))
