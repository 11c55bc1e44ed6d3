-- `rest` (src/bytes.rt) keeps its contract.
use Rattle.refusals.proofs.Results.{found-by}
use Rattle.sheet_reader.proofs.Scans.{scan-refused, walk-closes, walk-room}
use Rattle.sheet_reader.specs.Answers.{outcome_of}
use Rattle.sheet.specs.Format.{end}
use Rattle.std.specs.Prelude.{Ok}
use Rattle.std.proofs.lemmas.Result.{err_from_is_err_and}
use mathlib.Core.Path.{◌∙◌, ap, sym}
use native.Mathlib.Omega.{arith}
use Rattle.sheet_reader.proofs.bytes.rest.Goals as goal

pub next_at-requires : goal.next_at-requires
next_at-requires c =
    let s = c.requires.linking in
    record { filling = s.filling; tasks_value = (sym s.walking.scanning.tasks, sym s.walking.scanning.links, s.walking.room) }

pub returns-in_err-at : goal.returns-in_err-at
returns-in_err-at c =
    let p = err_from_is_err_and c.from_residual.result c.from_residual.ensures.1 in
    rw (p.1, p.2) (scan-refused c.requires.linking.walking.scanning _ _ c.next_at.ensures (sym c.in_err-at.was ∙ c.at.ensures))

pub closing-requires : goal.closing-requires
closing-requires c =
    let e = sym c.next_at.ensures ∙ ap outcome_of (found-by _ _ _ (sym c.in_ok-at.was ∙ c.at.ensures) ∙ ap Ok c.in-End.is) in
    omega (arith, walk-room c.requires.linking.walking end e)

pub returns-in-End : goal.returns-in-End
returns-in-End c =
    let e = sym c.next_at.ensures ∙ ap outcome_of (found-by _ _ _ (sym c.in_ok-at.was ∙ c.at.ensures) ∙ ap Ok c.in-End.is) in
    walk-closes c.requires.linking.walking _ e c.closing.ensures
