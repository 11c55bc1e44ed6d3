-- `better` (src/lib.rt) keeps its contract.
use Rattle.std.specs.Prelude.{Ok}
use mathlib.Core.Path.{◌∙◌, ap, refl}
use Rattle.better.proofs.Handing.{is-first, is-second, is-refused}
use Rattle.better.proofs.better.Goals as goal

pub returns-in-Ok-First : goal.returns-in-Ok-First
returns-in-Ok-First c =
    let lent = c.args in
    is-first lent.sheet.now lent.first lent.second lent.work.now _ _ c.choose.ensures (c.in-Ok-First.is ∙ ap Ok c.in-Ok-First.field-0-is)

pub returns-in-Ok-Second : goal.returns-in-Ok-Second
returns-in-Ok-Second c =
    let lent = c.args in
    is-second lent.sheet.now lent.first lent.second lent.work.now _ _ c.choose.ensures (c.in-Ok-Second.is ∙ ap Ok c.in-Ok-Second.field-0-is)

pub returns-in-Err : goal.returns-in-Err
returns-in-Err c =
    let lent = c.args in
    is-refused lent.sheet.now lent.first lent.second lent.work.now _ _ c.choose.ensures _ _ c.in-Err.is refl refl
