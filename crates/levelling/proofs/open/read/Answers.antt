-- `read` (src/open.rt) keeps its contract.
use Rattle.levelling.proofs.Opens.{form-loaded, form-opened, form-refused}
use Rattle.std.proofs.lemmas.Result.{err_from_is_err_and}
use Rattle.levelling.proofs.open.read.Goals as goal

pub level-requires : goal.level-requires
level-requires c = form-loaded c.args.bytes.now _ _ _ c.read.ensures c.in_ok-read.was

pub returns-in_err-read : goal.returns-in_err-read
returns-in_err-read c =
    let p = err_from_is_err_and c.from_residual.result c.from_residual.ensures.1 in
    rw (p.1, p.2) (form-refused c.args.bytes.now _ _ _ c.read.ensures _ c.in_err-read.was)

pub returns : goal.returns
returns c = form-opened c.args.bytes.now _ _ _ c.read.ensures c.in_ok-read.was _ _ c.level.ensures
