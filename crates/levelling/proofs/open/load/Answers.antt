-- `load` (src/open.rt) keeps its contract.
use Rattle.levelling.proofs.Opens.{form-loaded, form-opened, form-refused}
use Rattle.sheet.specs.Writing.{cube_of, value_bytes}
use Rattle.std.proofs.lemmas.Result.{err_from_is_err_and}
use Rattle.levelling.proofs.open.load.Goals as goal

pub level-requires : goal.level-requires
level-requires c = form-loaded (value_bytes c.args.processors c.args.limit c.args.unpacking (cube_of c.args.cube) c.args.tasks.now c.args.links.now) _ _ _ c.load.ensures c.in_ok-load.was

pub returns-in_err-load : goal.returns-in_err-load
returns-in_err-load c =
    let p = err_from_is_err_and c.from_residual.result c.from_residual.ensures.1 in
    rw (p.1, p.2) (form-refused (value_bytes c.args.processors c.args.limit c.args.unpacking (cube_of c.args.cube) c.args.tasks.now c.args.links.now) _ _ _ c.load.ensures _ c.in_err-load.was)

pub returns : goal.returns
returns c = form-opened (value_bytes c.args.processors c.args.limit c.args.unpacking (cube_of c.args.cube) c.args.tasks.now c.args.links.now) _ _ _ c.load.ensures c.in_ok-load.was _ _ c.level.ensures
