-- `read` (src/bundles.rt) keeps its contract.
use Rattle.entry_points.proofs.Bundling.{bundle-no, bundle-refused, bundle-yes}
use Rattle.levelling.proofs.Opens.{open-loaded}
use Rattle.entry_points.proofs.Opening.{open-counted, open-sized}
use native.Mathlib.Omega.{arith}
use Rattle.std.proofs.lemmas.Result.{err_from_is_err_and}
use Rattle.entry_points.proofs.bundles.read.Goals as goal

pub processors-p-requires : goal.processors-p-requires
processors-p-requires c = open-loaded c.read.ensures c.in_ok-read.was

pub tasks-t-requires : goal.tasks-t-requires
tasks-t-requires c = open-loaded c.read.ensures c.in_ok-read.was

pub links-l-requires : goal.links-l-requires
links-l-requires c = open-loaded c.read.ensures c.in_ok-read.was

pub read_values-requires : goal.read_values-requires
read_values-requires c = (omega (arith, c.processors-p.ensures.1, (open-loaded c.read.ensures c.in_ok-read.was).long), open-counted c.processors-p.ensures.1 c.tasks-t.ensures.1 c.links-l.ensures.1)

pub returns-in_err-read : goal.returns-in_err-read
returns-in_err-read c =
    let p = err_from_is_err_and c.from_residual.result c.from_residual.ensures.1 in
    rw (p.1, p.2) (bundle-refused c.args.bundle.now c.args.commands.now c.args.claim.now c.read.ensures _ c.in_err-read.was)

pub returns-in_err-copied : goal.returns-in_err-copied
returns-in_err-copied c =
    let p = err_from_is_err_and c.from_residual-in_err-copied.result c.from_residual-in_err-copied.ensures.1 in
    rw (p.1, p.2) (bundle-no c.args.bundle.now c.args.commands.now c.args.claim.now c.read.ensures c.in_ok-read.was (open-sized _ c.processors-p.ensures.0 c.tasks-t.ensures.0 c.links-l.ensures.0) c.read_values.ensures _ c.in_err-copied.was)

pub returns : goal.returns
returns c = bundle-yes c.args.bundle.now c.args.commands.now c.args.claim.now c.read.ensures c.in_ok-read.was (open-sized _ c.processors-p.ensures.0 c.tasks-t.ensures.0 c.links-l.ensures.0) c.read_values.ensures _ c.in_ok-copied.was
