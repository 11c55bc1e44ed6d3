-- `write` (src/bundles.rt) keeps its contract.
use Rattle.bundle.specs.Format.{read_bundle}
use Rattle.folds.specs.Answers.{and_then, fitting}
use Rattle.bundle.specs.Writing.{value_bytes}
use Rattle.entry_points.proofs.Bundling.{writing-is}
use Rattle.levelling.proofs.Opens.{open-loaded}
use Rattle.entry_points.proofs.Opening.{open-counted, open-sized, part-refused}
use lib.ListN.{length}
use Rattle.std.proofs.lemmas.Result.{err_from_is_err_and}
use Rattle.entry_points.proofs.bundles.write.Goals as goal

pub processors-p-requires : goal.processors-p-requires
processors-p-requires c = open-loaded c.read.ensures c.in_ok-read.was

pub tasks-t-requires : goal.tasks-t-requires
tasks-t-requires c = open-loaded c.read.ensures c.in_ok-read.was

pub links-l-requires : goal.links-l-requires
links-l-requires c = open-loaded c.read.ensures c.in_ok-read.was

pub write-requires : goal.write-requires
write-requires c = open-counted c.processors-p.ensures.1 c.tasks-t.ensures.1 c.links-l.ensures.1

pub returns-in_err-read : goal.returns-in_err-read
returns-in_err-read c =
    let p = err_from_is_err_and c.from_residual.result c.from_residual.ensures.1 in
    rw (p.1, p.2) (part-refused (λ x. and_then (read_bundle x (value_bytes c.args.commands.now c.args.claim)) (λ b. fitting (length c.args.out.now) (value_bytes c.args.commands.now c.args.claim))) c.read.ensures _ c.in_err-read.was)

pub returns : goal.returns
returns c = writing-is c.args.commands.now c.args.out.now c.args.claim c.read.ensures c.in_ok-read.was (open-sized _ c.processors-p.ensures.0 c.tasks-t.ensures.0 c.links-l.ensures.0) c.write.ensures
