-- `levels` (src/sheets.rt) keeps its contract.
use Rattle.folds.specs.Answers.{fitting}
use Rattle.levelling.proofs.Opens.{open-levelled, open-loaded}
use Rattle.entry_points.proofs.Opening.{levels-length, part-done, part-refused, part-short}
use Rattle.entry_points.specs.Values.{levels_of}
use lib.ListN.{length}
use mathlib.Core.Path.{◌∙◌, sym}
use native.Mathlib.Omega.{arith}
use Rattle.std.proofs.lemmas.Result.{err_from_is_err_and}
use Rattle.entry_points.proofs.sheets.levels.Goals as goal

pub tasks-n-requires : goal.tasks-n-requires
tasks-n-requires c = open-loaded c.read.ensures c.in_ok-read.was

pub returns-then-out-n : goal.returns-then-out-n
returns-then-out-n c =
    let h = c.read.ensures in
    rw c.at.ensures (part-short levels_of c.args.out.now h c.in_ok-read.was _ (c.tasks-n.ensures.0 ∙ sym (levels-length _)) c.if-out-n.true)

pub copy_levels-requires : goal.copy_levels-requires
copy_levels-requires c =
    let h = c.read.ensures in
    record { loaded = open-loaded h c.in_ok-read.was; levelled = open-levelled h c.in_ok-read.was; w_in_bounds = omega (arith, c.tasks-n.ensures.0, c.if-out-n.false) }

pub returns-in_err-read : goal.returns-in_err-read
returns-in_err-read c =
    let p = err_from_is_err_and c.from_residual.result c.from_residual.ensures.1 in
    rw (p.1, p.2) (part-refused (λ s. fitting (length c.args.out.now) (levels_of s)) c.read.ensures _ c.in_err-read.was)

pub returns : goal.returns
returns c = let h = c.read.ensures in part-done levels_of c.args.out.now h c.in_ok-read.was _ (c.tasks-n.ensures.0 ∙ sym (levels-length _)) c.if-out-n.false _ c.copy_levels.ensures
