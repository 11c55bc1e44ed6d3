-- `opened` (src/choosing.rt) keeps its contract.
use native.Mathlib.Omega.{arith}
use Rattle.levelling.proofs.Opens.{open-loaded}
use Rattle.admission.proofs.Areas.{seen-in}
use Rattle.stepping_machine.proofs.Starting.{part-extent, shown}
use Rattle.better.proofs.Handing.{sheet-refused, sheet-read}
use Rattle.std.proofs.lemmas.Result.{err_from_is_err_and}
use Rattle.better.proofs.choosing.opened.Goals as goal

pub of_tables-v-requires : goal.of_tables-v-requires
of_tables-v-requires c = open-loaded c.read.ensures c.in_ok-read.was

pub compare-requires : goal.compare-requires
compare-requires c =
    let s = shown _ c.read.ensures (λ k. omega (arith, c.shared_slice_known-1.given k)) c.in_ok-read.was in
    (seen-in _ _ _ s c.of_tables-v.ensures, part-extent c.read.new.w s.loaded.long)

pub returns-in_err-read : goal.returns-in_err-read
returns-in_err-read c =
    let p = err_from_is_err_and c.from_residual.result c.from_residual.ensures.1 in
    rw (p.1, p.2) (sheet-refused _ _ _ _ _ c.read.ensures _ c.in_err-read.was)

pub returns : goal.returns
returns c =
    let told = c.in_ok-read.was in
    let s = shown _ c.read.ensures (λ k. omega (arith, c.shared_slice_known-1.given k)) told in
    sheet-read _ _ _ _ _ c.read.ensures _ _ _ _ told s c.of_tables-v.ensures c.compare.ensures c.work-2-1.given.1
