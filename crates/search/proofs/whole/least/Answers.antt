-- `least` (src/whole.rt) keeps its contract.
use native.Mathlib.Omega.{arith}
use mathlib.Core.Logic.{⊎_elim}
use Rattle.levelling.proofs.Opens.{open-loaded}
use Rattle.admission.proofs.Areas.{seen-in}
use Rattle.stepping_machine.proofs.Starting.{part-extent, shown}
use Rattle.search.proofs.Ends.{sheet-refused, many-refused, cube-refused, small-view, searched}
use Rattle.std.proofs.lemmas.Result.{err_from_is_err_and}
use Rattle.search.proofs.whole.least.Goals as goal

pub of_tables-v-requires : goal.of_tables-v-requires
of_tables-v-requires c = open-loaded c.read.ensures c.in_ok-read.was

pub returns-then-v : goal.returns-then-v
returns-then-v c =
    let told = c.in_ok-read.was in
    let s = shown _ c.read.ensures (λ k. omega (arith, c.type_inv.sheet k)) told in
    rw c.at.ensures (⊎_elim
    (λ q. cube-refused _ c.read.ensures _ told s c.of_tables-v.ensures (λ k. omega (arith, c.type_inv.sheet k)) q)
    (λ l. many-refused _ c.read.ensures _ told s c.of_tables-v.ensures (λ k. omega (arith, c.type_inv.sheet k)) l.1) c.then-v.either)

pub search-requires : goal.search-requires
search-requires c =
    let told = c.in_ok-read.was in
    let s = shown _ c.read.ensures (λ k. omega (arith, c.type_inv.sheet k)) told in (
      seen-in _ _ _ s c.of_tables-v.ensures,
      small-view _ c.read.ensures c.args.out.now told s c.of_tables-v.ensures (λ k. omega (arith, c.type_inv.sheet k)) c.if-v-gt-MOST.false,
      part-extent c.read.new.w s.loaded.long,
    )

pub returns-in_err-read : goal.returns-in_err-read
returns-in_err-read c =
    let p = err_from_is_err_and c.from_residual.result c.from_residual.ensures.1 in
    rw (p.1, p.2) (sheet-refused _ c.read.ensures _ _ c.in_err-read.was)

pub returns : goal.returns
returns c =
    let told = c.in_ok-read.was in
    let s = shown _ c.read.ensures (λ k. omega (arith, c.type_inv.sheet k)) told in
    searched _ c.read.ensures _ told s c.of_tables-v.ensures (λ k. omega (arith, c.type_inv.sheet k)) c.if-v-gt-MOST.false c.if-v.false _ _ _ c.work-2-1.given.1 c.search.ensures
