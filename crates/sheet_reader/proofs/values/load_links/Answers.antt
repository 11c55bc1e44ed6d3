-- `load_links` (src/values.rt) keeps its contract.
use Prim.Native.Nat.{◌*◌, ◌+◌, ◌-◌, ◌/◌, ℕ}
use Rattle.folds.proofs.Lists.{rest}
use Rattle.sheet_reader.proofs.Given.{link_fits, link_tail, links-closed, links-start, refuse-link, scan-at, take_link}
use Rattle.refusals.proofs.Results.{fault-by, found-by}
use Rattle.refusals.specs.Refusals.{fault_of}
use Rattle.refusals.specs.declared.Refusal.{Refusal}
use Rattle.sheet_reader.specs.Answers.{ReadIs}
use Rattle.std.proofs.lemmas.Result.{err_from_is_err_and}
use Rattle.std.specs.Prelude.{Err}
use Rattle.sheet_reader.specs.Scanning.{Scanning, read_on}
use Rattle.sheet.specs.Tables.{Filling}
use Rattle.sheet.specs.Writing.{link_bytes, link_value, link_value_bytes}
use Rattle.sheet.specs.Sizes.{link_size}
use lib.ListN.{length}
use mathlib.Core.List.{List, ◌++◌}
use mathlib.Core.Path.{◌∙◌, ap, refl, subst, sym}
use native.Mathlib.Omega.{arith}
use Rattle.sheet_reader.proofs.values.load_links.Goals as goal

pub loop-j-init : goal.loop-j-init
loop-j-init c = (refl, omega arith, c.requires.filling, scan-at (c.args.start + link_size * 0) (links-start c.args.links.now c.args.w.now c.args.tasks c.args.start c.requires.filling c.requires.tasks_value.0 c.requires.tasks_value.1) (omega arith))

pub returns-in_err-at : goal.returns-in_err-at
returns-in_err-at c =
    let v = c.args.links.now in
    let p = err_from_is_err_and c.from_residual.result c.from_residual.ensures.1 in
    let f = fault-by _ _ _ (sym c.in_err-at.was ∙ c.at.ensures) in
    rw (p.1, p.2) (subst (λ (x : Refusal). ReadIs (read_on c.args.w.now (link_value_bytes c.args.links.now) c.args.start) c.args.w.now c.loop-j.w (Err x)) (sym f.is)
    (refuse-link (link_value v) (length v / 4) (link_tail v) c.loop-j.invariant.3 c.loop-j-test.true _ (sym c.link_fault-fault.ensures ∙ ap fault_of f.found)))

pub add_link-requires : goal.add_link-requires
add_link-requires c =
    let v = c.args.links.now in
    let f = link_fits (link_value v) (length v / 4) (link_tail v) c.loop-j.invariant.3 c.loop-j-test.true c.loop-j.invariant.2 (sym c.link_fault-fault.ensures ∙ ap fault_of (found-by _ _ _ (sym c.in_ok-at.was ∙ c.at.ensures))) in
    record { j_in_bounds = (omega (arith, c.loop-j-test.true), c.loop-j.invariant.3.loaded.long, f.0); j_bound = (f.1, f.2); j_value = f.3 }

pub loop-j-preserved : goal.loop-j-preserved
loop-j-preserved c =
    let v = c.args.links.now in
    let w₀ = c.args.w.now in
    let e = c.args.start in
    let n = c.args.tasks in
    let j = c.loop-j.j in
    let i = c.loop-j.invariant in
    let clear = sym c.link_fault-fault.ensures ∙ ap fault_of (found-by _ _ _ (sym c.in_ok-at.was ∙ c.at.ensures)) in
    let t =
    take_link (link_value v) (length v / 4) (link_tail v) i.3 c.loop-j-test.true i.2 clear
    (omega (arith, c.type_inv.links (4 * j + 2))) (omega (arith, c.type_inv.links (4 * j + 3))) in
    let u =
    subst (λ (u : List ℕ). Filling u × Scanning (read_on w₀ (link_value_bytes v) e) (link_bytes (rest (j + 1) (length v / 4 - (j + 1)) (link_value v)) ++ link_tail v) w₀ u n (j + 1) (e + link_size * (j + 1)))
    (sym c.add_link.ensures) (t.0, scan-at (e + link_size * (j + 1)) t.1 (omega arith)) in
    (refl, omega (arith, c.loop-j-test.true), u.0, u.1)

pub returns : goal.returns
returns c = links-closed c.args.links.now c.loop-j.invariant.3 (omega (arith, c.loop-j-test.false)) _ c.args.start refl c.closing.ensures
