-- `add_try` (src/loads.rt) keeps its contract.
use Rattle.std.proofs.Common.{ℕ, ◌%◌, ◌<◌, get_or, subst, mod-lt}
use Rattle.sheet.specs.Sheet.{Link}
use Rattle.generator.specs.Filled.{TriedIn}
use Rattle.generator.proofs.Steps.{fourth-states, try-is}
use Rattle.generator.proofs.loads.add_try.Goals as goal

pub try_link-requires : goal.try_link-requires
try_link-requires c =
    let below : (x : ℕ) → x % c.args.tasks < get_or c.args.w.now 0 0 = λ x. subst (λ (n : ℕ). x % c.args.tasks < n) c.requires.tasks_value.0 (mod-lt x c.requires.tasks_value.1) in
    record { filling = c.requires.filling; source_bound = (below _, below _, c.requires.tasks_value.2) }

pub returns : goal.returns
returns c =
    let d = c.args.d in
    let e = c.next-first.ensures in
    let f = c.next-second.ensures in
    let g = c.next-third.ensures in
    let k = c.next-fourth.ensures in
    let x = try-is d _ _ e f _ _ g k c.args.tasks _ _ _ _ c.draw.ensures c.draw-2.ensures c.draw-3.ensures c.draw-4.ensures in
    (fourth-states d _ _ e f _ _ g k, subst (λ (l : Link). TriedIn l c.args.w.now c.try_link.new.w) x c.try_link.ensures)
