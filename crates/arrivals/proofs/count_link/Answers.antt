-- `count_link` (src/lib.rt) keeps its contract.
use Prim.Native.Nat.{◌+◌, ℕ}
use mathlib.Core.Path.{ap, ap₂, subst, sym}
use native.Mathlib.Omega.{arith}
use Rattle.sheet.specs.Tables.{sheet_in}
use Rattle.sheet.proofs.Rows.{ranged, task-index}
use Rattle.schedule.specs.Layout.{schedule_in}
use Rattle.arrivals.proofs.Fours.{small-unit}
use Rattle.arrivals.proofs.Links.{counted-by, few-counted, number_small}
use Rattle.arrivals.proofs.Reaches.{Small, further-small}
use Rattle.arrivals.proofs.count_link.Goals as goal

pub overflow_add-v : goal.overflow_add-v
overflow_add-v c = omega (arith, task-index _ _ c.requires.loaded.0 c.target-v.ensures.1)

pub word-seen-requires : goal.word-seen-requires
word-seen-requires c = omega (arith, task-index _ _ c.requires.loaded.0 c.target-v.ensures.1, c.requires.loaded.1)

pub overflow_add-v-2 : goal.overflow_add-v-2
overflow_add-v-2 c = omega (arith, task-index _ _ c.requires.loaded.0 c.target-v.ensures.1)

pub word-most-requires : goal.word-most-requires
word-most-requires c = omega (arith, task-index _ _ c.requires.loaded.0 c.target-v.ensures.1, c.requires.loaded.1)

pub overflow_add-v-3 : goal.overflow_add-v-3
overflow_add-v-3 c = omega (arith, task-index _ _ c.requires.loaded.0 c.target-v.ensures.1)

pub word-at-requires : goal.word-at-requires
word-at-requires c = omega (arith, task-index _ _ c.requires.loaded.0 c.target-v.ensures.1, c.requires.loaded.1)

pub overflow_mul-v : goal.overflow_mul-v
overflow_mul-v c = omega (arith, task-index _ _ c.requires.loaded.0 c.target-v.ensures.1)

pub overflow_add-v-4 : goal.overflow_add-v-4
overflow_add-v-4 c = omega (arith, task-index _ _ c.requires.loaded.0 c.target-v.ensures.1, c.requires.k_bound.0)

pub overflow_add-v-5 : goal.overflow_add-v-5
overflow_add-v-5 c = omega (arith, task-index _ _ c.requires.loaded.0 c.target-v.ensures.1, c.requires.k_bound.0)

pub word-number-requires : goal.word-number-requires
word-number-requires c = omega (arith, task-index _ _ c.requires.loaded.0 c.target-v.ensures.1, c.requires.k_bound.0, c.requires.loaded.1)

pub overflow_add-number : goal.overflow_add-number
overflow_add-number c = omega (arith, small-unit c.args.k, c.one_of.ensures, c.word-number.ensures.1)

pub write_link-requires : goal.write_link-requires
write_link-requires c =
    let a = c.args in
    let w = a.w.now in
    let range = ranged w c.requires.loaded.0 in
    let v = c.target-v in
    let few = few-counted range c.requires.counted v.result a.k v.ensures.1 c.requires.k_bound.0 in
    let before : Small _ = record { at = c.word-at.ensures.1; most = c.word-most.ensures.1 } in
    let small : Small c.reached-reach.result =
    subst Small (sym c.reached-reach.ensures) (further-small _ a.k _ before (omega (arith, c.requires.k_bound.0)) (omega (arith, c.cost-c.ensures.1, c.requires.k_bound.1))) in
    let number = ap₂ ◌+◌ c.word-number.ensures.0 c.one_of.ensures in
    record {
      kept_length_in_bounds = c.requires.loaded.1;
      v_bound = (
        task-index w v.result c.requires.loaded.0 v.ensures.1,
        c.requires.k_bound.0,
        omega (arith, few.seen, c.word-seen.ensures.0),
        small.at,
        small.most,
        omega (arith, few.pending, c.word-pending.ensures.0),
        number_small (sheet_in w) (schedule_in w) a.kept.now a.t a.l a.k a.f c.requires.k_bound.0 c.requires.k_bound.2 (range.target a.l c.requires.k_bound.2) c.requires.k_bound.3 c.requires.single.1 c.requires.counted v.result v.ensures.0 range c.requires.single.0 number,
      );
    }

pub returns : goal.returns
returns c =
    let a = c.args in
    let w = a.w.now in
    let y = ap (λ (x : ℕ). a.f + x) c.cost-c.ensures.0 in
    let seen = ap (λ (x : ℕ). x + 1) c.word-seen.ensures.0 in
    let pending = ap (λ (x : ℕ). x + 1) c.word-pending.ensures.0 in
    let number = ap₂ ◌+◌ c.word-number.ensures.0 c.one_of.ensures in
    counted-by (sheet_in w) (schedule_in w) a.kept.now _ a.t a.l a.k a.f c.requires.loaded.1 (ranged w c.requires.loaded.0) c.requires.k_bound.0 c.requires.k_bound.2 c.requires.k_bound.3 c.requires.single.1 c.requires.counted
    c.target-v.ensures.0 y seen (λ i. record { at = c.word-at.ensures.0 i; most = c.word-most.ensures.0 i }) pending number c.reached-reach.ensures c.write_link.ensures
