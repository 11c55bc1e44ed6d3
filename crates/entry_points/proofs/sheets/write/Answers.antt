-- `write` (src/sheets.rt) keeps its contract.
use Prim.Native.Nat.{◌<◌, ℕ}
use Rattle.folds.specs.Answers.{fitting}
use Rattle.sheet.specs.Writing.{cube_of, value_bytes}
use Rattle.levelling.proofs.Opens.{open-loaded, open-value}
use Rattle.entry_points.proofs.Opening.{few-values, narrow-values, need-length, part-done, part-refused, part-short, whole-values}
use lib.ListN.{get_or, length}
use mathlib.Core.Path.{refl}
use native.Mathlib.Omega.{arith}
use Rattle.std.proofs.lemmas.Result.{err_from_is_err_and}
use Rattle.entry_points.proofs.sheets.write.Goals as goal

pub overflow_add-need-2 : goal.overflow_add-need-2
overflow_add-need-2 c =
    let a = c.args in
    let tv = a.tasks.now in
    let lv = a.links.now in
    let ts : (k : ℕ) → get_or tv k 0 < 65536 = λ k. omega (arith, c.shared_slice_known-1.given k) in
    let ls : (k : ℕ) → get_or lv k 0 < 65536 = λ k. omega (arith, c.shared_slice_known-2-1.given k) in
    let v = open-value c.load.ensures c.in_ok-load.was in
    let few = few-values a.processors a.limit a.unpacking (cube_of a.cube) tv lv _ ts ls (omega (arith, c.ranges.limit)) (omega (arith, c.ranges.unpacking)) v (open-loaded c.load.ensures c.in_ok-load.was) refl in
    omega (arith, few.0, few.1, c.front-start.ensures.1)

pub overflow_add-need-3 : goal.overflow_add-need-3
overflow_add-need-3 c =
    let a = c.args in
    let tv = a.tasks.now in
    let lv = a.links.now in
    let ts : (k : ℕ) → get_or tv k 0 < 65536 = λ k. omega (arith, c.shared_slice_known-1.given k) in
    let ls : (k : ℕ) → get_or lv k 0 < 65536 = λ k. omega (arith, c.shared_slice_known-2-1.given k) in
    let v = open-value c.load.ensures c.in_ok-load.was in
    let few = few-values a.processors a.limit a.unpacking (cube_of a.cube) tv lv _ ts ls (omega (arith, c.ranges.limit)) (omega (arith, c.ranges.unpacking)) v (open-loaded c.load.ensures c.in_ok-load.was) refl in
    omega (arith, few.0, few.1, c.front-start.ensures.1)

pub returns-then-out-need : goal.returns-then-out-need
returns-then-out-need c =
    let a = c.args in
    let tv = a.tasks.now in
    let lv = a.links.now in
    let ts : (k : ℕ) → get_or tv k 0 < 65536 = λ k. omega (arith, c.shared_slice_known-1.given k) in
    let ls : (k : ℕ) → get_or lv k 0 < 65536 = λ k. omega (arith, c.shared_slice_known-2-1.given k) in
    let v = open-value c.load.ensures c.in_ok-load.was in
    rw c.at.ensures (part-short (λ x. value_bytes a.processors a.limit a.unpacking (cube_of a.cube) tv lv) a.out.now c.load.ensures c.in_ok-load.was _
    (need-length a.processors a.limit a.unpacking (cube_of a.cube) tv lv _ ts ls (omega (arith, c.ranges.limit)) (omega (arith, c.ranges.unpacking)) v _ c.front-start.ensures.0) c.if-out-need.true)

pub put_sheet-requires : goal.put_sheet-requires
put_sheet-requires c =
    let a = c.args in
    let tv = a.tasks.now in
    let lv = a.links.now in
    let ts : (k : ℕ) → get_or tv k 0 < 65536 = λ k. omega (arith, c.shared_slice_known-1.given k) in
    let ls : (k : ℕ) → get_or lv k 0 < 65536 = λ k. omega (arith, c.shared_slice_known-2-1.given k) in
    let v = open-value c.load.ensures c.in_ok-load.was in
    record { links_in_bounds = (omega (arith, c.if-out-need.false, c.front-start.ensures.0), narrow-values a.processors a.limit a.unpacking (cube_of a.cube) tv lv _ ts ls (omega (arith, c.ranges.limit)) (omega (arith, c.ranges.unpacking)) v); tasks_len = whole-values a.processors a.limit a.unpacking (cube_of a.cube) tv lv _ ts ls (omega (arith, c.ranges.limit)) (omega (arith, c.ranges.unpacking)) v }

pub returns-in_err-load : goal.returns-in_err-load
returns-in_err-load c =
    let p = err_from_is_err_and c.from_residual.result c.from_residual.ensures.1 in
    rw (p.1, p.2) (let a = c.args in
    part-refused (λ x. fitting (length a.out.now) (value_bytes a.processors a.limit a.unpacking (cube_of a.cube) a.tasks.now a.links.now)) c.load.ensures _ c.in_err-load.was)

pub returns : goal.returns
returns c =
    let a = c.args in
    let tv = a.tasks.now in
    let lv = a.links.now in
    let ts : (k : ℕ) → get_or tv k 0 < 65536 = λ k. omega (arith, c.shared_slice_known-1.given k) in
    let ls : (k : ℕ) → get_or lv k 0 < 65536 = λ k. omega (arith, c.shared_slice_known-2-1.given k) in
    let v = open-value c.load.ensures c.in_ok-load.was in
    part-done (λ x. value_bytes a.processors a.limit a.unpacking (cube_of a.cube) tv lv) a.out.now c.load.ensures c.in_ok-load.was _
    (need-length a.processors a.limit a.unpacking (cube_of a.cube) tv lv _ ts ls (omega (arith, c.ranges.limit)) (omega (arith, c.ranges.unpacking)) v _ c.front-start.ensures.0) c.if-out-need.false _ c.put_sheet.ensures
