-- `key_of` (src/lib.rt) keeps its contract.
use native.Mathlib.Omega.{arith}
use Rattle.readiness.proofs.Keying.{level-le}
use Rattle.readiness.specs.Keyed.{key_of}
use Rattle.sheet.specs.Tables.{sheet_in}
use Rattle.sheet.proofs.Rows.{ranged, task-index}
use Rattle.readiness.proofs.key_of.Goals as goal

pub overflow_mul-result-2 : goal.overflow_mul-result-2
overflow_mul-result-2 c =
    let w = c.args.w.now in
    omega (arith, c.level_of-v.ensures.0, level-le (sheet_in w) (ranged w c.requires.loaded.0) c.args.t c.requires.t_bound.0)

pub overflow_sub-result : goal.overflow_sub-result
overflow_sub-result c = omega (arith, task-index c.args.w.now c.args.t c.requires.loaded.0 c.requires.t_bound.0)

pub overflow_add-result-4 : goal.overflow_add-result-4
overflow_add-result-4 c =
    let w = c.args.w.now in
    omega (arith, c.level_of-v.ensures.0, level-le (sheet_in w) (ranged w c.requires.loaded.0) c.args.t c.requires.t_bound.0)

pub returns : goal.returns
unfolding key_of
returns c = rw c.level_of-v.ensures.0
