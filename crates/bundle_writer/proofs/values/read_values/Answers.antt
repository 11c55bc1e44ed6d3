-- `bundle::values::read_values` meets its contract.
use Rattle.bundle_reader.proofs.Told.{told-refused}
use Rattle.bundle_writer.proofs.Valued.{values-copied, values-copyable, values-refused, values-short}
use Rattle.std.proofs.lemmas.Result.{err_from_is_err_and}
use native.Mathlib.Omega.{arith}
use Rattle.bundle_writer.proofs.values.read_values.Goals as goal

pub overflow_add-values : goal.overflow_add-values
overflow_add-values c = omega (arith, c.read.ensures.fits _ c.in_ok-outline.was)

pub overflow_mul-values : goal.overflow_mul-values
overflow_mul-values c = omega (arith, c.read.ensures.fits _ c.in_ok-outline.was)

pub returns-then-out-values : goal.returns-then-out-values
returns-then-out-values c =
    rw c.at.ensures (values-short c.read.ensures _ _ c.in_ok-outline.was c.if-out-values.true)

pub copy-requires : goal.copy-requires
copy-requires c = values-copyable c.read.ensures _ _ c.in_ok-outline.was c.requires.1 c.if-out-values.false

pub returns-in_err-outline : goal.returns-in_err-outline
returns-in_err-outline c =
    let p = err_from_is_err_and c.from_residual.result c.from_residual.ensures.1 in
    rw (p.1, p.2) (values-refused c.read.ensures _ _ (told-refused c.read.ensures _ c.in_err-outline.was))

pub returns : goal.returns
returns c = values-copied c.read.ensures _ _ c.in_ok-outline.was c.requires.1 c.if-out-values.false _ c.copy.ensures
