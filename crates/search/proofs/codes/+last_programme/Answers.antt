-- `last_programme` (src/codes.rt) keeps its contract.
use native.Mathlib.Omega.{arith}
use Prim.Native.Nat.{◌-◌, ◌/◌}
use Rattle.search.proofs.Digits.{last-le, last_none, last-here, last_more}
use Rattle.search.proofs.codes.+last_programme.Goals as goal

pub returns-then-len-eq0 : goal.returns-then-len-eq0
returns-then-len-eq0 t c = last_none _ _ (omega (arith, c.if-len-eq0.true))

pub returns-then-code-eq1 : goal.returns-then-code-eq1
returns-then-code-eq1 t c = last-here _ _ (λ q. omega (arith, c.if-len-eq0.false)) (omega (arith, c.if-code-eq1.true))

pub overflow_sub-len : goal.overflow_sub-len
overflow_sub-len t c = omega (arith, c.if-len-eq0.false)

pub last_programme-p-requires : goal.last_programme-p-requires
last_programme-p-requires t c = (omega (arith, c.decreases, c.if-len-eq0.false), omega (arith, c.requires))

pub overflow_add-result : goal.overflow_add-result
overflow_add-result t c = omega (arith, c.last_programme-p.ensures.tasks, last-le (c.args.len - 1) (c.args.code / 16), c.requires)

pub returns : goal.returns
returns t c = last_more _ _ _ (λ q. omega (arith, c.if-len-eq0.false)) (λ q. omega (arith, c.if-code-eq1.false)) c.last_programme-p.ensures
