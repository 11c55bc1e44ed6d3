-- `times` (src/lib.rt) keeps its contract.
use Rattle.arrivals.proofs.Stepping.{times-le}
use native.Mathlib.Omega.{arith}
use borrow.Author.Rules.{rules}
use Rattle.arrivals.proofs.times.Goals as goal

pub overflow_mul-result : goal.overflow_mul-result
overflow_mul-result c = record { fits = omega (arith, times-le 255 c.args.cost c.args.hops (search rules) (search rules)) }

pub returns : goal.returns
returns c = (search rules, omega (arith, times-le 255 c.args.cost c.args.hops (search rules) (search rules)))
