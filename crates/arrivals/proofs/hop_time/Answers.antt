-- `hop_time` (src/lib.rt) keeps its contract.
use mathlib.Core.Path.{ap}
use Prim.Native.Nat.{◌*◌}
use native.Mathlib.Omega.{arith}
use Rattle.arrivals.proofs.Stepping.{times-le}
use Rattle.arrivals.proofs.hop_time.Goals as goal

pub overflow_mul-result : goal.overflow_mul-result
overflow_mul-result c =
    let n = c.hops.result in
    record { fits = omega (arith, times-le 8 c.args.cost n (omega (arith, c.requires.0)) (omega (arith, c.hops.ensures.1))) }

pub returns : goal.returns
returns c =
    let n = c.hops.result in (
      ap (λ x. c.args.cost * x) (c.hops.ensures.0),
      omega (arith, times-le 8 c.args.cost n (omega (arith, c.requires.0)) (omega (arith, c.hops.ensures.1))),
    )
