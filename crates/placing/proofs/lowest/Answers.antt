-- `lowest` (src/lib.rt) keeps its contract.
use Prim.Native.Nat.{ℕ}
use native.Mathlib.Omega.{arith}
use mathlib.Core.Path.{sym, ap, ◌∙◌}
use Rattle.folds.specs.Folds.{first}
use Rattle.placing.specs.Sets.{member}
use Rattle.placing.proofs.Sets.{lowest-is, lowest-none, trailing_lt}
use Rattle.placing.proofs.lowest.Goals as goal

pub returns-then-set-eq0 : goal.returns-then-set-eq0
returns-then-set-eq0 c = (sym (ap (λ (s : ℕ). first 16 (member s)) c.if-set-eq0.true ∙ lowest-none 16), tt)

pub returns : goal.returns
returns c =
    let set = c.args.set in
    (sym (lowest-is 16 set (omega arith) (omega arith)), omega (arith, trailing_lt 16 set 16 (omega arith) (omega arith) (omega arith)))
