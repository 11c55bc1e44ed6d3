-- `is_partly_ready` (src/lib.rt) keeps its contract.
use Prim.Native.Nat.{◌≤◌}
use mathlib.Core.Bool.{not}
use mathlib.Core.Path.{◌∙◌, ap, sym}
use native.Mathlib.Omega.{arith}
use borrow.Author.Tests.{le-ltb}
use Rattle.readiness.proofs.Counts.{partly_none, partly-some, placed-partly}
use Rattle.readiness.proofs.is_partly_ready.Goals as goal
use Rattle.readiness.proofs.is_partly_ready.Goals.{then-not-is_placed, else-not-is_placed}

pub returns-then-x-gt0 : goal.returns-then-x-gt0
returns-then-x-gt0 c = partly-some c.requires c.word-x.ensures.0 c.word-n.ensures.0 (sym c.is_placed.ensures ∙ c.if-x-gt0.true.0) c.if-x-gt0.true.1

pub returns-else-x-gt0 : goal.returns-else-x-gt0
returns-else-x-gt0 c =
    elim c.if-not-is_placed.branch [
      | then-not-is_placed w ↦
          let e = w.if-not-is_placed.true in
          let few : c.word-x.result ≤ 0 = grind (arith, c.if-x-gt0.either, e) in
          w.t-8-is ∙ le-ltb 0 _ few ∙ partly_none c.requires c.word-x.ensures.0 c.word-n.ensures.0 (sym c.is_placed.ensures ∙ e) few
      | else-not-is_placed w ↦ w.t-8-is ∙ ap not w.if-not-is_placed.false ∙ placed-partly _ _ c.args.t (sym c.is_placed.ensures ∙ w.if-not-is_placed.false)
    ]
