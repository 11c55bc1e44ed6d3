-- `runs_task` (src/standings.rt) keeps its contract.
use native.Mathlib.Omega.{arith}
use mathlib.Core.Path.{sym, ap, subst, ◌∙◌}
use Rattle.stepping_machine.specs.Words.{first_in, kind_in}
use Rattle.better.proofs.Running.{Passed, passed_none, passed-more, run-found, run_none}
use Rattle.better.proofs.standings.runs_task.Goals as goal

pub loop-i-init : goal.loop-i-init
loop-i-init c = let a = c.args in subst (Passed a.w.now (first_in a.w.now a.k)) (sym c.word-first.ensures.0) (passed_none a.w.now (first_in a.w.now a.k))

pub returns-then-word-eq1 : goal.returns-then-word-eq1
returns-then-word-eq1 c = run-found c.loop-i.invariant.behind (omega (arith, c.word-end.ensures.0, c.loop-i-test.true)) (ap kind_in (sym c.word.ensures.0) ∙ c.if-word-eq1.true)

pub loop-i-preserved : goal.loop-i-preserved
loop-i-preserved c = passed-more c.loop-i.invariant (λ e. c.if-word-eq1.false (ap kind_in c.word.ensures.0 ∙ e))

pub returns : goal.returns
returns c = run_none c.loop-i.invariant (omega (arith, c.word-end.ensures.0, c.loop-i-test.false))
