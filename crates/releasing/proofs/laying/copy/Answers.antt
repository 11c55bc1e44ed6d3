-- `copy` (src/laying.rt) keeps its contract.
use mathlib.Core.Path.{◌≡◌, sym, ap}
use native.Mathlib.Omega.{arith}
use Rattle.releasing.specs.Inserting.{part}
use Rattle.releasing.proofs.Lays.{lay-none, lay-as, lay-one, lay-long, part_none, part-more}
use Rattle.releasing.proofs.laying.copy.Goals as goal

pub loop-i-init : goal.loop-i-init
loop-i-init c =
    let a = c.args in
    (omega arith, lay-as (sym (part_none a.bundle.now a.from)) (lay-none a.out.now a.start))

pub loop-i-preserved : goal.loop-i-preserved
loop-i-preserved c =
    let i = c.loop-i.invariant in
    let a = c.args in
    let pre = c.requires in (
      omega arith,
      lay-as (sym (part-more a.bundle.now a.from c.loop-i.i c.loop-i.auto.i (omega (arith, pre.1, c.loop-i-test.true)))) (lay-one _ i.1 c.put.ensures),
    )

pub shape_of-out : goal.shape_of-out
shape_of-out c = lay-long c.loop-i.invariant.1

pub returns : goal.returns
returns c =
    let e : c.loop-i.i ≡ c.args.to = omega (arith, c.loop-i-test.false, c.loop-i.auto.i-end) in
    lay-as (ap (part c.args.bundle.now c.args.from) e) c.loop-i.invariant.1
