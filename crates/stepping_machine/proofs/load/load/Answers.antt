-- `load` (src/load.rt) keeps its contract.
use mathlib.Core.Path.{◌∙◌}
use native.Mathlib.Omega.{arith}
use Rattle.stepping_machine.proofs.Opening.{ready-still, load_fits, load-over}
use Rattle.stepping_machine.proofs.load.load.Goals as goal

pub homes-requires : goal.homes-requires
homes-requires c = c.requires.long

pub load_all-requires : goal.load_all-requires
load_all-requires c = ready-still _ _ _ _ _ _ c.homes.ensures c.requires

pub rest-requires : goal.rest-requires
rest-requires c =
    let y = c.requires in
    (y.few, omega (arith, y.long, c.load_all.ensures.long, c.homes.ensures.long))

pub wipe-requires : goal.wipe-requires
wipe-requires c =
    let y = c.requires in (
      y.few,
      omega (arith, c.args.v.few_links, c.args.v.few_tasks),
      c.args.v.unpacks,
      omega (arith, y.long, c.load_all.ensures.long, c.homes.ensures.long, c.rest.ensures.long),
    )

pub load_needs-requires : goal.load_needs-requires
load_needs-requires c =
    let y = c.requires in (
      omega (arith, y.inside),
      omega (arith, y.long, c.load_all.ensures.long, c.homes.ensures.long, c.rest.ensures.long, c.wipe.ensures.long),
    )

pub shape_of-w-in-Some : goal.shape_of-w-in-Some
shape_of-w-in-Some c = c.load_all.ensures.long ∙ c.homes.ensures.long

pub returns-in-Some : goal.returns-in-Some
returns-in-Some c = load-over _ _ _ _ _ _ _ _ _ c.in-Some.is c.homes.ensures c.load_all.ensures

pub shape_of-w-in-None : goal.shape_of-w-in-None
shape_of-w-in-None c = c.load_needs.ensures.long ∙ c.wipe.ensures.long ∙ c.rest.ensures.long ∙ c.load_all.ensures.long ∙ c.homes.ensures.long

pub returns-in-None : goal.returns-in-None
returns-in-None c =
    load_fits _ _ _ _ _ _ _ _ _ _ _ c.requires.long c.in-None.is c.homes.ensures c.load_all.ensures
    c.rest.ensures c.wipe.ensures c.load_needs.ensures
