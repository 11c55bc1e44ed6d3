-- `place_surveyed` (src/lib.rt) keeps its contract.
use mathlib.Core.Path.{◌∙◌, ap, sym}
use native.Mathlib.Omega.{arith}
use Rattle.workspace.specs.Found.{found_of}
use Rattle.workspace.proofs.Searches.{below_at}
use Rattle.placing.proofs.Starts.{start_small}
use Rattle.turns.proofs.Going.{choosing, later-turns}
use Rattle.turns.proofs.Turns.{place-done, place-refused}
use Rattle.turns.proofs.place_surveyed.Goals as goal

pub choice_of-requires : goal.choice_of-requires
choice_of-requires c = record { choosing = (choosing c.requires.going c.requires.j_bound.0 c.requires.j_bound.1 c.requires.t_value.0 c.requires.t_value.1, c.requires.t_value.2); keyed = c.requires.keyed }

pub offset_bounds-starts-k : goal.offset_bounds-starts-k
offset_bounds-starts-k c = omega (arith, below_at 16 c.in-Some.is c.choice_of.ensures.1)

pub bounds-starts-k : goal.bounds-starts-k
bounds-starts-k c = omega (arith, below_at 16 c.in-Some.is c.choice_of.ensures.1)

pub put_on-requires : goal.put_on-requires
put_on-requires c =
    let on = below_at 16 c.in-Some.is c.choice_of.ensures.1 in
    let start = c.requires.t_value.2.on _ on in
    let can = choosing c.requires.going c.requires.j_bound.0 c.requires.j_bound.1 c.requires.t_value.0 c.requires.t_value.1 in
    record { going = c.requires.going; j_bound = (c.requires.j_bound.0, c.requires.j_bound.1, on, start, omega (arith, start, start_small c.args.w.now c.args.kept.now c.args.t _ can on)); t_value = (c.requires.t_value.0, c.requires.t_value.1); keyed = c.requires.keyed }

pub returns-in-None : goal.returns-in-None
returns-in-None c = (rw c.at.ensures (place-refused _ _ c.args.t (sym (ap found_of c.in-None.is) ∙ c.choice_of.ensures.0)), later-turns (omega arith) c.requires.going, c.requires.keyed)

pub returns-in-Some : goal.returns-in-Some
returns-in-Some c =
    let put = c.put_on.ensures in
    (place-done _ _ c.args.t (sym (ap found_of c.in-Some.is) ∙ c.choice_of.ensures.0) put.0, put.1, put.2)
