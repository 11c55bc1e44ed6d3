-- `load_one` (src/load.rt) keeps its contract.
use native.Mathlib.Omega.{arith}
use Rattle.stepping_machine.proofs.Opening.{one-loaded, decodable-at}
use Rattle.stepping_machine.proofs.load.load_one.Goals as goal

pub load_programme-x-requires : goal.load_programme-x-requires
load_programme-x-requires c = (decodable-at _ _ c.args.w.now _ c.args.k _ _ c.word-o.ensures.0 c.word-e.ensures.0 c.requires.0, c.word-e.ensures.1, omega (arith, c.requires.4))

pub ways-requires : goal.ways-requires
ways-requires c = let s = c.requires in (omega (arith, s.2, c.load_programme-x.ensures.long), s.3, s.1)

pub open_programme-requires : goal.open_programme-requires
open_programme-requires c =
    let s = c.requires in
    (s.1, omega (arith, s.2, c.ways.ensures.long, c.load_programme-x.ensures.long))

pub overflow_add-result : goal.overflow_add-result
overflow_add-result c = omega (arith, c.load_programme-x.ensures.far, c.word-e.ensures.1, c.requires.4)

pub returns : goal.returns
returns c =
    let last = c.word-e.ensures in
    one-loaded _ _ c.args.w.now _ _ _ _ c.args.k _ _ _ _ _ c.requires.1 c.requires.2 c.requires.3 c.word-o.ensures.0 last.0 last.1
    c.load_programme-x.ensures c.ways.ensures c.open_programme.ensures
