-- `read` (src/sheets.rt) keeps its contract.
use Prim.Native.Nat.{◌*◌, ℕ}
use Rattle.levelling.proofs.Opens.{open-loaded}
use Rattle.entry_points.proofs.Opening.{links-short, sheet-done, sheet-refused, tasks-short}
use mathlib.Core.Path.{ap}
use native.Mathlib.Omega.{arith}
use Rattle.std.proofs.lemmas.Result.{err_from_is_err_and}
use Rattle.entry_points.proofs.sheets.read.Goals as goal

pub tasks-n-requires : goal.tasks-n-requires
tasks-n-requires c = open-loaded c.read.ensures c.in_ok-read.was

pub returns-then-tasks-n : goal.returns-then-tasks-n
returns-then-tasks-n c =
    rw c.at.ensures (tasks-short c.args.tasks.now c.args.links.now c.args.board.now c.read.ensures c.in_ok-read.was _ (ap (λ (k : ℕ). 2 * k) c.tasks-n.ensures.0) c.if-tasks-n.true)

pub links-m-requires : goal.links-m-requires
links-m-requires c = open-loaded c.read.ensures c.in_ok-read.was

pub returns-then-links-m : goal.returns-then-links-m
returns-then-links-m c =
    rw c.at-then-links-m.ensures (links-short c.args.tasks.now c.args.links.now c.args.board.now c.read.ensures c.in_ok-read.was _ _ (ap (λ (k : ℕ). 2 * k) c.tasks-n.ensures.0) c.if-tasks-n.false (ap (λ (k : ℕ). 4 * k) c.links-m.ensures.0) c.if-links-m.true)

pub tasks-requires : goal.tasks-requires
tasks-requires c = record { loaded = open-loaded c.read.ensures c.in_ok-read.was; w_in_bounds = omega (arith, c.tasks-n.ensures.0, c.if-tasks-n.false) }

pub links-requires : goal.links-requires
links-requires c = record { loaded = open-loaded c.read.ensures c.in_ok-read.was; w_in_bounds = omega (arith, c.links-m.ensures.0, c.if-links-m.false) }

pub put_board-requires : goal.put_board-requires
put_board-requires c = open-loaded c.read.ensures c.in_ok-read.was

pub returns-in_err-read : goal.returns-in_err-read
returns-in_err-read c =
    let p = err_from_is_err_and c.from_residual.result c.from_residual.ensures.1 in
    rw (p.1, p.2) (sheet-refused c.args.tasks.now c.args.links.now c.args.board.now c.read.ensures _ c.in_err-read.was)

pub returns : goal.returns
returns c = sheet-done c.args.tasks.now c.args.links.now c.args.board.now c.read.ensures c.in_ok-read.was (omega (arith, c.tasks-n.ensures.0, c.if-tasks-n.false)) (omega (arith, c.links-m.ensures.0, c.if-links-m.false)) _ _ _ c.tasks.ensures c.links.ensures c.put_board.ensures
