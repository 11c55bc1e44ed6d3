-- `put_board` (src/tables.rt) keeps its contract.
use native.Mathlib.Omega.{arith}
use lib.ListN.{length-set}
use Rattle.sheet.specs.Tables.{board_words}
use Rattle.sheet.proofs.Joins.{board-loaded-of}
use Rattle.sheet.proofs.tables.put_board.Goals as goal

pub bounds-w-1 : goal.bounds-w-1
bounds-w-1 c = simp length-set (omega arith)

pub bounds-w-2 : goal.bounds-w-2
bounds-w-2 c = simp length-set (omega arith)

pub bounds-w-3 : goal.bounds-w-3
bounds-w-3 c = simp length-set (omega arith)

pub bounds-w-4 : goal.bounds-w-4
bounds-w-4 c = simp length-set (omega arith)

pub bounds-w-5 : goal.bounds-w-5
bounds-w-5 c = simp length-set (omega arith)

pub returns : goal.returns
unfolding board_words
returns c = board-loaded-of c.args.w.now c.args.processors c.args.limit c.requires.0 c.requires.1
