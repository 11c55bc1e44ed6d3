-- `load` (src/values.rt) keeps its contract.
use Rattle.sheet_reader.proofs.Given.{board-read, board-refused, read_as}
use Rattle.sheet_reader.proofs.Scans.{bare-counts, read_through}
use Rattle.sheet_reader.specs.Scanning.{read_on}
use Rattle.sheet.specs.Writing.{cube_of, task_value_bytes}
use mathlib.Core.Path.{◌∙◌, ap, sym}
use mathlib.Core.Logic.{inl, inr}
use native.Mathlib.Omega.{arith}
use Rattle.sheet_reader.proofs.values.load.Goals.{then-processors-lt1-via-then-processors-lt1, then-processors-lt1-via-else-processors-lt1+then-processors-gt16}
use Rattle.sheet_reader.proofs.values.load.Goals as goal

pub returns-then-processors-lt1 : goal.returns-then-processors-lt1
returns-then-processors-lt1 c =
    let a = c.args in
    let refused = board-refused a.processors a.limit a.unpacking (cube_of a.cube) a.tasks.now a.links.now a.w.now in
    rw c.at.ensures (elim c.then-processors-lt1.branch [
      | then-processors-lt1-via-then-processors-lt1 w ↦ refused (inl w.if-processors-lt1.true)
      | then-processors-lt1-via-else-processors-lt1+then-processors-gt16 w ↦ refused (inr w.if-processors-gt16.true)
    ])

pub load_board-requires : goal.load_board-requires
load_board-requires c = (c.requires, c.if-processors-gt16.false)

pub load_tasks-requires : goal.load_tasks-requires
load_tasks-requires c =
    let f = c.load_board.ensures in
    record { loaded = f.loaded; task_count_at_value = ((bare-counts f).0, (bare-counts f).1, c.front.ensures.1) }

pub shape_of-w : goal.shape_of-w
shape_of-w c = c.load_tasks.ensures.long ∙ c.load_board.ensures.long

pub returns : goal.returns
returns c =
    let a = c.args in
    let f = c.load_board.ensures in
    let read = board-read a.processors a.limit a.unpacking (cube_of a.cube) a.tasks.now a.links.now a.w.now _ c.if-processors-lt1.false c.if-processors-gt16.false (omega (arith, c.ranges.limit)) (omega (arith, c.ranges.unpacking)) f in
    read_through (read_as (read ∙ ap (read_on _ (task_value_bytes a.tasks.now a.links.now)) (sym c.front.ensures.0)) c.load_tasks.ensures) f.long
