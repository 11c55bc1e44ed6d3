-- `board_at` (src/bytes.rt) keeps its contract.
use Rattle.sheet.proofs.Judging.{fault-opening}
use borrow.Author.Tests.{le-leb, le-ltb, lt-leb, lt-ltb}
use native.Mathlib.Omega.{arith}
use lib.ListN.{get_or, length}
use Prim.Native.Nat.{◌-◌, ◌<◌, ◌≤◌}
use Rattle.sheet_reader.proofs.bytes.board_at.Goals.{then-processors-lt1-via-then-processors-lt1, then-processors-lt1-via-else-processors-lt1+then-processors-gt16}
use Rattle.sheet_reader.proofs.bytes.board_at.Goals as goal

pub returns-then-bytes-lt-BOARD_SIZE : goal.returns-then-bytes-lt-BOARD_SIZE
returns-then-bytes-lt-BOARD_SIZE c =
    let cut : length c.args.bytes.now - 1 < 5 = omega (arith, c.if-bytes-lt-BOARD_SIZE.true, c.requires) in
    simp (fault-opening, lt-ltb _ _ cut)

pub returns-then-processors-lt1 : goal.returns-then-processors-lt1
returns-then-processors-lt1 c =
    let b = c.args.bytes.now in
    let whole : 5 ≤ length b - 1 = omega (arith, c.if-bytes-lt-BOARD_SIZE.false) in
    elim c.then-processors-lt1.branch [
      | then-processors-lt1-via-then-processors-lt1 w ↦
          let low : get_or b 1 0 < 1 = omega (arith, c.get8-processors.ensures.0, w.if-processors-lt1.true) in
          simp (fault-opening, le-ltb _ _ whole, lt-leb _ _ low)
      | then-processors-lt1-via-else-processors-lt1+then-processors-gt16 w ↦
          let low : 1 ≤ get_or b 1 0 = omega (arith, c.get8-processors.ensures.0, w.if-processors-lt1.false) in
          let high : 16 < get_or b 1 0 = omega (arith, c.get8-processors.ensures.0, w.if-processors-gt16.true) in
          simp (fault-opening, le-ltb _ _ whole, le-leb _ _ low, lt-leb _ _ high)
    ]

pub returns : goal.returns
returns c =
    let b = c.args.bytes.now in
    let whole : 5 ≤ length b - 1 = omega (arith, c.if-bytes-lt-BOARD_SIZE.false) in
    let low : 1 ≤ get_or b 1 0 = omega (arith, c.get8-processors.ensures.0, c.if-processors-lt1.false) in
    let high : get_or b 1 0 ≤ 16 = omega (arith, c.get8-processors.ensures.0, c.if-processors-gt16.false) in
    simp (fault-opening, le-ltb _ _ whole, le-leb _ _ low, le-leb _ _ high)
