-- `load_links` (src/values.rt) keeps its contract: its loops.
use Prim.Native.Nat.{◌*◌, ◌+◌, ◌-◌, ◌/◌, ◌≤◌}
use Rattle.folds.proofs.Lists.{rest}
use Rattle.sheet_reader.proofs.Given.{link_tail}
use Rattle.sheet_reader.specs.Scanning.{Scanning, read_on}
use Rattle.sheet.specs.Tables.{Filling}
use Rattle.sheet.specs.Writing.{link_bytes, link_value, link_value_bytes}
use Rattle.sheet.specs.Sizes.{link_size}
use lib.ListN.{length}
use mathlib.Core.List.{◌++◌}
use mathlib.Core.Path.{◌≡◌}
use Rattle.sheet_reader.proofs.values.load_links.Given as goal

abbrev pub invariant-loop-j : goal.invariant-loop-j
invariant-loop-j l = (l.m ≡ length l.links / 4) × (l.j ≤ l.m) × Filling l.w × Scanning (read_on l.initial.w (link_value_bytes l.links) l.start) (link_bytes (rest l.j (length l.links / 4 - l.j) (link_value l.links)) ++ link_tail l.links) l.initial.w l.w l.tasks l.j (l.start + link_size * l.j)
