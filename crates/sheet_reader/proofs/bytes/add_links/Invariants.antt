-- `add_links` (src/bytes.rt) keeps its contract: its loops.
use Prim.Native.Nat.{◌+◌, ◌-◌, ◌*◌}
use Rattle.sheet_reader.specs.Scanning.{Linking}
use Rattle.sheet.specs.Format.{read_form}
use Rattle.sheet.specs.Sizes.{link_size}
use lib.ListN.{length}
use mathlib.Core.Path.{◌≡◌}
use Rattle.sheet_reader.proofs.bytes.add_links.Given as goal

abbrev pub invariant-loop-w : goal.invariant-loop-w
invariant-loop-w l = Linking (read_form l.bytes) l.bytes l.initial.w l.w l.tasks l.links l.at × (l.at ≡ l.start + link_size * l.links)

abbrev pub decreases-loop-w : goal.decreases-loop-w
decreases-loop-w l = length l.bytes - l.at
