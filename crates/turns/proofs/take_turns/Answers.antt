-- `take_turns` (src/lib.rt) keeps its contract.
use mathlib.Core.Path.{refl}
use Rattle.turns.proofs.Bounds.{early}
use Rattle.turns.proofs.take_turns.Goals as goal

pub begin-requires : goal.begin-requires
begin-requires c =
    let g = c.requires in
    record { kept = g.kept; levelled = g.levelled; early = early g.kept.ranged g.timely; q_value = refl }
