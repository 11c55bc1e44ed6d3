-- `reader::get32` meets its contract.
use Rattle.reader.proofs.Widths.{whole_four}
use Rattle.reader.proofs.get32.Goals as goal

pub get-requires : goal.get-requires
get-requires c = whole_four c.requires
