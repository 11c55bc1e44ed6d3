-- `fits_on` (src/lib.rt) keeps its contract.
use Rattle.placing.proofs.Starts.{fits_kept}
use Rattle.placing.proofs.Turn.fits_on.Goals as goal

pub returns : goal.returns
returns c =
    let turn = c.args.self.now in
    fits_kept turn.w.now turn.kept.now turn.t c.args.k turn.choosing c.requires c.word-x.ensures.0 c.store-y.ensures.0 c.word-z.ensures.0 c.limit.ensures.0 c.word-v.ensures.0
