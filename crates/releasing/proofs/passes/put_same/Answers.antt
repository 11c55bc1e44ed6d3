-- `put_same` (src/passes.rt) keeps its contract.
use Rattle.releasing.proofs.Endings.{same-short, same-fits}
use Rattle.releasing.proofs.passes.put_same.Goals as goal

pub returns-then-out-bundle : goal.returns-then-out-bundle
returns-then-out-bundle c =
    let a = c.args in
    rw c.at.ensures (same-short a.bundle.now a.out.now c.if-out-bundle.true)

pub returns : goal.returns
returns c = same-fits c.args.bundle.now _ c.if-out-bundle.false c.copy.ensures
