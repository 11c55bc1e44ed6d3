-- `put_programmes` (src/writing.rt) keeps its contract.
use Prim.Native.Nat.{◌-◌, ◌<◌}
use mathlib.Core.Path.{◌∙◌}
use native.Mathlib.Omega.{arith}
use Rattle.search.proofs.Digits.{opens-le}
use Rattle.search.proofs.Programmes.{none-laid, front-coded, tasks-le, tasks-some, more-laid}
use Rattle.search.proofs.writing.+put_programmes.Goals as goal

pub returns-then-len-eq0 : goal.returns-then-len-eq0
returns-then-len-eq0 t c = none-laid _ _ _ _ _ (omega (arith, c.if-len-eq0.true))

pub last_programme-p-requires : goal.last_programme-p-requires
last_programme-p-requires t c = c.requires.2

pub overflow_sub-len : goal.overflow_sub-len
overflow_sub-len t c = tasks-le _ _ (omega (arith, c.if-len-eq0.false)) c.requires.3 c.last_programme-p.ensures

pub put_programmes-q-requires : goal.put_programmes-q-requires
put_programmes-q-requires t c =
    let cut = c.last_programme-p.ensures in
    let some : 0 < c.args.len = omega (arith, c.if-len-eq0.false) in
    let le = tasks-le _ _ some c.requires.3 cut in
    let more = tasks-some _ _ some c.requires.3 cut in
    (omega (arith, c.decreases), (c.requires.0, omega (arith, c.requires.1), omega (arith, c.requires.2), front-coded _ _ some c.requires.3 cut))

pub put_pair-a-requires : goal.put_pair-a-requires
put_pair-a-requires t c =
    let cut = c.last_programme-p.ensures in
    let some : 0 < c.args.len = omega (arith, c.if-len-eq0.false) in
    let le = tasks-le _ _ some c.requires.3 cut in
    let more = tasks-some _ _ some c.requires.3 cut in
    let before = c.put_programmes-q.ensures in (
      omega (arith, before.few, before.long, c.requires.1),
      omega (arith, before.many, opens-le (c.args.len - c.last_programme-p.result.tasks) c.last_programme-p.result.front, c.requires.2),
    )

pub put_tasks-b-requires : goal.put_tasks-b-requires
put_tasks-b-requires t c =
    let cut = c.last_programme-p.ensures in
    let some : 0 < c.args.len = omega (arith, c.if-len-eq0.false) in
    let le = tasks-le _ _ some c.requires.3 cut in
    let more = tasks-some _ _ some c.requires.3 cut in
    let before = c.put_programmes-q.ensures in
    (c.requires.0, omega (arith, before.few, before.long, c.put_pair-a.ensures.next, c.put_pair-a.ensures.long, c.requires.1), omega (arith, c.requires.2))

pub overflow_add-result : goal.overflow_add-result
overflow_add-result t c = omega (arith, c.put_programmes-q.ensures.many, opens-le (c.args.len - c.last_programme-p.result.tasks) c.last_programme-p.result.front, c.requires.2)

pub shape_of-buf : goal.shape_of-buf
shape_of-buf t c = c.put_tasks-b.ensures.long ∙ c.put_pair-a.ensures.long ∙ c.put_programmes-q.ensures.long

pub returns : goal.returns
returns t c =
    more-laid _ _ (omega (arith, c.if-len-eq0.false)) c.requires.3 c.last_programme-p.ensures _ _ _ _ _ _ _ _ _ _ c.put_programmes-q.ensures c.put_pair-a.ensures
    c.put_tasks-b.ensures
