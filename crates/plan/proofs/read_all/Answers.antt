-- What stands in front grows by what a read put behind it.
use Rattle.std.proofs.Common.{◌≡◌, ℕ, ◌+◌, ◌≤◌, List, ◌++◌, length, take, sym, ap, ◌∙◌, subst, length-take-le, rules}
use Rattle.std.proofs.lemmas.List.{take-append-le}
use Rattle.std.proofs.Math.Seq.{take-append-add}
use Rattle.std.proofs.KnownBytes.{Consumes-trans}
use Rattle.std.specs.Io.KnownBytes.{Consumes}
use Rattle.std.specs.declared.option.Option.{Option}
use borrow.Rule.Slice.PartMut.{put_mid, post_of}
use Rattle.plan.proofs.read_all.Goals as goal

filled : (a b c : Option (List ℕ)) (at room n : ℕ) (old part : List ℕ) → at ≤ length old → n ≤ length part → Consumes a b (take at old) → Consumes b c (take n part)
    → Consumes a c (take (at + n) (put_mid at room old part))
filled a b c at room n old part within fits first second =
    let front = take at old in
    let behind = part ++ post_of at room old in
    let joined : take (at + n) (front ++ behind) ≡ front ++ take n part =
    ap (λ (k : ℕ). take (k + n) (front ++ behind)) (sym (length-take-le at old within)) ∙ take-append-add front behind n
    ∙ ap (λ (l : List ℕ). front ++ l) (take-append-le n part (post_of at room old) fits) in
    subst (Consumes a c) (sym joined) (Consumes-trans a b c front (take n part) first second)

pub loop-at-preserved : goal.loop-at-preserved
loop-at-preserved g c =
    (search rules, filled _ _ _ c.loop-at.at _ c.in_ok-n.n c.loop-at.buf c.read.new.buf c.loop-at.invariant.0 c.in_ok-n.ensures.bound.0 c.loop-at.invariant.1 c.in_ok-n.ensures.bytes.0)
