-- `note_all` (src/notes.rt) keeps its contract.
use Rattle.bundle.specs.Kinds.{size_by}
use Rattle.admission.proofs.Passes.{size-between}
use Rattle.admission.proofs.Noted.{run-slot, message-slot, notes-after, noting-command, noting-release, noting-ends, noting-open, noting-starts}
use native.Mathlib.Omega.{arith}
use mathlib.Core.Path.{◌∙◌, ap, refl}
use Rattle.admission.proofs.notes.note_all.Goals as goal

pub loop-at-init : goal.loop-at-init
loop-at-init c = noting-starts _ _ _ _ _ c.blank.ensures

pub bounds-bundle-at : goal.bounds-bundle-at
bounds-bundle-at c = omega (arith, c.saturating_sub-end.ensures)

pub overflow_add-k : goal.overflow_add-k
overflow_add-k c = omega (arith, c.loop-at.invariant.few, c.saturating_sub-end.ensures)

pub overflow_add-at : goal.overflow_add-at
overflow_add-at c = omega (arith, c.saturating_sub-end.ensures)

pub loop-at-smaller-then-c-eq80 : goal.loop-at-smaller-then-c-eq80
loop-at-smaller-then-c-eq80 c = omega arith

pub loop-at-preserved-then-c-eq80 : goal.loop-at-preserved-then-c-eq80
loop-at-preserved-then-c-eq80 c = noting-open _ c.saturating_sub-end.ensures c.loop-at.invariant c.loop-at-test.true c.if-c-eq80.true

pub overflow_add-at-then-c-eq82 : goal.overflow_add-at-then-c-eq82
overflow_add-at-then-c-eq82 c = omega (arith, c.saturating_sub-end.ensures, c.loop-at-test.true)

pub bounds-bundle-at-then-c-eq82 : goal.bounds-bundle-at-then-c-eq82
bounds-bundle-at-then-c-eq82 c = omega (arith, c.saturating_sub-end.ensures, c.loop-at-test.true)

pub note-r-requires : goal.note-r-requires
note-r-requires c = (omega (arith, c.from.ensures), omega (arith, c.loop-at.invariant.less, c.saturating_sub-end.ensures))

pub overflow_add-at-then-c-eq82-2 : goal.overflow_add-at-then-c-eq82-2
overflow_add-at-then-c-eq82-2 c = omega (arith, c.saturating_sub-end.ensures)

pub loop-at-smaller-then-c-eq82 : goal.loop-at-smaller-then-c-eq82
loop-at-smaller-then-c-eq82 c = omega arith

pub loop-at-preserved-then-c-eq82 : goal.loop-at-preserved-then-c-eq82
loop-at-preserved-then-c-eq82 c =
    let s = run-slot c.args.bundle.now _ _ refl c.if-c-eq82.true _ c.from.ensures in
    noting-command _ c.saturating_sub-end.ensures c.loop-at.invariant c.loop-at-test.true (omega (arith, c.if-c-eq82.true)) _ _ _ _ s.0 s.1 (omega arith) c.note-r.ensures.0 c.note-r.ensures.1

pub overflow_add-at-then-c-lt80 : goal.overflow_add-at-then-c-lt80
overflow_add-at-then-c-lt80 c = omega (arith, c.size_of-at.ensures, size-between c.from-then-c-lt80.result, c.saturating_sub-end.ensures, c.loop-at-test.true)

pub loop-at-smaller-then-c-lt80 : goal.loop-at-smaller-then-c-lt80
loop-at-smaller-then-c-lt80 c = omega (arith, c.size_of-at.ensures, size-between c.from-then-c-lt80.result, c.loop-at-test.true)

pub loop-at-preserved-then-c-lt80 : goal.loop-at-preserved-then-c-lt80
loop-at-preserved-then-c-lt80 c =
    noting-release _ c.saturating_sub-end.ensures c.loop-at.invariant c.loop-at-test.true c.if-c-lt80.true _ (c.size_of-at.ensures ∙ ap size_by c.from-then-c-lt80.ensures) (omega (arith, c.size_of-at.ensures, size-between c.from-then-c-lt80.result))

pub message-requires : goal.message-requires
message-requires c = omega (arith, c.saturating_sub-end.ensures, c.loop-at-test.true)

pub note-r-requires-else-c-lt80 : goal.note-r-requires-else-c-lt80
note-r-requires-else-c-lt80 c = (omega (arith, c.message.ensures.1), omega (arith, c.loop-at.invariant.less, c.saturating_sub-end.ensures))

pub overflow_add-at-else-c-lt80 : goal.overflow_add-at-else-c-lt80
overflow_add-at-else-c-lt80 c = omega (arith, c.saturating_sub-end.ensures)

pub loop-at-smaller : goal.loop-at-smaller
loop-at-smaller c = omega arith

pub loop-at-preserved : goal.loop-at-preserved
loop-at-preserved c =
    let s = message-slot c.args.bundle.now _ _ refl c.if-c-eq82.false _ c.message.ensures.0 in
    noting-command _ c.saturating_sub-end.ensures c.loop-at.invariant c.loop-at-test.true (omega (arith, c.if-c-lt80.false, c.if-c-eq80.false)) _ _ _ _ s.0 s.1 (omega arith) c.note-r-else-c-lt80.ensures.0 c.note-r-else-c-lt80.ensures.1

pub shape_of-w : goal.shape_of-w
shape_of-w c = c.loop-at.invariant.kept.long ∙ c.blank.ensures.kept.long

pub returns : goal.returns
returns c = notes-after c.blank.ensures (noting-ends _ c.saturating_sub-end.ensures c.loop-at.invariant c.loop-at-test.false)
