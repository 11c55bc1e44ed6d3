-- 27 of document 01, which 31, 32 and 33 stand for: a link's messages as one test, and the lowest link that fails it.
use Rattle.std.specs.Prelude.{ℕ, ◌+◌, Bool, not, eqb}
use Rattle.std.proofs.Math.Option.{Option}
use Rattle.folds.specs.Folds.{pick, both, first}
use Rattle.sheet.specs.Sheet.{Sheet, link_count, source_of, target_of}
use Rattle.bundle.specs.Bundle.{run, send, receive, Bundle, programme_of}
use Rattle.admission.specs.Counting.{whole, is}
use Rattle.admission.specs.Messages.{home, before}

-- 27, of a link whose tasks both run on k: it has no message, and its source runs before its target
unfoldable pub inside_ok : Sheet → Bundle → ℕ → ℕ → Bool
inside_ok s b l k =
    both (eqb (whole b (is (send l)) + whole b (is (receive l))) 0)
    (before (run (source_of s l)) (run (target_of s l)) (programme_of b k))

-- 27, of a link from a task on j to a task on k: one send, after its source's run; one receive, before its target's run
unfoldable pub across_ok : Sheet → Bundle → ℕ → ℕ → ℕ → Bool
across_ok s b l j k =
    both (eqb (whole b (is (send l))) 1)
    (both (eqb (whole b (is (receive l))) 1)
    (both (before (run (source_of s l)) (send l) (programme_of b j)) (before (receive l) (run (target_of s l)) (programme_of b k))))

abbrev pub link_ok : Sheet → Bundle → ℕ → ℕ → ℕ → Bool
link_ok s b l j k = pick (eqb j k) (inside_ok s b l k) (across_ok s b l j k)

unfoldable pub wrong_message : Sheet → Bundle → ℕ → Bool
wrong_message s b l = not (link_ok s b l (home b (run (source_of s l))) (home b (run (target_of s l))))

unfoldable pub at27 : Sheet → Bundle → Option ℕ
at27 s b = first (link_count s) (wrong_message s b)
