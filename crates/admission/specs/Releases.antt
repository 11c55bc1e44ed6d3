-- Releases: which are right (37), of the commands of a programme alone.
use Rattle.std.specs.Prelude.{ℕ, ◌+◌, Bool, true, false, not, List, [], ◌∷◌, ◌++◌, ltb, eqb}
use Rattle.std.proofs.Math.Option.{Option, none, some}
use Rattle.folds.specs.Folds.{pick, bit, both, any, or_else}
use Rattle.sheet.specs.Sheet.{Sheet, link_count, source_of, target_of}
use Rattle.bundle.specs.Bundle.{Command, run, send, receive, release, discard, Bundle}
use Rattle.bundle.specs.Sizes.{short_size}
use Rattle.bundle.specs.Lies.{size_of}
use Rattle.admission.specs.Counting.{weigh, is}

abbrev pub is_release : Command → Bool
is_release (run t) = false
is_release (send l) = false
is_release (receive l) = false
is_release (release t) = true
is_release (discard l) = true

abbrev pub frees : Command → ℕ
frees c = bit (is_release c)

-- the command after which the thing is held that x releases
abbrev pub gets : Command → Command
gets (run t) = run t
gets (send l) = send l
gets (receive l) = receive l
gets (release t) = run t
gets (discard l) = receive l

-- link l leads from t to u
abbrev pub joins : Sheet → ℕ → ℕ → ℕ → Bool
joins s t u l = both (eqb (source_of s l) t) (eqb (target_of s l) u)

-- 1 at a command that uses the result of t: a reader's run, and a send of it
abbrev pub uses_result : Sheet → ℕ → Command → ℕ
uses_result s t (run u) = bit (any (link_count s) (joins s t u))
uses_result s t (send l) = bit (eqb (source_of s l) t)
uses_result s t (receive l) = 0
uses_result s t (release u) = 0
uses_result s t (discard l) = 0

-- 1 at a command that uses the message of l: its target's run
abbrev pub uses_message : Sheet → ℕ → Command → ℕ
uses_message s l (run u) = bit (eqb (target_of s l) u)
uses_message s l (send m) = 0
uses_message s l (receive m) = 0
uses_message s l (release u) = 0
uses_message s l (discard m) = 0

-- 1 at a command that uses the thing that x releases
abbrev pub uses : Sheet → Command → Command → ℕ
uses s (run t) c = 0
uses s (send l) c = 0
uses s (receive l) c = 0
uses s (release t) c = uses_result s t c
uses s (discard l) c = uses_message s l c

-- the thing that x releases is held after the commands q
unfoldable pub held : Command → List Command → Bool
held x q = both (ltb 0 (weigh (is (gets x)) q)) (eqb (weigh (is x) q) 0)

-- "a release is right if the thing is held by the processor whose programme it stands in, all its local readers have run and, for a result, all its sends are done":
-- behind the commands q and before the commands r of a programme
unfoldable pub right : Sheet → List Command → Command → List Command → Bool
right s q x r = both (held x q) (eqb (weigh (uses s x) r) 0)

unfoldable pub wrong : Sheet → List Command → Command → List Command → Bool
wrong s q c r = both (is_release c) (not (right s q c r))

-- the offset of the first wrong release: of the rest r of a programme behind the commands q, from the offset o on; and of programmes, each behind the command that opens it
unfoldable pub wrong_from : Sheet → ℕ → List Command → List Command → Option ℕ
wrong_from s o q [] = none
wrong_from s o q (c ∷ r) = pick (wrong s q c r) (some o) (wrong_from s (o + size_of c) (q ++ c ∷ []) r)

unfoldable pub wrong_in : Sheet → ℕ → List (List Command) → Option ℕ
wrong_in s o [] = none
wrong_in s o (p ∷ ps) = or_else (wrong_from s (o + short_size) [] p) (wrong_in s (o + short_size + weigh size_of p) ps)

-- 37: "place the first one's offset"
unfoldable pub at37 : Sheet → Bundle → Option ℕ
at37 s b = wrong_in s 0 b.programmes
