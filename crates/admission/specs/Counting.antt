-- Sums over the commands of programmes: with a weight of 1 they count commands, with `is c` how often c stands there, with `need s` and `gives s` store. And the store in use.
use Rattle.std.specs.Prelude.{ℕ, zero, suc, ◌+◌, ◌-◌, Bool, List, [], ◌∷◌, length, eqb}
use Rattle.std.proofs.Math.Option.{Option, none, some}
use Rattle.std.proofs.Math.ListN.{get_elem?}
use Rattle.folds.specs.Folds.{sum, bit, both, greatest}
use Rattle.sheet.specs.Sheet.{Sheet, store_of, bytes_of}
use Rattle.bundle.specs.Bundle.{Command, run, send, receive, release, discard, Bundle, programme_count, programme_of}

unfoldable pub weigh : (Command → ℕ) → List Command → ℕ
weigh f [] = 0
weigh f (c ∷ cs) = f c + weigh f cs

-- over the programme of k, and over all programmes
unfoldable pub whole_of : Bundle → (Command → ℕ) → ℕ → ℕ
whole_of b f k = weigh f (programme_of b k)

unfoldable pub whole : Bundle → (Command → ℕ) → ℕ
whole b f = sum (programme_count b) (whole_of b f)

abbrev pub each : Command → ℕ
each c = 1

abbrev pub kind : Command → ℕ
kind (run t) = 0
kind (send l) = 1
kind (receive l) = 2
kind (release t) = 3
kind (discard l) = 4

abbrev pub operand : Command → ℕ
operand (run t) = t
operand (send l) = l
operand (receive l) = l
operand (release t) = t
operand (discard l) = l

abbrev pub same : Command → Command → Bool
same c d = both (eqb (kind c) (kind d)) (eqb (operand c) (operand d))

-- 1 at c, 0 at any other command
unfoldable pub is : Command → Command → ℕ
is c d = bit (same c d)

-- what a command adds to the store in use, and what it gives back of it
abbrev pub need : Sheet → Command → ℕ
need s (run t) = store_of s t
need s (send l) = 0
need s (receive l) = bytes_of s l
need s (release t) = 0
need s (discard l) = 0

abbrev pub gives : Sheet → Command → ℕ
gives s (run t) = 0
gives s (send l) = 0
gives s (receive l) = 0
gives s (release t) = store_of s t
gives s (discard l) = bytes_of s l

-- the store in use after c, from x before
abbrev pub stored : Sheet → Command → ℕ → ℕ
stored s c x = x + need s c - gives s c

abbrev pub stored_by : Sheet → Option Command → ℕ → ℕ
stored_by s none x = x
stored_by s (some c) x = stored s c x

-- the store in use after the first i commands of a programme, and the highest
unfoldable pub in_use : Sheet → List Command → ℕ → ℕ
in_use s p zero = 0
in_use s p (suc i) = stored_by s (get_elem? p i) (in_use s p i)

unfoldable pub highest : Sheet → List Command → ℕ
highest s p = greatest (suc (length p)) (in_use s p)
