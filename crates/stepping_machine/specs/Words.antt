-- What the machine's words say of a processor and of a command, and what a step makes of them.
use Rattle.std.specs.Prelude.{ℕ, ◌+◌, ◌*◌, ◌/◌, ◌%◌, ◌-◌, max, ◌≡◌, List, get_or, set, eqb}
use Rattle.folds.specs.Folds.{pick}
use Rattle.sheet.specs.Sheet.{Sheet, work_of, store_of, cost_of, bytes_of}
use Rattle.sheet.specs.Hops.{hops}
use Rattle.bundle.specs.Bundle.{Command, run, send, receive, release, discard, Bundle}
use Rattle.admission.specs.Fields.{target_at}
use Rattle.machine.specs.Machine.{travels}
use Rattle.stepping_machine.specs.Layout as lay

-- all words are 0
abbrev pub Blank : List ℕ → Type 0
Blank w = (i : ℕ) → get_or w i 0 ≡ 0

-- processor k in the words w
abbrev pub next_in : List ℕ → ℕ → ℕ
next_in w k = get_or w k 0

abbrev pub clock_in : List ℕ → ℕ → ℕ
clock_in w k = get_or w (lay.clocks + k) 0

abbrev pub store_in : List ℕ → ℕ → ℕ
store_in w k = get_or w (lay.stores + k) 0

abbrev pub first_in : List ℕ → ℕ → ℕ
first_in w k = get_or w (lay.firsts + k) 0

abbrev pub last_in : List ℕ → ℕ → ℕ
last_in w k = get_or w (lay.lasts + k) 0

-- how many programmes and links there are, how long a receive takes, what stands for link l, and what task t needs
abbrev pub count_in : List ℕ → ℕ
count_in w = get_or w lay.count 0

abbrev pub links_in : List ℕ → ℕ
links_in w = get_or w lay.links 0

abbrev pub unpacking_in : List ℕ → ℕ
unpacking_in w = get_or w lay.unpacking 0

abbrev pub stamped_in : List ℕ → ℕ → ℕ
stamped_in w l = get_or w (lay.stamps + l) 0

abbrev pub need_in : List ℕ → ℕ → ℕ
need_in w t = get_or w (lay.needs + t) 0

-- the fields of a command's word
abbrev pub code_of : ℕ → ℕ → ℕ → ℕ
code_of kind number amount = lay.kinds * kind + lay.numbers * number + amount

abbrev pub kind_in : ℕ → ℕ
kind_in x = x / lay.kinds

abbrev pub number_in : ℕ → ℕ
number_in x = x / lay.numbers % lay.span

abbrev pub amount_in : ℕ → ℕ
amount_in x = x % lay.numbers

-- the same of a command
abbrev pub kind_of : Command → ℕ
kind_of (run t) = 1
kind_of (send l) = 2
kind_of (receive l) = 3
kind_of (release t) = 4
kind_of (discard l) = 4

abbrev pub number_of : Command → ℕ
number_of (run t) = lay.tasks + t
number_of (send l) = l
number_of (receive l) = l
number_of (release t) = lay.tasks + t
number_of (discard l) = l

-- its amount: of a send of processor k how long its message is under way, which on a board that is no cube is the cost
abbrev pub amount_of : Sheet → Bundle → ℕ → Command → ℕ
amount_of s b k (run t) = work_of s t
amount_of s b k (send l) = travels s b k l
amount_of s b k (receive l) = bytes_of s l
amount_of s b k (release t) = store_of s t
amount_of s b k (discard l) = bytes_of s l

abbrev pub plain_amount : Sheet → Command → ℕ
plain_amount s (run t) = work_of s t
plain_amount s (send l) = cost_of s l
plain_amount s (receive l) = bytes_of s l
plain_amount s (release t) = store_of s t
plain_amount s (discard l) = bytes_of s l

-- the word of a command, by its amount
unfoldable pub word_by : (Command → ℕ) → Command → ℕ
word_by amount c = code_of (kind_of c) (number_of c) (amount c)

-- on a cube, the word x of a command of processor k that was read with the cost of its message: the target's number stands in the sheet's bytes, and the processor
-- that runs it in the needs' words
unfoldable pub raised_word : List ℕ → List ℕ → ℕ → ℕ → ℕ → ℕ
raised_word sheet w middle k x =
    pick (eqb (kind_in x) 2) (x + amount_in x * hops (k % 16) (need_in w (get_or sheet (target_at middle (number_in x)) 0) % 16) - amount_in x) x

-- processor k at a command, a clock and a store
unfoldable pub placed_words : List ℕ → ℕ → ℕ → ℕ → ℕ → List ℕ
placed_words w k c clock store = set (set (set w (lay.clocks + k) (clock % 4294967296)) (lay.stores + k) (store % 4294967296)) k (c % 4294967296)

-- processor k behind its next command, which waits for a time, takes a time, gives back a store first and then needs one
unfoldable pub stepped_words : List ℕ → ℕ → ℕ → ℕ → ℕ → ℕ → List ℕ
stepped_words w k wait work gives need = placed_words w k (next_in w k + 1) (max (clock_in w k) wait + work) (store_in w k - gives + need)

-- the same of a run, a send, a receive and a release, by the index i of its need's or its stamp's word
module _ (w : List ℕ) (k amount : ℕ) where
  unfoldable pub ran_words : ℕ → List ℕ
  ran_words i = stepped_words w k 0 amount 0 (get_or w i 0)

  unfoldable pub sent_words : ℕ → List ℕ
  sent_words i = set (stepped_words w k 0 0 0 0) i ((clock_in w k + amount + 1) % 4294967296)

  unfoldable pub got_words : ℕ → List ℕ
  got_words i = stepped_words w k (get_or w i 0 - 1) (unpacking_in w) 0 amount

  unfoldable pub gave_words : List ℕ
  gave_words = stepped_words w k 0 0 amount 0

-- processor k before the first command of a programme between two indices
unfoldable pub opened_words : List ℕ → ℕ → ℕ → ℕ → List ℕ
opened_words w k first last = set (set (set w k first) (lay.firsts + k) first) (lay.lasts + k) last
