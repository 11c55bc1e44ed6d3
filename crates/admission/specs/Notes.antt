-- What one pass over a bundle notes of each run, send and receive: nothing while it was not met, 1 once it was met twice, and else in which programme it stands and how
-- many others were met before it.
--
-- Of two commands that stand once each in one programme, the one that stands first has the smaller note; and a note fits a word however long the bundle is. Releases
-- are not noted: what they ask of the notes is in Lasts.
use Rattle.std.specs.Prelude.{ℕ, suc, ◌+◌, ◌*◌, ◌-◌, ◌/◌, ◌%◌, ◌≤◌, ◌<◌, ◌≡◌, Bool, not, List, [], ◌∷◌, length, get_or, set, take, eqb, ltb}
use Rattle.std.proofs.Math.Option.{Option, some}
use Rattle.std.proofs.Math.ListN.{get_elem?}
use Rattle.folds.specs.Folds.{pick, bit, both, sum, first_of}
use Rattle.folds.specs.Answers.{value}
use Rattle.numbers.specs.Number.{number_at}
use Rattle.sheet.specs.Sheet.{Sheet, task_count, link_count}
use Rattle.bundle.specs.Bundle.{Command, run, send, receive, release, discard, Bundle, programme_count, programme_of}
use Rattle.bundle.specs.Sizes.{short_size, long_size}
use Rattle.bundle.specs.Format.{read_bundle}
use Rattle.admission.specs.Counting.{weigh, whole_of, is}

-- the notes stand in the words from slots_at on: of runs first, then of sends, then of receives; behind them, up to slots_end, what is kept for the releases of results and
-- of messages
abbrev pub slots_at : ℕ
slots_at = 1376

abbrev pub sends_at : ℕ
sends_at = 1632

abbrev pub receives_at : ℕ
receives_at = 2656

abbrev pub releases_at : ℕ
releases_at = 3680

abbrev pub discards_at : ℕ
discards_at = 3936

abbrev pub slots_end : ℕ
slots_end = 4960

-- how many commands have a note
abbrev pub notable : ℕ
notable = 2304

-- a declared run, send or receive
abbrev pub Notable : Sheet → Command → Type 0
Notable s (run t) = t < task_count s
Notable s (send l) = l < link_count s
Notable s (receive l) = l < link_count s
Notable s (release t) = ⊥
Notable s (discard l) = ⊥

-- a slot for each command that a sheet allows, and the command of a slot with a note
abbrev pub slot_of : Command → ℕ
slot_of (run t) = t
slot_of (send l) = 256 + l
slot_of (receive l) = 1280 + l
slot_of (release t) = notable + t
slot_of (discard l) = 2560 + l

unfoldable pub command_of : ℕ → Command
command_of x = pick (ltb x 256) (run x) (pick (ltb x 1280) (send (x - 256)) (receive (x - 1280)))

-- how often c stands in the programmes below k and among the first i commands of programme k
unfoldable pub sofar : Bundle → ℕ → ℕ → Command → ℕ
sofar b k i c = sum k (whole_of b (is c)) + weigh (is c) (take i (programme_of b k))

-- how many commands were met by then, each counted once
unfoldable pub met : Bundle → ℕ → ℕ → ℕ → ℕ
met b k i x = bit (ltb 0 (sofar b k i (command_of x)))

unfoldable pub rank : Bundle → ℕ → ℕ → ℕ
rank b k i = sum notable (met b k i)

-- x is the note of c by then
pub data Noted (b : Bundle) (k i : ℕ) (c : Command) (x : ℕ) : Type 0 where
  never : x ≡ 0 → sofar b k i c ≡ 0 → Noted b k i c x
  again : x ≡ 1 → 2 ≤ sofar b k i c → Noted b k i c x
  once : (j p : ℕ) → x ≡ 4096 * suc j + rank b j p → sofar b k i c ≡ 1 → get_elem? (programme_of b j) p ≡ some c → Noted b k i c x

-- the programme that runs task t, by its note
abbrev pub home_in : List ℕ → ℕ → ℕ
home_in w t = get_or w (slots_at + slot_of (run t)) 0 / 4096 - 1

-- words from slots_at on have the notes of all commands, and r were met
pub record Notes (s : Sheet) (b : Bundle) (k i r : ℕ) (w : List ℕ) : Type 0 where
  pub note : (c : Command) → Notable s c → Noted b k i c (get_or w (slots_at + slot_of c) 0)
  pub count : r ≡ rank b k i

-- the slot of the run, send or receive at an offset; of a message, 0x53 and 0x56 are told apart by a carry
unfoldable pub message_at : List ℕ → ℕ → ℕ
message_at b at = 256 + 1024 * ((get_or b at 0 + 172) / 256) + number_at 2 b (at + 1)

unfoldable pub slot_at : List ℕ → ℕ → ℕ
slot_at b at = pick (eqb (get_or b at 0) 0x52) (get_or b (at + 1) 0) (message_at b at)

-- the size of the run, send or receive at an offset
unfoldable pub size_at : List ℕ → ℕ → ℕ
size_at b at = pick (eqb (get_or b at 0) 0x52) short_size long_size

-- a command of slot x was met in programme k, as the command number r
unfoldable pub noted_words : List ℕ → ℕ → ℕ → ℕ → List ℕ
noted_words w x k r = set w (slots_at + x) (pick (eqb (get_or w (slots_at + x) 0) 0) ((4096 * (k % 16 + 1) + r) % 4294967296) 1)

-- the words before the notes are as they were
pub record Kept (w last : List ℕ) : Type 0 where
  pub long : length last ≡ length w
  pub low : (i : ℕ) → i < slots_at → get_or last i 0 ≡ get_or w i 0

-- the words before those for releases are as they were
pub record Apart (w last : List ℕ) : Type 0 where
  pub long : length last ≡ length w
  pub low : (i : ℕ) → i < releases_at → get_or last i 0 ≡ get_or w i 0

-- no command is noted of n tasks and l links
pub record BlankIs (w last : List ℕ) (n l : ℕ) : Type 0 where
  pub kept : Kept w last
  pub runs : (t : ℕ) → t < n → get_or last (slots_at + slot_of (run t)) 0 ≡ 0
  pub sends : (i : ℕ) → i < l → get_or last (slots_at + slot_of (send i)) 0 ≡ 0
  pub receives : (i : ℕ) → i < l → get_or last (slots_at + slot_of (receive i)) 0 ≡ 0

-- after the pass over any bundle, for a sheet of n tasks and l links: r commands were met
pub record NotesIs (bundle w last : List ℕ) (n l r : ℕ) : Type 0 where
  pub kept : Kept w last
  pub notes : (s : Sheet) (b : Bundle) → task_count s ≡ n → link_count s ≡ l → task_count s ≤ 256 → link_count s ≤ 1024 → programme_count b ≤ 16 → slots_end ≤ length w
      → ((i : ℕ) → get_or bundle i 0 < 256) → read_bundle s bundle ≡ value b → Notes s b (programme_count b) 0 r last

-- by their notes, a command stands before another in one programme
unfoldable pub ahead : ℕ → ℕ → Bool
ahead x y = both (eqb (x / 4096) (y / 4096)) (ltb x y)

-- 31, 32 and 33 by the notes of a link's source, target, send and receive, where both tasks run in one programme, or not
unfoldable pub send_by : Bool → ℕ → ℕ → Bool
send_by inside source sent = pick inside (not (eqb sent 0)) (not (both (ltb 1 sent) (ahead source sent)))

unfoldable pub receive_by : Bool → ℕ → ℕ → Bool
receive_by inside got target = pick inside (not (eqb got 0)) (not (both (ltb 1 got) (ahead got target)))

unfoldable pub order_by : Bool → ℕ → ℕ → Bool
order_by inside source target = both inside (not (ltb source target))

unfoldable pub fault_by : ℕ → ℕ → ℕ → ℕ → Option ℕ
fault_by source target sent got =
    let inside = eqb (source / 4096) (target / 4096) in
    first_of ((send_by inside source sent, 31) ∷ (receive_by inside got target, 32) ∷ (order_by inside source target, 33) ∷ [])
