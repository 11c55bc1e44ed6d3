-- The pass back over a recorded run, in the words in which it was run: `tails` of specs/Tails, and the slack of each task whose run is behind.
use Rattle.std.specs.Prelude.{ℕ, suc, ◌+◌, ◌*◌, ◌-◌, ◌%◌, ◌≤◌, ◌<◌, max, ◌≡◌, List, length, get_or, set, eqb}
use Rattle.folds.specs.Folds.{pick}
use Rattle.sheet.specs.Sheet.{Sheet, task_count, link_count}
use Rattle.bundle.specs.Bundle.{Bundle, run, programme_count}
use Rattle.admission.specs.Counting.{weigh, is}
use Rattle.machine.specs.Machine.{State, processor_of, stated, stamp_in}
use Rattle.stepping_machine.specs.Layout as lay
use Rattle.stepping_machine.specs.Words.{next_in, clock_in, first_in, unpacking_in, stamped_in}
use Rattle.stepping_machine.specs.Represents.{Programmed}
use Rattle.drift.specs.Tails.{Steps, tails}
use Rattle.drift.specs.Following.{Follows, commands, through, Trail, end_of}
use Rattle.drift.specs.Recording.{most_steps, most_ends, Ordered, Noted}

-- `longer`, of a message's tail told as one more, or 0
unfoldable pub longest : ℕ → ℕ → ℕ → ℕ
longest tail d m = pick (eqb m 0) tail (max tail (d + m - 1))

-- the words with processor k before the command at the index p, and its way from there
unfoldable pub back_words : List ℕ → ℕ → ℕ → ℕ → List ℕ
back_words w k p way = set (set w k (p % 4294967296)) (lay.clocks + k) (way % 4294967296)

-- the same before a run or a release, a send and a receive
unfoldable pub ran_back : List ℕ → ℕ → ℕ → ℕ → List ℕ
ran_back w k p work = back_words w k p (clock_in w k + work)

unfoldable pub sent_back : List ℕ → ℕ → ℕ → ℕ → ℕ → List ℕ
sent_back w k p d i = set (back_words w k p (longest (clock_in w k) d (get_or w i 0))) i 0

unfoldable pub got_back : List ℕ → ℕ → ℕ → ℕ → List ℕ
got_back w k p i = set (back_words w k p (clock_in w k + unpacking_in w)) i (max (get_or w i 0) (clock_in w k + unpacking_in w + 1) % 4294967296)

-- the slots with the slack of t, whose run of processor k comes before
unfoldable pub slack_slots : List ℕ → List ℕ → ℕ → ℕ → ℕ → List ℕ
slack_slots w slots k t claim = set slots t ((claim - (get_or slots t 0 + clock_in w k)) % 4294967296)

-- a slot: the slack of a task whose run is behind, and of the others when it ended
abbrev pub slot_of : ℕ → ℕ → ℕ → ℕ
slot_of runs end slack = pick (eqb runs 0) end slack

-- words before the last of so many steps to the state φ: where each processor is, and the ways on
pub record Traced (s : Sheet) (b : Bundle) (φ : State) (claim : ℕ) (w order slots : List ℕ) (i : ℕ) : Type 0 where
  pub steps : Steps
  pub rest : Steps
  pub state : State
  pub trail : Trail s b steps state
  pub follows : Follows s b (stated s b) rest state φ
  pub count : length steps ≡ i
  pub short : length steps + length rest ≤ most_steps
  pub ordered : Ordered steps order
  pub programmed : Programmed s b w
  pub many : length state.processors ≡ programme_count b
  pub next : (k : ℕ) → k < 16 → next_in w k ≡ first_in w k + (processor_of state k).position
  pub own : (k : ℕ) → k < 16 → clock_in w k ≡ (tails (stated s b) rest).own k
  pub sent : (l : ℕ) → l < link_count s → stamp_in (stamped_in w l) ≡ (tails (stated s b) rest).sent l
  -- all of it fits the words
  pub narrow : (k : ℕ) → k < 16 → clock_in w k ≤ lay.numbers * length rest
  pub narrowed : (l : ℕ) → l < link_count s → stamped_in w l ≤ lay.numbers * length rest + 1
  pub once : (t : ℕ) → t < task_count s → weigh (is (run t)) (commands steps) + weigh (is (run t)) (commands rest) ≤ 1
  pub slots_long : most_ends ≤ length slots
  pub slot : (t : ℕ) → t < task_count s → get_or slots t 0 ≡ slot_of (weigh (is (run t)) (commands rest)) (end_of trail t) (claim - through s b (stated s b) t follows)

-- back over the last step, which k made
pub record TraceIs (w slots last slots' : List ℕ) (k claim : ℕ) : Type 0 where
  pub long : length last ≡ length w
  pub slots_long : length slots' ≡ length slots
  pub is_traced : (s : Sheet) (b : Bundle) (φ : State) (order : List ℕ) (i : ℕ) → claim < 4294967296 → get_or order i 0 ≡ k → Traced s b φ claim w order slots (suc i) → Traced s b φ claim last order slots' i

-- back over n steps
pub record TracesIs (w order slots last slots' : List ℕ) (n claim : ℕ) : Type 0 where
  pub long : length last ≡ length w
  pub slots_long : length slots' ≡ length slots
  pub are_traced : (s : Sheet) (b : Bundle) (φ : State) → claim < 4294967296 → Traced s b φ claim w order slots n → Traced s b φ claim last order slots' 0

-- back from the end of a recorded run to the fresh state
pub record TracedIs (w order slots last slots' : List ℕ) (n claim : ℕ) : Type 0 where
  pub long : length last ≡ length w
  pub slots_long : length slots' ≡ length slots
  pub all_traced : (s : Sheet) (b : Bundle) (h : Noted s b w order slots n) → claim < 4294967296 → n ≤ most_steps → ((t : ℕ) → t < task_count s → weigh (is (run t)) (commands h.steps) ≤ 1)
      → Traced s b h.state claim last order slots' 0
