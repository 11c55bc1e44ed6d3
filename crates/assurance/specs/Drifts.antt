-- "How far may a job's time drift?", of calls of zeldrupa_check and zeldrupa_drift. `Gives..` is what a call of the function of that name promises, word for word.
use Rattle.std.specs.Prelude.{ℕ, ◌+◌, ◌*◌, ◌≤◌, ◌<◌, ◌≡◌, List, length}
use Rattle.numbers.specs.Number.{Bytes, number_at}
use Rattle.workspace.specs.Area.{fixed}
use Rattle.sheet.specs.Sheet.{Sheet, task_count}
use Rattle.bundle.specs.Bundle.{Bundle}
use Rattle.admission.specs.Counting.{each}
use Rattle.machine.specs.Runs.{run_of, left, settled}
use Rattle.drift.specs.Drift.{raise, finishing, Delayed}
use Rattle.zeldrupa.specs.Promises.{GivesCheck, GivesDrift}
use Rattle.assurance.specs.Demand.{Read}
use Rattle.assurance.specs.Choosing.{Accepted}

-- the work of task t raised by d: "lengthened works may pass 65,535 in the statement"
pub record Raised (s : Sheet) (b : Bundle) (t d : ℕ) : Type 0 where
  -- "moves the finishing time by no less than 0 and no more than d"
  pub finish : (finishing s b ≤ finishing (raise s t d) b) × (finishing (raise s t d) b ≤ finishing s b + d)
  -- the same choices do the same commands, at most d later
  pub alike : (ks : List ℕ) → Delayed s (raise s t d) b d (run_of s b ks) (run_of (raise s t d) b ks)
  -- and all orders end alike, in the state whose latest clock is the finishing time
  pub ends : (ks : List ℕ) → left b (run_of (raise s t d) b ks).state each ≡ 0 → (run_of (raise s t d) b ks).state ≡ settled (raise s t d) b

-- "the greatest d that leaves the finishing time unchanged": so d + 1 moves it
pub record Greatest (s : Sheet) (b : Bundle) (t d : ℕ) : Type 0 where
  pub leaves : finishing (raise s t d) b ≡ finishing s b
  pub moves : (e : ℕ) → d < e → finishing s b < finishing (raise s t e) b

-- zeldrupa_drift wrote n bytes at the front of `out`
pub record Reported {sheet bundle : List ℕ} (x : Read sheet bundle) (out : List ℕ) (n : ℕ) : Type 0 where
  pub accepted : (area area' : List ℕ) (q r : ℕ) → fixed ≤ length area → GivesCheck sheet bundle area area' q r → r ≡ 0
  -- "for every task in number order .. each a u32 of four bytes, lowest first"
  pub long : n ≡ 4 * task_count x.s
  pub drift : (t : ℕ) → t < task_count x.s → Greatest x.s x.b t (number_at 4 out (4 * t))

pub record Drifts : Type 0 where
  -- of every accepted bundle: its finishing time is the claim, and every task's work may be raised
  pub claimed : {sheet bundle : List ℕ} (x : Read sheet bundle) → Accepted sheet bundle → finishing x.s x.b ≡ x.b.claim
  pub raised : {sheet bundle : List ℕ} (x : Read sheet bundle) → Accepted sheet bundle → (t d : ℕ) → t < task_count x.s → Raised x.s x.b t d
  -- "Sheet and bundle are refused as the checker refuses them"
  pub refused :
      (sheet bundle area area' work work' out out' : List ℕ) (q r p n : ℕ) → fixed ≤ length area → fixed ≤ length work → GivesCheck sheet bundle area area' q r → 0 < r
      → GivesDrift sheet bundle work work' out out' p n → (n ≡ r) × (p ≡ q) × (out' ≡ out)
  -- "then 12"
  pub short : {sheet bundle : List ℕ} (x : Read sheet bundle) → Accepted sheet bundle → (work work' out out' : List ℕ) (p r : ℕ) → fixed ≤ length work → length out < 4 * task_count x.s
      → GivesDrift sheet bundle work work' out out' p r → (r ≡ 12) × (p ≡ 4 * task_count x.s) × (out' ≡ out)
  pub given : {sheet bundle : List ℕ} (x : Read sheet bundle) → Accepted sheet bundle → (work work' out out' : List ℕ) (p r : ℕ) → fixed ≤ length work → 4 * task_count x.s ≤ length out
      → GivesDrift sheet bundle work work' out out' p r → r ≡ 0
  -- what it reported was read, and the report is right
  pub reads : (sheet bundle work work' out out' : List ℕ) (n : ℕ) → GivesDrift sheet bundle work work' out out' n 0 → Read sheet bundle
  pub reported : {sheet bundle : List ℕ} (x : Read sheet bundle) → Bytes bundle → (work work' out out' : List ℕ) (n : ℕ) → GivesDrift sheet bundle work work' out out' n 0 → Reported x out' n
