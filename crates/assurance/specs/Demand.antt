-- Demand 3, of the functions of the interface, as one statement about the bytes of a sheet and a bundle: what holds after every list of choices of a processor,
-- with times up to the stated ones, that the checker accepts just the bundles for which it does, that it accepts every plan, and that the public machine agrees. `Gives..` is what a call of the
-- function of that name promises, word for word.
use Rattle.std.specs.Prelude.{ℕ, ◌+◌, ◌≤◌, ◌<◌, true, ◌≡◌, ◌↔◌, ◌⊎◌, List, [], ◌∷◌, ◌++◌, map, length, take, drop}
use Rattle.std.proofs.Math.Option.{some}
use Rattle.std.proofs.Math.ListN.{get_elem?}
use Rattle.folds.specs.Folds.{bit}
use Rattle.folds.specs.Answers.{value}
use Rattle.numbers.specs.Number.{Bytes}
use Rattle.workspace.specs.Area.{fixed}
use Rattle.sheet.specs.Sheet.{Sheet, task_count, link_count, source_of, target_of}
use Rattle.graph.specs.Graph.{read_sheet}
use Rattle.bundle.specs.Bundle.{Command, run, release, discard, Bundle, programme_of}
use Rattle.bundle.specs.Format.{read_bundle}
use Rattle.admission.specs.Counting.{whole, each, is, need, gives}
use Rattle.admission.specs.Releases.{held}
use Rattle.admission.specs.Messages.{Published}
use Rattle.machine.specs.Machine.{processor_of, stamp_of, can_step}
use Rattle.machine.specs.Runs.{Run, run_of, Choice, on_time, early_of, Stated, answers, done_of, done, left, latest}
use Rattle.stepping_machine.specs.Represents.{Represents}
use Rattle.zeldrupa.specs.Promises.{GivesCheck, GivesPlan}
use Rattle.entry_points.specs.Values.{numbers_of}
use Rattle.zeldrupa.specs.Stepping.{GivesStart, GivesRun, GivesStep, GivesLeft, GivesProcessor, stamp_number, GivesStamp}

-- "for each link into it, that processor has earlier run the source or received the message", "and still holds it": among the first i commands of its programme p it
-- was run or received, and was not released
abbrev pub Present : Sheet → List Command → ℕ → ℕ → Type 0
Present s p i t =
    (l : ℕ) → l < link_count s → target_of s l ≡ t → (held (release (source_of s l)) (take i p) ≡ true) ⊎ (held (discard l) (take i p) ≡ true)

-- what holds of a run r at every moment, whatever times its steps took
pub record Holds (s : Sheet) (b : Bundle) (r : Run) : Type 0 where
  -- "commands still to do are those standing in the programmes and not yet done", releases among them: each choice that stepped did one of them
  pub count : left b r.state each + r.stepped ≡ whole b each
  -- "any processor able to step may be next": while a command is left there is one
  pub moves : 0 < left b r.state each → (k : ℕ) × (can_step s b r.state k ≡ true)
  -- no task is run twice
  pub once : (t : ℕ) → t < task_count s → done b r.state (is (run t)) ≤ 1
  -- "a task's inputs are present at its run", of each run that was done
  pub inputs : (k i t : ℕ) → t < task_count s → i < (processor_of r.state k).position → get_elem? (programme_of b k) i ≡ some (run t) → Present s (programme_of b k) i t
  -- "store in use now rises and falls": with what was given back, it is that of all that was run and received
  pub holds : (k : ℕ) → (processor_of r.state k).store + done_of b r.state (gives s) k ≡ done_of b r.state (need s) k
  -- "every order of steps keeps this moving amount within M"
  pub store : (k : ℕ) → (processor_of r.state k).store ≤ s.limit
  -- once no command is left every task has run just once
  pub finish : left b r.state each ≡ 0 → (t : ℕ) → t < task_count s → done b r.state (is (run t)) ≡ 1

-- what holds of a run with stated times throughout: once no command is left, "the latest clock" is the claim
pub record OnTime (s : Sheet) (b : Bundle) (r : Run) : Type 0 where
  pub holds : Holds s b r
  pub claimed : left b r.state each ≡ 0 → latest r.state ≡ b.claim

-- what holds of the run r after the choices cs, each of whose steps took any whole time up to the stated one (C-23 of document 02)
pub record InTime (s : Sheet) (b : Bundle) (cs : List Choice) (r : Run) : Type 0 where
  pub holds : Holds s b r
  -- "the latest clock is at most the claim", at every moment
  pub late : latest r.state ≤ b.claim
  -- "with stated times throughout that clock is the claim"
  pub claimed : Stated cs → left b r.state each ≡ 0 → latest r.state ≡ b.claim

-- the bytes of a sheet and of a bundle for it, neither refused by the readers
pub record Read (sheet bundle : List ℕ) : Type 0 where
  pub s : Sheet
  pub b : Bundle
  pub sheet_is : read_sheet sheet ≡ value s
  pub bundle_is : read_bundle s bundle ≡ value b

-- a machine is started on these bytes, and the choices `made` are behind it: a call of zeldrupa_start, or of zeldrupa_run, that returned r and set the place to p
pub data Begun (sheet bundle work work' state state' : List ℕ) : List ℕ → ℕ → ℕ → Type 0 where
  started : {p r : ℕ} → GivesStart sheet bundle work work' state state' p r → Begun sheet bundle work work' state state' [] p r
  ran : {choices : List ℕ} {p r : ℕ} → GivesRun choices sheet bundle work work' state state' p r → Begun sheet bundle work work' state state' choices p r

-- calls of zeldrupa_step, each lent the words that the last one left: the choices that they made, and the places that they gave. "A call refused with 13 is no
-- choice": it was lent too few of the words.
pub data Stepped : List ℕ → List ℕ → List ℕ → List ℕ → Type 0 where
  nothing : {state : List ℕ} → Stepped [] [] state state
  stepped : {k p : ℕ} {ks ps state next last : List ℕ} → GivesStep state next k p 0 → Stepped ks ps next last → Stepped (k ∷ ks) (p ∷ ps) state last
  refused : (n : ℕ) {k p : ℕ} {ks ps state part last : List ℕ} → GivesStep (take n state) part k p 13 → Stepped ks ps (part ++ drop n state) last → Stepped ks ps state last

-- the words `last`, behind the choices `made` and calls with the choices ks that gave the places ps, hold what the definition has after these choices
pub record Agrees (s : Sheet) (b : Bundle) (made ks ps last : List ℕ) : Type 0 where
  -- "has given the definition's answers": 1 for each choice that stepped, 0 for each that could not
  pub answered : ps ≡ map bit (answers s b (run_of s b made) ks)
  -- "and holds its positions, clocks, stores and stamps"
  pub keeps : Represents s b last (run_of s b (made ++ ks)).state
  pub left : (p r : ℕ) → GivesLeft last p r → p ≡ left b (run_of s b (made ++ ks)).state each
  pub processor : (k p r : ℕ) (x x' : List ℕ) → GivesProcessor last k x x' p r → x' ≡ numbers_of (run_of s b (made ++ ks)).state k
  pub stamp : (l p r : ℕ) → GivesStamp last l p r → p ≡ stamp_number (stamp_of (run_of s b (made ++ ks)).state l)
  -- a call refused with 13 changes nothing
  pub unchanged : (n k p : ℕ) (part : List ℕ) → GivesStep (take n last) part k p 13 → part ++ drop n last ≡ last

-- what is said of one sheet and one bundle
pub record About {sheet bundle : List ℕ} (x : Read sheet bundle) : Type 0 where
  -- if zeldrupa_check accepts the bundle, all of `InTime` is true after "a list of choices, of any length and any numbers, from the fresh state", whatever times
  -- are "chosen afresh at every step"
  pub promised :
      (area area' : List ℕ) (q : ℕ) → GivesCheck sheet bundle area area' q 0 → (cs : List Choice) → InTime x.s x.b cs (early_of x.s x.b cs)
  -- and a start or a run on the same bytes, with areas long enough, returns 0; after every list of calls behind it the machine agrees with the run of its choices
  pub accepted :
      (area area' : List ℕ) (q : ℕ) → GivesCheck sheet bundle area area' q 0 →
      (work work' state state' made : List ℕ) (p r : ℕ) → fixed ≤ length work → fixed ≤ length state → Begun sheet bundle work work' state state' made p r →
      (r ≡ 0) × ((ks ps last : List ℕ) → Stepped ks ps state' last → OnTime x.s x.b (run_of x.s x.b (made ++ ks)) × Agrees x.s x.b made ks ps last)
  -- it accepts a bundle with "the published messages" exactly when all this holds for every list with stated times, and exactly when it does for every list
  pub exactly :
      (area area' : List ℕ) (q r : ℕ) → fixed ≤ length area → GivesCheck sheet bundle area area' q r → Published x.s x.b →
      ((r ≡ 0) ↔ ((ks : List ℕ) → OnTime x.s x.b (run_of x.s x.b ks))) × ((r ≡ 0) ↔ ((cs : List Choice) → InTime x.s x.b cs (early_of x.s x.b cs)))
  -- it accepts the bundle that zeldrupa_plan writes
  pub planned :
      (work work' out out' : List ℕ) (n : ℕ) → Bytes sheet → GivesPlan sheet work work' out out' n 0 → take n out' ≡ bundle →
      (area area' : List ℕ) (q r : ℕ) → fixed ≤ length area → GivesCheck sheet bundle area area' q r → r ≡ 0
  -- "the public machine keeps the stated times": its runs, here and above, are those with stated times throughout
  pub stated : (ks : List ℕ) → early_of x.s x.b (map on_time ks) ≡ run_of x.s x.b ks
  -- the public machine, once started, agrees, also on a bundle that zeldrupa_check refuses with 29 or 30; a run says how many of its choices stepped
  pub agrees :
      (work work' state state' made : List ℕ) (p : ℕ) → Begun sheet bundle work work' state state' made p 0 →
      (p ≡ (run_of x.s x.b made).stepped) × ((ks ps last : List ℕ) → Stepped ks ps state' last → Agrees x.s x.b made ks ps last)

pub record Demand : Type 0 where
  -- what zeldrupa_check accepts, zeldrupa_plan writes, or zeldrupa_start and zeldrupa_run start, was read
  pub checked : (sheet bundle area area' : List ℕ) (q : ℕ) → GivesCheck sheet bundle area area' q 0 → Read sheet bundle
  pub planned : (sheet work work' out out' : List ℕ) (n : ℕ) → Bytes sheet → GivesPlan sheet work work' out out' n 0 → Read sheet (take n out')
  pub begun : (sheet bundle work work' state state' made : List ℕ) (p : ℕ) → Begun sheet bundle work work' state state' made p 0 → Read sheet bundle
  -- and of what was read all of this is true
  pub whole : {sheet bundle : List ℕ} (x : Read sheet bundle) → About x
