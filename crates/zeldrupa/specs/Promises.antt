-- What each function of the interface gives: its answer by the document's numbers, and what stands in lent memory afterwards.
--
-- An answer is 13 for a short area, then the refusals in the document's order, 12 last, or the result. From it follow the returned number
-- (`number`, 0 for a result), the place (`place_or`), the output (`written`) and the work area (`cleared`), all of folds/specs/Answers.
use Rattle.std.specs.Prelude.{ℕ, ◌≡◌, List, length}
use Rattle.std.specs.Borrow.{Bor}
use Rattle.folds.specs.Answers.{Answer, value, and_then, long_enough, fitting, number, place_or, written, cleared}
use Rattle.workspace.specs.Area.{fixed}
use Rattle.sheet.specs.Sheet.{Sheet}
use Rattle.sheet.specs.Writing as sheets
use Rattle.generator.specs.Load.{generated}
use Rattle.graph.specs.Graph.{read_sheet}
use Rattle.bundle.specs.Bundle.{Bundle}
use Rattle.bundle.specs.Format.{read_bundle}
use Rattle.bundle.specs.Writing.{bundle_values}
use Rattle.bundle.specs.Writing as bundles
use Rattle.checker.specs.Checker.{check}
use Rattle.releasing.specs.Passing.{pass}
use Rattle.drift.specs.Reporting.{report}
use Rattle.better.specs.Choices.{BetterIs}
use Rattle.planner.specs.Planner.{plan}
use Rattle.least.specs.Least.{least_bundle}
use Rattle.listing.specs.Listing.{listing}
use Rattle.formulas.specs.Weights.{weight_of}
use Rattle.entry_points.specs.Values.{levels_of, tabled, no_place, task_table, link_table, board_after, command_table, claim_after, value_count}

-- what is returned, the place, and the work area afterwards, by an answer whose results have f as their place
pub record Ends {A : Type 0} (f : A → ℕ) (a : Answer A) (work work' : List ℕ) (p r : ℕ) : Type 0 where
  pub returns : r ≡ number a
  pub place : p ≡ place_or f a
  pub area : work' ≡ cleared fixed work

-- and one lent output
pub record Gives (a : Answer (List ℕ)) (work work' out out' : List ℕ) (p r : ℕ) : Type 0 where
  pub ends : Ends length a work work' p r
  pub output : out' ≡ written out a

-- zeldrupa_levels: the level of each task
unfoldable pub levels_answer : List ℕ → ℕ → ℕ → Answer (List ℕ)
levels_answer sheet work out = long_enough fixed work (and_then (read_sheet sheet) (λ s. fitting out (levels_of s)))

-- zeldrupa_write_sheet: "A writer refuses values as the reader would refuse their bytes, then 12"
unfoldable pub write_sheet_answer : ℕ → ℕ → ℕ → ℕ → List ℕ → List ℕ → ℕ → ℕ → Answer (List ℕ)
write_sheet_answer processors limit unpacking cube tasks links work out =
    let bytes = sheets.value_bytes processors limit unpacking (sheets.cube_of cube) tasks links in
    long_enough fixed work (and_then (read_sheet bytes) (λ s. fitting out bytes))

-- zeldrupa_generate: the bytes of the sheet that a seed gives
unfoldable pub generate_answer : ℕ → ℕ → ℕ → ℕ → ℕ → ℕ → ℕ → Answer (List ℕ)
generate_answer seed tasks tries processors limit work out =
    long_enough fixed work (and_then (generated seed tasks tries processors limit) (λ s. fitting out (sheets.sheet_bytes s)))

abbrev pub GivesGenerated : ℕ → ℕ → ℕ → ℕ → ℕ → List ℕ → List ℕ → List ℕ → List ℕ → ℕ → ℕ → Type 0
GivesGenerated seed tasks tries processors limit work work' out =
    Gives (generate_answer seed tasks tries processors limit (length work) (length out)) work work' out

-- zeldrupa_read_sheet: two values a task, four a link, and the board's six words
unfoldable pub read_sheet_answer : List ℕ → ℕ → ℕ → ℕ → Answer Sheet
read_sheet_answer sheet work tasks links = long_enough fixed work (and_then (read_sheet sheet) (tabled tasks links))

pub record GivesSheet (a : Answer Sheet) (work work' t t' l l' b b' : List ℕ) (p r : ℕ) : Type 0 where
  pub ends : Ends no_place a work work' p r
  pub tasks : t' ≡ written t (task_table a)
  pub links : l' ≡ written l (link_table a)
  pub board : b' ≡ board_after b a

-- zeldrupa_read_bundle: the commands as values, 50 among them, and the claim
unfoldable pub read_bundle_answer : List ℕ → List ℕ → ℕ → ℕ → Answer Bundle
read_bundle_answer sheet bundle work out =
    long_enough fixed work
    (and_then (read_sheet sheet) (λ s. and_then (read_bundle s bundle) (λ b. and_then (fitting out (bundle_values b)) (λ v. value b))))

pub record GivesBundle (a : Answer Bundle) (work work' c c' : List ℕ) (t t' p r : ℕ) : Type 0 where
  pub ends : Ends value_count a work work' p r
  pub commands : c' ≡ written c (command_table a)
  pub claim : t' ≡ claim_after t a

-- zeldrupa_write_bundle
unfoldable pub write_bundle_answer : List ℕ → List ℕ → ℕ → ℕ → ℕ → Answer (List ℕ)
write_bundle_answer sheet commands claim work out =
    let bytes = bundles.value_bytes commands claim in
    long_enough fixed work (and_then (read_sheet sheet) (λ s. and_then (read_bundle s bytes) (λ b. fitting out bytes)))

-- zeldrupa_check: the first refusal of the sheet and the bundle, or none
unfoldable pub check_answer : List ℕ → List ℕ → ℕ → Answer Bundle
check_answer sheet bundle work = long_enough fixed work (check sheet bundle)

abbrev pub GivesCheck : List ℕ → List ℕ → List ℕ → List ℕ → ℕ → ℕ → Type 0
GivesCheck sheet bundle work = Ends no_place (check_answer sheet bundle (length work)) work

-- zeldrupa_better: the better one of two bundles itself, or the empty front of the first; the place is the length of what is handed back, or a refusal's
abbrev pub GivesBetter : List ℕ → Bor (List ℕ) → Bor (List ℕ) → List ℕ → List ℕ → Bor (List ℕ) → ℕ → ℕ → Type 0
GivesBetter sheet first second work work' kept p r = BetterIs sheet first second work work' r p kept

-- zeldrupa_release: the bytes of an accepted bundle with its releases, or the checker's refusal
unfoldable pub release_answer : List ℕ → List ℕ → ℕ → ℕ → Answer (List ℕ)
release_answer sheet bundle work out = long_enough fixed work (and_then (pass sheet bundle) (fitting out))

abbrev pub GivesRelease : List ℕ → List ℕ → List ℕ → List ℕ → List ℕ → List ℕ → ℕ → ℕ → Type 0
GivesRelease sheet bundle work work' out = Gives (release_answer sheet bundle (length work) (length out)) work work' out

-- zeldrupa_drift: for every task the greatest growth of its work that leaves the finishing time, or the checker's refusal
unfoldable pub drift_answer : List ℕ → List ℕ → ℕ → ℕ → Answer (List ℕ)
drift_answer sheet bundle work out = long_enough fixed work (and_then (report sheet bundle) (fitting out))

abbrev pub GivesDrift : List ℕ → List ℕ → List ℕ → List ℕ → List ℕ → List ℕ → ℕ → ℕ → Type 0
GivesDrift sheet bundle work work' out = Gives (drift_answer sheet bundle (length work) (length out)) work work' out

-- zeldrupa_plan: the bytes of the bundle that is planned
unfoldable pub plan_answer : List ℕ → ℕ → ℕ → Answer (List ℕ)
plan_answer sheet work out = long_enough fixed work (and_then (plan sheet) (fitting out))

abbrev pub GivesPlan : List ℕ → List ℕ → List ℕ → List ℕ → List ℕ → ℕ → ℕ → Type 0
GivesPlan sheet work work' out = Gives (plan_answer sheet (length work) (length out)) work work' out

-- zeldrupa_least: the bytes of the bundle of the least time
unfoldable pub least_answer : List ℕ → ℕ → ℕ → Answer (List ℕ)
least_answer sheet work out = long_enough fixed work (and_then (least_bundle sheet) (fitting out))

abbrev pub GivesLeast : List ℕ → List ℕ → List ℕ → List ℕ → List ℕ → ℕ → ℕ → Type 0
GivesLeast sheet work work' out = Gives (least_answer sheet (length work) (length out)) work work' out

-- zeldrupa_listing: the bytes of the listing, of a plan or of a refusal
unfoldable pub listing_answer : List ℕ → ℕ → ℕ → Answer (List ℕ)
listing_answer sheet work out = long_enough fixed work (fitting out (listing sheet))

abbrev pub GivesListing : List ℕ → List ℕ → List ℕ → List ℕ → List ℕ → ℕ → ℕ → Type 0
GivesListing sheet work work' out = Gives (listing_answer sheet (length work) (length out)) work work' out

-- zeldrupa_weight: the weight of a formula, which is the place
pub record GivesWeight (text letters : List ℕ) (p r : ℕ) : Type 0 where
  pub returns : r ≡ number (weight_of text letters)
  pub place : p ≡ place_or (λ w. w) (weight_of text letters)
