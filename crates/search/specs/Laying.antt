-- The bundle of an arrangement in a buffer, part by part as it is written.
use Rattle.std.specs.Prelude.{ℕ, ◌+◌, ◌*◌, ◌≤◌, ◌<◌, ◌≡◌, List, ◌++◌, length, take}
use Rattle.folds.specs.Folds.{gather}
use Rattle.sheet.specs.Sheet.{Sheet, link_count}
use Rattle.bundle.specs.Bundle.{Command}
use Rattle.bundle.specs.Writing.{programme_bytes, programmes_bytes, bundle_bytes}
use Rattle.adjacency.specs.Chains.{end_by}
use Rattle.adjacency.specs.declared.End.{End}
use Rattle.adjacency.specs.declared.End.TheVariants.{Source, Target}
use Rattle.admission.specs.Fields.{Known}
use Rattle.admission.specs.declared.view.View.{View}
use Rattle.least.specs.Written.{receive_in, send_in, block_in, blocks_in, programmes_in}
use Rattle.least.specs.Least.{most}
use Rattle.search.specs.Codes.{arranged, tasks_of, opens_of, order_of}

-- a sheet of at most six tasks has at most so many links, since no two join the same pair
abbrev pub most_links : ℕ
most_links = 36

-- a block has at most two messages for each link, of three bytes each, and a run
abbrev pub block_room : ℕ
block_room = 6 * most_links + 2

-- .. and a programme at most one block for each task; room for all and the claim
abbrev pub programme_room : ℕ
programme_room = block_room + 2

abbrev pub room : ℕ
room = most * programme_room + 5

-- the view of a small sheet
pub record Small (v : View) : Type 0 where
  pub tasks : v.tasks ≤ most
  pub links : v.links ≤ most_links

-- these bytes were put at `at`, and r is the offset behind them; what stands from r on is of no interest
pub record Front (old : List ℕ) (at : ℕ) (bytes last : List ℕ) (r : ℕ) : Type 0 where
  pub long : length last ≡ length old
  pub front : take r last ≡ take at old ++ bytes
  pub next : r ≡ at + length bytes

-- the end of a link where the other task is; a task sends by the links that it is the source of, and receives by those that it is the target of
abbrev pub other_end : End → End
other_end Source = Target
other_end Target = Source

abbrev pub code_of : End → ℕ
code_of Source = 0x53
code_of Target = 0x56

abbrev pub message_in : End → Sheet → List ℕ → ℕ → ℕ → List Command
message_in Source s ts t l = send_in s ts t l
message_in Target s ts t l = receive_in s ts t l

pub record EndIs (sheet : List ℕ) (v : View) (e : End) (l r : ℕ) : Type 0 where
  pub byte : r < 256
  pub is : (s : Sheet) → Known s sheet v → l < link_count s → r ≡ end_by e s l

module _ (sheet : List ℕ) (v : View) (old last : List ℕ) where
  -- the message of link l, and those of all links, in the block of t of the programme of these tasks
  pub record MessageIs (e : End) (at part len t l r : ℕ) : Type 0 where
    pub long : length last ≡ length old
    pub few : r ≤ at + 3
    pub is : (s : Sheet) → Known s sheet v → l < link_count s → Front old at (programme_bytes (message_in e s (tasks_of len part) t l)) last r

  pub record MessagesIs (e : End) (at part len t r : ℕ) : Type 0 where
    pub long : length last ≡ length old
    pub few : r ≤ at + 3 * v.links
    pub is : (s : Sheet) → Known s sheet v → Front old at (programme_bytes (gather (link_count s) (message_in e s (tasks_of len part) t))) last r

  pub record BlockIs (at part len t r : ℕ) : Type 0 where
    pub long : length last ≡ length old
    pub few : r ≤ at + block_room
    pub is : (s : Sheet) → Known s sheet v → Front old at (programme_bytes (block_in s (tasks_of len part) t)) last r

  -- the blocks of the last j tasks of a number, the oldest first
  pub record TasksIs (at part len rest j r : ℕ) : Type 0 where
    pub long : length last ≡ length old
    pub few : r ≤ at + block_room * j
    pub is : (s : Sheet) → Known s sheet v → Front old at (programme_bytes (blocks_in s (tasks_of len part) (order_of j rest))) last r

  -- all programmes, and how many they are
  pub record ProgrammesIs (code len r count : ℕ) : Type 0 where
    pub long : length last ≡ length old
    pub few : r ≤ programme_room * len
    pub many : count ≡ opens_of len code
    pub is : (s : Sheet) → Known s sheet v → Front old 0 (programmes_bytes 0 (programmes_in s (arranged len code))) last r

  -- the bundle of an arrangement, with this claim
  pub record BundleIs (code len claim r : ℕ) : Type 0 where
    pub long : length last ≡ length old
    pub few : r ≤ length last
    pub is : (s : Sheet) → Known s sheet v → take r last ≡ bundle_bytes (record { programmes = programmes_in s (arranged len code); claim = claim })
