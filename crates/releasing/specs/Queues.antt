-- The things to release in queues: the number of a command's note tells the queue of what is released behind it, and a queue is in rising order.
use Rattle.std.specs.Prelude.{ℕ, suc, ◌+◌, ◌%◌, ◌≤◌, ◌<◌, ◌≡◌, ◌⊎◌, List, length, get_or}
use Rattle.sheet.specs.Sheet.{Sheet, task_count, link_count}
use Rattle.bundle.specs.Bundle.{Bundle}
use Rattle.bundle.specs.Writing.{bundle_bytes}
use Rattle.admission.specs.Notes.{slots_at, releases_at}
use Rattle.releasing.specs.Inserting.{Lay, behind_bytes, Marked, Bare, with_releases}

-- how many queues there are, and how many things at most
abbrev pub queues : ℕ
queues = 2048

abbrev pub things : ℕ
things = 1280

-- of n tasks and m links
abbrev pub Declared : ℕ → ℕ → ℕ → Type 0
Declared n m x = (x < n) ⊎ ((256 ≤ x) × (x < 256 + m))

-- the queue of thing x
abbrev pub queue_of : List ℕ → ℕ → ℕ
queue_of w x = get_or w (releases_at + x) 0 % queues

-- a word that names the first thing of queue r from a on: 0 for none, or how far it stands before `things`, so that words fall along a queue
pub data First (n m : ℕ) (w : List ℕ) (r a word : ℕ) : Type 0 where
  over : word ≡ 0 → ((y : ℕ) → a ≤ y → Declared n m y → queue_of w y ≡ r → ⊥) → First n m w r a word
  next : (x : ℕ) → word + x ≡ things → a ≤ x → Declared n m x → queue_of w x ≡ r → ((y : ℕ) → a ≤ y → y < x → Declared n m y → queue_of w y ≡ r → ⊥) → First n m w r a word

-- the things from a on are queued: the first of queue r at slots_at + r, and at x what follows thing x
pub record Queued (n m : ℕ) (w : List ℕ) (a : ℕ) : Type 0 where
  pub few : n ≤ 256
  pub less : m ≤ 1024
  pub first : (r : ℕ) → r < queues → First n m w r a (get_or w (slots_at + r) 0)
  pub next : (x : ℕ) → a ≤ x → Declared n m x → First n m w (queue_of w x) (suc x) (get_or w x 0)

-- .. of some sheet
pub record Queues (w : List ℕ) : Type 0 where
  pub tasks : ℕ
  pub links : ℕ
  pub queued : Queued tasks links w 0

-- what is kept for the releases stays
pub record Above (w last : List ℕ) : Type 0 where
  pub long : length last ≡ length w
  pub high : (i : ℕ) → releases_at ≤ i → get_or last i 0 ≡ get_or w i 0

-- thing x, the things from a up to e, and all
pub record QueueIs (w last : List ℕ) (x : ℕ) : Type 0 where
  pub above : Above w last
  pub is : (n m : ℕ) → Declared n m x → Queued n m w (suc x) → Queued n m last x

pub record QueuesIs (w last : List ℕ) (a e : ℕ) : Type 0 where
  pub above : Above w last
  pub is : (n m : ℕ) → ((x : ℕ) → a ≤ x → x < e → Declared n m x) → Queued n m w e → Queued n m last a

pub record AllIs (w last : List ℕ) (n m : ℕ) : Type 0 where
  pub above : Above w last
  pub queued : Queued n m last 0

-- behind a command with this note
pub record BehindIs (w : List ℕ) (note : ℕ) (old : List ℕ) (start : ℕ) (last : List ℕ) (r : ℕ) : Type 0 where
  pub long : length last ≡ length old
  pub near : r ≤ start + 3840
  pub is : (n m : ℕ) → Queued n m w 0 → Lay old start (behind_bytes w note n m) last r

-- the whole bundle
pub record InsertIs (bundle w old last : List ℕ) (r : ℕ) : Type 0 where
  pub long : length last ≡ length old
  pub is : (s : Sheet) (b : Bundle) → Bare s b bundle → Marked s b w → Queued (task_count s) (link_count s) w 0 → Lay old 0 (bundle_bytes (with_releases s b)) last r
