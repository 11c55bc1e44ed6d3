-- What loading promises: the programmes of a bundle, decoded from its bytes and its sheet's, their highest stores in use, and the fresh state beside them.
use Rattle.std.specs.Prelude.{ℕ, suc, ◌+◌, ◌*◌, ◌%◌, ◌≤◌, ◌<◌, ◌≡◌, true, ◌⊎◌, List, length, get_or}
use Rattle.workspace.specs.Found.{found_of}
use Rattle.workspace.specs.Found.{Found}
use Rattle.std.specs.Prelude.{None}
use Rattle.numbers.specs.Number.{number_at}
use Rattle.sheet.specs.Sheet.{Sheet, task_count, link_count}
use Rattle.sheet.specs.Sizes.{link_size}
use Rattle.bundle.specs.Bundle.{Command, run, Bundle, programme_count, programme_of}
use Rattle.bundle.specs.Lies.{size_of, Stands, Lies, Laid}
use Rattle.admission.specs.Counting.{whole, each, need, gives, highest}
use Rattle.admission.specs.Messages.{home, at28}
use Rattle.admission.specs.Notes.{home_in}
use Rattle.admission.specs.Fields.{store_at, Known}
use Rattle.admission.specs.declared.view.View.{View}
use Rattle.machine.specs.Machine.{fresh_state}
use Rattle.stepping_machine.specs.declared.decoding.Coded.{Coded}
use Rattle.stepping_machine.specs.Layout as lay
use Rattle.stepping_machine.specs.Words.{next_in, clock_in, store_in, first_in, last_in, count_in, links_in, unpacking_in, stamped_in, need_in, plain_amount, amount_of, word_by, raised_word}
use Rattle.stepping_machine.specs.Represents.{Decoded, Represents, Within}

-- some commands lie from the offset o to the offset e, and the numbers that they name inside the sheet: what decoding asks, so that it tests nothing
pub record Decodable (sheet bundle : List ℕ) (v : View) (o e : ℕ) : Type 0 where
  pub inside : v.middle + link_size * v.links ≤ length sheet
  pub commands : List Command
  pub lies : Lies v.tasks v.links bundle o e commands

-- some programmes lie as the words w say
pub record Ready (sheet bundle w : List ℕ) (v : View) (m : ℕ) : Type 0 where
  pub inside : v.middle + link_size * v.links ≤ length sheet
  pub programmes : List (List Command)
  pub count : length programmes ≡ m
  pub few : m ≤ 16
  pub laid : Laid v.tasks v.links bundle w programmes
  pub long : lay.extent ≤ length w

-- the command at the offset o: its word, its bytes, what it needs of the store and what it gives back
pub record CodeIs (sheet bundle : List ℕ) (v : View) (o : ℕ) (x : Coded) : Type 0 where
  pub some : 2 ≤ x.size
  pub few : x.size ≤ 3
  pub small : x.need < 65536
  pub sized : (t l : ℕ) (c : Command) → Stands t l bundle o c → x.size ≡ size_of c
  pub is : (s : Sheet) (c : Command) → Known s sheet v → Stands (task_count s) (link_count s) bundle o c → (x.word ≡ word_by (plain_amount s) c) × (x.need ≡ need s c) × (x.gives ≡ gives s c)

-- the programme from the offset o to the offset e in the words from the index a on, a 0 at the index r behind it, and its highest store in use; the others stay
pub record ProgrammeIs (sheet bundle w last : List ℕ) (v : View) (o e a r n : ℕ) : Type 0 where
  pub long : length last ≡ length w
  pub ahead : a ≤ r
  pub far : r ≤ a + e + 2
  pub low : (i : ℕ) → i < a → get_or last i 0 ≡ get_or w i 0
  pub is : (s : Sheet) (cs : List Command) → Known s sheet v → Lies (task_count s) (link_count s) bundle o e cs → a + length cs < length w
      → (r ≡ a + length cs) × Decoded s (plain_amount s) last a cs × (n ≡ highest s cs)

-- processor k stands before the first of the commands cs, whose indices and the end's are below c
pub record Opens (s : Sheet) (amount : Command → ℕ) (w : List ℕ) (c k : ℕ) (cs : List Command) : Type 0 where
  pub next : next_in w k ≡ first_in w k
  pub low : lay.commands ≤ first_in w k
  pub high : first_in w k + length cs < c
  pub last : last_in w k ≡ first_in w k + length cs
  pub decoded : Decoded s amount w (first_in w k) cs

-- on a cube, the needs' words have the programme that runs each task
pub record Homes (s : Sheet) (b : Bundle) (w : List ℕ) : Type 0 where
  pub at : s.cube ≡ true → (t : ℕ) → t < task_count s → need_in w t ≡ home b (run t)

-- in the words from the index a up to i, those that raising makes of the words w; the others stay
pub record RaiseIs (sheet w last : List ℕ) (middle k a i : ℕ) : Type 0 where
  pub long : length last ≡ length w
  pub raised : (j : ℕ) → a ≤ j → j < i → j < length w → get_or last j 0 ≡ raised_word sheet w middle k (get_or w j 0) % 4294967296
  pub other : (j : ℕ) → (j < a) ⊎ (i ≤ j) → get_or last j 0 ≡ get_or w j 0

-- commands of processor k that were read with the costs of their messages, from the index a up to e, have the times that their messages are under way; the others stay
pub record WaysIs (sheet w last : List ℕ) (v : View) (k a e : ℕ) : Type 0 where
  pub long : length last ≡ length w
  pub other : (i : ℕ) → (i < a) ⊎ (e ≤ i) → get_or last i 0 ≡ get_or w i 0
  pub is : (s : Sheet) (b : Bundle) (cs : List Command) → Known s sheet v → programme_count b ≤ 16 → Homes s b w → e ≡ a + length cs → e < length w
      → Decoded s (plain_amount s) w a cs → Decoded s (amount_of s b k) last a cs

-- processor k, whose programme lies as the words say, opened from the index c on; the index r behind it, and its highest store in use
pub record OneIs (sheet bundle w last : List ℕ) (v : View) (k c r n : ℕ) : Type 0 where
  pub long : length last ≡ length w
  pub ahead : c ≤ r
  pub few : r ≤ c + 4294967300
  pub low : (i : ℕ) → i < c → (i ≡ k → ⊥) → (i ≡ lay.firsts + k → ⊥) → (i ≡ lay.lasts + k → ⊥) → get_or last i 0 ≡ get_or w i 0
  pub is : (s : Sheet) (b : Bundle) (cs : List Command) → Known s sheet v → programme_count b ≤ 16 → Homes s b w
      → Lies (task_count s) (link_count s) bundle (get_or w k 0 + 2) (get_or w (suc k) 0) cs → c + length cs < lay.extent
      → (r ≡ c + length cs + 1) × Opens s (amount_of s b k) last r k cs × (n ≡ highest s cs)

-- the sheet s and the bundle b of m programmes are those of the bytes and of the offsets in w
pub record LaidOut (sheet bundle w : List ℕ) (v : View) (m : ℕ) (s : Sheet) (b : Bundle) : Type 0 where
  pub known : Known s sheet v
  pub programmes : programme_count b ≡ m
  pub few : programme_count b ≤ 16
  pub short : whole b each ≤ 3584
  pub laid : Laid (task_count s) (link_count s) bundle w b.programmes
  pub homes : (t : ℕ) → t < task_count s → home_in w t ≡ home b (run t)

-- all programmes opened, or 28
pub record AllIs (sheet bundle w last : List ℕ) (v : View) (m : ℕ) (r : Found) : Type 0 where
  pub long : length last ≡ length w
  pub is_28 : (s : Sheet) (b : Bundle) → LaidOut sheet bundle w v m s b → Homes s b w → found_of r ≡ at28 s b
  pub opens : r ≡ None → (s : Sheet) (b : Bundle) → LaidOut sheet bundle w v m s b → Homes s b w → (k : ℕ) → k < m → Opens s (amount_of s b k) last (lay.commands + whole b each + m) k (programme_of b k)

-- in the needs' words the programme that runs each of n tasks, by its note; the others stay
pub record NotedIs (w last : List ℕ) (n : ℕ) : Type 0 where
  pub long : length last ≡ length w
  pub homes : (t : ℕ) → t < n → need_in last t ≡ home_in w t
  pub other : (i : ℕ) → (i < lay.needs) ⊎ (lay.commands ≤ i) → get_or last i 0 ≡ get_or w i 0

-- the same on a cube
pub record HomesIs (w last : List ℕ) (v : View) : Type 0 where
  pub long : length last ≡ length w
  pub homes : v.cube ≡ true → (t : ℕ) → t < v.tasks → need_in last t ≡ home_in w t
  pub other : (i : ℕ) → (i < lay.needs) ⊎ (lay.commands ≤ i) → get_or last i 0 ≡ get_or w i 0

-- every processor from m up to e has no command; the others stay
pub record RestIs (w last : List ℕ) (m e : ℕ) : Type 0 where
  pub long : length last ≡ length w
  pub idle : (k : ℕ) → m ≤ k → k < e → (next_in last k ≡ lay.idle) × (first_in last k ≡ lay.idle) × (last_in last k ≡ lay.idle)
  pub kept : (k : ℕ) → k < m → (next_in last k ≡ next_in w k) × (first_in last k ≡ first_in w k) × (last_in last k ≡ last_in w k)
  pub other : (i : ℕ) → lay.count ≤ i → get_or last i 0 ≡ get_or w i 0

-- clocks, stores and l stamps are 0, m programmes and l links are counted, and a receive takes the time u; the others stay
pub record WipeIs (w last : List ℕ) (m l u : ℕ) : Type 0 where
  pub long : length last ≡ length w
  pub count : count_in last ≡ m
  pub links : links_in last ≡ l
  pub unpacks : unpacking_in last ≡ u
  pub clock : (k : ℕ) → k < 16 → clock_in last k ≡ 0
  pub store : (k : ℕ) → k < 16 → store_in last k ≡ 0
  pub idle : get_or last lay.idle 0 ≡ 0
  pub stamp : (i : ℕ) → i < l → stamped_in last i ≡ 0
  pub other : (i : ℕ) → (i < lay.clocks) ⊎ ((lay.firsts ≤ i) × (i < lay.count)) ⊎ (lay.needs ≤ i) → get_or last i 0 ≡ get_or w i 0

-- what each of n tasks needs of the store, as the sheet's bytes have it; the others stay
pub record NeedsIs (sheet w last : List ℕ) (front n : ℕ) : Type 0 where
  pub long : length last ≡ length w
  pub needs : (t : ℕ) → t < n → need_in last t ≡ number_at 2 sheet (store_at front t)
  pub other : (i : ℕ) → (i < lay.needs) ⊎ (lay.commands ≤ i) → get_or last i 0 ≡ get_or w i 0

-- m programmes whose offsets stand in the words: 28, or the fresh state
pub record LoadIs (sheet bundle w last : List ℕ) (v : View) (m : ℕ) (r : Found) : Type 0 where
  pub long : length last ≡ length w
  pub is_28 : (s : Sheet) (b : Bundle) → LaidOut sheet bundle w v m s b → found_of r ≡ at28 s b
  pub represents : r ≡ None → (s : Sheet) (b : Bundle) → LaidOut sheet bundle w v m s b → Represents s b last (fresh_state s b) × Within b last (lay.commands + whole b each + m)
