-- Links chained by the task at one of their ends: the first link of each task, and for each link the next of the same task, in rising number.
use Rattle.std.specs.Prelude.{ℕ, ◌+◌, ◌≤◌, ◌<◌, ◌%◌, ◌/◌, ◌≡◌, ◌≢◌, List, get_or}
use Rattle.workspace.specs.Area.{heads_at, marks_at, nexts_at}
use Rattle.sheet.specs.Sheet.{Sheet, task_count, link_count, source_of, target_of}
use Rattle.adjacency.specs.Frames.{Only}
use Rattle.adjacency.specs.declared.End.{End}
use Rattle.adjacency.specs.declared.End.TheVariants.{Source, Target}

abbrev pub end_by : End → Sheet → ℕ → ℕ
end_by Source s l = source_of s l
end_by Target s l = target_of s l

-- the half of a word that the chains of e have
abbrev pub half : End → ℕ → ℕ
half Source x = x / 65536
half Target x = x % 65536

-- what the chains of e leave of a word: those of the links into tasks are made first, and leave nothing
abbrev pub rest : End → ℕ → ℕ
rest Source x = x % 65536
rest Target x = 0

-- the first link of t, and the next after l of the same task
unfoldable pub head_of : End → List ℕ → ℕ → ℕ
head_of e w t = half e (get_or w (heads_at + t) 0)

unfoldable pub next_of : End → List ℕ → ℕ → ℕ
next_of e w l = half e (get_or w (nexts_at + l) 0)

-- nothing but the chains of e was written
pub record Rechained (e : End) (w w' : List ℕ) : Type 0 where
  pub only : Only heads_at marks_at w w'
  pub under : (i : ℕ) → rest e (get_or w' i 0) ≡ rest e (get_or w i 0)

-- the number of links stands for no link
pub record Chained (e : End) (s : Sheet) (w : List ℕ) : Type 0 where
  pub head_few : (t : ℕ) → t < task_count s → head_of e w t ≤ link_count s
  pub head_own : (t : ℕ) → t < task_count s → head_of e w t < link_count s → end_by e s (head_of e w t) ≡ t
  pub head_none : (t : ℕ) → t < task_count s → (i : ℕ) → i < head_of e w t → end_by e s i ≢ t
  pub next_few : (l : ℕ) → l < link_count s → next_of e w l ≤ link_count s
  pub next_more : (l : ℕ) → l < link_count s → l < next_of e w l
  pub next_own : (l : ℕ) → l < link_count s → next_of e w l < link_count s → end_by e s (next_of e w l) ≡ end_by e s l
  pub next_none : (l : ℕ) → l < link_count s → (i : ℕ) → l < i → i < next_of e w l → end_by e s i ≢ end_by e s l

-- the links from l on are in the chains
pub record ChainedFrom (e : End) (s : Sheet) (l : ℕ) (w : List ℕ) : Type 0 where
  pub head_few : (t : ℕ) → t < task_count s → head_of e w t ≤ link_count s
  pub head_low : (t : ℕ) → t < task_count s → l ≤ head_of e w t
  pub head_own : (t : ℕ) → t < task_count s → head_of e w t < link_count s → end_by e s (head_of e w t) ≡ t
  pub head_none : (t : ℕ) → t < task_count s → (i : ℕ) → l ≤ i → i < head_of e w t → end_by e s i ≢ t
  pub next_few : (i : ℕ) → l ≤ i → i < link_count s → next_of e w i ≤ link_count s
  pub next_more : (i : ℕ) → l ≤ i → i < link_count s → i < next_of e w i
  pub next_own : (i : ℕ) → l ≤ i → i < link_count s → next_of e w i < link_count s → end_by e s (next_of e w i) ≡ end_by e s i
  pub next_none : (i : ℕ) → l ≤ i → i < link_count s → (j : ℕ) → i < j → j < next_of e w i → end_by e s j ≢ end_by e s i
