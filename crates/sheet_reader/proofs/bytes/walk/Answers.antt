-- `walk` (src/bytes.rt) keeps its contract.
use Rattle.sheet_reader.proofs.Scans.{link-from, links-begin, read_through, walk_from}
use mathlib.Core.Path.{◌∙◌, sym}
use native.Mathlib.Omega.{arith}
use Rattle.sheet_reader.proofs.bytes.walk.Goals as goal

pub add_tasks-tasks-requires : goal.add_tasks-tasks-requires
add_tasks-tasks-requires c = let s = c.add_board-start.ensures in (walk_from s.0 _ (sym s.0.scanning.long), s.1)

pub blank-requires : goal.blank-requires
blank-requires c = let s = c.add_tasks-tasks.ensures.0.scanning in (s.loaded.long, omega (arith, s.tasks, s.loaded.tasks))

pub overflow_mul-at : goal.overflow_mul-at
overflow_mul-at c = omega (arith, c.add_tasks-tasks.ensures.0.room)

pub overflow_add-at : goal.overflow_add-at
overflow_add-at c = omega (arith, c.add_tasks-tasks.ensures.0.room)

pub add_links-links-requires : goal.add_links-links-requires
add_links-links-requires c = let s = c.add_tasks-tasks.ensures in links-begin s.0 s.1 s.2 c.blank.ensures

pub overflow_mul-links : goal.overflow_mul-links
overflow_mul-links c = omega (arith, c.add_links-links.ensures.0.walking.room)

pub overflow_add-at-2 : goal.overflow_add-at-2
overflow_add-at-2 c = omega (arith, c.add_links-links.ensures.0.walking.room)

pub rest-requires : goal.rest-requires
rest-requires c =
    let s = c.add_links-links.ensures in
    record { linking = link-from s.0 _ (sym s.0.walking.scanning.long); absent = s.1 }

pub shape_of-w : goal.shape_of-w
shape_of-w c = c.add_links-links.ensures.0.walking.scanning.long ∙ c.blank.ensures.long ∙ c.add_tasks-tasks.ensures.0.scanning.long ∙ c.add_board-start.ensures.0.scanning.long

pub returns : goal.returns
returns c = read_through c.rest.ensures (shape_of-w c)
