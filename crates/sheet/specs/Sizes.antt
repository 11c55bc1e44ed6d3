-- How many bytes each command of a sheet has, and where its tasks and its links begin. The code names the same numbers (src/lib.rt); no other place knows one of them.
use Rattle.std.specs.Prelude.{ℕ, ◌+◌, ◌*◌, Bool, eqb}
use Rattle.folds.specs.Folds.{pick}
use Rattle.sheet.specs.Sheet.{Sheet, task_count, link_count}

abbrev pub board_size : ℕ
board_size = 6

abbrev pub unpacking_size : ℕ
unpacking_size = 3

abbrev pub cube_size : ℕ
cube_size = 1

abbrev pub task_size : ℕ
task_size = 5

abbrev pub link_size : ℕ
link_size = 7

-- the tasks begin behind the board, whose unpacking time has a command of its own where it is not 0, and so has a cube
unfoldable pub front_by : ℕ → Bool → ℕ
front_by unpacking cube = board_size + pick (eqb unpacking 0) 0 unpacking_size + pick cube cube_size 0

abbrev pub front_of : Sheet → ℕ
front_of s = front_by s.unpacking s.cube

-- where the links begin, behind the tasks
abbrev pub middle_of : Sheet → ℕ
middle_of s = front_of s + task_size * task_count s

-- the length of the sheet: behind the links the end command, which is one byte
abbrev pub size_of : Sheet → ℕ
size_of s = middle_of s + link_size * link_count s + 1
