-- The words in which the machine is kept: where what stands, and the fields of a command's word. Every number of such a word is named here.
--
--   k the index of the next command of processor k < 16
--   clocks + k its clock, stores + k its store in use, firsts + k the index of its first command, lasts + k the index behind its last one
--   count how many programmes there are, links how many links, unpacking the time that a receive takes; idle always 0: where no programme stands, next, first and last are this index
--   stamps + l for link l 0 while its message is not sent, then one more than the stamp (1,024)
--   needs + t what task t needs of the store (256)
--   commands to extent - 1 the commands of all programmes, and a 0 behind each programme (3,584 and 16)
--
-- A command's word is amount + numbers · number + kinds · kind. Its number is a link's, or tasks + a task's, so that stamps + number is the word that it works with:
--     kind 0 none: the end of a programme; nobody steps there, and so nobody steps in words that are all 0
--     kind 1 a run: the amount is the task's work
--     kind 2 a send: how long its message is under way
--     kind 3 a receive: the message's bytes
--     kind 4 a release of a result or of a message: the store that is given back
use Rattle.std.specs.Prelude.{ℕ}

abbrev pub clocks : ℕ
clocks = 16

abbrev pub stores : ℕ
stores = 32

abbrev pub firsts : ℕ
firsts = 48

abbrev pub lasts : ℕ
lasts = 64

abbrev pub count : ℕ
count = 80

abbrev pub links : ℕ
links = 82

abbrev pub unpacking : ℕ
unpacking = 83

abbrev pub idle : ℕ
idle = 95

abbrev pub stamps : ℕ
stamps = 96

abbrev pub needs : ℕ
needs = 1120

abbrev pub commands : ℕ
commands = 1376

abbrev pub extent : ℕ
extent = 4976

-- the words of the work area before the machine's
abbrev pub board : ℕ
board = 16

-- the fields of a word: 18 bits, 11 bits (a number below `span`) and 3 bits
abbrev pub numbers : ℕ
numbers = 262144

abbrev pub span : ℕ
span = 2048

abbrev pub kinds : ℕ
kinds = 536870912

abbrev pub tasks : ℕ
tasks = 1024

-- what a command adds to a clock, a store or a stamp at most; how many commands words have room for; and all of that together, which fits a word
abbrev pub most : ℕ
most = 262140

abbrev pub longest : ℕ
longest = 16384

abbrev pub full : ℕ
full = 4294901760
