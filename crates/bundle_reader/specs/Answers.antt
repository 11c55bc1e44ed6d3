-- The code's answers as the definitions have them.
use Rattle.std.specs.Prelude.{ℕ, ⊤, Result, Ok, Err, ◌+◌, List, length, ltb}
use Rattle.folds.specs.Folds.{pick}
use Rattle.folds.specs.Answers.{Answer}
use Rattle.numbers.specs.Number.{number_at}
use Rattle.bundle.specs.Bundle.{Bundle, programme_count}
use Rattle.bundle.specs.Counts.{command_count}
use Rattle.bundle.specs.Sizes.{short_size, long_size, claim_size}
use Rattle.commands.specs.Commands.{Outcome, refuse, go}
use Rattle.bundle.specs.Format.{Kind, opening, running, sending, receiving, releasing, discarding, claiming}
use Rattle.bundle_reader.specs.declared.bytes.Next.{Next}
use Rattle.bundle_reader.specs.declared.bytes.Next.TheVariants.{Step, Open, Claim}
use Rattle.bundle_reader.specs.declared.bytes.Outline.{Outline}
use Rattle.refusals.specs.Refusals.{number, refusal, result_of}
use Rattle.refusals.specs.declared.Refusal.{Refusal}
use Rattle.refusals.specs.declared.Fault.{Fault}

abbrev pub outline : ℕ → ℕ → ℕ → Outline
outline n m c = record { programmes = n; commands = m; claim = c }

unfoldable pub outline_of : Bundle → Outline
outline_of b = outline (programme_count b) (command_count b) b.claim

-- what reading a bundle gives: its programmes, the commands in them and its claim, or the refusal
abbrev pub reading_of : Answer Bundle → Result Outline Refusal
reading_of a = result_of outline_of a

-- what the claim at an offset closes, behind n programmes with m commands
unfoldable pub closed_of : List ℕ → ℕ → ℕ → ℕ → Result Outline Refusal
closed_of b at n m = pick (ltb (at + claim_size) (length b)) (Err (refusal 24 (at + claim_size))) (Ok (outline n m (number_at 4 b (at + 1))))

-- what a command's kind is to the reader: of those in a programme it needs the length alone
abbrev pub kind_next : Kind → Next
kind_next opening = Open
kind_next running = Step short_size
kind_next sending = Step long_size
kind_next receiving = Step long_size
kind_next releasing = Step short_size
kind_next discarding = Step long_size
kind_next claiming = Claim

abbrev pub next_of : Outcome Kind → Result Next ℕ
next_of (refuse r) = Err r
next_of (go k) = Ok (kind_next k)

-- a command, by the test of it
abbrev pub judged_of : Result ⊤ Fault → Next → Result Next ℕ
judged_of (Ok y) x = Ok x
judged_of (Err f) x = Err (number f)
