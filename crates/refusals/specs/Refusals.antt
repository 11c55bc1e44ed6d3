-- What code answers for an answer of the definitions.
use Rattle.std.specs.Prelude.{ℕ, ◌≡◌, List, length, Result, Ok, Err}
use Rattle.std.proofs.Math.Option.{Option, none, some}
use Rattle.folds.specs.Answers.{Answer, value, refused, written}
use Rattle.refusals.specs.declared.Refusal.{Refusal}
use Rattle.refusals.specs.declared.Fault.{Fault}
use Rattle.refusals.specs.declared.Fault.TheVariants.{CutSheet, StrangeSheetCommand, SheetOutOfTurn, SheetTail, OverFull, Range, LooseLink, DoubledLink, Loop, NoStore, ShortOutput, ShortWorkArea, CutBundle, StrangeBundleCommand, BundleOutOfTurn, BundleTail, UnknownNumber, RunCount, OverStore, Stuck, WrongClaim, WrongSend, WrongReceive, LocalOrder, BothRefused, NoFormula, WrongValue, WrongRelease, NotSmall}

-- a fault's number in the document
abbrev pub number : Fault → ℕ
number CutSheet = 1
number StrangeSheetCommand = 2
number SheetOutOfTurn = 3
number SheetTail = 4
number OverFull = 5
number Range = 6
number LooseLink = 7
number DoubledLink = 8
number Loop = 10
number NoStore = 11
number ShortOutput = 12
number ShortWorkArea = 13
number CutBundle = 21
number StrangeBundleCommand = 22
number BundleOutOfTurn = 23
number BundleTail = 24
number UnknownNumber = 25
number RunCount = 26
number OverStore = 28
number Stuck = 29
number WrongClaim = 30
number WrongSend = 31
number WrongReceive = 32
number LocalOrder = 33
number BothRefused = 34
number NoFormula = 35
number WrongValue = 36
number WrongRelease = 37
number NotSmall = 38

abbrev pub refusal : ℕ → ℕ → Refusal
refusal n at = record { number = n; place = at }

-- f of a value, or the refusal
abbrev pub result_of : {A T : Type 0} → (A → T) → Answer A → Result T Refusal
result_of f (value x) = Ok (f x)
result_of f (refused n at) = Err (refusal n at)

-- the number of a fault that a test finds, if it finds one
abbrev pub fault_of : {T : Type 0} → Result T Fault → Option ℕ
fault_of (Ok x) = none
fault_of (Err f) = some (number f)

-- what a test found, with a fault's number
abbrev pub numbered : {T : Type 0} → Result T Fault → Result T ℕ
numbered (Ok x) = Ok x
numbered (Err f) = Err (number f)

-- the number and the place of a refusal, if there is one
abbrev pub refusal_of : {T : Type 0} → Result T Refusal → Option (ℕ × ℕ)
refusal_of (Ok x) = none
refusal_of (Err r) = some (r.number, r.place)

-- what a test found, with a fault at its place
abbrev pub placed : {T : Type 0} → ℕ → Result T Fault → Result T Refusal
placed at (Ok x) = Ok x
placed at (Err f) = Err (refusal (number f) at)

-- the length of what is written, or the refusal
abbrev pub written_of : Answer (List ℕ) → Result ℕ Refusal
written_of a = result_of length a

-- the answer a, and what stands in lent bytes before and after it
pub record WriteIs (a : Answer (List ℕ)) (old last : List ℕ) (r : Result ℕ Refusal) : Type 0 where
  pub answer : r ≡ written_of a
  pub left : last ≡ written old a
