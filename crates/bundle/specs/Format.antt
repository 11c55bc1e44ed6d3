-- The bytes of a bundle: its commands, what refuses each of them (21 to 25), and what the claim closes (24).
use Rattle.std.specs.Prelude.{ℕ, ◌+◌, Bool, true, false, not, List, [], ◌∷◌, ◌++◌, length, get_or, ltb, leb, eqb}
use Rattle.std.proofs.Math.Option.{Option, none, some}
use Rattle.folds.specs.Folds.{pick, both, either, first_of}
use Rattle.folds.specs.Answers.{Answer, value, refused}
use Rattle.numbers.specs.Number.{number_at}
use Rattle.commands.specs.Commands.{Format, read_all}
use Rattle.sheet.specs.Sheet.{Sheet, task_count, link_count}
use Rattle.bundle.specs.Bundle.{Command, run, send, receive, release, discard, Bundle}
use Rattle.bundle.specs.Sizes.{claim_size}

-- "50 (u8) opens a processor's programme; 52 run (task u8), 53 send (link u16), 56 receive (link u16); 5A (claimed time u32) ends the bundle"; "46 (task u8) releases a
-- result, 47 (link u16) a received message"
pub data Kind : Type 0 where
  opening running sending receiving releasing discarding claiming : Kind

abbrev pub kind_of : ℕ → Option Kind
kind_of c =
    pick (eqb c 0x50) (some opening)
    (pick (eqb c 0x52) (some running)
    (pick (eqb c 0x53) (some sending)
    (pick (eqb c 0x56) (some receiving)
    (pick (eqb c 0x46) (some releasing) (pick (eqb c 0x47) (some discarding) (pick (eqb c 0x5A) (some claiming) none))))))

abbrev pub width : Kind → ℕ
width opening = 1
width running = 1
width sending = 2
width receiving = 2
width releasing = 1
width discarding = 2
width claiming = 4

-- 23: a command before the first 50; of a sheet with no task (t is their number) the claim may stand there
abbrev pub inside : ℕ → Kind → Bool
inside t opening = false
inside t running = true
inside t sending = true
inside t receiving = true
inside t releasing = true
inside t discarding = true
inside t claiming = ltb 0 t

module _ (s : Sheet) where
  -- 23: "numbered 0, 1, 2 and so on with no gap, below the sheet's processors"; n programmes are open
  abbrev pub wrong_number : ℕ → Kind → List ℕ → Bool
  wrong_number n opening b = either (not (eqb (get_or b 0 0) n)) (leb s.processors (get_or b 0 0))
  wrong_number n running b = false
  wrong_number n sending b = false
  wrong_number n receiving b = false
  wrong_number n releasing b = false
  wrong_number n discarding b = false
  wrong_number n claiming b = false

  -- 25: an undeclared task or link
  abbrev pub unknown : Kind → List ℕ → Bool
  unknown opening b = false
  unknown running b = leb (task_count s) (get_or b 0 0)
  unknown sending b = leb (link_count s) (number_at 2 b 0)
  unknown receiving b = leb (link_count s) (number_at 2 b 0)
  unknown releasing b = leb (task_count s) (get_or b 0 0)
  unknown discarding b = leb (link_count s) (number_at 2 b 0)
  unknown claiming b = false

  -- "per command 22, 23 (no programme open), 21, 23 (number), 25": 22 is what is no command byte at all
  unfoldable pub fault : List (List Command) → Kind → List ℕ → Option ℕ
  fault ps k b =
      first_of
      ((both (inside (task_count s) k) (eqb (length ps) 0), 23) ∷
      (ltb (length b) (width k), 21) ∷ (wrong_number (length ps) k b, 23) ∷ (unknown k b, 25) ∷ [])

-- the programmes with c at the end of the last one
abbrev pub within : List (List Command) → Command → List (List Command)
within [] c = []
within (p ∷ []) c = (p ++ c ∷ []) ∷ []
within (p ∷ q ∷ ps) c = p ∷ within (q ∷ ps) c

-- the programmes so far, with one command more
abbrev pub after : List (List Command) → Kind → List ℕ → List (List Command)
after ps opening b = ps ++ [] ∷ []
after ps running b = within ps (run (get_or b 0 0))
after ps sending b = within ps (send (number_at 2 b 0))
after ps receiving b = within ps (receive (number_at 2 b 0))
after ps releasing b = within ps (release (get_or b 0 0))
after ps discarding b = within ps (discard (number_at 2 b 0))
after ps claiming b = ps

abbrev pub closes : Kind → Bool
closes opening = false
closes running = false
closes sending = false
closes receiving = false
closes releasing = false
closes discarding = false
closes claiming = true

-- behind the claim at offset e: 24 if a byte follows its operands, or the bundle
unfoldable pub ended : List (List Command) → ℕ → List ℕ → Answer Bundle
ended ps e b = pick (ltb 4 (length b)) (refused 24 (e + claim_size)) (value (record { programmes = ps; claim = number_at 4 b 0 }))

abbrev pub bundle_format : Sheet → Format (List (List Command)) Kind Bundle
bundle_format s =
    record { cut = 21; strange = 22; kind_of = kind_of; width = width; fault = fault s; after = after; closes = closes; ended = ended }

-- what reading bytes as a bundle for s gives: 21 to 25, or the bundle
unfoldable pub read_bundle : Sheet → List ℕ → Answer Bundle
read_bundle s b = read_all (bundle_format s) [] b
