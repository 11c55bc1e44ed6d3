-- A bundle's bytes, its commands as values, and the bytes of a bundle that is given by its values.
use Rattle.std.specs.Prelude.{ℕ, suc, List, [], ◌∷◌, ◌++◌}
use Rattle.std.proofs.Math.Option.{Option, none, some}
use Rattle.numbers.specs.Number.{number_bytes}
use Rattle.bundle.specs.Bundle.{Command, run, send, receive, release, discard, Bundle}
use Rattle.bundle.specs.Format.{Kind, opening, running, sending, receiving, releasing, discarding, claiming, kind_of}

abbrev pub command_bytes : Command → List ℕ
command_bytes (run t) = 0x52 ∷ t ∷ []
command_bytes (send l) = 0x53 ∷ number_bytes 2 l
command_bytes (receive l) = 0x56 ∷ number_bytes 2 l
command_bytes (release t) = 0x46 ∷ t ∷ []
command_bytes (discard l) = 0x47 ∷ number_bytes 2 l

abbrev pub programme_bytes : List Command → List ℕ
programme_bytes [] = []
programme_bytes (c ∷ cs) = command_bytes c ++ programme_bytes cs

-- the programmes from number k on
abbrev pub programmes_bytes : ℕ → List (List Command) → List ℕ
programmes_bytes k [] = []
programmes_bytes k (p ∷ ps) = 0x50 ∷ k ∷ (programme_bytes p ++ programmes_bytes (suc k) ps)

abbrev pub claim_bytes : ℕ → List ℕ
claim_bytes claim = 0x5A ∷ number_bytes 4 claim

unfoldable pub bundle_bytes : Bundle → List ℕ
bundle_bytes b = programmes_bytes 0 b.programmes ++ claim_bytes b.claim

-- two values a command: its byte and its operand, 50 among them
abbrev pub command_values : Command → List ℕ
command_values (run t) = 0x52 ∷ t ∷ []
command_values (send l) = 0x53 ∷ l ∷ []
command_values (receive l) = 0x56 ∷ l ∷ []
command_values (release t) = 0x46 ∷ t ∷ []
command_values (discard l) = 0x47 ∷ l ∷ []

abbrev pub programme_values : List Command → List ℕ
programme_values [] = []
programme_values (c ∷ cs) = command_values c ++ programme_values cs

abbrev pub programmes_values : ℕ → List (List Command) → List ℕ
programmes_values k [] = []
programmes_values k (p ∷ ps) = 0x50 ∷ k ∷ (programme_values p ++ programmes_values (suc k) ps)

unfoldable pub bundle_values : Bundle → List ℕ
bundle_values b = programmes_values 0 b.programmes

-- the bytes of an operand, by the kind of its command
abbrev pub operand_bytes : Option Kind → ℕ → List ℕ
operand_bytes none x = []
operand_bytes (some opening) x = x ∷ []
operand_bytes (some running) x = x ∷ []
operand_bytes (some sending) x = number_bytes 2 x
operand_bytes (some receiving) x = number_bytes 2 x
operand_bytes (some releasing) x = x ∷ []
operand_bytes (some discarding) x = number_bytes 2 x
operand_bytes (some claiming) x = number_bytes 4 x

-- the bytes of these values and of the claim behind them: a list that stops inside a command stands for one that is cut there
unfoldable pub value_bytes : List ℕ → ℕ → List ℕ
value_bytes [] claim = claim_bytes claim
value_bytes (c ∷ []) claim = c ∷ []
value_bytes (c ∷ x ∷ vs) claim = c ∷ (operand_bytes (kind_of c) x ++ value_bytes vs claim)
