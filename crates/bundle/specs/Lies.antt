-- Commands as they lie in a bundle's bytes: code walks them there and builds no list.
use Rattle.std.specs.Prelude.{ℕ, suc, ◌+◌, ◌≤◌, ◌<◌, ◌≡◌, List, [], ◌∷◌, length, get_or}
use Rattle.numbers.specs.Number.{number_at}
use Rattle.bundle.specs.Bundle.{Command, run, send, receive, release, discard}
use Rattle.bundle.specs.Sizes.{short_size, long_size, claim_size}

-- how many bytes a command has
abbrev pub size_of : Command → ℕ
size_of (run t) = short_size
size_of (send l) = long_size
size_of (receive l) = long_size
size_of (release t) = short_size
size_of (discard l) = long_size

module _ (t l : ℕ) (b : List ℕ) where
  -- the command at offset o, of a task below t or a link below l, all of it inside b
  abbrev pub Stands : ℕ → Command → Type 0
  Stands o (run x) = (get_or b o 0 ≡ 0x52) × (get_or b (o + 1) 0 ≡ x) × (x < t) × (o + short_size ≤ length b)
  Stands o (send x) = (get_or b o 0 ≡ 0x53) × (number_at 2 b (o + 1) ≡ x) × (x < l) × (o + long_size ≤ length b)
  Stands o (receive x) = (get_or b o 0 ≡ 0x56) × (number_at 2 b (o + 1) ≡ x) × (x < l) × (o + long_size ≤ length b)
  Stands o (release x) = (get_or b o 0 ≡ 0x46) × (get_or b (o + 1) 0 ≡ x) × (x < t) × (o + short_size ≤ length b)
  Stands o (discard x) = (get_or b o 0 ≡ 0x47) × (number_at 2 b (o + 1) ≡ x) × (x < l) × (o + long_size ≤ length b)

  -- these commands, one behind the other, from offset o to offset e
  pub data Lies : ℕ → ℕ → List Command → Type 0 where
    over : {o : ℕ} → Lies o o []
    more : {o e : ℕ} {c : Command} {cs : List Command} → Stands o c → Lies (o + size_of c) e cs → Lies o e (c ∷ cs)

  -- the programmes ps: word k of w has the offset of the command that opens programme k, and the word behind the last one that of the claim
  pub record Laid (w : List ℕ) (ps : List (List Command)) : Type 0 where
    pub lies : (k : ℕ) → k < length ps → Lies (get_or w k 0 + short_size) (get_or w (suc k) 0) (get_or ps k [])
    pub claimed : get_or w (length ps) 0 + claim_size ≡ length b
