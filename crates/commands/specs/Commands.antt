-- Reading bytes command by command: a command is one byte that says its kind, then its operands. Sheets and bundles are two formats.
use Rattle.std.specs.Prelude.{ℕ, zero, suc, ◌+◌, Bool, true, false, List, [], ◌∷◌, length, drop, eqb}
use Rattle.std.proofs.Math.Option.{Option, none, some}
use Rattle.folds.specs.Folds.{pick}
use Rattle.folds.specs.Answers.{Answer, refused}

-- P is how far reading has come, K the kinds of command, A what is read
pub record Format (P K A : Type 0) : Type 0 where
  -- the number for missing bytes, and the one for a byte that is no command
  pub cut : ℕ
  pub strange : ℕ
  pub kind_of : ℕ → Option K
  -- the bytes of a command's operands
  pub width : K → ℕ
  -- the number that refuses a command before these operand bytes
  pub fault : P → K → List ℕ → Option ℕ
  pub after : P → K → List ℕ → P
  -- the command that ends the whole, and what is read then: its offset, and the bytes behind its first byte
  pub closes : K → Bool
  pub ended : P → ℕ → List ℕ → Answer A

-- the next command is refused, or is one of a kind
pub data Outcome (K : Type 0) : Type 0 where
  refuse : ℕ → Outcome K
  go : K → Outcome K

-- the number of a fault as code tells it: 0 for none
abbrev pub numbered : ℕ → Option ℕ
numbered r = pick (eqb r 0) none (some r)

module _ {P K A : Type 0} (F : Format P K A) where
  abbrev pub verdict : K → Option ℕ → Outcome K
  verdict k none = go k
  verdict k (some r) = refuse r

  abbrev pub judge_kind : P → Option K → List ℕ → Outcome K
  judge_kind p none b = refuse F.strange
  judge_kind p (some k) b = verdict k (F.fault p k b)

  -- the command at the head of b
  unfoldable pub judge : P → List ℕ → Outcome K
  judge p [] = refuse F.cut
  judge p (c ∷ b) = judge_kind p (F.kind_of c) b

  -- what follows the command of kind k at offset e; going on is reading from there
  abbrev pub onward : (P → ℕ → List ℕ → Answer A) → P → ℕ → List ℕ → K → Bool → Answer A
  onward on p e b k true = F.ended p e (drop 1 b)
  onward on p e b k false = on (F.after p k (drop 1 b)) (e + (1 + F.width k)) (drop (1 + F.width k) b)

  abbrev pub follow : (P → ℕ → List ℕ → Answer A) → P → ℕ → List ℕ → Outcome K → Answer A
  follow on p e b (refuse r) = refused r e
  follow on p e b (go k) = onward on p e b k (F.closes k)

  -- reading goes on at offset e with the bytes b; n bounds the commands
  unfoldable pub read_from : ℕ → P → ℕ → List ℕ → Answer A
  read_from zero p e b = refused F.cut e
  read_from (suc n) p e b = follow (read_from n) p e b (judge p b)

  -- all of b, from the first command on
  unfoldable pub read_all : P → List ℕ → Answer A
  read_all p b = read_from (suc (length b)) p 0 b
