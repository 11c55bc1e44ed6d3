-- Bytes that are read as a bundle: its programmes stand one behind the other, each behind the command that opens it, up to the claim.
use Prim.Native.Nat.{ℕ, suc, ◌+◌, ◌-◌, ◌≤◌, ◌<◌}
use native.Mathlib.Omega.{arith}
use mathlib.Core.Path.{◌≡◌, sym, ap, ◌∙◌}
use mathlib.Core.List.{List, [], ◌∷◌, ◌++◌, append_assoc}
use lib.ListN.{length, get_or, drop, length-drop}
use lib.Seq.{get_or-drop, drop-drop}
use Rattle.folds.specs.Answers.{value}
use Rattle.numbers.specs.Number.{Bytes, number_at, number_bytes}
use Rattle.numbers.proofs.Laws.{number_at-drop, number_at-cons, number-of-bytes}
use Rattle.sheet.specs.Sheet.{Sheet, task_count, link_count}
use Rattle.bundle.specs.Bundle.{Command, run, send, receive, release, discard, Bundle}
use Rattle.bundle.specs.Format.{read_bundle}
use Rattle.bundle.specs.Writing.{command_bytes, programme_bytes, programmes_bytes, claim_bytes, bundle_bytes}
use Rattle.bundle.specs.Fits.{Known, Each}
use Rattle.bundle.specs.Lies.{size_of, Stands, Lies, over, more}
use Rattle.bundle.proofs.Rounds.{bytes-again, read-formed}
use Rattle.bundle.proofs.Lying.{lies-le}

-- the programmes from offset o on
pub data Rows (t l : ℕ) (b : List ℕ) : ℕ → List (List Command) → Type 0 where
  claims : {o : ℕ} → o + 5 ≡ length b → Rows t l b o []
  opens : {o e : ℕ} {p : List Command} {ps : List (List Command)} → get_or b o 0 ≡ 0x50 → Lies t l b (o + 2) e p → Rows t l b e ps → Rows t l b o (p ∷ ps)

pub rows-le : {t l : ℕ} {b : List ℕ} {o : ℕ} {ps : List (List Command)} → Rows t l b o ps → o + 5 ≤ length b
rows-le (claims e) = omega arith
rows-le {t} {l} {b} (opens h x r) = omega (arith, lies-le t l b x, rows-le r)

module _ (s : Sheet) (few : link_count s ≤ 65536) (b : List ℕ) where
  abbrev Here : ℕ → Command → Type 0
  Here = Stands (task_count s) (link_count s) b

  byte_at : (o : ℕ) (d : List ℕ) → drop o b ≡ d → get_or b o 0 ≡ get_or d 0 0
  byte_at o d e = let z : o + 0 ≡ o = omega arith in sym (get_or-drop o b 0 0 ∙ ap (λ (i : ℕ). get_or b i 0) z) ∙ ap (λ (y : List ℕ). get_or y 0 0) e

  length_at : (o : ℕ) (d : List ℕ) → drop o b ≡ d → length b - o ≡ length d
  length_at o d e = sym (length-drop o b) ∙ ap length e

  message-at : (o c x : ℕ) (r : List ℕ) → x < 65536 → drop o b ≡ c ∷ (number_bytes 2 x ++ r) → number_at 2 b (o + 1) ≡ x
  message-at o c x r h e =
      sym (number_at-drop 2 o b 1) ∙ ap (λ (d : List ℕ). number_at 2 d 1) e ∙ number_at-cons 2 c (number_bytes 2 x ++ r) 0 ∙ number-of-bytes 2 x r h

  -- a command whose bytes come first stands there
  stands-there : (o : ℕ) (c : Command) (r : List ℕ) → Known s c → drop o b ≡ command_bytes c ++ r → Here o c × (drop (o + size_of c) b ≡ r)
  stands-there o (run x) r h e =
      let n = length_at o (0x52 ∷ x ∷ r) e in
      ((byte_at o (0x52 ∷ x ∷ r) e, sym (get_or-drop o b 1 0) ∙ ap (λ (d : List ℕ). get_or d 1 0) e, h, omega arith), sym (drop-drop 2 o b) ∙ ap (drop 2) e)
  stands-there o (send x) r h e =
      let n = length_at o (0x53 ∷ (number_bytes 2 x ++ r)) e in
      ((byte_at o (0x53 ∷ (number_bytes 2 x ++ r)) e, message-at o 0x53 x r (omega arith) e, h, omega arith), sym (drop-drop 3 o b) ∙ ap (drop 3) e)
  stands-there o (receive x) r h e =
      let n = length_at o (0x56 ∷ (number_bytes 2 x ++ r)) e in
      ((byte_at o (0x56 ∷ (number_bytes 2 x ++ r)) e, message-at o 0x56 x r (omega arith) e, h, omega arith), sym (drop-drop 3 o b) ∙ ap (drop 3) e)
  stands-there o (release x) r h e =
      let n = length_at o (0x46 ∷ x ∷ r) e in
      ((byte_at o (0x46 ∷ x ∷ r) e, sym (get_or-drop o b 1 0) ∙ ap (λ (d : List ℕ). get_or d 1 0) e, h, omega arith), sym (drop-drop 2 o b) ∙ ap (drop 2) e)
  stands-there o (discard x) r h e =
      let n = length_at o (0x47 ∷ (number_bytes 2 x ++ r)) e in
      ((byte_at o (0x47 ∷ (number_bytes 2 x ++ r)) e, message-at o 0x47 x r (omega arith) e, h, omega arith), sym (drop-drop 3 o b) ∙ ap (drop 3) e)

  -- a programme, and the bytes behind it
  lies-there : (o : ℕ) (p : List Command) (r : List ℕ) → Each (Known s) p → drop o b ≡ programme_bytes p ++ r → (e : ℕ) × Lies (task_count s) (link_count s) b o e p × (drop e b ≡ r)
  lies-there o [] r h e = (o, over, e)
  lies-there o (c ∷ p) r h e =
      let a = stands-there o c (programme_bytes p ++ r) h.0 (e ∙ append_assoc (command_bytes c) (programme_bytes p) r) in
      let i = lies-there (o + size_of c) p r h.1 a.1 in
      (i.0, more a.0 i.1, i.2)

  rows-there : (o k : ℕ) (ps : List (List Command)) (claim : ℕ) → Each (Each (Known s)) ps → drop o b ≡ programmes_bytes k ps ++ claim_bytes claim → Rows (task_count s) (link_count s) b o ps
  rows-there o k [] claim h e =
      let n = length_at o (claim_bytes claim) e in
      let f : o + 5 ≡ length b = omega arith in
      claims f
  rows-there o k (p ∷ ps) claim h e =
      let f : drop o b ≡ 0x50 ∷ k ∷ (programme_bytes p ++ (programmes_bytes (suc k) ps ++ claim_bytes claim)) =
      e ∙ ap (λ (r : List ℕ). 0x50 ∷ k ∷ r) (append_assoc (programme_bytes p) (programmes_bytes (suc k) ps) (claim_bytes claim))
      in
      let a = lies-there (o + 2) p (programmes_bytes (suc k) ps ++ claim_bytes claim) h.0 (sym (drop-drop 2 o b) ∙ ap (drop 2) f) in
      opens (byte_at o (0x50 ∷ k ∷ (programme_bytes p ++ (programmes_bytes (suc k) ps ++ claim_bytes claim))) f) a.1 (rows-there a.0 (suc k) ps claim h.1 a.2)

  pub rows : (x : Bundle) → Bytes b → read_bundle s b ≡ value x → Rows (task_count s) (link_count s) b 0 x.programmes
  unfolding bundle_bytes
  rows x y e = rows-there 0 0 x.programmes x.claim (read-formed s b x e).known (sym (bytes-again s b x y e))
