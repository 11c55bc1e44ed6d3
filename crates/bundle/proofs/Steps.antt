-- What lets a command of a bundle pass, and what is read on behind it.
use Prim.Native.Nat.{ℕ, ◌+◌, ◌≤◌, ◌<◌}
use mathlib.Core.Path.{◌≡◌, refl, ap, ◌∙◌}
use mathlib.Core.Bool.{Bool, true, false}
use mathlib.Core.Option.{Option, none, some}
use mathlib.Core.List.{List, [], ◌∷◌, ◌++◌}
use native.Mathlib.Omega.{arith}
use native.Mathlib.Decide.{dec_lt}
use borrow.Author.Tests.{ne_eqb, eq-eqb, lt-leb, le-ltb, lt-ltb, ltb-false}
use lib.ListN.{length, get_or, drop}
use lib.Dec.{eqb, ltb}
use Rattle.folds.specs.Folds.{both}
use Rattle.folds.specs.Answers.{Answer, value}
use Rattle.numbers.specs.Number.{number_at, number_bytes}
use Rattle.numbers.proofs.Laws.{number-of-bytes}
use Rattle.commands.specs.Commands.{go, verdict, judge_kind, judge}
use Rattle.commands.specs.Reading.{Going}
use Rattle.commands.proofs.Going.{goes, ends}
use Rattle.sheet.specs.Sheet.{Sheet, task_count, link_count}
use Rattle.bundle.specs.Bundle.{Command, run, send, receive, release, discard, Bundle}
use Rattle.bundle.specs.Format.{Kind, opening, running, sending, receiving, releasing, discarding, claiming, kind_of, width, inside, wrong_number, unknown, fault, within, after, ended, bundle_format}
use Rattle.bundle.specs.Writing.{command_bytes, claim_bytes}
use Rattle.bundle.specs.Fits.{Known}
use Rattle.bundle.specs.Sizes.{short_size, long_size}
use Rattle.bundle.specs.Kinds.{OfLink, sends, receives, discards, OfTask, runs, releases}
use Rattle.folds.proofs.Firsts.{first_of-none, none-first_of}

module _ (s : Sheet) (ps : List (List Command)) where
  -- what a command that nothing refuses satisfies
  pub record Clear (k : Kind) (b : List ℕ) : Type 0 where
    pub busy : both (inside (task_count s) k) (eqb (length ps) 0) ≡ false
    pub room : width k ≤ length b
    pub numbered : wrong_number s (length ps) k b ≡ false
    pub declared : unknown s k b ≡ false

  abbrev tests : Kind → List ℕ → List (Bool × ℕ)
  tests k b =
      (both (inside (task_count s) k) (eqb (length ps) 0), 23) ∷
      (ltb (length b) (width k), 21) ∷ (wrong_number s (length ps) k b, 23) ∷ (unknown s k b, 25) ∷ []

  pub clear_none : (k : Kind) (b : List ℕ) → Clear k b → fault s ps k b ≡ none
  unfolding fault
  clear_none k b c = none-first_of (tests k b) (c.busy, (le-ltb (length b) (width k) c.room, (c.numbered, (c.declared, tt))))

  pub none-clear : (k : Kind) (b : List ℕ) → fault s ps k b ≡ none → Clear k b
  unfolding fault
  none-clear k b e =
      let f = first_of-none (tests k b) e in
      record { busy = f.0; room = ltb-false (length b) (width k) f.1.0; numbered = f.1.1.0; declared = f.1.1.1.0 }

  -- the command at the head of the bytes, by its first byte
  pub judge-clear : (c : ℕ) (k : Kind) (b : List ℕ) → kind_of c ≡ some k → Clear k b → judge (bundle_format s) ps (c ∷ b) ≡ go k
  unfolding judge
  judge-clear c k b e h =
      ap (λ (o : Option Kind). judge_kind (bundle_format s) ps o b) e ∙ ap (verdict (bundle_format s) k) (clear_none k b h)

  -- a programme is opened
  pub clear-open : (b : List ℕ) → 1 ≤ length b → get_or b 0 0 ≡ length ps → length ps < s.processors → Clear opening b
  clear-open b l e h =
      record {
        busy = refl;
        room = l;
        numbered = rw (e, eq-eqb (length ps) (length ps) refl) (lt-leb s.processors (length ps) h);
        declared = refl;
      }

  -- a command in a programme, of a declared number
  clear-inside : {k : Kind} {b : List ℕ} → inside (task_count s) k ≡ true → wrong_number s (length ps) k b ≡ false → unknown s k b ≡ false → 0 < length ps → width k ≤ length b → Clear k b
  clear-inside i w u n l = record { busy = rw (i, ne_eqb (length ps) 0 (omega arith)); room = l; numbered = w; declared = u }

  pub clear-task : {k : Kind} → OfTask k → (b : List ℕ) → 0 < length ps → 1 ≤ length b → get_or b 0 0 < task_count s → Clear k b
  clear-task runs b n l h = clear-inside refl refl (lt-leb (task_count s) (get_or b 0 0) h) n l
  clear-task releases b n l h = clear-inside refl refl (lt-leb (task_count s) (get_or b 0 0) h) n l

  pub clear-link : {k : Kind} → OfLink k → (b : List ℕ) → 0 < length ps → 2 ≤ length b → number_at 2 b 0 < link_count s → Clear k b
  clear-link sends b n l h = clear-inside refl refl (lt-leb (link_count s) (number_at 2 b 0) h) n l
  clear-link receives b n l h = clear-inside refl refl (lt-leb (link_count s) (number_at 2 b 0) h) n l
  clear-link discards b n l h = clear-inside refl refl (lt-leb (link_count s) (number_at 2 b 0) h) n l

  pub clear-claim : (b : List ℕ) → (0 < task_count s → 0 < length ps) → 4 ≤ length b → Clear claiming b
  clear-claim b n l = record { busy = by (dec_lt 0 (task_count s)); room = l; numbered = refl; declared = refl }
    where
      by : Dec (0 < task_count s) → both (ltb 0 (task_count s)) (eqb (length ps) 0) ≡ false
      by (yes h) = rw (lt-ltb 0 (task_count s) h, ne_eqb (length ps) 0 (let g = n h in omega arith))
      by (no h) = rw (le-ltb 0 (task_count s) (omega arith))

module _ (s : Sheet) {w : Answer Bundle} {ps : List (List Command)} {e : ℕ} where
  -- reading on behind a command of the bytes of a bundle
  pub on-open : (x : ℕ) (b : List ℕ) → Going (bundle_format s) w ps e (0x50 ∷ x ∷ b) → x ≡ length ps → x < s.processors
      → Going (bundle_format s) w (ps ++ [] ∷ []) (e + 2) b
  on-open x b g q h =
      goes (bundle_format s) g opening refl (judge-clear s ps 0x50 opening (x ∷ b) refl (clear-open s ps (x ∷ b) (omega arith) q (omega arith)))

  on-task : {k : Kind} → OfTask k → (c : ℕ) → kind_of c ≡ some k → (x : ℕ) (b : List ℕ) → Going (bundle_format s) w ps e (c ∷ x ∷ b) → 0 < length ps → x < task_count s
      → Going (bundle_format s) w (after ps k (x ∷ b)) (e + short_size) b
  on-task runs c q x b g n h =
      goes (bundle_format s) g running refl (judge-clear s ps c running (x ∷ b) q (clear-task s ps runs (x ∷ b) n (omega arith) h))
  on-task releases c q x b g n h =
      goes (bundle_format s) g releasing refl (judge-clear s ps c releasing (x ∷ b) q (clear-task s ps releases (x ∷ b) n (omega arith) h))

  on-link : {k : Kind} → OfLink k → (c : ℕ) → kind_of c ≡ some k → (d : List ℕ) → Going (bundle_format s) w ps e (c ∷ d) → 0 < length ps → 2 ≤ length d → number_at 2 d 0 < link_count s
      → Going (bundle_format s) w (after ps k d) (e + long_size) (drop 2 d)
  on-link sends c q d g n l h = goes (bundle_format s) g sending refl (judge-clear s ps c sending d q (clear-link s ps sends d n l h))
  on-link receives c q d g n l h = goes (bundle_format s) g receiving refl (judge-clear s ps c receiving d q (clear-link s ps receives d n l h))
  on-link discards c q d g n l h = goes (bundle_format s) g discarding refl (judge-clear s ps c discarding d q (clear-link s ps discards d n l h))

  -- any command of a programme
  pub on-command : (c : Command) (b : List ℕ) → Going (bundle_format s) w ps e (command_bytes c ++ b) → 0 < length ps → link_count s ≤ 65536 → Known s c
      → (d : ℕ) × Going (bundle_format s) w (within ps c) d b
  on-command (run x) b g n m h = (e + short_size, on-task runs 0x52 refl x b g n h)
  on-command (send x) b g n m h =
      let q = number-of-bytes 2 x b (omega arith) in
      (e + long_size, rw q at (on-link sends 0x53 refl (number_bytes 2 x ++ b) g n (omega arith) (rw q h)))
  on-command (receive x) b g n m h =
      let q = number-of-bytes 2 x b (omega arith) in
      (e + long_size, rw q at (on-link receives 0x56 refl (number_bytes 2 x ++ b) g n (omega arith) (rw q h)))
  on-command (release x) b g n m h = (e + short_size, on-task releases 0x46 refl x b g n h)
  on-command (discard x) b g n m h =
      let q = number-of-bytes 2 x b (omega arith) in
      (e + long_size, rw q at (on-link discards 0x47 refl (number_bytes 2 x ++ b) g n (omega arith) (rw q h)))

  -- the claim ends it
  pub on-claim : (x : ℕ) → Going (bundle_format s) w ps e (claim_bytes x) → (0 < task_count s → 0 < length ps) → x < 4294967296 → w ≡ value (record { programmes = ps; claim = x })
  unfolding ended
  on-claim x g n m =
      let q : number_at 4 (number_bytes 4 x) 0 ≡ x = number-of-bytes 4 x [] m in
      ends (bundle_format s) g claiming refl (judge-clear s ps 0x5A claiming (number_bytes 4 x) refl (clear-claim s ps (number_bytes 4 x) n (omega arith)))
      ∙ ap (λ (y : ℕ). value (record { programmes = ps; claim = y })) q
