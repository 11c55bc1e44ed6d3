-- The parts of a sheet, written one behind the other.
use Rattle.std.proofs.Common.{◌≡◌, ℕ, ◌+◌, ◌*◌, ◌≤◌, List, [], ◌∷◌, ◌++◌, length, set, ap, ◌∙◌, append_assoc, zero-le, arith, length-append}
use Rattle.numbers.specs.Number.{stored}
use Rattle.numbers.proofs.Laws.{stored-then, stored_one}
use Rattle.sheet.specs.Sheet.{Sheet, Task, Link, task_count, link_count}
use Rattle.sheet.specs.Sizes.{task_size, link_size, front_of}
use Rattle.sheet.proofs.Fronts.{board-length}
use Rattle.sheet.specs.Writing.{board_bytes, task_command, link_command, task_bytes, link_bytes, sheet_bytes}
use Rattle.sheet.proofs.Rounds.{task-bytes-length}
use Rattle.sheet_reader.proofs.Backs.{link-bytes-length}

-- a task's and a link's bytes by their numbers
pub task-bytes : (t : Task) (b r : List ℕ) (at x y : ℕ) → r ≡ stored b at (task_command (record { work = x; store = y })) → x ≡ t.work → y ≡ t.store → r ≡ stored b at (task_command t)
task-bytes t b r at x y h p q = h ∙ (λ i. stored b at (task_command (record { work = p i; store = q i })))

pub link-bytes : (l : Link) (b r : List ℕ) (at x y u v : ℕ) → r ≡ stored b at (link_command (record { source = x; target = y; cost = u; bytes = v }))
    → x ≡ l.source → y ≡ l.target → u ≡ l.cost → v ≡ l.bytes → r ≡ stored b at (link_command l)
link-bytes l b r at x y u v h p q s t = h ∙ (λ i. stored b at (link_command (record { source = p i; target = q i; cost = s i; bytes = t i })))

module _ (s : Sheet) where
  pub sheet-stored : (b m₁ m₂ m₃ : List ℕ) (start n m : ℕ) → start ≡ front_of s → n ≡ task_count s → m ≡ link_count s → start + task_size * n + link_size * m + 1 ≤ length b
      → m₁ ≡ stored b 0 (board_bytes s.processors s.limit s.unpacking s.cube) → m₂ ≡ stored m₁ start (task_bytes s.tasks) → m₃ ≡ stored m₂ (start + task_size * n) (link_bytes s.links)
      → length m₃ ≡ length b → set m₃ (start + task_size * n + link_size * m) 0x51 ≡ stored b 0 (sheet_bytes s)
  unfolding sheet_bytes task_count link_count
  sheet-stored b m₁ m₂ m₃ start n m front tn lm fit p q r e =
      let k : List ℕ = board_bytes s.processors s.limit s.unpacking s.cube in
      let t : List ℕ = task_bytes s.tasks in
      let l : List ℕ = link_bytes s.links in
      let kl : length k ≡ front_of s = board-length s.processors s.limit s.unpacking s.cube in
      let tl = task-bytes-length s.tasks in
      let ll = link-bytes-length s.links in
      let p₂ = stored-then b m₁ m₂ 0 start k t p q (omega arith) zero-le in
      let p₃ = stored-then b m₂ m₃ 0 (start + task_size * n) (k ++ t) l p₂ r (omega (arith, length-append k t)) zero-le in
      let last = stored_one m₃ (start + task_size * n + link_size * m) 0x51 (omega arith) in
      stored-then b m₃ _ 0 (start + task_size * n + link_size * m) (k ++ t ++ l) (0x51 ∷ []) p₃ last (omega (arith, length-append (k ++ t) l, length-append k t)) zero-le
      ∙ ap (stored b 0) (append_assoc (k ++ t) l (0x51 ∷ []) ∙ append_assoc k t (l ++ (0x51 ∷ [])))
