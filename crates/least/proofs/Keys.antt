-- Which of two programmes begins lower, told by one number for each first task.
use Prim.Native.Nat.{ℕ, ◌+◌, ◌≤◌, ◌<◌, max}
use native.Mathlib.Omega.{arith}
use native.Mathlib.Decide.{dec_lt}
use mathlib.Core.Bool.{false}
use mathlib.Core.Option.{Option, none, some}
use mathlib.Core.Path.{◌≡◌, refl, sym, ap₂, ◌∙◌}
use mathlib.Core.List.{List, [], ◌∷◌}
use lib.Dec.{ltb}
use borrow.Author.Tests.{lt-ltb, le-ltb}
use Rattle.folds.specs.Folds.{first}
use Rattle.folds.proofs.Laws.{first_some}
use Rattle.numbers.specs.Number.{number_bytes}
use Rattle.numbers.proofs.Laws.{low-bytes}
use Rattle.sheet.specs.Sheet.{Sheet, link_count}
use Rattle.bundle.specs.Writing.{command_bytes}
use Rattle.better.specs.Orders.{by_bytes}
use Rattle.least.specs.Ranking.{lower}
use Rattle.least.specs.Heads.{leads_to, receive_or, head_command, head_bytes, receives, key_of, head_key}
use Rattle.least.proofs.Orders.{lower-less, lower-more, lower-rest}

ltb-shift : (x y : ℕ) → ltb x y ≡ ltb (receives + x) (receives + y)
ltb-shift x y = go (dec_lt x y)
  where
    go : Dec (x < y) → ltb x y ≡ ltb (receives + x) (receives + y)
    go (yes l) = lt-ltb x y l ∙ sym (lt-ltb (receives + x) (receives + y) (omega arith))
    go (no l) = le-ltb x y (omega arith) ∙ sym (le-ltb (receives + x) (receives + y) (omega arith))

-- one byte, with or without the same bytes behind it
byte-lower : (x y : ℕ) (xs : List ℕ) → lower xs xs ≡ false → lower (x ∷ xs) (y ∷ xs) ≡ ltb x y
byte-lower x y xs e = go (dec_lt x y) (dec_lt y x)
  where
    go : Dec (x < y) → Dec (y < x) → lower (x ∷ xs) (y ∷ xs) ≡ ltb x y
    go (yes l) m = lower-less x y xs xs l ∙ sym (lt-ltb x y l)
    go (no l) (yes m) = lower-more x y xs xs m ∙ sym (le-ltb x y (omega arith))
    go (no l) (no m) = lower-rest x y xs xs (omega arith) ∙ e ∙ sym (le-ltb x y (omega arith))

none-lower : lower [] [] ≡ false
unfolding lower by_bytes
none-lower = refl

-- so programmes are compared by the keys of their first tasks
pub key-lower : (s : Sheet) → link_count s ≤ receives → (t u : ℕ) → t < receives → u < receives → lower (head_bytes s t) (head_bytes s u) ≡ ltb (head_key s t) (head_key s u)
unfolding head_bytes head_command head_key
key-lower s few t u h k = go (first (link_count s) (leads_to s t)) (first (link_count s) (leads_to s u)) refl refl
  where
    go : (o v : Option ℕ) → first (link_count s) (leads_to s t) ≡ o → first (link_count s) (leads_to s u) ≡ v → lower (command_bytes (receive_or t o)) (command_bytes (receive_or u v)) ≡ ltb (key_of t o) (key_of u v)
    go none none p q = lower-rest 0x52 0x52 (t ∷ []) (u ∷ []) refl ∙ byte-lower t u [] none-lower
    go none (some l) p q = lower-less 0x52 0x56 (t ∷ []) (number_bytes 2 l) (omega arith) ∙ sym (lt-ltb t (receives + l) (omega arith))
    go (some m) none p q = lower-more 0x56 0x52 (number_bytes 2 m) (u ∷ []) (omega arith) ∙ sym (le-ltb (receives + m) u (omega arith))
    go (some m) (some l) p q =
        let x = first_some (link_count s) (leads_to s t) m p in
        let y = first_some (link_count s) (leads_to s u) l q in
        lower-rest 0x56 0x56 (number_bytes 2 m) (number_bytes 2 l) refl ∙ ap₂ lower (low-bytes m (omega (arith, x.0))) (low-bytes l (omega (arith, y.0))) ∙
        byte-lower m l (0 ∷ []) (lower-rest 0 0 [] [] refl ∙ none-lower) ∙ ltb-shift m l

-- a key is that of a task or of a link
pub key-few : (s : Sheet) (t : ℕ) → t < receives → head_key s t < receives + max 1 (link_count s)
unfolding head_key
key-few s t h = go (first (link_count s) (leads_to s t)) refl
  where
    go : (o : Option ℕ) → first (link_count s) (leads_to s t) ≡ o → key_of t o < receives + max 1 (link_count s)
    go none e = omega arith
    go (some l) e = omega (arith, (first_some (link_count s) (leads_to s t) l e).0)
