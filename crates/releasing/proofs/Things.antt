-- The releases of things, one by one, as they are laid behind a command.
use Prim.Native.Nat.{ℕ, suc, ◌+◌, ◌-◌, ◌/◌, ◌%◌, ◌≤◌, ◌<◌}
use native.Mathlib.Omega.{arith}
use native.Mathlib.Numerals.{add-one}
use mathlib.Core.Path.{◌≡◌, refl, sym, ◌∙◌}
use mathlib.Core.List.{List}
use lib.ListN.{get_or, set}
use borrow.Author.Tests.{lt-ltb, le-ltb, eq-eqb, ne_eqb}
use Rattle.bundle.specs.Writing.{command_bytes}
use Rattle.admission.specs.Notes.{releases_at}
use Rattle.releasing.specs.Inserting.{Lay, thing, due_bytes}
use Rattle.releasing.proofs.Lays.{lay-none}

pub result-laid : {old mid last : List ℕ} {at : ℕ} (x : ℕ) → x < 256 → mid ≡ set old at 0x46 → last ≡ set mid (at + 1) x → Lay old at (command_bytes (thing x)) last (at + 2)
unfolding thing
result-laid {old} {mid} {last} {at} x l e f = rw (lt-ltb x 256 l, f, e, add-one at) (record { left = refl; next = refl })

pub message-laid : {old mid next last : List ℕ} {at : ℕ} (x : ℕ) → 256 ≤ x → mid ≡ set old at 0x47 → next ≡ set mid (at + 1) ((x - 256) % 256) → last ≡ set next (at + 2) ((x - 256) / 256 % 256)
    → Lay old at (command_bytes (thing x)) last (at + 3)
unfolding thing
message-laid {old} {mid} {next} {last} {at} x l d e f =
    let two : at + 2 ≡ suc (suc at) = omega arith in
    rw (le-ltb x 256 l, f, e, d, add-one at, two) (record { left = refl; next = refl })

-- thing x is due, or not
pub is-due : {old last : List ℕ} {at r : ℕ} (w : List ℕ) (note x u : ℕ) → u ≡ get_or w (releases_at + x) 0 → u ≡ note → Lay old at (command_bytes (thing x)) last r → Lay old at (due_bytes w note x) last r
unfolding due_bytes
is-due w note x u e f h = rw (eq-eqb (get_or w (releases_at + x) 0) note (sym e ∙ f)) h

pub not-due : (w : List ℕ) (note : ℕ) (old : List ℕ) (at x : ℕ) → (get_or w (releases_at + x) 0 ≡ note → ⊥) → Lay old at (due_bytes w note x) old at
unfolding due_bytes
not-due w note old at x f = rw (ne_eqb (get_or w (releases_at + x) 0) note f) (lay-none old at)
