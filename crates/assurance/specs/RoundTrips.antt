-- "Sheets and bundles keep every value and every byte through writing and reading", of the functions of the interface: `Gives..` is what a call promises, word for
-- word, and each field says what a call makes of what another one gave.
use Rattle.std.specs.Prelude.{ℕ, ◌*◌, ◌/◌, ◌≤◌, ◌<◌, ◌≡◌, List, [], ◌∷◌, length, get_or, take}
use Rattle.numbers.specs.Number.{Bytes}
use Rattle.workspace.specs.Area.{fixed}
use Rattle.zeldrupa.specs.Promises.{Gives, write_sheet_answer, write_bundle_answer, read_sheet_answer, GivesSheet, read_bundle_answer, GivesBundle}

-- every number of v is a value of 16 bits
abbrev pub Values : List ℕ → Type 0
Values v = (i : ℕ) → get_or v i 0 < 65536

pub record RoundTrips : Type 0 where
  -- what zeldrupa_write_sheet wrote from values, zeldrupa_read_sheet gives back value for value; a cube that is not 0 comes back as 1
  pub sheet_values_again :
      (processors limit unpacking cube : ℕ) (tasks links : List ℕ) → limit < 4294967296 → unpacking < 65536 → cube ≤ 1 → Values tasks → Values links →
      (work work' out out' : List ℕ) (n : ℕ) → Gives (write_sheet_answer processors limit unpacking cube tasks links (length work) (length out)) work work' out out' n 0 →
      (area area' t t' l l' b b' : List ℕ) (p r : ℕ) → fixed ≤ length area → length tasks ≤ length t → length links ≤ length l →
      GivesSheet (read_sheet_answer (take n out') (length area) (length t) (length l)) area area' t t' l l' b b' p r →
      (r ≡ 0) × (take (length tasks) t' ≡ tasks) × (take (length links) l' ≡ links) × (b' ≡ processors ∷ limit ∷ length tasks / 2 ∷ length links / 4 ∷ unpacking ∷ cube ∷ [])
  -- what zeldrupa_read_sheet gave, zeldrupa_write_sheet writes byte for byte
  pub sheet_bytes_again :
      (sheet : List ℕ) → Bytes sheet →
      (work work' t t' l l' b b' : List ℕ) (p : ℕ) → GivesSheet (read_sheet_answer sheet (length work) (length t) (length l)) work work' t t' l l' b b' p 0 →
      (area area' out out' : List ℕ) (n r : ℕ) → fixed ≤ length area → length sheet ≤ length out →
      Gives (write_sheet_answer (get_or b' 0 0) (get_or b' 1 0) (get_or b' 4 0) (get_or b' 5 0) (take (2 * get_or b' 2 0) t') (take (4 * get_or b' 3 0) l') (length area) (length out)) area area' out out' n r →
      (r ≡ 0) × (n ≡ length sheet) × (take n out' ≡ sheet)
  -- the same of bundles
  pub bundle_values_again :
      (sheet commands : List ℕ) (claim : ℕ) → claim < 4294967296 → Values commands →
      (work work' out out' : List ℕ) (n : ℕ) → Gives (write_bundle_answer sheet commands claim (length work) (length out)) work work' out out' n 0 →
      (area area' c c' : List ℕ) (t t' p r : ℕ) → fixed ≤ length area → length commands ≤ length c →
      GivesBundle (read_bundle_answer sheet (take n out') (length area) (length c)) area area' c c' t t' p r →
      (r ≡ 0) × (p ≡ length commands) × (take p c' ≡ commands) × (t' ≡ claim)
  pub bundle_bytes_again :
      (sheet bundle : List ℕ) → Bytes bundle →
      (work work' c c' : List ℕ) (t t' p : ℕ) → GivesBundle (read_bundle_answer sheet bundle (length work) (length c)) work work' c c' t t' p 0 →
      (area area' out out' : List ℕ) (n r : ℕ) → fixed ≤ length area → length bundle ≤ length out →
      Gives (write_bundle_answer sheet (take p c') t' (length area) (length out)) area area' out out' n r →
      (r ≡ 0) × (n ≡ length bundle) × (take n out' ≡ bundle)
