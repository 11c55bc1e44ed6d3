-- A pass over the bytes of a bundle: where it stands, the command there, the next programme, and its end. Inv k i at is what a pass keeps that has met i commands of
-- programme k and stands at the offset `at`.
use Prim.Native.Nat.{ℕ, zero, suc, ◌+◌, ◌-◌, ◌<◌, ◌≤◌}
use mathlib.Core.Path.{◌≡◌, sym, subst}
use mathlib.Core.Bool.{Bool, true, false}
use mathlib.Core.Option.{some}
use mathlib.Core.Logic.{◌⊎◌, inl, inr, ⊎_elim}
use mathlib.Core.List.{List, [], ◌∷◌}
use native.Mathlib.Omega.{arith}
use native.Mathlib.Decide.{dec_lt}
use lib.ListN.{length, get_or, drop, get_elem?}
use Rattle.folds.specs.Folds.{pick}
use Rattle.sheet.specs.Sheet.{Sheet, task_count, link_count}
use Rattle.bundle.specs.Bundle.{Command, run, send, receive, release, discard, Bundle, programme_count, programme_of}
use Rattle.bundle.specs.Sizes.{short_size, long_size, claim_size}
use Rattle.bundle.specs.Kinds.{is_message, size_by}
use Rattle.bundle.specs.Lies.{size_of, Stands, Lies}
use Rattle.bundle.proofs.Lying.{lies-le, lies-next, lies-none}
use Rattle.admission.proofs.Walking.{drop-next, drop-short}
use Rattle.admission.proofs.Rows.{Rows, claims, opens, rows-le}

-- the programme k of ps opens at offset o, and the others lie behind it
record Opened (t l : ℕ) (b : List ℕ) (o : ℕ) (ps : List (List Command)) (k : ℕ) : Type 0 where
  below : k < length ps
  byte : get_or b o 0 ≡ 0x50
  end : ℕ
  lies : Lies t l b (o + short_size) end (get_or ps k [])
  rest : Rows t l b end (drop (suc k) ps)

-- of the programmes from number k on one opens, or none is left
module _ (t l : ℕ) (b : List ℕ) (o : ℕ) where
  rows-open : (ps : List (List Command)) (k : ℕ) → Rows t l b o (drop k ps) → k < length ps → Opened t l b o ps k
  rows-open [] k r h = absurd (omega arith)
  rows-open (p ∷ ps) zero (opens {e = e} h x r) l = record { below = l; byte = h; end = e; lies = x; rest = r }
  rows-open (p ∷ ps) (suc k) r l =
      let i = rows-open ps k r (omega arith) in
      record { below = l; byte = i.byte; end = i.end; lies = i.lies; rest = i.rest }

  rows-closed : (ps : List (List Command)) (k : ℕ) → Rows t l b o (drop k ps) → length ps ≤ k → o + claim_size ≡ length b
  rows-closed [] zero (claims e) h = e
  rows-closed [] (suc k) (claims e) h = e
  rows-closed (p ∷ ps) zero r h = absurd (omega arith)
  rows-closed (p ∷ ps) (suc k) r h = rows-closed ps k r (omega arith)

  stands-no-opening : (c : Command) → Stands t l b o c → get_or b o 0 ≡ 0x50 → ⊥
  stands-no-opening (run x) h e = omega (arith, h.0)
  stands-no-opening (send x) h e = omega (arith, h.0)
  stands-no-opening (receive x) h e = omega (arith, h.0)
  stands-no-opening (release x) h e = omega (arith, h.0)
  stands-no-opening (discard x) h e = omega (arith, h.0)

-- a command has two bytes or three
pub size-between : (c : ℕ) → (2 ≤ size_by c) × (size_by c ≤ 3)
unfolding size_by
size-between c = by (is_message c)
  where
    by : (t : Bool) → (2 ≤ pick t long_size short_size) × (pick t long_size short_size ≤ 3)
    by true = (omega arith, omega arith)
    by false = (omega arith, omega arith)

module _ (s : Sheet) (b : Bundle) (bundle : List ℕ) where
  -- programme k is passed up to a place, the rest of it lies from `at` on, and the other programmes behind it
  pub record Going (Inv : ℕ → ℕ → ℕ → Type 0) (at k : ℕ) : Type 0 where
    pub place : ℕ
    pub end : ℕ
    pub below : k < programme_count b
    pub lies : Lies (task_count s) (link_count s) bundle at end (drop place (programme_of b k))
    pub rest : Rows (task_count s) (link_count s) bundle end (drop (suc k) b.programmes)
    pub kept : Inv k place at

  -- no programme stands in the bundle
  pub record Bare (Inv : ℕ → ℕ → ℕ → Type 0) : Type 0 where
    pub none : programme_count b ≡ 0
    pub over : length bundle ≡ claim_size
    pub kept : Inv 0 0 short_size

  abbrev pub Pass : (ℕ → ℕ → ℕ → Type 0) → ℕ → ℕ → Type 0
  Pass Inv at k = Bare Inv ⊎ Going Inv at k

  -- the pass begins behind the first 50, if there is one
  pub pass-first : {Inv : ℕ → ℕ → ℕ → Type 0} → Rows (task_count s) (link_count s) bundle 0 b.programmes → Inv 0 0 short_size → Pass Inv short_size 0
  unfolding programme_count programme_of
  pass-first r n =
      elim (dec_lt 0 (length b.programmes)) [
        | yes h ↦
            let o = rows-open (task_count s) (link_count s) bundle 0 b.programmes 0 r h in
            inr (record { place = 0; end = o.end; below = h; lies = o.lies; rest = o.rest; kept = n })
        | no h ↦ inl (record { none = omega arith; over = sym (rows-closed (task_count s) (link_count s) bundle 0 b.programmes 0 r (omega arith)); kept = n })
      ]

  -- the command at `at`, and what lies behind it
  pub record Here (Inv : ℕ → ℕ → ℕ → Type 0) (at k : ℕ) : Type 0 where
    pub place : ℕ
    pub command : Command
    pub end : ℕ
    pub below : k < programme_count b
    pub here : get_elem? (programme_of b k) place ≡ some command
    pub stands : Stands (task_count s) (link_count s) bundle at command
    pub behind : Lies (task_count s) (link_count s) bundle (at + size_of command) end (drop (suc place) (programme_of b k))
    pub rest : Rows (task_count s) (link_count s) bundle end (drop (suc k) b.programmes)
    pub kept : Inv k place at

  pub pass_on : {Inv Next : ℕ → ℕ → ℕ → Type 0} {at k : ℕ} (h : Here Inv at k) (z : ℕ) → z ≡ size_of h.command → Next k (suc h.place) (at + z) → Pass Next (at + z) k
  pass_on h z e n = inr (record { place = suc h.place; end = h.end; below = h.below; lies = rw e h.behind; rest = h.rest; kept = n })

  module _ (end : ℕ) (far : end ≡ length bundle - claim_size) {Inv : ℕ → ℕ → ℕ → Type 0} {at k : ℕ} where
    -- with no programme nothing stands before the claim
    going : at < end → Pass Inv at k → Going Inv at k
    going m = ⊎_elim (λ n. absurd (omega (arith, n.over))) (λ h. h)

    -- at the end of a programme
    over-open : (h : Going Inv at k) → h.end ≤ at → at < end → Opened (task_count s) (link_count s) bundle at b.programmes (suc k)
    unfolding programme_count
    over-open h l m =
        let e : h.end ≡ at = omega (arith, lies-le (task_count s) (link_count s) bundle h.lies) in
        let rest : Rows (task_count s) (link_count s) bundle at (drop (suc k) b.programmes) = subst (λ (o : ℕ). Rows (task_count s) (link_count s) bundle o (drop (suc k) b.programmes)) e h.rest in
        elim (dec_lt (suc k) (length b.programmes)) [
          | yes n ↦ rows-open (task_count s) (link_count s) bundle at b.programmes (suc k) rest n
          | no n ↦ absurd (omega (arith, rows-closed (task_count s) (link_count s) bundle at b.programmes (suc k) rest (omega arith)))
        ]

    over_none : (h : Going Inv at k) → h.end ≤ at → length (programme_of b k) ≤ h.place
    over_none h l = drop-short (programme_of b k) h.place (lies-none (task_count s) (link_count s) bundle h.lies l)

    pub pass-open : {Next : ℕ → ℕ → ℕ → Type 0} → at < end → get_or bundle at 0 ≡ 0x50 → Pass Inv at k
        → ((i : ℕ) → length (programme_of b k) ≤ i → suc k < programme_count b → Inv k i at → Next (suc k) 0 (at + short_size)) → Pass Next (at + short_size) (suc k)
    unfolding programme_count programme_of
    pass-open m q p f =
        let h = going m p in
        elim (dec_lt at h.end) [
          | yes l ↦
              let c = lies-next (task_count s) (link_count s) bundle h.lies l in
              absurd (stands-no-opening (task_count s) (link_count s) bundle at c.command c.stands q)
          | no l ↦
              let o = over-open h (omega arith) m in
              inr (record { place = 0; end = o.end; below = o.below; lies = o.lies; rest = o.rest; kept = f h.place (over_none h (omega arith)) o.below h.kept })
        ]

    pub pass-here : at < end → (get_or bundle at 0 ≡ 0x50 → ⊥) → Pass Inv at k → Here Inv at k
    pass-here m q p =
        let h = going m p in
        elim (dec_lt at h.end) [
          | no l ↦ absurd (q (over-open h (omega arith) m).byte)
          | yes l ↦
              let c = lies-next (task_count s) (link_count s) bundle h.lies l in
              let d = drop-next (programme_of b k) h.place c.command c.rest c.here in
              record {
                place = h.place;
                command = c.command;
                end = h.end;
                below = h.below;
                here = d.0;
                stands = c.stands;
                behind = rw d.1 c.behind;
                rest = h.rest;
                kept = h.kept;
              }
        ]

    pub pass-ends : {X : Type 0} → end ≤ at → Pass Inv at k → (programme_count b ≡ 0 → Inv 0 0 short_size → X)
        → ((i : ℕ) → length (programme_of b k) ≤ i → suc k ≡ programme_count b → Inv k i at → X) → X
    unfolding programme_count
    pass-ends {X} m p none_is f = ⊎_elim (λ n. none_is n.none n.kept) by p
      where
        by : Going Inv at k → X
        by h =
            let far-end = rows-le h.rest in
            let e : h.end ≡ at = omega (arith, lies-le (task_count s) (link_count s) bundle h.lies) in
            elim (dec_lt (suc k) (length b.programmes)) [
              | yes l ↦
                  let o = rows-open (task_count s) (link_count s) bundle h.end b.programmes (suc k) h.rest l in
                  absurd (omega (arith, lies-le (task_count s) (link_count s) bundle o.lies, rows-le o.rest))
              | no l ↦ f h.place (over_none h (omega arith)) (omega (arith, h.below)) h.kept
            ]
