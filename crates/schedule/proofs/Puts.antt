-- A task placed in the words is the task put in the schedule.
use Prim.Native.Nat.{ℕ, suc, ◌+◌, ◌-◌, ◌*◌, ◌%◌, ◌/◌, ◌≤◌, ◌<◌, max}
use mathlib.Core.Path.{◌≡◌, ap, ap₂, ◌∙◌}
use mathlib.Core.List.{List, [], ◌∷◌, ◌++◌}
use mathlib.Core.Logic.{◌≢◌, ◌⊎◌, inl, inr, ⊎_elim}
use native.Mathlib.Omega.{arith}
use native.Mathlib.Decide.{ℕ_discrete}
use native.Mathlib.Numerals.{add-one}
use lib.ListN.{length, get_or, set, length-set}
use lib.Seq.{get_or-set_same, get_or-set_other}
use Rattle.workspace.specs.Area.{fixed, finishes_at, opened_at, placed_at, places_at}
use Rattle.folds.specs.Folds.{listed}
use Rattle.folds.proofs.Loops.{listed-one}
use Rattle.folds.proofs.Lists.{listed-cong, set-listed}
use Rattle.planner.specs.Schedule.{put}
use Rattle.schedule.specs.Layout.{on_in, turn_in, finish_in, start_in, schedule_in, place_words, turn_words, put_words}

pub place-long : (w : List ℕ) (t k : ℕ) → length (place_words w t k) ≡ length w
unfolding place_words
place-long w t k = length-set w (places_at + t) _

pub turn-long : (w : List ℕ) (p t : ℕ) → length (turn_words w p t) ≡ length w
unfolding turn_words
turn-long w p t = length-set w (places_at + p) _

-- t on k: its place, and no turn, changes
module _ (w : List ℕ) (t k : ℕ) (there : places_at + t < length w) (k-small : k < 16) where
  pub place-far : (i : ℕ) → i ≢ places_at + t → get_or (place_words w t k) i 0 ≡ get_or w i 0
  unfolding place_words
  place-far i h = get_or-set_other w (places_at + t) i _ 0 h

  place-word : get_or (place_words w t k) (places_at + t) 0 ≡ k + 65536 * (get_or w (places_at + t) 0 / 65536)
  unfolding place_words
  place-word = get_or-set_same w (places_at + t) _ 0 there

  pub place_here : on_in (place_words w t k) t ≡ k
  place_here = omega (arith, place-word)

  pub place-else : (i : ℕ) → i ≢ t → on_in (place_words w t k) i ≡ on_in w i
  place-else i h = ap (λ (x : ℕ). x % 65536) (place-far (places_at + i) (λ q. h (omega arith)))

  pub place-turns : (i : ℕ) → turn_in (place_words w t k) i ≡ turn_in w i
  place-turns i = go (ℕ_discrete i t)
    where
      go : Dec (i ≡ t) → turn_in (place_words w t k) i ≡ turn_in w i
      go (yes q) = rw q (omega (arith, place-word))
      go (no q) = ap (λ (x : ℕ). x / 65536) (place-far (places_at + i) (λ e. q (omega arith)))

-- t at turn p: that turn, and no place, changes
module _ (w : List ℕ) (p t : ℕ) (there : places_at + p < length w) where
  pub turn-far : (i : ℕ) → i ≢ places_at + p → get_or (turn_words w p t) i 0 ≡ get_or w i 0
  unfolding turn_words
  turn-far i h = get_or-set_other w (places_at + p) i _ 0 h

  turn-word : get_or (turn_words w p t) (places_at + p) 0 ≡ get_or w (places_at + p) 0 % 65536 + 65536 * t
  unfolding turn_words
  turn-word = get_or-set_same w (places_at + p) _ 0 there

  pub turn-here : turn_in (turn_words w p t) p ≡ t
  turn-here = omega (arith, turn-word)

  pub turn-else : (i : ℕ) → i ≢ p → turn_in (turn_words w p t) i ≡ turn_in w i
  turn-else i h = ap (λ (x : ℕ). x / 65536) (turn-far (places_at + i) (λ q. h (omega arith)))

  pub turn-places : (i : ℕ) → on_in (turn_words w p t) i ≡ on_in w i
  turn-places i = go (ℕ_discrete i p)
    where
      go : Dec (i ≡ p) → on_in (turn_words w p t) i ≡ on_in w i
      go (yes q) = rw q (omega (arith, turn-word))
      go (no q) = ap (λ (x : ℕ). x % 65536) (turn-far (places_at + i) (λ e. q (omega arith)))

module _ (w : List ℕ) (t k b p o : ℕ) (long : fixed ≤ length w) (t-small : t < 256) (k-small : k < 16) (p-small : p < 256) where
  abbrev new : List ℕ
  new = put_words w t k b p o

  abbrev on-k : List ℕ
  on-k = place_words w t k

  there : places_at + t < length w
  there = omega arith

  behind : places_at + p < length on-k
  behind = omega (arith, place-long w t k)

  pub put-long : length new ≡ length w
  unfolding put_words
  put-long = simp length-set (turn-long on-k p t ∙ place-long w t k)

  -- places and turns
  put_first : (i : ℕ) → i < 256 → get_or new (places_at + i) 0 ≡ get_or (turn_words on-k p t) (places_at + i) 0
  unfolding put_words
  put_first i h =
      let h₁ : places_at + i ≢ finishes_at + t = omega arith in
      let h₂ : places_at + i ≢ placed_at = omega arith in
      let h₃ : places_at + i ≢ opened_at = omega arith in
      simp get_or-set_other

  put_on : on_in new t ≡ k
  put_on = ap (λ (x : ℕ). x % 65536) (put_first t t-small) ∙ turn-places on-k p t behind t ∙ place_here w t k there k-small

  put-on-else : (i : ℕ) → i < 256 → i ≢ t → on_in new i ≡ on_in w i
  put-on-else i h d = ap (λ (x : ℕ). x % 65536) (put_first i h) ∙ turn-places on-k p t behind i ∙ place-else w t k there k-small i d

  put-turn : turn_in new p ≡ t
  put-turn = ap (λ (x : ℕ). x / 65536) (put_first p p-small) ∙ turn-here on-k p t behind

  put-turn-else : (i : ℕ) → i < 256 → i ≢ p → turn_in new i ≡ turn_in w i
  put-turn-else i h d = ap (λ (x : ℕ). x / 65536) (put_first i h) ∙ turn-else on-k p t behind i d ∙ place-turns w t k there k-small i

  -- the other words
  put-away : (i : ℕ) → (i < places_at) ⊎ (finishes_at ≤ i) → i ≢ finishes_at + t → i ≢ placed_at → i ≢ opened_at → get_or new i 0 ≡ get_or w i 0
  unfolding put_words
  put-away i out h₁ h₂ h₃ =
      let a = turn-far on-k p t behind i (⊎_elim (λ (q : i < places_at) e. omega arith) (λ (q : finishes_at ≤ i) e. omega arith) out) in
      let c = place-far w t k there k-small i (⊎_elim (λ (q : i < places_at) e. omega arith) (λ (q : finishes_at ≤ i) e. omega arith) out) in
      simp get_or-set_other (a ∙ c)

  pub put_low : (i : ℕ) → i < places_at → get_or new i 0 ≡ get_or w i 0
  put_low i h = put-away i (inl h) (omega arith) (omega arith) (omega arith)

  put-finish : finish_in new t ≡ b
  unfolding put_words
  put-finish =
      let h₁ : finishes_at + t ≢ placed_at = omega arith in
      let h₂ : finishes_at + t ≢ opened_at = omega arith in
      let l : finishes_at + t < length (turn_words on-k p t) = omega (arith, turn-long on-k p t, place-long w t k) in
      simp (get_or-set_other, get_or-set_same)

  put-finish-else : (i : ℕ) → i < 256 → i ≢ t → finish_in new i ≡ finish_in w i
  put-finish-else i h d = put-away (finishes_at + i) (inr (omega arith)) (λ e. d (omega arith)) (omega arith) (omega arith)

  pub put-placed : get_or new placed_at 0 ≡ p + 1
  unfolding put_words
  put-placed =
      let h : (◌≡◌ {A = ℕ} placed_at opened_at → ⊥) = omega arith in
      let l : placed_at < length (set (turn_words on-k p t) (finishes_at + t) b) = simp length-set (omega (arith, turn-long on-k p t, place-long w t k)) in
      simp (get_or-set_other, get_or-set_same)

  put-opened : get_or new opened_at 0 ≡ o
  unfolding put_words
  put-opened = get_or-set_same (set (set (turn_words on-k p t) (finishes_at + t) b) placed_at (p + 1)) opened_at o 0 (simp length-set (omega (arith, turn-long on-k p t, place-long w t k)))

  -- a table in which only the row of t changes
  table-put : (f f' : ℕ → ℕ) (v : ℕ) → get_or w 0 0 ≤ 256 → f' t ≡ v → ((i : ℕ) → i < 256 → i ≢ t → f' i ≡ f i) → listed (get_or new 0 0) f' ≡ set (listed (get_or w 0 0) f) t v
  table-put f f' v few here else =
      ap (λ (n : ℕ). listed n f') (put_low 0 (omega arith)) ∙ set-listed (get_or w 0 0) f f' t v here (λ i h d. else i (omega arith) d)

  pub schedule-put : (a : ℕ) → b ≡ a + get_or w (16 + t) 0 % 65536 → get_or w 0 0 ≤ 256 → p ≡ get_or w placed_at 0 → o ≡ max (get_or w opened_at 0) (k + 1) → schedule_in new ≡ put (schedule_in w) t k a b
  unfolding schedule_in
  schedule-put a b-is few p-is o_is =
      let works : (i : ℕ) → i < 256 → get_or new (16 + i) 0 ≡ get_or w (16 + i) 0 = λ i h. put_low (16 + i) (omega arith) in
      let on = table-put (λ i. on_in w i) (λ i. on_in new i) k few put_on put-on-else in
      let start = table-put (λ i. start_in w i) (λ i. start_in new i) a few (omega (arith, put-finish, works t t-small)) (λ i h d. ap₂ (λ (x y : ℕ). x - y % 65536) (put-finish-else i h d) (works i h)) in
      let finish = table-put (λ i. finish_in w i) (λ i. finish_in new i) b few put-finish put-finish-else in
      let order : listed (get_or new placed_at 0) (λ i. turn_in new i) ≡ listed (get_or w placed_at 0) (λ i. turn_in w i) ++ t ∷ [] =
      ap (λ (n : ℕ). listed n (λ i. turn_in new i)) put-placed
      ∙ listed-one p (λ i. turn_in new i)
      ∙ ap₂ (λ (l : List ℕ) (x : ℕ). l ++ x ∷ [])
      (listed-cong p (λ i. turn_in new i) (λ i. turn_in w i) (λ i h. put-turn-else i (omega arith) (λ e. omega arith)) ∙ ap (λ (n : ℕ). listed n (λ i. turn_in w i)) p-is)
      put-turn in
      let opened : get_or new opened_at 0 ≡ max (get_or w opened_at 0) (suc k) = put-opened ∙ o_is ∙ ap (max (get_or w opened_at 0)) (add-one k) in
      λ x. record { on = on x; start = start x; finish = finish x; order = order x; opened = opened x }
