-- How many commands were met by a place: one more where a new one stands, so that places of commands that stand once keep their order.
use Prim.Native.Nat.{ℕ, zero, suc, ◌+◌, ◌-◌, ◌≤◌, ◌<◌}
use native.Mathlib.Omega.{arith}
use native.Mathlib.Decide.{dec_lt}
use borrow.Author.Tests.{eq-eqb, ne_eqb, lt-ltb, le-ltb}
use mathlib.Core.Bool.{Bool, true, false}
use mathlib.Core.Option.{some}
use mathlib.Core.Path.{◌≡◌, refl, sym, ap, ◌∙◌}
use mathlib.Core.Logic.{◌≢◌, ◌⊎◌, inl, inr, ⊎_elim}
use mathlib.Core.List.{List, [], ◌∷◌}
use lib.ListN.{length, take, get_elem?}
use lib.Seq.{take_all}
use lib.Dec.{eqb, ltb}
use Rattle.folds.specs.Folds.{bit, sum}
use Rattle.folds.proofs.Tests.{bit_le}
use Rattle.folds.proofs.Laws.{sum-le, sum-cong, sum_mono, sum-point, sum_zeros, sum-rises}
use Rattle.sheet.specs.Sheet.{Sheet, task_count, link_count}
use Rattle.bundle.specs.Bundle.{Command, run, send, receive, release, discard, Bundle, programme_count, programme_of}
use Rattle.admission.specs.Counting.{weigh, whole_of, whole, same, is}
use Rattle.admission.specs.Releases.{is_release}
use Rattle.admission.specs.Notes.{notable, Notable, slot_of, command_of, sofar, met, rank}
use Rattle.admission.proofs.Weights.{command-below, weigh-take, weigh-split, is-refl}
use Rattle.admission.proofs.Rights.{same-is, plain-release}

-- the command c is d, or it is not, and then it is not counted
pub is-or : (c d : Command) → (c ≡ d) ⊎ (is c d ≡ 0)
unfolding is
is-or c d = by (same c d) refl
  where
    by : (x : Bool) → same c d ≡ x → (c ≡ d) ⊎ (is c d ≡ 0)
    by true e = inl (same-is c d e)
    by false e = inr (ap bit e)

-- slots
pub slot-command : (x : ℕ) → slot_of (command_of x) ≡ x
unfolding command_of
slot-command x =
    elim (dec_lt x 256) [
      | yes h ↦ rw (lt-ltb x 256 h)
      | no h ↦ rw (le-ltb x 256 (omega arith)) (elim (dec_lt x 1280) [ yes g ↦ rw (lt-ltb x 1280 g) (omega arith) | no g ↦ rw (le-ltb x 1280 (omega arith)) (omega arith) ])
    ]

module _ (s : Sheet) (few : task_count s ≤ 256) (less : link_count s ≤ 1024) where
  pub slot_small : (c : Command) → Notable s c → slot_of c < notable
  slot_small (run a) h = omega arith
  slot_small (send a) h = omega arith
  slot_small (receive a) h = omega arith
  slot_small (release a) h = absurd h
  slot_small (discard a) h = absurd h

  pub command-slot : (c : Command) → Notable s c → command_of (slot_of c) ≡ c
  unfolding command_of
  command-slot (run a) h = rw (lt-ltb a 256 (omega arith))
  command-slot (send a) h = let e : 256 + a - 256 ≡ a = omega arith in rw (le-ltb (256 + a) 256 (omega arith), lt-ltb (256 + a) 1280 (omega arith)) (ap send e)
  command-slot (receive a) h = let e : 1280 + a - 1280 ≡ a = omega arith in rw (le-ltb (1280 + a) 256 (omega arith), le-ltb (1280 + a) 1280 (omega arith)) (ap receive e)
  command-slot (release a) h = absurd h
  command-slot (discard a) h = absurd h

  pub slot_same : (c d : Command) → Notable s c → Notable s d → slot_of c ≡ slot_of d → c ≡ d
  slot_same c d h k e = sym (command-slot c h) ∙ ap command_of e ∙ command-slot d k

-- no release has a slot with a note
pub command-plain : (x : ℕ) → is_release (command_of x) ≡ false
unfolding command_of
command-plain x =
    elim (dec_lt x 256) [
      | yes h ↦ rw (lt-ltb x 256 h)
      | no h ↦ rw (le-ltb x 256 (omega arith)) (elim (dec_lt x 1280) [ yes g ↦ rw (lt-ltb x 1280 g) | no g ↦ rw (le-ltb x 1280 (omega arith)) ])
    ]

-- counts by a place
pub sofar-more : (b : Bundle) (k i : ℕ) (c d : Command) → get_elem? (programme_of b k) i ≡ some d → sofar b k (suc i) c ≡ sofar b k i c + is c d
unfolding sofar
sofar-more b k i c d e = omega (arith, weigh-take (is c) (programme_of b k) i d e)

pub sofar-next : (b : Bundle) (k i : ℕ) (c : Command) → length (programme_of b k) ≤ i → sofar b k i c ≡ sofar b (suc k) 0 c
unfolding sofar whole_of sum weigh
sofar-next b k i c h =
    let e : weigh (is c) (take i (programme_of b k)) ≡ weigh (is c) (programme_of b k) = ap (weigh (is c)) (take_all i (programme_of b k) h) in omega arith

pub sofar-none : (b : Bundle) (c : Command) → sofar b 0 0 c ≡ 0
unfolding sofar sum weigh
sofar-none b c = refl

pub sofar-whole : (b : Bundle) (c : Command) → sofar b (programme_count b) 0 c ≡ whole b (is c)
unfolding sofar whole weigh
sofar-whole b c = omega arith

-- before the place of a command it was met less often than in the whole bundle
pub sofar-less : (b : Bundle) (k i : ℕ) (c : Command) → get_elem? (programme_of b k) i ≡ some c → sofar b k i c < whole b (is c)
unfolding sofar whole whole_of sum
sofar-less b k i c e =
    omega (
      arith,
      weigh-take (is c) (programme_of b k) i c e,
      weigh-split (is c) (programme_of b k) (suc i),
      is-refl c,
      sum-rises (suc k) (programme_count b) (whole_of b (is c)) (command-below b k i c e),
    )

pub weigh-rises : (f : Command → ℕ) (p : List Command) (i m : ℕ) → i ≤ m → weigh f (take i p) ≤ weigh f (take m p)
unfolding weigh
weigh-rises f p zero m h = omega arith
weigh-rises f [] (suc i) m h = omega arith
weigh-rises f (c ∷ p) (suc i) zero h = absurd (omega arith)
weigh-rises f (c ∷ p) (suc i) (suc m) h = omega (arith, weigh-rises f p i m (omega arith))

pub sofar-rises : (b : Bundle) (k i m : ℕ) (c : Command) → i ≤ m → sofar b k i c ≤ sofar b k m c
unfolding sofar
sofar-rises b k i m c h = omega (arith, weigh-rises (is c) (programme_of b k) i m h)

some-le : (a b : ℕ) → a ≤ b → bit (ltb 0 a) ≤ bit (ltb 0 b)
some-le zero b h = omega arith
some-le (suc a) b h = rw (lt-ltb 0 (suc a) (omega arith), lt-ltb 0 b (omega arith)) (omega arith)

pub rank-small : (b : Bundle) (k i : ℕ) → rank b k i ≤ notable
unfolding rank met
rank-small b k i = omega (arith, sum-le notable 1 (met b k i) (λ x h. bit_le (ltb 0 (sofar b k i (command_of x)))))

pub rank_rises : (b : Bundle) (k i m : ℕ) → i ≤ m → rank b k i ≤ rank b k m
unfolding rank met
rank_rises b k i m h = sum_mono notable (met b k i) (met b k m) (λ x l. some-le (sofar b k i (command_of x)) (sofar b k m (command_of x)) (sofar-rises b k i m (command_of x) h))

rank_same : (b : Bundle) (k i j m : ℕ) → ((c : Command) → sofar b k i c ≡ sofar b j m c) → rank b k i ≡ rank b j m
unfolding rank met
rank_same b k i j m h =
    let a : rank b k i ≤ rank b j m = sum_mono notable (met b k i) (met b j m) (λ x l. some-le (sofar b k i (command_of x)) (sofar b j m (command_of x)) (omega (arith, h (command_of x)))) in
    let c : rank b j m ≤ rank b k i = sum_mono notable (met b j m) (met b k i) (λ x l. some-le (sofar b j m (command_of x)) (sofar b k i (command_of x)) (omega (arith, h (command_of x)))) in
    omega arith

pub rank-none : (b : Bundle) → rank b 0 0 ≡ 0
unfolding rank met
rank-none b = sum_zeros notable (met b 0 0) (λ x h. ap (λ (n : ℕ). bit (ltb 0 n)) (sofar-none b (command_of x)))

pub rank-next : (b : Bundle) (k i : ℕ) → length (programme_of b k) ≤ i → rank b k i ≡ rank b (suc k) 0
rank-next b k i h = rank_same b k i (suc k) 0 (λ c. sofar-next b k i c h)

some_more : (n : ℕ) → bit (ltb 0 (n + 1)) ≡ bit (ltb 0 n) + bit (eqb n 0)
some_more zero = refl
some_more (suc n) = rw (lt-ltb 0 (suc n + 1) (omega arith), lt-ltb 0 (suc n) (omega arith), ne_eqb (suc n) 0 (λ q. omega arith))

module _ (s : Sheet) (few : task_count s ≤ 256) (less : link_count s ≤ 1024) where
  -- one more where a new command stands
  pub rank-more : (b : Bundle) (k i : ℕ) (d : Command) → Notable s d → get_elem? (programme_of b k) i ≡ some d → rank b k (suc i) ≡ rank b k i + bit (eqb (sofar b k i d) 0)
  unfolding rank met
  rank-more b k i d h e =
      sum-point notable (met b k i) (met b k (suc i)) (slot_of d) (bit (eqb (sofar b k i d) 0)) (slot_small s few less d h) here there
    where
      here : met b k (suc i) (slot_of d) ≡ met b k i (slot_of d) + bit (eqb (sofar b k i d) 0)
      here =
          rw (command-slot s few less d h)
          (ap (λ (n : ℕ). bit (ltb 0 n)) (sofar-more b k i d d e ∙ ap (λ (n : ℕ). sofar b k i d + n) (is-refl d)) ∙ some_more (sofar b k i d))

      there : (x : ℕ) → x < notable → x ≢ slot_of d → met b k (suc i) x ≡ met b k i x
      there x l n =
          ⊎_elim (λ (q : command_of x ≡ d). absurd (n (sym (slot-command x) ∙ ap slot_of q)))
          (λ (q : is (command_of x) d ≡ 0).
          let z : sofar b k (suc i) (command_of x) ≡ sofar b k i (command_of x) = omega (arith, sofar-more b k i (command_of x) d e) in
          ap (λ (n : ℕ). bit (ltb 0 n)) z) (is-or (command_of x) d)

  -- no more where a release stands
  pub rank-idle : (b : Bundle) (k i : ℕ) (d : Command) → is_release d ≡ true → get_elem? (programme_of b k) i ≡ some d → rank b k (suc i) ≡ rank b k i
  unfolding rank met
  rank-idle b k i d h e =
      sum-cong notable (met b k (suc i)) (met b k i)
      (λ x l.
      let z : sofar b k (suc i) (command_of x) ≡ sofar b k i (command_of x) = omega (arith, sofar-more b k i (command_of x) d e, plain-release (command_of x) d (command-plain x) h) in
      ap (λ (n : ℕ). bit (ltb 0 n)) z)

  -- of two places of one programme, where a command stands at the first that stands once
  pub rank-order : (b : Bundle) (k i m : ℕ) (c : Command) → Notable s c → whole b (is c) ≡ 1 → get_elem? (programme_of b k) i ≡ some c → ltb i m ≡ ltb (rank b k i) (rank b k m)
  rank-order b k i m c h one e =
      let z : sofar b k i c ≡ 0 = omega (arith, sofar-less b k i c e) in
      let r : rank b k (suc i) ≡ rank b k i + 1 = rank-more b k i c h e ∙ ap (λ (x : Bool). rank b k i + bit x) (eq-eqb (sofar b k i c) 0 z) in
      elim (dec_lt i m) [
        | yes l ↦ lt-ltb i m l ∙ sym (lt-ltb (rank b k i) (rank b k m) (omega (arith, rank_rises b k (suc i) m l)))
        | no l ↦ le-ltb i m (omega arith) ∙ sym (le-ltb (rank b k i) (rank b k m) (rank_rises b k m i (omega arith)))
      ]
