-- A queue is walked: what it has that is due is all that is due.
use Prim.Native.Nat.{ℕ, zero, suc, ◌+◌, ◌*◌, ◌-◌, ◌%◌, ◌≤◌, ◌<◌}
use native.Mathlib.Omega.{arith}
use native.Mathlib.Decide.{dec_lt}
use mathlib.Core.Bool.{Bool, true, false, not, true≢false}
use mathlib.Core.Path.{◌≡◌, refl, sym, ap, ap₂, ◌∙◌, subst}
use mathlib.Core.Logic.{inl, inr, ⊎_elim}
use mathlib.Core.List.{List, [], ◌++◌, append_assoc, append-nil}
use lib.ListN.{length, get_or}
use lib.Dec.{ltb}
use borrow.Author.Tests.{ne_eqb, lt-ltb, le-ltb, ltb-true}
use Rattle.folds.specs.Folds.{pick, either, both, gather}
use Rattle.folds.proofs.Tests.{either-part, both-parts}
use Rattle.admission.specs.Notes.{slots_at, releases_at}
use Rattle.releasing.specs.Inserting.{Lay, due_bytes, due_from, behind_bytes}
use Rattle.releasing.specs.Queues.{queues, things, Declared, queue_of, First, over, next, Queued, Queues, BehindIs}
use Rattle.releasing.proofs.Lays.{lay-none, lay-as, lay-then, lay-long}

-- lists that are gathered: those from a on, and where they are empty
gather_cong : {X : Type 0} (n : ℕ) (f g : ℕ → List X) → ((i : ℕ) → i < n → f i ≡ g i) → gather n f ≡ gather n g
unfolding gather
gather_cong zero f g h = refl
gather_cong (suc n) f g h = ap₂ ◌++◌ (gather_cong n f g (λ i l. h i (omega arith))) (h n (omega arith))

gather-split : {X : Type 0} (f : ℕ → List X) (a d : ℕ) → gather (a + d) f ≡ gather a f ++ gather d (λ i. f (a + i))
unfolding gather
gather-split f a zero = let e : a + zero ≡ a = omega arith in ap (λ (k : ℕ). gather k f) e ∙ sym (append-nil (gather a f))
gather-split f a (suc d) =
    let e : a + suc d ≡ suc (a + d) = omega arith in
    ap (λ (k : ℕ). gather k f) e ∙ ap (λ (t : List _). t ++ f (a + d)) (gather-split f a d) ∙ append_assoc (gather a f) (gather d (λ i. f (a + i))) (f (a + d))

gather-skip : {X : Type 0} (f : ℕ → List X) (a e : ℕ) → a ≤ e → ((i : ℕ) → a ≤ i → i < e → f i ≡ []) → gather e f ≡ gather a f
unfolding gather
gather-skip f a zero l h = let z : a ≡ 0 = omega arith in ap (λ (k : ℕ). gather k f) (sym z)
gather-skip f a (suc e) l h =
    elim (dec_lt a (suc e)) [
      | yes k ↦ ap₂ ◌++◌ (gather-skip f a e (omega arith) (λ i p q. h i p (omega arith))) (h e (omega arith) (omega arith)) ∙ append-nil (gather a f)
      | no k ↦ let z : a ≡ suc e = omega arith in ap (λ (j : ℕ). gather j f) (sym z)
    ]

gather-last : {X : Type 0} (f : ℕ → List X) (n : ℕ) → gather n f ++ f n ≡ gather (suc n) f
unfolding gather
gather-last f n = refl

-- what is due of thing x, if it is one of n tasks and m links
declared : ℕ → ℕ → ℕ → Bool
declared n m x = either (ltb x n) (both (not (ltb x 256)) (ltb x (256 + m)))

pub due_of : List ℕ → ℕ → ℕ → ℕ → ℕ → List ℕ
due_of w note n m x = pick (declared n m x) (due_bytes w note x) []

module _ (w : List ℕ) (note n m : ℕ) where
  due-declared : (x : ℕ) → n ≤ 256 → Declared n m x → due_of w note n m x ≡ due_bytes w note x
  unfolding due_of declared
  due-declared x few (inl h) = rw (lt-ltb x n h)
  due-declared x few (inr h) = rw (le-ltb x n (omega (arith, h.0)), le-ltb x 256 h.0, lt-ltb x (256 + m) h.1)

  due-not : (x : ℕ) → (Declared n m x → due_bytes w note x ≡ []) → due_of w note n m x ≡ []
  unfolding due_of declared
  due-not x h = go (declared n m x) refl
    where
      is_declared : declared n m x ≡ true → Declared n m x
      is_declared e =
          ⊎_elim (λ (p : ltb x n ≡ true). inl (ltb-true x n p))
          (λ (p : both (not (ltb x 256)) (ltb x (256 + m)) ≡ true). let q = both-parts (not (ltb x 256)) (ltb x (256 + m)) p in inr (high q.0, ltb-true x (256 + m) q.1))
          (either-part (ltb x n) (both (not (ltb x 256)) (ltb x (256 + m))) e)
        where
          high : not (ltb x 256) ≡ true → 256 ≤ x
          high p = elim (dec_lt x 256) [ yes l ↦ absurd (true≢false (sym p ∙ ap not (lt-ltb x 256 l))) | no l ↦ omega arith ]

      go : (u : Bool) → declared n m x ≡ u → pick u (due_bytes w note x) [] ≡ []
      go true e = h (is_declared e)
      go false e = refl

  -- all of them are those behind the command
  all-due : n ≤ 256 → m ≤ 1024 → gather things (due_of w note n m) ≡ behind_bytes w note n m
  unfolding behind_bytes due_from
  all-due few less =
      gather-skip f (256 + m) things (omega arith) (λ i l k. due-not i (λ d. absurd (behind i l d)))
      ∙ gather-split f 256 m
      ∙ ap₂ ◌++◌ (gather-skip f n 256 few (λ i l k. due-not i (λ d. absurd (between i l k d))) ∙ gather_cong n f (λ i. due_bytes w note (0 + i)) (λ i l. result i l))
      (gather_cong m (λ i. f (256 + i)) (λ i. due_bytes w note (256 + i)) (λ i l. due-declared (256 + i) few (inr (omega arith, omega arith))))
    where
      f : ℕ → List ℕ
      f = due_of w note n m

      result : (i : ℕ) → i < n → due_of w note n m i ≡ due_bytes w note (0 + i)
      result i l = let z : i ≡ 0 + i = omega arith in due-declared i few (inl l) ∙ ap (due_bytes w note) z

      between : (y : ℕ) → n ≤ y → y < 256 → Declared n m y → ⊥
      between y l k (inl d) = omega arith
      between y l k (inr d) = omega (arith, d.0)

      behind : (y : ℕ) → 256 + m ≤ y → Declared n m y → ⊥
      behind y l (inl d) = omega arith
      behind y l (inr d) = omega (arith, d.1)

  -- what is not in the command's queue is not due behind it
  not_there : (x : ℕ) → (queue_of w x ≡ note % queues → ⊥) → due_bytes w note x ≡ []
  unfolding due_bytes
  not_there x h = rw (ne_eqb (get_or w (releases_at + x) 0) note (λ e. h (ap (λ (u : ℕ). u % queues) e)))

  -- the things below a were looked at, and the word names the next
  pub record Looked (old : List ℕ) (start : ℕ) (out : List ℕ) (at word : ℕ) : Type 0 where
    pub place : ℕ
    pub small : place + word ≤ things
    pub near : at ≤ start + 3 * place
    pub first : First n m w (note % queues) place word
    pub lay : Lay old start (gather place (due_of w note n m)) out at

-- of every sheet for which they are queued
pub record Emptying (w : List ℕ) (note : ℕ) (old : List ℕ) (start : ℕ) (out : List ℕ) (at word : ℕ) : Type 0 where
  pub long : length out ≡ length old
  pub each : (n m : ℕ) → Queued n m w 0 → Looked w note n m old start out at word

first_small : {n m : ℕ} {w : List ℕ} {r a word : ℕ} → a ≤ things → First n m w r a word → a + word ≤ things
first_small l (over e h) = omega arith
first_small l (next x e k d q h) = omega arith

pub emptying-starts : (w old : List ℕ) (note start word : ℕ) → word ≡ get_or w (slots_at + note % queues) 0 → Emptying w note old start old start word
unfolding gather
emptying-starts w old note start word e =
    record {
      long = refl;
      each =
          λ n m q.
          let f : First n m w (note % queues) 0 word = subst (First n m w (note % queues) 0) (sym e) (q.first (note % queues) (omega arith)) in
          record { place = 0; small = first_small (omega arith) f; near = omega arith; first = f; lay = lay-none old start };
    }

module _ {w : List ℕ} {note : ℕ} {old : List ℕ} {start : ℕ} {out : List ℕ} {at word : ℕ} (g : Emptying w note old start out at word) where
  -- how many are left, and how far it has come
  pub emptying-small : Queues w → (word ≤ things) × (at ≤ start + 3840)
  emptying-small q = let y = g.each q.tasks q.links q.queued in (omega (arith, y.small), omega (arith, y.small, y.near))

  pub emptying-more : (x : ℕ) → 0 < word → x ≡ things - word → (last : List ℕ) (r after : ℕ) → Lay out at (due_bytes w note x) last r → r ≤ at + 3 → after ≡ get_or w x 0
      → Emptying w note old start last r after
  emptying-more x some ex last r after h little ea = record { long = lay-long h ∙ g.long; each = λ n m q. by n m q (g.each n m q) }
    where
      by : (n m : ℕ) → Queued n m w 0 → Looked w note n m old start out at word → Looked w note n m old start last r after
      by n m q y = go y.first
        where
          go : First n m w (note % queues) y.place word → Looked w note n m old start last r after
          go (over e f) = absurd (omega arith)
          go (next z e l d p f) =
              let same : z ≡ x = omega arith in
              let here : Declared n m x = subst (Declared n m) same d in
              let queue : queue_of w x ≡ note % queues = subst (λ (i : ℕ). queue_of w i ≡ note % queues) same p in
              let rest : First n m w (note % queues) (suc x) after =
              subst (λ (i : ℕ). First n m w i (suc x) after) queue (subst (First n m w (queue_of w x) (suc x)) (sym ea) (q.next x (omega arith) here))
              in
              let before : gather x (due_of w note n m) ≡ gather y.place (due_of w note n m) =
              gather-skip (due_of w note n m) y.place x (omega arith) (λ i k j. due-not w note n m i (λ b. not_there w note n m i (λ u. f i k (omega arith) b u)))
              in
              record {
                place = suc x;
                small = first_small (omega arith) rest;
                near = omega (arith, y.near);
                first = rest;
                lay = lay-as (gather-last (due_of w note n m) x) (lay-then (lay-as (sym before) y.lay) (lay-as (sym (due-declared w note n m x q.few here)) h));
              }

  pub emptying-less : (x : ℕ) → 0 < word → x ≡ things - word → Queues w → (after : ℕ) → after ≡ get_or w x 0 → after < word
  emptying-less x some ex k after ea =
      let y = g.each k.tasks k.links k.queued in
      go y.place y.first
    where
      go : (a : ℕ) → First k.tasks k.links w (note % queues) a word → after < word
      go a (over e f) = absurd (omega arith)
      go a (next z e l d p f) =
          let same : z ≡ x = omega arith in
          omega (arith, first_small (omega arith) (k.queued.next x (omega arith) (subst (Declared k.tasks k.links) same d)))

  pub emptying-ends : word ≡ 0 → Queues w → BehindIs w note old start out at
  emptying-ends z k =
      record {
        long = g.long;
        near = (emptying-small k).1;
        is = λ n m q. by n m q (g.each n m q);
      }
    where
      by : (n m : ℕ) → Queued n m w 0 → Looked w note n m old start out at word → Lay old start (behind_bytes w note n m) out at
      by n m q y = go y.first
        where
          go : First n m w (note % queues) y.place word → Lay old start (behind_bytes w note n m) out at
          go (next v e l d p f) = absurd (omega (arith, y.small, small d))
            where
              small : Declared n m v → v < things
              small (inl h) = omega (arith, q.few)
              small (inr h) = omega (arith, q.less, h.1)
          go (over e f) =
              lay-as
              (sym (gather-skip (due_of w note n m) y.place things (omega (arith, y.small)) (λ i k j. due-not w note n m i (λ b. not_there w note n m i (λ u. f i k b u))))
              ∙ all-due w note n m q.few q.less) y.lay
