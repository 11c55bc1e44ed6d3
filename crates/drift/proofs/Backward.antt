-- Back over one command, in the words: `back` of specs/Tails.
use Prim.Native.Nat.{ℕ, zero, suc, ◌+◌, ◌*◌, ◌-◌, ◌%◌, ◌≤◌, ◌<◌, max}
use native.Mathlib.Omega.{arith}
use mathlib.Core.Bool.{Bool, true, false}
use mathlib.Core.Option.{Option, none, some}
use mathlib.Core.Path.{◌≡◌, refl, sym, ap, ap₂, ◌∙◌, subst}
use mathlib.Core.Logic.{◌≢◌, inl, ⊎_elim}
use mathlib.Core.List.{List, ◌∷◌}
use lib.ListN.{length, get_or, set, length-set}
use lib.Seq.{get_or-set_same, get_or-set_other}
use lib.Dec.{eqb}
use borrow.Author.Tests.{eq-eqb, ne_eqb}
use Rattle.folds.specs.Folds.{pick, bit}
use Rattle.folds.proofs.Tests.{equal-or}
use Rattle.sheet.specs.Sheet.{Sheet, task_count, link_count, work_of}
use Rattle.bundle.specs.Bundle.{Command, run, send, receive, release, discard, Bundle, programme_count}
use Rattle.admission.specs.Counting.{weigh, same, is}
use Rattle.machine.specs.Machine.{State, Processor, processor_of, next, travels, stated, step_in, step, stamp_in}
use Rattle.machine.proofs.Steps.{other, self, step-below}
use Rattle.stepping_machine.specs.Layout as lay
use Rattle.stepping_machine.specs.Words.{next_in, clock_in, store_in, first_in, unpacking_in, stamped_in, kind_in, number_in, amount_in, kind_of}
use Rattle.stepping_machine.specs.Represents.{Programmed}
use Rattle.stepping_machine.proofs.Moves.{Moved, programmed-same, next-same, clock-same}
use Rattle.drift.specs.Tails.{Tails, at, joined, longer, back, Steps, tails}
use Rattle.drift.specs.Following.{Follows, more, commands, through, Trail, fresh, behind, end_of}
use Rattle.drift.specs.Recording.{most_steps, most_ends, Ordered}
use Rattle.drift.specs.Tracing.{longest, back_words, ran_back, sent_back, got_back, slack_slots, slot_of, Traced, TraceIs}
use Rattle.drift.proofs.Tails.{at_same, at_other}
use Rattle.drift.proofs.Following.{step_is}
use Rattle.drift.proofs.Noting.{Coded, coded, inside_of}

-- what the small functions compute
pub way-none : (tail d m : ℕ) → m ≡ 0 → tail ≡ longest tail d m
unfolding longest
way-none tail d m e = sym (ap (λ (u : Bool). pick u tail (max tail (d + m - 1))) (eq-eqb m 0 e))

pub way-some : (tail d m : ℕ) {r : ℕ} → m ≢ 0 → r ≡ max tail (d + m - 1) → r ≡ longest tail d m
unfolding longest
way-some tail d m e f = f ∙ sym (ap (λ (u : Bool). pick u tail (max tail (d + m - 1))) (ne_eqb m 0 e))

pub gone-back : (w : List ℕ) (k p way : ℕ) {u last : List ℕ} → u ≡ set w k (p % 4294967296) → last ≡ set u (lay.clocks + k) (way % 4294967296) → last ≡ back_words w k p way
unfolding back_words
gone-back w k p way e f = f ∙ ap (λ (x : List ℕ). set x (lay.clocks + k) (way % 4294967296)) e

pub slack-put : (w slots : List ℕ) (k t claim : ℕ) {last : List ℕ} {a d r : ℕ} → a ≡ get_or slots t 0 → d ≡ clock_in w k → r ≡ claim - (a + d) → last ≡ set slots t (r % 4294967296) → last ≡ slack_slots w slots k t claim
unfolding slack_slots
slack-put w slots k t claim e f g h =
    h ∙ ap (λ (x : ℕ). set slots t (x % 4294967296)) (g ∙ ap₂ (λ (x y : ℕ). claim - (x + y)) e f)

pub ran-back : (w : List ℕ) (k p work : ℕ) {last : List ℕ} {a : ℕ} → a ≡ clock_in w k → last ≡ back_words w k p (a + work) → last ≡ ran_back w k p work
unfolding ran_back
ran-back w k p work e f = f ∙ ap (λ (x : ℕ). back_words w k p (x + work)) e

pub sent_back_lem : (w : List ℕ) (k p d i : ℕ) {u last : List ℕ} {a m r : ℕ} → a ≡ clock_in w k → m ≡ get_or w i 0 → r ≡ longest a d m → u ≡ back_words w k p r → last ≡ set u i (0 % 4294967296) → last ≡ sent_back w k p d i
unfolding sent_back
sent_back_lem w k p d i e f g h l = l ∙ ap (λ (x : List ℕ). set x i 0) (h ∙ ap (back_words w k p) (g ∙ ap₂ (λ (x y : ℕ). longest x d y) e f))

pub got-back : (w : List ℕ) (k p i : ℕ) {u last : List ℕ} {a d m r : ℕ} → a ≡ clock_in w k → d ≡ unpacking_in w → m ≡ get_or w i 0 → r ≡ max m (a + d + 1) → u ≡ back_words w k p (a + d) → last ≡ set u i (r % 4294967296)
    → last ≡ got_back w k p i
unfolding got_back
got-back w k p i {a = a} {d = d} e f g h l q =
    let z : a + d ≡ clock_in w k + unpacking_in w = omega arith in
    q ∙ ap₂ (λ (x : List ℕ) (y : ℕ). set x i (y % 4294967296)) (l ∙ ap (back_words w k p) z) (h ∙ ap₂ (λ (x y : ℕ). max x (y + 1)) g z)

-- a message's tail as a word has it
longest-is : (tail d m : ℕ) (o : Option ℕ) → stamp_in m ≡ o → longest tail d m ≡ longer d tail o
unfolding longest
longest-is tail d zero o e = rw (sym e) (ap (λ (u : Bool). pick u tail (max tail (d + 0 - 1))) (eq-eqb 0 0 refl))
longest-is tail d (suc m) o e =
    let z : d + suc m - 1 ≡ d + m = omega arith in
    rw (sym e) (ap (λ (u : Bool). pick u tail (max tail (d + suc m - 1))) (ne_eqb (suc m) 0 (λ q. omega arith)) ∙ ap (max tail) z)

joined_is : (m y r : ℕ) (o : Option ℕ) → stamp_in m ≡ o → r ≡ max m (y + 1) → stamp_in r ≡ joined o y
joined_is zero y r o e f = let z : r ≡ suc y = omega arith in rw (z, sym e)
joined_is (suc m) y r o e f = let z : r ≡ suc (max m y) = omega arith in rw (z, sym e)

longest-le : (tail d m a : ℕ) → tail ≤ a → d + m ≤ a + 1 → longest tail d m ≤ a
unfolding longest
longest-le tail d m a h g = go (eqb m 0)
  where
    go : (u : Bool) → pick u tail (max tail (d + m - 1)) ≤ a
    go true = h
    go false = omega arith

-- the words that were made
module _ (w : List ℕ) (k p way : ℕ) (near : k < 16) (long : lay.extent ≤ length w) (small : p < 4294967296) (narrow : way < 4294967296) where
  back-moved : Moved w (back_words w k p way) k p way (store_in w k)
  unfolding back_words
  back-moved =
      let u = set w k (p % 4294967296) in
      let a : p % 4294967296 ≡ p = omega arith in
      let d : way % 4294967296 ≡ way = omega arith in
      let long-u : length u ≡ length w = length-set w k (p % 4294967296) in
      record {
        long = length-set u (lay.clocks + k) (way % 4294967296) ∙ long-u;
        next = get_or-set_other u (lay.clocks + k) k (way % 4294967296) 0 (λ (q : k ≡ lay.clocks + k). omega arith) ∙ get_or-set_same w k (p % 4294967296) 0 (omega arith) ∙ a;
        clock = get_or-set_same u (lay.clocks + k) (way % 4294967296) 0 (omega arith) ∙ d;
        store =
            get_or-set_other u (lay.clocks + k) (lay.stores + k) (way % 4294967296) 0 (λ (q : lay.stores + k ≡ lay.clocks + k). omega arith) ∙
            get_or-set_other w k (lay.stores + k) (p % 4294967296) 0 (λ (q : lay.stores + k ≡ k). omega arith);
        others = λ i y. get_or-set_other u (lay.clocks + k) i (way % 4294967296) 0 y.clock ∙ get_or-set_other w k i (p % 4294967296) 0 y.next;
      }

  back-stamp : (l : ℕ) → stamped_in (back_words w k p way) l ≡ stamped_in w l
  unfolding back_words
  back-stamp l =
      get_or-set_other (set w k (p % 4294967296)) (lay.clocks + k) (lay.stamps + l) (way % 4294967296) 0 (λ (q : lay.stamps + l ≡ lay.clocks + k). omega arith) ∙
      get_or-set_other w k (lay.stamps + l) (p % 4294967296) 0 (λ (q : lay.stamps + l ≡ k). omega arith)

  module _ (l x : ℕ) (few : l < 1024) where
    posted-moved : Moved w (set (back_words w k p way) (lay.stamps + l) x) k p way (store_in w k)
    posted-moved =
        let m = back-moved in
        let v = back_words w k p way in
        record {
          long = length-set v (lay.stamps + l) x ∙ m.long;
          next = get_or-set_other v (lay.stamps + l) k x 0 (λ (q : k ≡ lay.stamps + l). omega arith) ∙ m.next;
          clock = get_or-set_other v (lay.stamps + l) (lay.clocks + k) x 0 (λ (q : lay.clocks + k ≡ lay.stamps + l). omega arith) ∙ m.clock;
          store = get_or-set_other v (lay.stamps + l) (lay.stores + k) x 0 (λ (q : lay.stores + k ≡ lay.stamps + l). omega arith) ∙ m.store;
          others = λ i y. get_or-set_other v (lay.stamps + l) i x 0 (λ (q : i ≡ lay.stamps + l). ⊎_elim (λ z. omega arith) (λ z. omega arith) y.beside) ∙ m.others i y;
        }

    posted-stamp : (j : ℕ) → (j ≡ l → stamped_in (set (back_words w k p way) (lay.stamps + l) x) j ≡ x) × (j ≢ l → stamped_in (set (back_words w k p way) (lay.stamps + l) x) j ≡ stamped_in w j)
    posted-stamp j = (
      λ q. rw q (get_or-set_same (back_words w k p way) (lay.stamps + l) x 0 (omega (arith, back-moved.long))),
      λ q. get_or-set_other (back_words w k p way) (lay.stamps + l) (lay.stamps + j) x 0 (λ (z : lay.stamps + j ≡ lay.stamps + l). q (omega arith)) ∙ back-stamp j,
    )

-- the last step taken off: c of processor k, from ρ to τ
pub record Off (s : Sheet) (b : Bundle) (φ : State) (claim : ℕ) (w order slots : List ℕ) (k : ℕ) (c : Command) {es rest : Steps} {ρ τ : State} (trail : Trail s b es ρ)
    (comes : next b ρ k ≡ some c) (steps : step_in s b (stated s b) ρ k ≡ some τ) (follows : Follows s b (stated s b) rest τ φ) : Type 0 where
  pub near : k < 16
  pub short : suc (length es) + length rest ≤ most_steps
  pub ordered : Ordered es order
  pub programmed : Programmed s b w
  pub many : length ρ.processors ≡ programme_count b
  pub position : (processor_of τ k).position ≡ suc (processor_of ρ k).position
  pub positions : (j : ℕ) → j ≢ k → (processor_of τ j).position ≡ (processor_of ρ j).position
  pub next : (j : ℕ) → j < 16 → next_in w j ≡ first_in w j + (processor_of τ j).position
  pub own : (j : ℕ) → j < 16 → clock_in w j ≡ (tails (stated s b) rest).own j
  pub sent : (l : ℕ) → l < link_count s → stamp_in (stamped_in w l) ≡ (tails (stated s b) rest).sent l
  pub narrow : (j : ℕ) → j < 16 → clock_in w j ≤ lay.numbers * length rest
  pub narrowed : (l : ℕ) → l < link_count s → stamped_in w l ≤ lay.numbers * length rest + 1
  pub once : (t : ℕ) → t < task_count s → is (run t) c + weigh (is (run t)) (commands es) + weigh (is (run t)) (commands rest) ≤ 1
  pub slots_long : most_ends ≤ length slots
  pub slot : (t : ℕ) → t < task_count s → get_or slots t 0 ≡ slot_of (weigh (is (run t)) (commands rest)) (end_of (behind k c trail comes steps) t) (claim - through s b (stated s b) t follows)

pub data Opened (s : Sheet) (b : Bundle) (φ : State) (claim : ℕ) (w order slots : List ℕ) (i : ℕ) : Type 0 where
  opens : (k : ℕ) (c : Command) {es rest : Steps} {ρ τ : State} (trail : Trail s b es ρ) (comes : next b ρ k ≡ some c) (steps : step_in s b (stated s b) ρ k ≡ some τ)
      (follows : Follows s b (stated s b) rest τ φ) → length es ≡ i → get_or order i 0 ≡ k → Off s b φ claim w order slots k c trail comes steps follows → Opened s b φ claim w order slots i

pub open-last : {s : Sheet} {b : Bundle} {φ : State} {claim : ℕ} {w order slots : List ℕ} {i : ℕ} → Traced s b φ claim w order slots (suc i) → Opened s b φ claim w order slots i
unfolding weigh step
open-last {s} {b} {φ} {claim} {w} {order} {slots} {i} h = go h.trail h.count h.ordered h.short h.many h.follows h.next h.once h.slot
  where
    go : {steps : Steps} {state : State} (trail : Trail s b steps state) → length steps ≡ suc i → Ordered steps order → length steps + length h.rest ≤ most_steps → length state.processors ≡ programme_count b
        → (follows : Follows s b (stated s b) h.rest state φ) → ((j : ℕ) → j < 16 → next_in w j ≡ first_in w j + (processor_of state j).position)
        → ((t : ℕ) → t < task_count s → weigh (is (run t)) (commands steps) + weigh (is (run t)) (commands h.rest) ≤ 1)
        → ((t : ℕ) → t < task_count s → get_or slots t 0 ≡ slot_of (weigh (is (run t)) (commands h.rest)) (end_of trail t) (claim - through s b (stated s b) t follows))
        → Opened s b φ claim w order slots i
    go fresh z o short many follows places once slot = absurd (omega arith)
    go (behind {ρ = ρ} {τ = τ} {es = es} k c r n e) z o short many follows places once slot =
        let m = step_is s b (stated s b) ρ k c τ n e in
        let count : length es ≡ i = omega arith in
        let before : length ρ.processors ≡ programme_count b = sym (length-set ρ.processors k _) ∙ sym (ap (λ (x : State). length x.processors) m.here) ∙ many in
        opens k c r n e follows count (ap (λ (x : ℕ). get_or order x 0) (sym count) ∙ o.0)
        (record {
          near = omega (arith, step-below s b ρ k τ e, h.programmed.few);
          short = omega arith;
          ordered = o.1;
          programmed = h.programmed;
          many = before;
          position = ap (λ (x : State). (processor_of x k).position) m.here ∙ ap (λ (x : Processor). x.position) (self s b ρ k c (stated s b k c) m.v before n);
          positions = λ j d. ap (λ (x : State). (processor_of x j).position) m.here ∙ ap (λ (x : Processor). x.position) (other s b ρ k c (stated s b k c) m.v j d);
          next = places;
          own = h.own;
          sent = h.sent;
          narrow = h.narrow;
          narrowed = h.narrowed;
          once = λ t l. omega (arith, once t l);
          slots_long = h.slots_long;
          slot = slot;
        })

back-other : (d k : ℕ) (c : Command) (w : Tails) (j : ℕ) → j ≢ k → (back d k c w).own j ≡ w.own j
unfolding back
back-other d k (run t) w j q = at_other w.own k (d + w.own k) j q
back-other d k (send l) w j q = at_other w.own k (longer d (w.own k) (w.sent l)) j q
back-other d k (receive l) w j q = at_other w.own k (d + w.own k) j q
back-other d k (release t) w j q = at_other w.own k (d + w.own k) j q
back-other d k (discard l) w j q = at_other w.own k (d + w.own k) j q

module _ {s : Sheet} {b : Bundle} {φ : State} {claim : ℕ} {w order slots : List ℕ} {k : ℕ} {c : Command} {es rest : Steps} {ρ τ : State} {trail : Trail s b es ρ}
    {comes : next b ρ k ≡ some c} {steps : step_in s b (stated s b) ρ k ≡ some τ} {follows : Follows s b (stated s b) rest τ φ} (o : Off s b φ claim w order slots k c trail comes steps follows) where
  abbrev further : Follows s b (stated s b) ((k, c) ∷ rest) ρ φ
  further = more k c comes steps follows

  placed : (p : ℕ) → p ≡ get_or w k 0 - 1 → p ≡ first_in w k + (processor_of ρ k).position
  placed p e = omega (arith, o.next k o.near, o.position)

  word-is : (p x : ℕ) → p ≡ get_or w k 0 - 1 → x ≡ get_or w p 0 → Coded s b k c x
  word-is p x e f = coded s b w o.programmed ρ k o.near c comes x (f ∙ ap (λ (i : ℕ). get_or w i 0) (placed p e))

  low : (p : ℕ) → p ≡ get_or w k 0 - 1 → p < 4294967296
  low p e = omega (arith, placed p e, o.programmed.high k o.near, inside_of b ρ k c comes)

  first-same : {v : List ℕ} {p way y : ℕ} → Moved w v k p way y → (j : ℕ) → j < 16 → first_in v j ≡ first_in w j
  first-same m j l = let n = o.near in m.others (lay.firsts + j) (record { next = λ q. omega arith; clock = λ q. omega arith; store = λ q. omega arith; beside = inl (omega arith) })

  build : {v slots' : List ℕ} (p way : ℕ) → p ≡ get_or w k 0 - 1 → Moved w v k p way (store_in w k) → way ≡ (back (stated s b k c) k c (tails (stated s b) rest)).own k → way ≤ lay.numbers * suc (length rest)
      → ((l : ℕ) → l < link_count s → (stamp_in (stamped_in v l) ≡ (back (stated s b k c) k c (tails (stated s b) rest)).sent l) × (stamped_in v l ≤ lay.numbers * suc (length rest) + 1))
      → most_ends ≤ length slots'
      → ((t : ℕ) → t < task_count s → get_or slots' t 0 ≡ slot_of (weigh (is (run t)) (commands ((k, c) ∷ rest))) (end_of trail t) (claim - through s b (stated s b) t further))
      → Traced s b φ claim v order slots' (length es)
  unfolding tails weigh
  build {v} p way e m f few sent long slot =
      record {
        steps = es;
        rest = (k, c) ∷ rest;
        state = ρ;
        trail = trail;
        follows = further;
        count = refl;
        short = omega (arith, o.short);
        ordered = o.ordered;
        programmed = programmed-same o.near m s b o.programmed;
        many = o.many;
        next =
            λ j l.
            ⊎_elim (λ (q : j ≡ k). rw q (omega (arith, m.next, first-same m k o.near, placed p e)))
            (λ q. omega (arith, next-same o.near m j q l, first-same m j l, o.next j l, o.positions j q)) (equal-or j k);
        own =
            λ j l.
            ⊎_elim (λ (q : j ≡ k). rw q (m.clock ∙ f))
            (λ q. clock-same o.near m j q l ∙ o.own j l ∙ sym (back-other (stated s b k c) k c (tails (stated s b) rest) j q)) (equal-or j k);
        sent = λ l h. (sent l h).0;
        narrow =
            λ j l.
            ⊎_elim (λ (q : j ≡ k). rw q (omega (arith, m.clock)))
            (λ q. omega (arith, clock-same o.near m j q l, o.narrow j l)) (equal-or j k);
        narrowed = λ l h. (sent l h).1;
        once = λ t l. omega (arith, o.once t l);
        slots_long = long;
        slot = slot;
      }

  -- a slot of another task, and the slot of the task that ran
  slot-other : (t : ℕ) → t < task_count s → same (run t) c ≡ false → get_or slots t 0 ≡ slot_of (weigh (is (run t)) (commands ((k, c) ∷ rest))) (end_of trail t) (claim - through s b (stated s b) t further)
  unfolding weigh is through end_of
  slot-other t l z =
      let n = weigh (is (run t)) (commands rest) in
      let a = (processor_of τ k).clock + (tails (stated s b) rest).own k in
      let y = through s b (stated s b) t follows in
      let e = end_of trail t in
      let d : n ≡ 0 + n = omega arith in
      o.slot t l ∙ ap (λ (u : Bool). slot_of n (pick u (processor_of τ k).clock e) (claim - y)) z ∙ ap (λ (i : ℕ). slot_of i e (claim - y)) d ∙
      sym (ap (λ (u : Bool). slot_of (bit u + n) e (claim - pick u a y)) z)

  slot-here : (t x : ℕ) → t < task_count s → same (run t) c ≡ true → claim < 4294967296 → x ≡ (claim - (get_or slots t 0 + clock_in w k)) % 4294967296
      → x ≡ slot_of (weigh (is (run t)) (commands ((k, c) ∷ rest))) (end_of trail t) (claim - through s b (stated s b) t further)
  unfolding weigh is through end_of
  slot-here t x l z few f =
      let n = weigh (is (run t)) (commands rest) in
      let clock = (processor_of τ k).clock in
      let tail = (tails (stated s b) rest).own k in
      let y = through s b (stated s b) t follows in
      let e = end_of trail t in
      let none-behind : n ≡ 0 = omega (arith, o.once t l, ap bit z) in
      let old : get_or slots t 0 ≡ clock = o.slot t l ∙ ap₂ (λ (i : ℕ) (u : Bool). slot_of i (pick u clock e) (claim - y)) none-behind z ∙ ap (λ (u : Bool). pick u clock (claim - y)) (eq-eqb 0 0 refl) in
      let new : x ≡ claim - (clock + tail) = omega (arith, o.own k o.near) in
      new ∙ sym (ap (λ (u : Bool). slot_of (bit u + n) e (claim - pick u (clock + tail) y)) z ∙ ap (λ (u : Bool). pick u e (claim - (clock + tail))) (ne_eqb (1 + n) 0 (λ q. omega arith)))

  -- words whose stamps are as they were
  quiet : (v : List ℕ) → ((l : ℕ) → stamped_in v l ≡ stamped_in w l) → (l : ℕ) → l < link_count s
      → (stamp_in (stamped_in v l) ≡ (tails (stated s b) rest).sent l) × (stamped_in v l ≤ lay.numbers * suc (length rest) + 1)
  quiet v g l h = (ap stamp_in (g l) ∙ o.sent l h, omega (arith, g l, o.narrowed l h))

-- what the code did, by the word x of the command before which it goes
pub data Made (w slots last slots' : List ℕ) (k claim : ℕ) : Type 0 where
  made-run : (p x : ℕ) → p ≡ get_or w k 0 - 1 → x ≡ get_or w p 0 → kind_in x ≡ 1 → slots' ≡ slack_slots w slots k (number_in x - lay.tasks) claim → last ≡ ran_back w k p (amount_in x) → Made w slots last slots' k claim
  made-send : (p x : ℕ) → p ≡ get_or w k 0 - 1 → x ≡ get_or w p 0 → kind_in x ≡ 2 → slots' ≡ slots → last ≡ sent_back w k p (amount_in x) (lay.stamps + number_in x) → Made w slots last slots' k claim
  made-receive : (p x : ℕ) → p ≡ get_or w k 0 - 1 → x ≡ get_or w p 0 → kind_in x ≡ 3 → slots' ≡ slots → last ≡ got_back w k p (lay.stamps + number_in x) → Made w slots last slots' k claim
  made-release : (p x : ℕ) → p ≡ get_or w k 0 - 1 → x ≡ get_or w p 0 → kind_in x ≢ 1 → kind_in x ≢ 2 → kind_in x ≢ 3 → slots' ≡ slots → last ≡ ran_back w k p 0 → Made w slots last slots' k claim

module _ {s : Sheet} {b : Bundle} {φ : State} {claim : ℕ} {w order slots : List ℕ} {k : ℕ} {es rest : Steps} {ρ τ : State} {trail : Trail s b es ρ}
    {steps : step_in s b (stated s b) ρ k ≡ some τ} {follows : Follows s b (stated s b) rest τ φ} (few : claim < 4294967296) where
  over-run : {t : ℕ} {comes : next b ρ k ≡ some (run t)} → Off s b φ claim w order slots k (run t) trail comes steps follows → (p x : ℕ) → p ≡ get_or w k 0 - 1 → x ≡ get_or w p 0
      → (last slots' : List ℕ) → slots' ≡ slack_slots w slots k (number_in x - lay.tasks) claim → last ≡ ran_back w k p (amount_in x) → Traced s b φ claim last order slots' (length es)
  unfolding ran_back slack_slots back stated
  over-run {t} o p x e f last slots' g h =
      let d = word-is o p x e f in
      let way = clock_in w k + amount_in x in
      let known : t < task_count s = d.known in
      let narrow : way ≤ lay.numbers * suc (length rest) = omega (arith, o.narrow k o.near) in
      let fits : way < 4294967296 = omega (arith, o.short) in
      let long = o.programmed.long in
      let task : number_in x - lay.tasks ≡ t = omega (arith, d.number) in
      let slots-are : slots' ≡ set slots t ((claim - (get_or slots t 0 + clock_in w k)) % 4294967296) = g ∙ ap (λ (i : ℕ). set slots i ((claim - (get_or slots i 0 + clock_in w k)) % 4294967296)) task in
      let few_tasks = o.programmed.ranged.few_tasks in
      rw h
      (build o p way e (back-moved w k p way o.near long (low o p e) fits)
      (omega (arith, o.own k o.near, d.amount, at_same (tails (stated s b) rest).own k (work_of s t + (tails (stated s b) rest).own k))) narrow
      (quiet o (back_words w k p way) (back-stamp w k p way o.near long (low o p e) fits)) (omega (arith, ap length slots-are, length-set slots t ((claim - (get_or slots t 0 + clock_in w k)) % 4294967296), o.slots_long))
      (λ u l.
      ⊎_elim
      (λ (q : u ≡ t). slot-here o u (get_or slots' u 0) l (eq-eqb u t q) few (ap (λ (i : List ℕ). get_or i u 0) slots-are ∙ rw q (get_or-set_same slots t ((claim - (get_or slots t 0 + clock_in w k)) % 4294967296) 0 (omega (arith, o.slots_long)))))
      (λ q. ap (λ (i : List ℕ). get_or i u 0) slots-are ∙ get_or-set_other slots t u ((claim - (get_or slots t 0 + clock_in w k)) % 4294967296) 0 q ∙ slot-other o u l (ne_eqb u t q)) (equal-or u t)))

  over-send : {m : ℕ} {comes : next b ρ k ≡ some (send m)} → Off s b φ claim w order slots k (send m) trail comes steps follows → (p x : ℕ) → p ≡ get_or w k 0 - 1 → x ≡ get_or w p 0
      → (last : List ℕ) → last ≡ sent_back w k p (amount_in x) (lay.stamps + number_in x) → Traced s b φ claim last order slots (length es)
  unfolding sent_back back stated
  over-send {m} o p x e f last h =
      let d = word-is o p x e f in
      let known : m < link_count s = d.known in
      let way = longest (clock_in w k) (amount_in x) (stamped_in w m) in
      let narrow : way ≤ lay.numbers * suc (length rest) = longest-le (clock_in w k) (amount_in x) (stamped_in w m) (lay.numbers * suc (length rest)) (omega (arith, o.narrow k o.near)) (omega (arith, o.narrowed m known)) in
      let fits : way < 4294967296 = omega (arith, o.short) in
      let long = o.programmed.long in
      let few_links : m < 1024 = omega (arith, o.programmed.ranged.few_links) in
      let w-tails = tails (stated s b) rest in
      let is-way : way ≡ longer (travels s b k m) (w-tails.own k) (w-tails.sent m) =
      longest-is (clock_in w k) (amount_in x) (stamped_in w m) (w-tails.sent m) (o.sent m known) ∙ ap₂ (λ (i j : ℕ). longer i j (w-tails.sent m)) d.amount (o.own k o.near) in
      rw (h ∙ ap (λ (i : ℕ). set (back_words w k p (longest (clock_in w k) (amount_in x) (get_or w (lay.stamps + i) 0))) (lay.stamps + i) 0) d.number)
      (build o p way e (posted-moved w k p way o.near long (low o p e) fits m 0 few_links)
      (is-way ∙ sym (at_same w-tails.own k (longer (travels s b k m) (w-tails.own k) (w-tails.sent m)))) narrow
      (λ l r.
      let y = posted-stamp w k p way o.near long (low o p e) fits m 0 few_links l in
      ⊎_elim (λ (q : l ≡ m). (ap stamp_in (y.0 q) ∙ sym (ap (λ (i : ℕ). at w-tails.sent m none i) q ∙ at_same w-tails.sent m none), omega (arith, y.0 q)))
      (λ q. (ap stamp_in (y.1 q) ∙ o.sent l r ∙ sym (at_other w-tails.sent m none l q), omega (arith, y.1 q, o.narrowed l r))) (equal-or l m)) o.slots_long
      (λ u l. slot-other o u l refl))

  over-receive : {m : ℕ} {comes : next b ρ k ≡ some (receive m)} → Off s b φ claim w order slots k (receive m) trail comes steps follows → (p x : ℕ) → p ≡ get_or w k 0 - 1 → x ≡ get_or w p 0
      → (last : List ℕ) → last ≡ got_back w k p (lay.stamps + number_in x) → Traced s b φ claim last order slots (length es)
  unfolding got_back back stated
  over-receive {m} o p x e f last h =
      let d = word-is o p x e f in
      let known : m < link_count s = d.known in
      let way = clock_in w k + unpacking_in w in
      let w-tails = tails (stated s b) rest in
      let unpacks = o.programmed.unpacks in
      let narrow : way ≤ lay.numbers * suc (length rest) = omega (arith, o.narrow k o.near, o.programmed.ranged.unpacks) in
      let fits : way < 4294967296 = omega (arith, o.short) in
      let long = o.programmed.long in
      let few_links : m < 1024 = omega (arith, o.programmed.ranged.few_links) in
      let is-way : way ≡ s.unpacking + w-tails.own k = omega (arith, o.own k o.near) in
      let x' = max (stamped_in w m) (way + 1) % 4294967296 in
      let post : x' ≡ max (stamped_in w m) (way + 1) = omega (arith, o.short, o.narrowed m known) in
      rw (h ∙ ap (λ (i : ℕ). set (back_words w k p way) (lay.stamps + i) (max (get_or w (lay.stamps + i) 0) (way + 1) % 4294967296)) d.number)
      (build o p way e (posted-moved w k p way o.near long (low o p e) fits m x' few_links) (is-way ∙ sym (at_same w-tails.own k (s.unpacking + w-tails.own k))) narrow
      (λ l r.
      let y = posted-stamp w k p way o.near long (low o p e) fits m x' few_links l in
      ⊎_elim
      (λ (q : l ≡ m). (
        ap stamp_in (y.0 q) ∙ joined_is (stamped_in w m) (s.unpacking + w-tails.own k) x' (w-tails.sent m) (o.sent m known) (post ∙ ap (λ (i : ℕ). max (stamped_in w m) (i + 1)) is-way)
            ∙ sym (ap (λ (i : ℕ). at w-tails.sent m (joined (w-tails.sent m) (s.unpacking + w-tails.own k)) i) q ∙ at_same w-tails.sent m (joined (w-tails.sent m) (s.unpacking + w-tails.own k))),
        omega (arith, y.0 q, post, o.narrowed m known),
      ))
      (λ q. (ap stamp_in (y.1 q) ∙ o.sent l r ∙ sym (at_other w-tails.sent m (joined (w-tails.sent m) (s.unpacking + w-tails.own k)) l q), omega (arith, y.1 q, o.narrowed l r))) (equal-or l m))
      o.slots_long (λ u l. slot-other o u l refl))

  -- a release takes no time
  over_none : {c : Command} {comes : next b ρ k ≡ some c} → (o : Off s b φ claim w order slots k c trail comes steps follows) → (p : ℕ) → p ≡ get_or w k 0 - 1
      → (last : List ℕ) → last ≡ ran_back w k p 0 → (back (stated s b k c) k c (tails (stated s b) rest)).own k ≡ (tails (stated s b) rest).own k
      → ((l : ℕ) → (back (stated s b k c) k c (tails (stated s b) rest)).sent l ≡ (tails (stated s b) rest).sent l) → ((t : ℕ) → same (run t) c ≡ false) → Traced s b φ claim last order slots (length es)
  unfolding ran_back
  over_none o p e last h own sent other =
      let way = clock_in w k + 0 in
      let narrow : way ≤ lay.numbers * suc (length rest) = omega (arith, o.narrow k o.near) in
      let fits : way < 4294967296 = omega (arith, o.short) in
      let long = o.programmed.long in
      rw h
      (build o p way e (back-moved w k p way o.near long (low o p e) fits) (omega (arith, o.own k o.near, own)) narrow
      (λ l r. let y = quiet o (back_words w k p way) (back-stamp w k p way o.near long (low o p e) fits) l r in (y.0 ∙ sym (sent l), y.1)) o.slots_long (λ u l. slot-other o u l (other u)))

  over-release : {c : Command} {comes : next b ρ k ≡ some c} → (o : Off s b φ claim w order slots k c trail comes steps follows) → kind_of c ≡ 4 → (p : ℕ) → p ≡ get_or w k 0 - 1
      → (last : List ℕ) → last ≡ ran_back w k p 0 → Traced s b φ claim last order slots (length es)
  unfolding back stated
  over-release {c = run t} o z p e last h = absurd (omega arith)
  over-release {c = send l} o z p e last h = absurd (omega arith)
  over-release {c = receive l} o z p e last h = absurd (omega arith)
  over-release {c = release t} o z p e last h = over_none o p e last h (at_same (tails (stated s b) rest).own k (0 + (tails (stated s b) rest).own k) ∙ omega arith) (λ l. refl) (λ u. refl)
  over-release {c = discard l} o z p e last h = over_none o p e last h (at_same (tails (stated s b) rest).own k (0 + (tails (stated s b) rest).own k) ∙ omega arith) (λ l. refl) (λ u. refl)

  over : {c : Command} {comes : next b ρ k ≡ some c} {last slots' : List ℕ} → Off s b φ claim w order slots k c trail comes steps follows → Made w slots last slots' k claim → Traced s b φ claim last order slots' (length es)
  over {c = run t} {last = last} {slots' = slots'} o (made-run p x e f z g h) = over-run o p x e f last slots' g h
  over {c = run t} o (made-send p x e f z g h) = absurd (omega (arith, (word-is o p x e f).kind))
  over {c = run t} o (made-receive p x e f z g h) = absurd (omega (arith, (word-is o p x e f).kind))
  over {c = run t} o (made-release p x e f y z u g h) = absurd (y (word-is o p x e f).kind)
  over {c = send l} o (made-run p x e f z g h) = absurd (omega (arith, (word-is o p x e f).kind))
  over {c = send l} {last = last} o (made-send p x e f z g h) = rw g (over-send o p x e f last h)
  over {c = send l} o (made-receive p x e f z g h) = absurd (omega (arith, (word-is o p x e f).kind))
  over {c = send l} o (made-release p x e f y z u g h) = absurd (z (word-is o p x e f).kind)
  over {c = receive l} o (made-run p x e f z g h) = absurd (omega (arith, (word-is o p x e f).kind))
  over {c = receive l} o (made-send p x e f z g h) = absurd (omega (arith, (word-is o p x e f).kind))
  over {c = receive l} {last = last} o (made-receive p x e f z g h) = rw g (over-receive o p x e f last h)
  over {c = receive l} o (made-release p x e f y z u g h) = absurd (u (word-is o p x e f).kind)
  over {c = release t} o (made-run p x e f z g h) = absurd (omega (arith, (word-is o p x e f).kind))
  over {c = release t} o (made-send p x e f z g h) = absurd (omega (arith, (word-is o p x e f).kind))
  over {c = release t} o (made-receive p x e f z g h) = absurd (omega (arith, (word-is o p x e f).kind))
  over {c = release t} {last = last} o (made-release p x e f y z u g h) = rw g (over-release o refl p e last h)
  over {c = discard l} o (made-run p x e f z g h) = absurd (omega (arith, (word-is o p x e f).kind))
  over {c = discard l} o (made-send p x e f z g h) = absurd (omega (arith, (word-is o p x e f).kind))
  over {c = discard l} o (made-receive p x e f z g h) = absurd (omega (arith, (word-is o p x e f).kind))
  over {c = discard l} {last = last} o (made-release p x e f y z u g h) = rw g (over-release o refl p e last h)

length-ran : (w : List ℕ) (k p work : ℕ) → length (ran_back w k p work) ≡ length w
unfolding ran_back back_words
length-ran w k p work = simp length-set

length-sent : (w : List ℕ) (k p d i : ℕ) → length (sent_back w k p d i) ≡ length w
unfolding sent_back back_words
length-sent w k p d i = simp length-set

length_got : (w : List ℕ) (k p i : ℕ) → length (got_back w k p i) ≡ length w
unfolding got_back back_words
length_got w k p i = simp length-set

length-slack : (w slots : List ℕ) (k t claim : ℕ) → length (slack_slots w slots k t claim) ≡ length slots
unfolding slack_slots
length-slack w slots k t claim = simp length-set

made-long : {w slots last slots' : List ℕ} {k claim : ℕ} → Made w slots last slots' k claim → (length last ≡ length w) × (length slots' ≡ length slots)
made-long {w} {slots} {k = k} {claim = claim} (made-run p x e f z g h) = (ap length h ∙ length-ran w k p (amount_in x), ap length g ∙ length-slack w slots k (number_in x - lay.tasks) claim)
made-long {w} {k = k} (made-send p x e f z g h) = (ap length h ∙ length-sent w k p (amount_in x) (lay.stamps + number_in x), ap length g)
made-long {w} {k = k} (made-receive p x e f z g h) = (ap length h ∙ length_got w k p (lay.stamps + number_in x), ap length g)
made-long {w} {k = k} (made-release p x e f y z u g h) = (ap length h ∙ length-ran w k p 0, ap length g)

pub traced-one : {w slots last slots' : List ℕ} {k claim : ℕ} → Made w slots last slots' k claim → TraceIs w slots last slots' k claim
traced-one {w} {slots} {last} {slots'} {k} {claim} m =
    record { long = (made-long m).0; slots_long = (made-long m).1; is_traced = λ s b φ order i few at h. go s b φ order i few at (open-last h) }
  where
    go : (s : Sheet) (b : Bundle) (φ : State) (order : List ℕ) (i : ℕ) → claim < 4294967296 → get_or order i 0 ≡ k → Opened s b φ claim w order slots i → Traced s b φ claim last order slots' i
    go s b φ order i few at (opens j c trail comes steps follows count here o) =
        subst (Traced s b φ claim last order slots') count (over few o (subst (λ (x : ℕ). Made w slots last slots' x claim) (sym at ∙ here) m))
