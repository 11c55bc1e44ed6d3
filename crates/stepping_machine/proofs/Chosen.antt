-- One choice: what each way through `step` makes of words that represent a state.
use Prim.Native.Nat.{ℕ, zero, suc, ◌+◌, ◌*◌, ◌%◌, ◌-◌, ◌<◌, ◌≤◌, max}
use mathlib.Core.Path.{◌≡◌, refl, sym, ap, ◌∙◌, subst}
use mathlib.Core.Bool.{Bool, true, false, not, true≢false}
use mathlib.Core.Option.{none, some, some-injective}
use mathlib.Core.List.{List}
use mathlib.Core.Logic.{⊎_elim}
use native.Mathlib.Omega.{arith}
use native.Mathlib.Decide.{ℕ_discrete, dec_lt}
use lib.ListN.{length, get_or, set, length-set}
use lib.Seq.{get_or-set_same, get_or-set_other}
use lib.Dec.{eqb}
use borrow.Author.Tests.{eqb-true, not-false, eq-eqb}
use Rattle.folds.specs.Folds.{pick}
use Rattle.sheet.specs.Sheet.{Sheet, work_of, store_of, bytes_of}
use Rattle.bundle.specs.Bundle.{Command, run, send, receive, release, discard, Bundle, programme_of}
use Rattle.bundle.specs.Fits.{Known}
use Rattle.admission.specs.Counting.{each, stored, need as demands}
use Rattle.admission.proofs.Walking.{command-past}
use Rattle.machine.specs.Machine.{State, processor_of, stamp_of, next, waits, takes, travels, stated, moved, step, can_step, stamp_in}
use Rattle.machine.specs.Runs.{chosen, left}
use Rattle.machine.proofs.Steps.{move_step, left-moved, stamp-sent, stamp-other}
use Rattle.machine.proofs.Kept.{goes, no-next, no-wait, none_of, step_is}
use Rattle.stepping_machine.specs.Layout as lay
use Rattle.stepping_machine.specs.Words.{Blank, next_in, clock_in, store_in, first_in, stamped_in, kind_in, number_in, amount_in, kind_of, number_of, amount_of, word_by, stepped_words, ran_words, sent_words, got_words, gave_words}
use Rattle.stepping_machine.specs.Represents.{Represents, ChoiceIs}
use Rattle.stepping_machine.proofs.Packing.{kind-small, amount-small, word-kind, word_number, word-amount}
use Rattle.stepping_machine.proofs.Moves.{command-at, Moved, represents-moved, placed-moved, placed-stamp, length-stepped}

-- words that represent no state, and processors that no bundle has
module _ (w : List ℕ) (k : ℕ) where
  pub too_short : length w < lay.extent → ChoiceIs w w k false
  too_short e = record { steps = none_of Represents w k (λ s b σ h. absurd (omega (arith, h.programmed.long))); blank = λ q. refl }

  pub too_large : 16 ≤ k → ChoiceIs w w k false
  too_large e = record { steps = none_of Represents w k (λ s b σ h. omega (arith, h.programmed.few)); blank = λ q. refl }

-- what comes next in the programme, and what stands for it in the words
data Coming (s : Sheet) (b : Bundle) (w : List ℕ) (σ : State) (k x : ℕ) : Type 0 where
  comes : (c : Command) → next b σ k ≡ some c → (processor_of σ k).position < length (programme_of b k) → Known s c
      → kind_in x ≡ kind_of c → number_in x ≡ number_of c → amount_in x ≡ amount_of s b k c → Coming s b w σ k x
  over : next b σ k ≡ none → kind_in x ≡ 0 → Coming s b w σ k x

module _ (w : List ℕ) (k : ℕ) (near : k < 16) (n : ℕ) (here : n ≡ next_in w k) (x : ℕ) (there : x ≡ get_or w n 0) where
  module _ (s : Sheet) (b : Bundle) (σ : State) (h : Represents s b w σ) where
    abbrev p : ℕ
    p = (processor_of σ k).position

    coming : Coming s b w σ k x
    unfolding next
    coming =
        let d = h.programmed.decoded k near in
        let ranged = h.programmed.ranged in
        let small = amount-small s b k ranged h.programmed.few near in
        let e : n ≡ first_in w k + p = here ∙ h.next k near in
        elim (dec_lt p (length (programme_of b k))) [
          | yes l ↦
              let c = get_or (programme_of b k) p (run 0) in
              let o = d.known p l in
              let f : x ≡ word_by (amount_of s b k) c = there ∙ ap (λ (i : ℕ). get_or w i 0) e ∙ d.word p l in
              comes c (command-at (programme_of b k) p l) l o (word-kind s ranged (amount_of s b k) small c o x f) (word_number s ranged (amount_of s b k) small c o x f) (word-amount s ranged (amount_of s b k) small c o x f)
          | no l ↦
              let q : p ≡ length (programme_of b k) = omega (arith, h.inside k near) in
              let f : x ≡ 0 = there ∙ ap (λ (i : ℕ). get_or w i 0) (e ∙ ap (λ (i : ℕ). first_in w k + i) q) ∙ d.end in
              over (command-past (programme_of b k) p (omega arith)) (omega arith)
        ]

    -- the processor behind its next command c, which waits, takes a time, gives back and needs
    module _
        (c : Command) (e : next b σ k ≡ some c) (j : p < length (programme_of b k)) (wait work back need : ℕ)
        (late : wait + lay.most * left b σ each ≤ lay.full) (short : work ≤ lay.most) (small : need ≤ lay.most) where
      moved_on : Moved w (stepped_words w k wait work back need) k (next_in w k + 1) (max (processor_of σ k).clock wait + work) ((processor_of σ k).store - back + need)
      unfolding stepped_words
      moved_on =
          let one = left-moved s b σ k c 0 0 h.processors e each in
          let r = h.room k near in
          let high = h.programmed.high k near in
          let y = placed-moved w k (next_in w k + 1) (max (clock_in w k) wait + work) (store_in w k - back + need) (omega (arith, h.programmed.long)) near in
          record {
            long = y.long;
            next = y.next ∙ omega (arith, h.next k near);
            clock = y.clock ∙ omega (arith, h.clock k near, r.0);
            store = y.store ∙ omega (arith, h.store k near, r.1);
            others = y.others;
          }

      stays-stamp : (i : ℕ) → get_or (stepped_words w k wait work back need) (lay.stamps + i) 0 ≡ get_or w (lay.stamps + i) 0
      unfolding stepped_words
      stays-stamp i = placed-stamp w k (next_in w k + 1) (max (clock_in w k) wait + work) (store_in w k - back + need) (omega (arith, h.programmed.long)) near (lay.stamps + i) (omega arith)

      -- where c sends nothing, and these are its numbers
      quiet : (t : ℕ) → waits σ c ≡ some wait → stated s b k c ≡ t → takes c t ≡ work → stored s c (processor_of σ k).store ≡ (processor_of σ k).store - back + need
          → ((l : ℕ) → stamp_of (moved s σ k c t wait) l ≡ stamp_of σ l) → demands s c ≤ lay.most
          → (true ≡ can_step s b σ k) × Represents s b (stepped_words w k wait work back need) (chosen σ (step s b σ k))
      quiet t waited is takes-is Store-is stamps-are needs =
          let m = moved_on in
          let less : left b (moved s σ k c t wait) each + 1 ≡ left b σ each = left-moved s b σ k c t wait h.processors e each in
          goes Represents s b (stepped_words w k wait work back need) σ k (moved s σ k c t wait) (move_step s b σ k c wait e waited ∙ ap (λ (d : ℕ). some (moved s σ k c d wait)) is)
          (represents-moved s b w σ h k near c e t wait j (omega (arith, takes-is)) needs late (stepped_words w k wait work back need)
          (record { long = m.long; next = m.next; clock = m.clock ∙ ap (λ (d : ℕ). max (processor_of σ k).clock wait + d) (sym takes-is); store = m.store ∙ sym Store-is; others = m.others })
          (λ l o. ap stamp_in (stays-stamp l) ∙ h.stamp l o ∙ sym (stamps-are l)) (λ l y o. omega (arith, h.roomy l y (sym (stamps-are l) ∙ o))))

    -- the end of a programme
    ended : kind_in x ≡ 0 → Coming s b w σ k x → (false ≡ can_step s b σ k) × Represents s b w (chosen σ (step s b σ k))
    ended z (over e f) = no-next Represents s b w σ k h e
    ended z (comes c e j o f g a) = absurd (omega (arith, (kind-small c).0))

    -- a run
    ran_on : kind_in x ≡ 1 → Coming s b w σ k x → (true ≡ can_step s b σ k) × Represents s b (ran_words w k (amount_in x) (lay.stamps + number_in x)) (chosen σ (step s b σ k))
    unfolding ran_words stated stamp_of
    ran_on z (over e f) = absurd (omega arith)
    ran_on z (comes (release t) e j o f g a) = absurd (omega arith)
    ran_on z (comes (discard l) e j o f g a) = absurd (omega arith)
    ran_on z (comes (send l) e j o f g a) = absurd (omega arith)
    ran_on z (comes (receive l) e j o f g a) = absurd (omega arith)
    ran_on z (comes (run t) e j o f g a) = rw (sym v-is) on
      where
        slot : lay.stamps + number_in x ≡ lay.needs + t
        slot = omega arith

        v-is : stepped_words w k 0 (work_of s t) 0 (store_of s t) ≡ ran_words w k (amount_in x) (lay.stamps + number_in x)
        v-is = rw (a, slot, h.programmed.needs t o) refl

        on : (true ≡ can_step s b σ k) × Represents s b (stepped_words w k 0 (work_of s t) 0 (store_of s t)) (chosen σ (step s b σ k))
        on =
            let wf = h.programmed.ranged.works t o in
            let sf = h.programmed.ranged.stores t o in
            let r = h.room k near in
            quiet (run t) e j 0 (work_of s t) 0 (store_of s t) (omega (arith, r.0)) (omega arith) (omega arith) (work_of s t) refl refl refl (omega arith) (λ l. refl) (omega arith)

    -- a release
    gave-on : 4 ≤ kind_in x → Coming s b w σ k x → (true ≡ can_step s b σ k) × Represents s b (gave_words w k (amount_in x)) (chosen σ (step s b σ k))
    unfolding gave_words stated stamp_of
    gave-on z (over e f) = absurd (omega arith)
    gave-on z (comes (run t) e j o f g a) = absurd (omega arith)
    gave-on z (comes (send l) e j o f g a) = absurd (omega arith)
    gave-on z (comes (receive l) e j o f g a) = absurd (omega arith)
    gave-on z (comes (release t) e j o f g a) = rw a (quiet (release t) e j 0 0 (store_of s t) 0 (omega (arith, (h.room k near).0)) (omega arith) (omega arith) 0 refl refl refl (omega arith) (λ l. refl) (omega arith))
    gave-on z (comes (discard l) e j o f g a) = rw a (quiet (discard l) e j 0 0 (bytes_of s l) 0 (omega (arith, (h.room k near).0)) (omega arith) (omega arith) 0 refl refl refl (omega arith) (λ l. refl) (omega arith))

    -- a send
    sent-on : kind_in x ≡ 2 → Coming s b w σ k x → (true ≡ can_step s b σ k) × Represents s b (sent_words w k (amount_in x) (lay.stamps + number_in x)) (chosen σ (step s b σ k))
    unfolding sent_words stated stamp_of
    sent-on z (over e f) = absurd (omega arith)
    sent-on z (comes (release t) e j o f g a) = absurd (omega arith)
    sent-on z (comes (discard l) e j o f g a) = absurd (omega arith)
    sent-on z (comes (run t) e j o f g a) = absurd (omega arith)
    sent-on z (comes (receive l) e j o f g a) = absurd (omega arith)
    sent-on z (comes (send l) e j o f g a) = rw (a, g) on
      where
        on : (true ≡ can_step s b σ k) × Represents s b (sent_words w k (travels s b k l) (lay.stamps + l)) (chosen σ (step s b σ k))
        on =
            let few = h.programmed.ranged.few_links in
            let long = h.programmed.long in
            let far = travels s b k l in
            let short : far ≤ lay.most = amount-small s b k h.programmed.ranged h.programmed.few near (send l) o in
            let r = h.room k near in
            let stamp = (clock_in w k + far + 1) % 4294967296 in
            let u = stepped_words w k 0 0 0 0 in
            let v = set u (lay.stamps + l) stamp in
            let y = moved_on (send l) e j 0 0 0 0 (omega (arith, r.0)) (omega arith) (omega arith) in
            let away : (i : ℕ) → (i ≡ lay.stamps + l → ⊥) → get_or v i 0 ≡ get_or u i 0 = λ i d. get_or-set_other u (lay.stamps + l) i stamp 0 d in
            let m : Moved w v k (next_in w k + 1) (max (processor_of σ k).clock 0 + 0) ((processor_of σ k).store + 0 - 0) =
            record {
              long = length-set u (lay.stamps + l) stamp ∙ y.long;
              next = away k (λ i. omega arith) ∙ y.next;
              clock = away (lay.clocks + k) (λ i. omega arith) ∙ y.clock;
              store = away (lay.stores + k) (λ i. omega arith) ∙ y.store ∙ omega arith;
              others = λ i z. away i (λ q'. ⊎_elim (λ g'. omega arith) (λ g'. omega arith) z.beside) ∙ y.others i z;
            }
            in
            let kept : (i : ℕ) → (i ≡ l → ⊥) → get_or v (lay.stamps + i) 0 ≡ get_or w (lay.stamps + i) 0 =
            λ i d. away (lay.stamps + i) (λ y. d (omega arith)) ∙ stays-stamp (send l) e j 0 0 0 0 (omega (arith, r.0)) (omega arith) (omega arith) i
            in
            let less : left b (moved s σ k (send l) far 0) each + 1 ≡ left b σ each = left-moved s b σ k (send l) far 0 h.processors e each in
            let stamp-is : stamp ≡ suc ((processor_of σ k).clock + far) = omega (arith, r.0, h.clock k near) in
            let put : get_or v (lay.stamps + l) 0 ≡ stamp = get_or-set_same u (lay.stamps + l) stamp 0 (omega (arith, y.long)) in
            let mine = stamp-sent s σ k l far 0 (omega (arith, h.stamps)) in
            let theirs = stamp-other s σ k l far 0 in
            goes Represents s b v σ k (moved s σ k (send l) far 0) (move_step s b σ k (send l) 0 e refl)
            (represents-moved s b w σ h k near (send l) e far 0 j (omega arith) (omega arith) (omega (arith, r.0)) v m
            (λ i o.
            elim (ℕ_discrete i l) [
              | yes y ↦ subst (λ (c : ℕ). stamp_in (get_or v (lay.stamps + c) 0) ≡ stamp_of (moved s σ k (send l) far 0) c) (sym y) (ap stamp_in (put ∙ stamp-is) ∙ sym mine)
              | no d ↦ ap stamp_in (kept i d) ∙ h.stamp i o ∙ sym (theirs i d)
            ])
            (λ i y o.
            elim (ℕ_discrete i l) [
              | yes z ↦ omega (arith, r.0, some-injective ((processor_of σ k).clock + far) y (sym mine ∙ ap (stamp_of (moved s σ k (send l) far 0)) (sym z) ∙ o))
              | no d ↦ omega (arith, h.roomy i y (sym (theirs i d) ∙ o))
            ]))

    -- a receive
    got-on : kind_in x ≡ 3 → Coming s b w σ k x → (f : Bool) → f ≡ not (eqb (get_or w (lay.stamps + number_in x) 0) 0)
        → (f ≡ can_step s b σ k) × Represents s b (pick f (got_words w k (amount_in x) (lay.stamps + number_in x)) w) (chosen σ (step s b σ k))
    unfolding got_words stated stamp_of
    got-on z (over e g) f u = absurd (omega arith)
    got-on z (comes (release t) e j o c g a) f u = absurd (omega arith)
    got-on z (comes (discard l) e j o c g a) f u = absurd (omega arith)
    got-on z (comes (run t) e j o c g a) f u = absurd (omega arith)
    got-on z (comes (send l) e j o c g a) f u = absurd (omega arith)
    got-on z (comes (receive l) e j o c g a) f u = rw (a, g) (by f (get_or w (lay.stamps + l) 0) refl (rw g at u) (h.stamp l o))
      where
        by : (f : Bool) (y : ℕ) → get_or w (lay.stamps + l) 0 ≡ y → f ≡ not (eqb (get_or w (lay.stamps + l) 0) 0) → stamp_in (stamped_in w l) ≡ stamp_of σ l
            → (f ≡ can_step s b σ k) × Represents s b (pick f (got_words w k (bytes_of s l) (lay.stamps + l)) w) (chosen σ (step s b σ k))
        by false y q u v =
            let zero-there : get_or w (lay.stamps + l) 0 ≡ 0 = eqb-true (get_or w (lay.stamps + l) 0) 0 (not-false (eqb (get_or w (lay.stamps + l) 0) 0) (sym u)) in
            no-wait Represents s b w σ k h (receive l) e (sym v ∙ ap stamp_in zero-there)
        by true zero q u v = absurd (true≢false (u ∙ ap not (eq-eqb (get_or w (lay.stamps + l) 0) 0 q)))
        by true (suc y) q u t =
            let bf = h.programmed.ranged.sizes l o in
            let uf = h.programmed.ranged.unpacks in
            let got : stamp_of σ l ≡ some y = sym t ∙ ap stamp_in q in
            let less : get_or w (lay.stamps + l) 0 - 1 ≡ y = omega arith in
            let v-is : stepped_words w k y s.unpacking 0 (bytes_of s l) ≡ got_words w k (bytes_of s l) (lay.stamps + l) = rw (less, h.programmed.unpacks) refl in
            rw (sym v-is)
            (quiet (receive l) e j y s.unpacking 0 (bytes_of s l) (h.roomy l y got) (omega arith) (omega arith) s.unpacking got refl refl (omega arith) (λ l. refl) (omega arith))

  -- the words keep their length
  ran-long : (a i : ℕ) → length (ran_words w k a i) ≡ length w
  unfolding ran_words
  ran-long a i = length-stepped w k _ _ _ _

  sent-long : (a i : ℕ) → length (sent_words w k a i) ≡ length w
  unfolding sent_words
  sent-long a i = length-set (stepped_words w k 0 0 0 0) i _ ∙ length-stepped w k 0 0 0 0

  got-long : (a i : ℕ) → length (got_words w k a i) ≡ length w
  unfolding got_words
  got-long a i = length-stepped w k _ _ _ _

  gave-long : (a : ℕ) → length (gave_words w k a) ≡ length w
  unfolding gave_words
  gave-long a = length-stepped w k _ _ _ _

  -- words that are all 0 have a 0 there
  blank-there : Blank w → kind_in x ≡ 0
  blank-there q = omega (arith, there, q n)

  pub stopped : kind_in x ≡ 0 → ChoiceIs w w k false
  stopped z = record { steps = step_is Represents w w w k refl false refl (λ s b σ h. ended s b σ h z (coming s b σ h)); blank = λ q. refl }

  module _ (v : List ℕ) where
    pub ran : kind_in x ≡ 1 → v ≡ ran_words w k (amount_in x) (lay.stamps + number_in x) → ChoiceIs w v k true
    ran z g =
        record {
          steps = step_is Represents w (ran_words w k (amount_in x) (lay.stamps + number_in x)) v k (ran-long _ _) true g (λ s b σ h. ran_on s b σ h z (coming s b σ h));
          blank = λ q. absurd (omega (arith, blank-there q));
        }

    pub sent : kind_in x ≡ 2 → v ≡ sent_words w k (amount_in x) (lay.stamps + number_in x) → ChoiceIs w v k true
    sent z g =
        record {
          steps = step_is Represents w (sent_words w k (amount_in x) (lay.stamps + number_in x)) v k (sent-long _ _) true g (λ s b σ h. sent-on s b σ h z (coming s b σ h));
          blank = λ q. absurd (omega (arith, blank-there q));
        }

    pub got : kind_in x ≡ 3 → (f : Bool) → f ≡ not (eqb (get_or w (lay.stamps + number_in x) 0) 0) → v ≡ pick f (got_words w k (amount_in x) (lay.stamps + number_in x)) w → ChoiceIs w v k f
    got z f u g =
        record {
          steps = step_is Represents w (got_words w k (amount_in x) (lay.stamps + number_in x)) v k (got-long _ _) f g (λ s b σ h. got-on s b σ h z (coming s b σ h) f u);
          blank = λ q. absurd (omega (arith, blank-there q));
        }

    pub gave : 4 ≤ kind_in x → v ≡ gave_words w k (amount_in x) → ChoiceIs w v k true
    gave z g =
        record {
          steps = step_is Represents w (gave_words w k (amount_in x)) v k (gave-long _) true g (λ s b σ h. gave-on s b σ h z (coming s b σ h));
          blank = λ q. absurd (omega (arith, blank-there q));
        }
