-- A step with its notes: who made it, and when a run ended.
use Prim.Native.Nat.{ℕ, ◌+◌, ◌-◌, ◌%◌, ◌≤◌, ◌<◌}
use native.Mathlib.Omega.{arith}
use native.Mathlib.Decide.{dec_lt}
use mathlib.Core.Bool.{Bool, true, false}
use mathlib.Core.Option.{Option, some, some-injective}
use mathlib.Core.Path.{◌≡◌, refl, sym, ap, ap₂, ◌∙◌, subst}
use mathlib.Core.Logic.{◌≢◌, ⊎_elim}
use mathlib.Core.List.{List, [], ◌∷◌}
use lib.ListN.{length, get_or, set, length-set}
use lib.Seq.{get_or-set_same, get_or-set_other}
use lib.Dec.{eqb}
use borrow.Author.Tests.{eq-eqb, ne_eqb}
use Rattle.folds.specs.Folds.{pick}
use Rattle.folds.proofs.Tests.{equal-or, not_some}
use Rattle.sheet.specs.Sheet.{Sheet}
use Rattle.bundle.specs.Bundle.{Command, run, send, receive, release, discard, Bundle, programme_of}
use Rattle.bundle.specs.Fits.{Known}
use Rattle.admission.specs.Counting.{same, each}
use Rattle.admission.proofs.Walking.{command-past}
use Rattle.machine.specs.Machine.{State, processor_of, next, stated, step_in, step, can_step}
use Rattle.machine.specs.Runs.{left, chosen}
use Rattle.machine.proofs.Steps.{step_move, can-step, left-moved}
use Rattle.stepping_machine.specs.Layout as lay
use Rattle.stepping_machine.specs.Words.{clock_in, first_in, kind_in, number_in, amount_in, kind_of, number_of, amount_of, word_by}
use Rattle.stepping_machine.specs.Represents.{Programmed, Represents, ChoiceIs}
use Rattle.stepping_machine.proofs.Packing.{amount-small, word-kind, word_number, word-amount}
use Rattle.stepping_machine.proofs.Moves.{command-at}
use Rattle.drift.specs.Tails.{Steps}
use Rattle.drift.specs.Following.{Trail, behind, end_of}
use Rattle.drift.specs.Recording.{most_ends, ends_with, Ordered, Noted, NoteIs}

-- the word x stands for the command c of processor k
pub record Coded (s : Sheet) (b : Bundle) (k : ℕ) (c : Command) (x : ℕ) : Type 0 where
  pub known : Known s c
  pub kind : kind_in x ≡ kind_of c
  pub number : number_in x ≡ number_of c
  pub amount : amount_in x ≡ amount_of s b k c

pub inside_of : (b : Bundle) (σ : State) (k : ℕ) (c : Command) → next b σ k ≡ some c → (processor_of σ k).position < length (programme_of b k)
unfolding next
inside_of b σ k c n = go (dec_lt (processor_of σ k).position (length (programme_of b k)))
  where
    go : Dec ((processor_of σ k).position < length (programme_of b k)) → (processor_of σ k).position < length (programme_of b k)
    go (no l) = not_some (sym (command-past (programme_of b k) (processor_of σ k).position (omega arith)) ∙ n)
    go (yes l) = l

pub coded : (s : Sheet) (b : Bundle) (w : List ℕ) → Programmed s b w → (σ : State) (k : ℕ) → k < 16 → (c : Command) → next b σ k ≡ some c → (x : ℕ)
    → x ≡ get_or w (first_in w k + (processor_of σ k).position) 0 → Coded s b k c x
unfolding next
coded s b w h σ k near c n x e = go (dec_lt (processor_of σ k).position (length (programme_of b k)))
  where
    go : Dec ((processor_of σ k).position < length (programme_of b k)) → Coded s b k c x
    go (no l) = not_some (sym (command-past (programme_of b k) (processor_of σ k).position (omega arith)) ∙ n)
    go (yes l) =
        let p = (processor_of σ k).position in
        let q : get_or (programme_of b k) p (run 0) ≡ c = some-injective _ _ (sym (command-at (programme_of b k) p l) ∙ n) in
        let d = h.decoded k near in
        let o : Known s c = subst (Known s) q (d.known p l) in
        let f : x ≡ word_by (amount_of s b k) c = e ∙ d.word p l ∙ ap (word_by (amount_of s b k)) q in
        let small = amount-small s b k h.ranged h.few near in
        record {
          known = o;
          kind = word-kind s h.ranged (amount_of s b k) small c o x f;
          number = word_number s h.ranged (amount_of s b k) small c o x f;
          amount = word-amount s h.ranged (amount_of s b k) small c o x f;
        }

ordered-set : (es : Steps) (order : List ℕ) (n k : ℕ) → length es ≤ n → Ordered es order → Ordered es (set order n k)
ordered-set [] order n k l h = tt
ordered-set (e ∷ es) order n k l h =
    (get_or-set_other order n (length es) k 0 (λ (q : length es ≡ n). omega arith) ∙ h.0, ordered-set es order n k (omega arith) h.1)

-- the ends after a step
module _ {s : Sheet} {b : Bundle} {es : Steps} {ρ τ : State} (k : ℕ) (r : Trail s b es ρ) (w ends : List ℕ) (clock : clock_in w k ≡ (processor_of τ k).clock) (long : most_ends ≤ length ends)
    (ended : (t : ℕ) → t < most_ends → get_or ends t 0 ≡ end_of r t) where
  end-run : (u x : ℕ) → kind_in x ≡ 1 → number_in x ≡ lay.tasks + u → u < most_ends → (n : next b ρ k ≡ some (run u)) (e : step_in s b (stated s b) ρ k ≡ some τ)
      → (t : ℕ) → t < most_ends → get_or (ends_with w ends k x) t 0 ≡ end_of (behind k (run u) r n e) t
  unfolding ends_with end_of
  end-run u x f g m n e t l =
      let z : number_in x - lay.tasks ≡ u = omega arith in
      let is_set = ap (λ (v : Bool). pick v (set ends (number_in x - lay.tasks) (clock_in w k)) ends) (eq-eqb (kind_in x) 1 f) ∙ ap (λ (i : ℕ). set ends i (clock_in w k)) z in
      ap (λ (o : List ℕ). get_or o t 0) is_set ∙
      ⊎_elim (λ (q : t ≡ u). rw (q, get_or-set_same ends u (clock_in w k) 0 (omega arith), eq-eqb u u refl) clock)
      (λ q. get_or-set_other ends u t (clock_in w k) 0 q ∙ ended t l ∙ sym (ap (λ (v : Bool). pick v (processor_of τ k).clock (end_of r t)) (ne_eqb t u q))) (equal-or t u)

  end-other : (c : Command) (x : ℕ) → kind_in x ≢ 1 → ((t : ℕ) → same (run t) c ≡ false) → (n : next b ρ k ≡ some c) (e : step_in s b (stated s b) ρ k ≡ some τ)
      → (t : ℕ) → t < most_ends → get_or (ends_with w ends k x) t 0 ≡ end_of (behind k c r n e) t
  unfolding ends_with end_of
  end-other c x f g n e t l = rw (ne_eqb (kind_in x) 1 f, g t) (ended t l)

  pub ends_on : (c : Command) (x : ℕ) → Coded s b k c x → (few : (u : ℕ) → Known s (run u) → u < most_ends) → (n : next b ρ k ≡ some c) (e : step_in s b (stated s b) ρ k ≡ some τ)
      → (t : ℕ) → t < most_ends → get_or (ends_with w ends k x) t 0 ≡ end_of (behind k c r n e) t
  ends_on (run u) x h few n e = end-run u x h.kind h.number (few u h.known) n e
  ends_on (send l) x h few n e = end-other (send l) x (λ q. omega (arith, h.kind)) (λ t. refl) n e
  ends_on (receive l) x h few n e = end-other (receive l) x (λ q. omega (arith, h.kind)) (λ t. refl) n e
  ends_on (release u) x h few n e = end-other (release u) x (λ q. omega (arith, h.kind)) (λ t. refl) n e
  ends_on (discard l) x h few n e = end-other (discard l) x (λ q. omega (arith, h.kind)) (λ t. refl) n e

length-ends : (w ends : List ℕ) (k x : ℕ) → length (ends_with w ends k x) ≡ length ends
unfolding ends_with
length-ends w ends k x = go (eqb (kind_in x) 1)
  where
    go : (u : Bool) → length (pick u (set ends (number_in x - lay.tasks) (clock_in w k)) ends) ≡ length ends
    go true = length-set ends (number_in x - lay.tasks) (clock_in w k)
    go false = refl

module _ {w last order ends : List ℕ} {k n : ℕ} (near : k < 16) where
  stepped : (s : Sheet) (b : Bundle) (x : ℕ) → x ≡ get_or w (get_or w k 0) 0 → (h : Noted s b w order ends n) → true ≡ can_step s b h.state k → Represents s b last (chosen h.state (step s b h.state k))
      → Noted s b last (set order n k) (ends_with last ends k x) (n + 1)
  unfolding step
  stepped s b x at h can there =
      let σ = h.state in
      let g = can-step s b σ k (sym can) in
      let τ = g.0 in
      let e = g.1 in
      let m = step_move s b σ k τ e in
      let rep : Represents s b last τ = subst (λ (o : Option State). Represents s b last (chosen σ o)) e there in
      let cd = coded s b w h.represents.programmed σ k near m.c m.comes x (at ∙ ap (λ (i : ℕ). get_or w i 0) (h.represents.next k near)) in
      let less : left b τ each + 1 ≡ left b σ each = ap (λ (q : State). left b q each + 1) m.here ∙ left-moved s b σ k m.c (stated s b k m.c) m.w h.represents.processors m.comes each in
      let is-count = h.count in
      record {
        steps = (k, m.c) ∷ h.steps;
        state = τ;
        trail = behind k m.c h.trail m.comes e;
        represents = rep;
        count = omega arith;
        ordered = (ap (λ (i : ℕ). get_or (set order n k) i 0) is-count ∙ get_or-set_same order n k 0 (omega (arith, h.room)), ordered-set h.steps order n k (omega arith) h.ordered);
        ended = ends_on k h.trail last ends (rep.clock k near) h.long h.ended m.c x cd (λ u o. omega (arith, h.represents.programmed.ranged.few_tasks)) m.comes e;
        room = omega (arith, h.room, length-set order n k);
        long = omega (arith, h.long, length-ends last ends k x);
      }

  pub note-more : (r : Bool) → r ≡ true → (x : ℕ) → x ≡ get_or w (get_or w k 0) 0 → (ends' : List ℕ) → ends' ≡ ends_with last ends k x → ChoiceIs w last k r
      → NoteIs w order ends n last (set order n k) ends' (n + 1)
  note-more r e x at ends' q h =
      rw q
      (record {
        long = h.steps.long;
        order_long = length-set order n k;
        ends_long = length-ends last ends k x;
        notes = λ s b g. let a = h.steps.agrees s b g.state g.represents in stepped s b x at g (sym e ∙ a.0) a.1;
      })

pub note-none : (w order ends : List ℕ) (n : ℕ) → NoteIs w order ends n w order ends n
note-none w order ends n = record { long = refl; order_long = refl; ends_long = refl; notes = λ s b h. h }

pub note-same : {w last order ends : List ℕ} {n k : ℕ} (r : Bool) → r ≡ false → ChoiceIs w last k r → NoteIs w order ends n last order ends (n + 0)
note-same {w} {last} {order} {ends} {n} r e h =
    let z : n ≡ n + 0 = omega arith in
    subst (NoteIs w order ends n last order ends) z (subst (λ (x : List ℕ). NoteIs w order ends n x order ends n) (sym (h.steps.same e)) (note-none w order ends n))

pub note-then : {w order ends u p q v r t : List ℕ} {n m i : ℕ} → NoteIs w order ends n u p q m → NoteIs u p q m v r t i → NoteIs w order ends n v r t i
note-then g h =
    record {
      long = h.long ∙ g.long;
      order_long = h.order_long ∙ g.order_long;
      ends_long = h.ends_long ∙ g.ends_long;
      notes = λ s b x. h.notes s b (g.notes s b x);
    }

pub note-as : {w order ends u p q : List ℕ} {n m i : ℕ} → m ≡ i → NoteIs w order ends n u p q m → NoteIs w order ends n u p q i
note-as {w} {order} {ends} {u} {p} {q} {n} e h = subst (NoteIs w order ends n u p q) e h

-- the end that is noted
pub noted-end : (w ends : List ℕ) (k x i v : ℕ) (last : List ℕ) → kind_in x ≡ 1 → i ≡ number_in x - lay.tasks → v ≡ clock_in w k → v < 4294967296 → last ≡ set ends i (v % 4294967296) → last ≡ ends_with w ends k x
unfolding ends_with
noted-end w ends k x i v last f g h l e =
    let z : v % 4294967296 ≡ clock_in w k = omega arith in
    e ∙ ap₂ (set ends) g z ∙ sym (ap (λ (u : Bool). pick u (set ends (number_in x - lay.tasks) (clock_in w k)) ends) (eq-eqb (kind_in x) 1 f))

pub no_end : (w ends : List ℕ) (k x : ℕ) → kind_in x ≢ 1 → ends ≡ ends_with w ends k x
unfolding ends_with
no_end w ends k x f = sym (ap (λ (u : Bool). pick u (set ends (number_in x - lay.tasks) (clock_in w k)) ends) (ne_eqb (kind_in x) 1 f))

-- a step is noted, as the code puts it
pub note-put : {w last order ends order' ends' : List ℕ} {k n : ℕ} → k < 16 → (r : Bool) → r ≡ true → (x : ℕ) {i : ℕ} → x ≡ get_or w i 0 → i ≡ get_or w k 0 → ChoiceIs w last k r → order' ≡ set order n k
    → ends' ≡ ends_with last ends k x → NoteIs w order ends n last order' ends' (n + 1)
note-put {w} {last} {order} {ends} {order'} {ends'} {k} {n} near r e x at there h p q =
    subst (λ (o : List ℕ). NoteIs w order ends n last o ends' (n + 1)) (sym p) (note-more near r e x (at ∙ ap (λ (j : ℕ). get_or w j 0) there) ends' q h)

pub choice-as : {w last : List ℕ} {k : ℕ} {r u : Bool} → r ≡ u → ChoiceIs w last k r → ChoiceIs w last k u
choice-as {w} {last} {k} e h = subst (ChoiceIs w last k) e h
