-- Words raised by the hops of their messages, one by one; and that they are then the words of their commands.
use Prim.Native.Nat.{ℕ, ◌+◌, ◌*◌, ◌-◌, ◌/◌, ◌%◌, ◌≤◌, ◌<◌, max}
use mathlib.Core.Path.{◌≡◌, refl, sym, ap, ap₂, ◌∙◌}
use mathlib.Core.Bool.{true, false, true≢false}
use mathlib.Core.Logic.{inl, inr, ⊎_elim}
use mathlib.Core.List.{List}
use native.Mathlib.Omega.{arith}
use native.Mathlib.Numerals.{add-one}
use native.Mathlib.Decide.{dec_lt}
use native.Mathlib.Nat.{mul_comm, mul-le-mul, le_refl}
use borrow.Author.Tests.{eq-eqb, ne_eqb}
use lib.ListN.{length, get_or, set, length-set}
use lib.Seq.{get_or-set_same, get_or-set_other}
use Rattle.folds.proofs.Tests.{below_suc}
use Rattle.sheet.specs.Sheet.{Sheet, target_of, cost_of}
use Rattle.sheet.specs.Hops.{hops, link_time}
use Rattle.sheet.proofs.Hopping.{flat-time}
use Rattle.bundle.specs.Bundle.{Command, run, send, receive, release, discard, Bundle, programme_count}
use Rattle.bundle.specs.Fits.{Known as Declared}
use Rattle.admission.specs.Fields.{target_at, Known}
use Rattle.admission.specs.Messages.{home}
use Rattle.admission.specs.Notes.{slots_at, home_in}
use Rattle.admission.specs.declared.view.View.{View}
use Rattle.machine.specs.Machine.{travels}
use Rattle.stepping_machine.specs.Layout as lay
use Rattle.stepping_machine.specs.Words.{need_in, kind_in, number_in, amount_in, kind_of, number_of, amount_of, plain_amount, word_by, raised_word}
use Rattle.stepping_machine.specs.Represents.{Decoded}
use Rattle.stepping_machine.specs.Loads.{Homes, RaiseIs, WaysIs, NotedIs, HomesIs}
use Rattle.stepping_machine.proofs.Packing.{home-low, plain-small, amount-small, word_fits, word-kind, word_number, word-amount}

-- what each way through `raised` gives
module _ (sheet w : List ℕ) (middle k x : ℕ) where
  pub raised-send : (target home far r : ℕ) → kind_in x ≡ 2 → target ≡ get_or sheet (target_at middle (number_in x)) 0 → home ≡ need_in w target → far ≡ hops (k % 16) (home % 16)
      → r ≡ x + amount_in x * far - amount_in x → r ≡ raised_word sheet w middle k x
  unfolding raised_word
  raised-send target home far r e et eh ef er = er ∙ rw (eq-eqb (kind_in x) 2 e, ef, eh, et) refl

  pub raised-else : (kind_in x ≡ 2 → ⊥) → x ≡ raised_word sheet w middle k x
  unfolding raised_word
  raised-else e = rw (ne_eqb (kind_in x) 2 e) refl

-- a cost for each of few hops fits a word
pub product_small : (cost far : ℕ) → cost < lay.numbers → far ≤ 8 → cost * far < 4294967296
product_small cost far h g = omega (arith, rw (mul_comm cost far) at (mul-le-mul (le_refl cost) g))

-- the same by other words that have the same needs
raised-same : (sheet w u : List ℕ) (middle k x : ℕ) → ((t : ℕ) → t < 256 → need_in u t ≡ need_in w t) → ((i : ℕ) → get_or sheet i 0 < 256) → raised_word sheet u middle k x ≡ raised_word sheet w middle k x
unfolding raised_word
raised-same sheet w u middle k x same small = rw (same (get_or sheet (target_at middle (number_in x)) 0) (small _)) refl

-- the loop
pub raise-starts : (sheet w : List ℕ) (middle k a : ℕ) → RaiseIs sheet w w middle k a a
raise-starts sheet w middle k a = record { long = refl; raised = λ j l m. absurd (omega arith); other = λ j h. refl }

pub raise-more : (sheet w u x : List ℕ) (middle k a i y z : ℕ) → ((j : ℕ) → get_or sheet j 0 < 256) → lay.commands ≤ a → a ≤ i → RaiseIs sheet w u middle k a i → y ≡ get_or u i 0
    → z ≡ raised_word sheet u middle k y → x ≡ set u i (z % 4294967296) → RaiseIs sheet w x middle k a (i + 1)
raise-more sheet w u x middle k a i y z small high from g ey ez ex =
    let else : (j : ℕ) → (j ≡ i → ⊥) → get_or x j 0 ≡ get_or u j 0 = λ j d. ap (λ (l : List ℕ). get_or l j 0) ex ∙ get_or-set_other u i j _ 0 d in
    let here : y ≡ get_or w i 0 = ey ∙ g.other i (inr (omega arith)) in
    let now : z ≡ raised_word sheet w middle k (get_or w i 0) =
    ez ∙ raised-same sheet w u middle k y (λ t l. g.other (lay.needs + t) (inl (omega arith))) small ∙ ap (raised_word sheet w middle k) here in
    record {
      long = ap length ex ∙ length-set u i _ ∙ g.long;
      raised =
          λ j l m inside.
          ⊎_elim (λ (h : j < i). else j (λ q. omega arith) ∙ g.raised j l h inside)
          (λ (q : j ≡ i).
          rw q (ap (λ (l : List ℕ). get_or l i 0) ex ∙ get_or-set_same u i _ 0 (omega (arith, g.long)) ∙ ap (λ (n : ℕ). n % 4294967296) now)) (below_suc (rw add-one at m));
      other = λ j h. ⊎_elim (λ (q : j < a). else j (λ z. omega arith) ∙ g.other j (inl q)) (λ (q : i + 1 ≤ j). else j (λ z. omega arith) ∙ g.other j (inr (omega arith))) h;
    }

pub raise-ends : (sheet w u : List ℕ) (middle k a e i : ℕ) → RaiseIs sheet w u middle k a i → e ≤ i → i ≤ max a e → RaiseIs sheet w u middle k a e
raise-ends sheet w u middle k a e i g over most =
    record {
      long = g.long;
      raised = λ j l m inside. g.raised j l (omega arith) inside;
      other = λ j h. ⊎_elim (λ (q : j < a). g.other j (inl q)) (λ (q : e ≤ j). elim (dec_lt j a) [ yes l ↦ g.other j (inl l) | no l ↦ g.other j (inr (omega arith)) ]) h;
    }

-- the word of each command
module _ (s : Sheet) (b : Bundle) (sheet w : List ℕ) (v : View) (k : ℕ) (known : Known s sheet v) (few : programme_count b ≤ 16) (near : k < 16) where
  flat-amount : s.cube ≡ false → (c : Command) → plain_amount s c ≡ amount_of s b k c
  unfolding travels
  flat-amount e (run t) = refl
  flat-amount e (send l) = sym (flat-time s l k (home b (run (target_of s l))) e)
  flat-amount e (receive l) = refl
  flat-amount e (release t) = refl
  flat-amount e (discard l) = refl

  -- a board that is no cube
  pub flat-decoded : s.cube ≡ false → (a : ℕ) (cs : List Command) → Decoded s (plain_amount s) w a cs → Decoded s (amount_of s b k) w a cs
  unfolding word_by
  flat-decoded e a cs h = record { known = h.known; word = λ i l. h.word i l ∙ rw (flat-amount e (get_or cs i (run 0))) refl; end = h.end }

  -- a cube
  module _ (wired : s.cube ≡ true) (homes : Homes s b w) where
    travel : (l : ℕ) → travels s b k l ≡ cost_of s l * hops k (home b (run (target_of s l)))
    unfolding travels link_time
    travel l = rw wired refl

    raised-word : (c : Command) → Declared s c → raised_word sheet w v.middle k (word_by (plain_amount s) c) ≡ word_by (amount_of s b k) c
    unfolding word_by
    raised-word c o =
        by c o (word-kind s known.ranged (plain_amount s) (plain-small s known.ranged) c o _ refl)
        (word_number s known.ranged (plain_amount s) (plain-small s known.ranged) c o _ refl)
        (word-amount s known.ranged (plain_amount s) (plain-small s known.ranged) c o _ refl)
      where
        by : (c : Command) → Declared s c → kind_in (word_by (plain_amount s) c) ≡ kind_of c → number_in (word_by (plain_amount s) c) ≡ number_of c → amount_in (word_by (plain_amount s) c) ≡ plain_amount s c
            → raised_word sheet w v.middle k (word_by (plain_amount s) c) ≡ word_by (amount_of s b k) c
        by (run t) o ek en ea = sym (raised-else sheet w v.middle k (word_by (plain_amount s) (run t)) (λ q. omega arith))
        by (receive l) o ek en ea = sym (raised-else sheet w v.middle k (word_by (plain_amount s) (receive l)) (λ q. omega arith))
        by (release t) o ek en ea = sym (raised-else sheet w v.middle k (word_by (plain_amount s) (release t)) (λ q. omega arith))
        by (discard l) o ek en ea = sym (raised-else sheet w v.middle k (word_by (plain_amount s) (discard l)) (λ q. omega arith))
        by (send l) o ek en ea =
            let x = word_by (plain_amount s) (send l) in
            let house = home b (run (target_of s l)) in
            let low = home-low b (run (target_of s l)) few in
            let there : target_of s l ≡ get_or sheet (target_at v.middle (number_in x)) 0 = sym (known.fields.target l o) ∙ ap (λ (i : ℕ). get_or sheet (target_at v.middle i) 0) (sym en) in
            let p : k ≡ k % 16 = omega arith in
            let q : house ≡ house % 16 = omega arith in
            let told : word_by (amount_of s b k) (send l) ≡ x + amount_in x * hops k house - amount_in x = rw ea (omega (arith, travel l)) in
            sym
            (raised-send sheet w v.middle k x (target_of s l) house (hops k house) _ ek there (sym (homes.at wired (target_of s l) (known.ranged.target l o))) (ap₂ hops p q) told)

    pub raised-decoded : (last : List ℕ) (a e : ℕ) (cs : List Command) → RaiseIs sheet w last v.middle k a e → e ≡ a + length cs → e < length w → Decoded s (plain_amount s) w a cs
        → Decoded s (amount_of s b k) last a cs
    raised-decoded last a e cs g ee inside h =
        record {
          known = h.known;
          word =
              λ i l.
              let c = get_or cs i (run 0) in
              let o = h.known i l in
              let word : raised_word sheet w v.middle k (get_or w (a + i) 0) ≡ word_by (amount_of s b k) c = ap (raised_word sheet w v.middle k) (h.word i l) ∙ raised-word c o in
              let fits = word_fits s known.ranged (amount_of s b k) (amount-small s b k known.ranged few near) c o _ refl in
              g.raised (a + i) (omega arith) (omega arith) (omega arith) ∙ ap (λ (n : ℕ). n % 4294967296) word ∙ omega arith;
          end = g.other (a + length cs) (inr (omega arith)) ∙ h.end;
        }

-- on every board
module _ (sheet w last : List ℕ) (v : View) (k a e : ℕ) (near : k < 16) where
  pub ways-cube : v.cube ≡ true → RaiseIs sheet w last v.middle k a e → WaysIs sheet w last v k a e
  ways-cube c g =
      record {
        long = g.long;
        other = g.other;
        is = λ s b cs known few homes ee inside h. raised-decoded s b sheet w v k known few near (known.wired ∙ c) homes last a e cs g ee inside h;
      }

  pub ways-flat : v.cube ≡ false → last ≡ w → WaysIs sheet w last v k a e
  ways-flat c q =
      rw q
      record {
        long = refl;
        other = λ i h. refl;
        is = λ s b cs known few homes ee inside h. flat-decoded s b sheet w v k known few near (known.wired ∙ c) a cs h;
      }

-- the programmes that run the tasks, one by one
pub noted-starts : (w : List ℕ) → NotedIs w w 0
noted-starts w = record { long = refl; homes = λ t l. absurd (omega arith); other = λ i h. refl }

pub noted_more : (w u x : List ℕ) (t y : ℕ) → t < 256 → lay.extent ≤ length w → NotedIs w u t → y ≡ home_in u t → y < 1048576 → x ≡ set u (lay.needs + t) (y % 4294967296) → NotedIs w x (t + 1)
noted_more w u x t y near long g ey small ex =
    let else : (i : ℕ) → (i ≡ lay.needs + t → ⊥) → get_or x i 0 ≡ get_or u i 0 = λ i d. ap (λ (l : List ℕ). get_or l i 0) ex ∙ get_or-set_other u (lay.needs + t) i _ 0 d in
    let here : y ≡ home_in w t = ey ∙ ap (λ (n : ℕ). n / 4096 - 1) (g.other (slots_at + t) (inr (omega arith))) in
    record {
      long = ap length ex ∙ length-set u (lay.needs + t) _ ∙ g.long;
      homes =
          λ j l.
          ⊎_elim (λ (h : j < t). else (lay.needs + j) (λ q. omega arith) ∙ g.homes j h)
          (λ (q : j ≡ t). rw q (ap (λ (l : List ℕ). get_or l (lay.needs + t) 0) ex ∙ get_or-set_same u (lay.needs + t) _ 0 (omega (arith, g.long)) ∙ omega arith)) (below_suc (rw add-one at l));
      other = λ i h. else i (λ q. ⊎_elim (λ z. omega arith) (λ z. omega arith) h) ∙ g.other i h;
    }

pub homes-cube : (w last : List ℕ) (v : View) → NotedIs w last v.tasks → HomesIs w last v
homes-cube w last v g = record { long = g.long; homes = λ c. g.homes; other = g.other }

pub homes-flat : (w : List ℕ) (v : View) → v.cube ≡ false → HomesIs w w v
homes-flat w v e = record { long = refl; homes = λ c. absurd (true≢false (sym c ∙ e)); other = λ i h. refl }
