-- A range of words cleared one after the other, or block by block.
use Prim.Native.Nat.{ℕ, ◌+◌, ◌≤◌, ◌<◌, max}
use mathlib.Core.Path.{◌≡◌, refl, ap, sym, ◌∙◌, subst}
use mathlib.Core.Logic.{inl, inr, ⊎_elim}
use mathlib.Core.List.{List}
use native.Mathlib.Omega.{arith}
use native.Mathlib.Decide.{dec_lt, ℕ_discrete}
use native.Mathlib.Nat.{le_refl, le_trans, le_of_eq, add-le-add, add-le-add_iff_right}
use lib.Bits.{bit_or, or_add_and, and_le_r, or_comm}
use lib.ListN.{length, get_or, set, length-set, replicate, length-replicate, get_or-replicate}
use lib.Seq.{get_or-set_same, get_or-set_other, ext_get_or}
use Rattle.workspace.specs.Area.{ClearIs, UnitedIs}

-- of the words from a up to e, those before i are cleared
pub record Clearing (v w : List ℕ) (a e i : ℕ) : Type 0 where
  pub from : a ≤ i
  pub to : i ≤ max a e
  pub done : ClearIs v w a i

pub clearing-starts : (v : List ℕ) (a e : ℕ) → Clearing v v a e a
clearing-starts v a e =
    record { from = omega arith; to = omega arith; done = record { long = refl; zeros = λ j l m. absurd (omega arith); other = λ j l. refl } }

pub clearing-more : {v w : List ℕ} {a e i : ℕ} (u : List ℕ) → i < e → e ≤ length v → Clearing v w a e i → u ≡ set w i 0 → Clearing v u a e (i + 1)
clearing-more {v} {w} {a} {e} {i} u m b h q =
    rw q
    (record {
      from = omega (arith, h.from);
      to = omega arith;
      done =
          record {
            long = simp length-set h.done.long;
            zeros = λ j l n. elim (ℕ_discrete j i) [ yes d ↦ here j d | no d ↦ get_or-set_other w i j 0 0 d ∙ h.done.zeros j l (omega arith) ];
            other =
                λ j o.
                ⊎_elim (λ (l : j < a). get_or-set_other w i j 0 0 (λ d. omega (arith, h.from)) ∙ h.done.other j (inl l))
                (λ (l : i + 1 ≤ j). get_or-set_other w i j 0 0 (λ d. omega arith) ∙ h.done.other j (inr (omega arith))) o;
          };
    })
  where
    here : (j : ℕ) → j ≡ i → get_or (set w i 0) j 0 ≡ 0
    here j d = ap (λ (n : ℕ). get_or (set w i 0) n 0) d ∙ get_or-set_same w i 0 0 (omega (arith, h.done.long))

pub clearing-ends : {v w : List ℕ} {a e i : ℕ} → Clearing v w a e i → e ≤ i → ClearIs v w a e
clearing-ends {v} {w} {a} {e} {i} h l =
    record {
      long = h.done.long;
      zeros = λ j m n. h.done.zeros j m (omega arith);
      other =
          λ j o.
          ⊎_elim (λ (m : j < a). h.done.other j (inl m))
          (λ (m : e ≤ j). elim (dec_lt j a) [ yes n ↦ h.done.other j (inl n) | no n ↦ h.done.other j (inr (omega (arith, h.to))) ]) o;
    }

-- a block behind those that are cleared
pub cleared-none : (v : List ℕ) (a : ℕ) → ClearIs v v a a
cleared-none v a = record { long = refl; zeros = λ j l m. absurd (omega arith); other = λ j o. refl }

pub cleared-then : {u v w : List ℕ} {a m e : ℕ} → a ≤ m → m ≤ e → ClearIs u v a m → ClearIs v w m e → ClearIs u w a e
cleared-then {u} {v} {w} {a} {m} {e} b c f g =
    record {
      long = g.long ∙ f.long;
      zeros = λ j l n. elim (dec_lt j m) [ yes d ↦ g.other j (inl d) ∙ f.zeros j l d | no d ↦ g.zeros j (omega arith) n ];
      other =
          λ j o.
          ⊎_elim (λ (l : j < a). g.other j (inl (omega arith)) ∙ f.other j (inl l)) (λ (l : e ≤ j). g.other j (inr l) ∙ f.other j (inr (omega arith))) o;
    }

pub cleared-all : {v w : List ℕ} {e : ℕ} → e ≡ length v → ClearIs v w 0 e → w ≡ replicate (length v) 0
cleared-all {v} {w} q h =
    ext_get_or 0 w (replicate (length v) 0) (h.long ∙ sym (length-replicate (length v) 0))
    (λ i l. let k : i < length v = omega (arith, h.long) in h.zeros i (omega arith) (omega arith) ∙ sym (get_or-replicate (length v) i 0 0 k))

-- `|` is no less than either side
or_left : (x y : ℕ) → x ≤ bit_or x y
or_left x y = (add-le-add_iff_right y).0 (le_trans (le_of_eq (sym (or_add_and x y))) (add-le-add (le_refl (bit_or x y)) (and_le_r x y)))

or_right : (x y : ℕ) → y ≤ bit_or x y
or_right x y = subst (λ (z : ℕ). y ≤ z) (or_comm y x) (or_left y x)

pub united-none : (w : List ℕ) (a r : ℕ) → UnitedIs w a a r
united-none w a r = record { most = λ i l m. absurd (omega arith) }

pub united-more : {w : List ℕ} {a i r : ℕ} → UnitedIs w a i r → UnitedIs w a (i + 1) (bit_or r (get_or w i 0))
united-more {w} {a} {i} {r} h =
    record {
      most =
          λ j l m.
          elim (ℕ_discrete j i) [
            | yes d ↦ subst (λ (n : ℕ). get_or w n 0 ≤ bit_or r (get_or w i 0)) (sym d) (or_right r (get_or w i 0))
            | no d ↦ le_trans (h.most j l (omega arith)) (or_left r (get_or w i 0))
          ];
    }

-- words that have no bit are clear
pub united-clear : {w : List ℕ} {a e r : ℕ} → UnitedIs w a e r → r ≡ 0 → ClearIs w w a e
united-clear h q = record { long = refl; zeros = λ j l m. omega (arith, h.most j l m); other = λ j o. refl }
