-- A state from which what is still to be read gives the answer w, and the ways on and out.
use Prim.Native.Nat.{ℕ, zero, suc, ◌+◌, ◌<◌}
use mathlib.Core.Path.{◌≡◌, refl, sym, ap, ◌∙◌}
use mathlib.Core.Bool.{Bool, true, false}
use mathlib.Core.Option.{Option, none, some}
use mathlib.Core.List.{List, [], ◌∷◌}
use native.Mathlib.Omega.{arith}
use native.Mathlib.Numerals.{add-one}
use lib.ListN.{length, get_or, drop, length-drop, drop_of_length-le}
use lib.Seq.{drop-cons}
use Rattle.folds.specs.Answers.{Answer, refused}
use Rattle.commands.specs.Reading.{Going}
use Rattle.commands.specs.Commands.{Format, Outcome, refuse, go, verdict, judge_kind, judge, onward, follow, read_from, read_all}

-- a command of kind k comes next: its first byte says so, and nothing refuses it
pub record Comes {P K A : Type 0} (F : Format P K A) (p : P) (k : K) (b : List ℕ) : Type 0 where
  pub more : 0 < length b
  pub kind : F.kind_of (get_or b 0 0) ≡ some k
  pub clear : F.fault p k (drop 1 b) ≡ none

module _ {P K A : Type 0} (F : Format P K A) where
  -- the command at an offset
  pub judge-at : (p : P) (b : List ℕ) (at : ℕ) → at < length b → judge F p (drop at b) ≡ judge_kind F p (F.kind_of (get_or b at 0)) (drop (at + 1) b)
  unfolding judge
  judge-at p b at h = rw (add-one, drop-cons b at 0 h)

  pub judge-end : (p : P) (b : List ℕ) (at : ℕ) → length b < at + 1 → judge F p (drop at b) ≡ refuse F.cut
  unfolding judge
  judge-end p b at h = rw (drop_of_length-le b {i = at} (omega arith))

  verdict-go : (k k' : K) (o : Option ℕ) → verdict F k o ≡ go k' → (k ≡ k') × (o ≡ none)
  verdict-go k k' none e = (cc, refl)
  verdict-go k k' (some r) e = let z : ◌≡◌ {A = ℕ} 0 1 = cc in absurd (omega arith)

  kind-go : (p : P) (o : Option K) (b : List ℕ) (k : K) → judge_kind F p o b ≡ go k → (o ≡ some k) × (F.fault p k b ≡ none)
  kind-go p none b k e = let z : ◌≡◌ {A = ℕ} 0 1 = cc in absurd (omega arith)
  kind-go p (some k') b k e =
      let v = verdict-go k' k (F.fault p k' b) e in
      (ap some v.0, ap (λ (x : K). F.fault p x b) (sym v.0) ∙ v.1)

  pub comes : (p : P) (b : List ℕ) (k : K) → judge F p b ≡ go k → Comes F p k b
  unfolding judge
  comes p [] k e = let z : ◌≡◌ {A = ℕ} 0 1 = cc in absurd (omega arith)
  comes p (c ∷ b) k e =
      let g = kind-go p (F.kind_of c) b k e in
      record { more = omega arith; kind = g.0; clear = g.1 }

  pub starts : (p : P) (b : List ℕ) → Going F (read_all F p b) p 0 b
  unfolding read_all
  starts p b = record { fuel = suc (length b); enough = omega arith; same = refl }

  module _ (w : Answer A) (p : P) (e : ℕ) (b : List ℕ) where
    goes_by : (f : ℕ) → length b < f → read_from F f p e b ≡ w → (k : K) → F.closes k ≡ false → judge F p b ≡ go k
        → Going F w (F.after p k (drop 1 b)) (e + (1 + F.width k)) (drop (1 + F.width k) b)
    unfolding read_from
    goes_by zero l h k c j = absurd (omega arith)
    goes_by (suc f) l h k c j =
        record { fuel = f; enough = simp length-drop (omega (arith, (comes p b k j).more)); same = sym (rw (j, c)) ∙ h }

    refuses-by : (f : ℕ) → length b < f → read_from F f p e b ≡ w → (r : ℕ) → judge F p b ≡ refuse r → w ≡ refused r e
    unfolding read_from
    refuses-by zero l h r j = absurd (omega arith)
    refuses-by (suc f) l h r j = sym h ∙ rw j

    ends_by : (f : ℕ) → length b < f → read_from F f p e b ≡ w → (k : K) → F.closes k ≡ true → judge F p b ≡ go k → w ≡ F.ended p e (drop 1 b)
    unfolding read_from
    ends_by zero l h k c j = absurd (omega arith)
    ends_by (suc f) l h k c j = sym h ∙ rw (j, c)

  pub goes : {w : Answer A} {p : P} {e : ℕ} {b : List ℕ} → Going F w p e b → (k : K) → F.closes k ≡ false → judge F p b ≡ go k
      → Going F w (F.after p k (drop 1 b)) (e + (1 + F.width k)) (drop (1 + F.width k) b)
  goes {w} {p} {e} {b} g = goes_by w p e b g.fuel g.enough g.same

  pub refuses : {w : Answer A} {p : P} {e : ℕ} {b : List ℕ} → Going F w p e b → (r : ℕ) → judge F p b ≡ refuse r → w ≡ refused r e
  refuses {w} {p} {e} {b} g = refuses-by w p e b g.fuel g.enough g.same

  pub ends : {w : Answer A} {p : P} {e : ℕ} {b : List ℕ} → Going F w p e b → (k : K) → F.closes k ≡ true → judge F p b ≡ go k → w ≡ F.ended p e (drop 1 b)
  ends {w} {p} {e} {b} g = ends_by w p e b g.fuel g.enough g.same

  -- enough fuel is enough
  fuel-free : (f g : ℕ) (p : P) (e : ℕ) (b : List ℕ) → length b < f → length b < g → read_from F f p e b ≡ read_from F g p e b
  unfolding read_from
  fuel-free zero g p e b h k = absurd (omega arith)
  fuel-free (suc f) zero p e b h k = absurd (omega arith)
  fuel-free (suc f) (suc g) p e b h k = split (judge F p b) refl (fuel-free f g)
    where
      closing : (x : K) (c : Bool) → 0 < length b → ((p' : P) (e' : ℕ) (b' : List ℕ) → length b' < f → length b' < g → read_from F f p' e' b' ≡ read_from F g p' e' b')
          → onward F (read_from F f) p e b x c ≡ onward F (read_from F g) p e b x c
      closing x true m ih = refl
      closing x false m ih = ih _ _ _ (simp length-drop (omega arith)) (simp length-drop (omega arith))

      split : (o : Outcome K) → judge F p b ≡ o → ((p' : P) (e' : ℕ) (b' : List ℕ) → length b' < f → length b' < g → read_from F f p' e' b' ≡ read_from F g p' e' b')
          → follow F (read_from F f) p e b (judge F p b) ≡ follow F (read_from F g) p e b (judge F p b)
      split (refuse r) j ih = rw j
      split (go x) j ih = rw j (closing x (F.closes x) (comes p b x j).more ih)

  -- the answer of a state of reading, by the least fuel that is enough
  pub going-is : {w : Answer A} {p : P} {e : ℕ} {b : List ℕ} → Going F w p e b → w ≡ read_from F (suc (length b)) p e b
  going-is {w} {p} {e} {b} g = sym g.same ∙ fuel-free g.fuel (suc (length b)) p e b g.enough (omega arith)

  pub going_on : (p : P) (e : ℕ) (b : List ℕ) → Going F (read_from F (suc (length b)) p e b) p e b
  going_on p e b = record { fuel = suc (length b); enough = omega arith; same = refl }
