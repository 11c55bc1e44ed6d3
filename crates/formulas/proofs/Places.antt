-- Where reading stops: what was read so far can be gone on with, and the next byte cannot stand there.
use Prim.Native.Nat.{ℕ, suc, ◌+◌, ◌≤◌, ◌<◌, ◌-◌}
use native.Mathlib.Omega.{arith}
use mathlib.Core.Path.{◌≡◌, refl, sym, ap, subst, ◌∙◌}
use mathlib.Core.Option.{Option, none, some}
use mathlib.Core.List.{List, [], ◌∷◌, ◌++◌, append_assoc}
use lib.ListN.{length, drop, length-append, take, take-append-drop}
use native.Mathlib.Decide.{dec_lt}
use native.Mathlib.Numerals.{add-one}
use x.{}
use lib.Seq.{take_at, take-take}
use Rattle.formulas.specs.Grammar.{Sum, Atom, letter, group, kind_of, Reading, Begins, closer, first_letter}
use Rattle.formulas.specs.Scanning.{Spot, sum_at, State, want, have, step_by, whole, ended, reads, stops, scan, start, read_text}
use Rattle.formulas.specs.Meaning.{OutsideAt}
use Rattle.formulas.proofs.Scans.{scan_step, scan-stop, scan-end, reading-read}
use Rattle.formulas.proofs.Sounds.{read-reading}

-- the bytes that close what is open
abbrev closers : List Spot → List ℕ
closers [] = []
closers (s ∷ k) = closer ∷ closers k

abbrev pub finish : State → List ℕ
finish (want n k s) = first_letter ∷ closers k
finish (have n k s a) = closers k

closed : (k : List Spot) (n : ℕ) (s : Spot) (a : Atom) → (x : Sum) × (scan (have n k s a) (closers k) ≡ reads x)
unfolding kind_of
closed [] n s a = (sum_at s a, scan-end (have n [] s a))
closed (o ∷ k) n s a = let r = closed k (suc n) o (group (sum_at s a)) in (r.0, shut_one ∙ r.1)
  where
    shut_one : scan (have n (o ∷ k) s a) (closer ∷ closers k) ≡ scan (have (suc n) k o (group (sum_at s a))) (closers k)
    shut_one = scan_step (have n (o ∷ k) s a) (have (suc n) k o (group (sum_at s a))) closer (closers k) refl

-- every state can be brought to a good end
pub finishes : (s : State) → (x : Sum) × (scan s (finish s) ≡ reads x)
unfolding kind_of
finishes (have n k s a) = closed k n s a
finishes (want n k s) = let r = closed k n s (letter first_letter) in (r.0, one-letter ∙ r.1)
  where
    one-letter : scan (want n k s) (first_letter ∷ closers k) ≡ scan (have n k s (letter first_letter)) (closers k)
    one-letter = scan_step (want n k s) (have n k s (letter first_letter)) first_letter (closers k) refl

-- no text goes on from s with the first byte of r
abbrev pub Dead : State → List ℕ → Type 0
Dead s [] = ended (whole s) ≡ stops []
Dead s (c ∷ r) = step_by s (kind_of c) c ≡ none

pub record Stopped (s : State) (b r : List ℕ) : Type 0 where
  pub seen : List ℕ
  pub split : b ≡ seen ++ r
  pub state : State
  pub reached : (w : List ℕ) → scan s (seen ++ w) ≡ scan state w
  pub dead : Dead state r

end-stops : (s : State) (r : List ℕ) → ended (whole s) ≡ stops r → Stopped s [] r
end-stops (have n [] s a) r e = let z : ◌≡◌ {A = ℕ} 0 1 = cc in absurd (omega arith)
end-stops (have n (o ∷ k) s a) r e = let q : [] ≡ r = cc in rw (← q) (record { seen = []; split = refl; state = have n (o ∷ k) s a; reached = λ w. refl; dead = refl })
end-stops (want n k s) r e = let q : [] ≡ r = cc in rw (← q) (record { seen = []; split = refl; state = want n k s; reached = λ w. refl; dead = refl })

pub stopped : (b : List ℕ) (s : State) (r : List ℕ) → scan s b ≡ stops r → Stopped s b r
stopped [] s r e = end-stops s r (sym (scan-end s) ∙ e)
stopped (c ∷ b) s r e = go (λ t q. stopped b t r q) (step_by s (kind_of c) c) refl
  where
    go : ((t : State) → scan t b ≡ stops r → Stopped t b r) → (o : Option State) → step_by s (kind_of c) c ≡ o → Stopped s (c ∷ b) r
    go rest none q =
        let f : stops (c ∷ b) ≡ stops r = sym (scan-stop s c b q) ∙ e in
        let g : c ∷ b ≡ r = cc in
        rw (← g) (record { seen = []; split = refl; state = s; reached = λ w. refl; dead = q })
    go rest (some t) q =
        let i = rest t (sym (scan_step s t c b q) ∙ e) in
        record {
          seen = c ∷ i.seen;
          split = ap (λ (l : List ℕ). c ∷ l) i.split;
          state = i.state;
          reached = λ w. scan_step s t c (i.seen ++ w) q ∙ i.reached w;
          dead = i.dead;
        }

module _ (b r : List ℕ) (e : read_text b ≡ stops r) (here : Stopped start b r) where
  -- some allowed text begins with what was read
  pub goes_on : Begins here.seen
  goes_on =
      let f = finishes here.state in
      record { rest = finish here.state; reading = read-reading (here.seen ++ finish here.state) f.0 (here.reached (finish here.state) ∙ f.1) }

  -- none is the text itself
  pub none_is : Reading b → ⊥
  none_is g = let q : stops r ≡ reads g.formula = sym e ∙ reading-read g in let z : ◌≡◌ {A = ℕ} 0 1 = cc in omega arith

  -- and none begins with one byte more
  pub no_more : (c : ℕ) (t : List ℕ) → r ≡ c ∷ t → Begins (here.seen ++ (c ∷ [])) → ⊥
  no_more c t q g =
      let f : scan start (here.seen ++ (c ∷ g.rest)) ≡ reads g.reading.formula =
      ap (scan start) (sym (append_assoc here.seen (c ∷ []) g.rest)) ∙ reading-read g.reading
      in
      let d : Dead here.state (c ∷ t) = subst (Dead here.state) q here.dead in
      let h : stops (c ∷ g.rest) ≡ reads g.reading.formula = sym (here.reached (c ∷ g.rest) ∙ scan-stop here.state c g.rest d) ∙ f in
      let z : ◌≡◌ {A = ℕ} 0 1 = cc in
      omega arith

-- what was read, as the front of the text
split-length : (a r b : List ℕ) → b ≡ a ++ r → length b - length r ≡ length a
split-length a r b e = rw e (simp length-append (omega arith))

take-suc-more : (a : List ℕ) (c : ℕ) (t : List ℕ) → take (suc (length a)) (a ++ (c ∷ t)) ≡ a ++ (c ∷ [])
take-suc-more [] c t = refl
take-suc-more (x ∷ a) c t = ap (λ (l : List ℕ). x ∷ l) (take-suc-more a c t)

take_more : (a : List ℕ) (c : ℕ) (t : List ℕ) → take (length a + 1) (a ++ (c ∷ t)) ≡ a ++ (c ∷ [])
take_more a c t = rw add-one (take-suc-more a c t)

further : (b r : List ℕ) (e : read_text b ≡ stops r) (here : Stopped start b r) (t : List ℕ) → r ≡ t → length here.seen < length b → Begins (take (length here.seen + 1) b) → ⊥
further b r e here [] q l g =
    let h : length b ≡ length here.seen + length r = ap length here.split ∙ length-append here.seen r in
    let k : length r ≡ 0 = ap length q in
    omega arith
further b r e here (c ∷ t) q l g =
    let f : take (length here.seen + 1) b ≡ here.seen ++ (c ∷ []) =
    ap (take (length here.seen + 1)) (here.split ∙ ap (λ (x : List ℕ). here.seen ++ x) q) ∙ take_more here.seen c t
    in
    no_more b r e here c t q (subst Begins f g)

located : (b r : List ℕ) (e : read_text b ≡ stops r) (here : Stopped start b r) → OutsideAt b (length here.seen)
located b r e here =
    let h : length b ≡ length here.seen + length r = ap length here.split ∙ length-append here.seen r in
    let f : take (length here.seen) b ≡ here.seen = ap (take (length here.seen)) here.split ∙ take_at here.seen r (length here.seen) refl in
    record { inside = omega arith; no_reading = none_is b r e here; so_far = subst Begins (sym f) (goes_on b r e here); no_further = further b r e here r refl }

-- the place of a text at which reading stops
pub place-of : (b r : List ℕ) → read_text b ≡ stops r → OutsideAt b (length b - length r)
place-of b r e =
    let here = stopped b start r e in
    subst (OutsideAt b) (sym (split-length here.seen r b here.split)) (located b r e here)

shorter : (b : List ℕ) (p q : ℕ) → p ≤ q → Begins (take q b) → Begins (take p b)
shorter b p q l g =
    let e : take p b ++ (drop p (take q b) ++ g.rest) ≡ take q b ++ g.rest =
    sym (append_assoc (take p b) (drop p (take q b)) g.rest)
    ∙ ap (λ (x : List ℕ). (x ++ drop p (take q b)) ++ g.rest) (sym (take-take p q b l))
    ∙ ap (λ (x : List ℕ). x ++ g.rest) (take-append-drop p (take q b))
    in
    record { rest = drop p (take q b) ++ g.rest; reading = subst Reading (sym e) g.reading }

-- a text has one place at most
pub one_place : (b : List ℕ) (p q : ℕ) → OutsideAt b p → OutsideAt b q → p ≡ q
one_place b p q x y = go (dec_lt p q) (dec_lt q p)
  where
    before : (p q : ℕ) → p < q → OutsideAt b p → OutsideAt b q → ⊥
    before p q l x y = x.no_further (omega (arith, y.inside)) (shorter b (p + 1) q (omega arith) y.so_far)

    go : Dec (p < q) → Dec (q < p) → p ≡ q
    go (yes l) d = absurd (before p q l x y)
    go (no l) (yes m) = absurd (before q p m y x)
    go (no l) (no m) = omega arith
