-- What 37 says where it does not apply: every release is right, so a run's inputs are still held, and no more is given back than was taken.
use Prim.Native.Nat.{ℕ, zero, suc, ◌+◌, ◌*◌, ◌≤◌, ◌<◌}
use native.Mathlib.Omega.{arith}
use native.Mathlib.Decide.{dec_lt}
use native.Mathlib.Nat.{mul-add, mul-zero, mul-one, mul-le-mul_left}
use mathlib.Core.Bool.{Bool, true, false, not, false≢true}
use mathlib.Core.Option.{Option, none, some}
use mathlib.Core.Path.{◌≡◌, refl, sym, ap, ap₂, ◌∙◌, subst}
use mathlib.Core.Logic.{◌≢◌}
use mathlib.Core.List.{List, [], ◌∷◌, ◌++◌, append_assoc, append-nil}
use lib.ListN.{take, drop, get_or, get_elem?, get_or-eq_default}
use lib.Dec.{eqb, ltb}
use borrow.Author.Tests.{eqb-true, eq-eqb, ne_eqb, ltb-true, not-false}
use Rattle.folds.specs.Folds.{pick, bit, both, or_else, sum}
use Rattle.folds.proofs.Tests.{both-parts, not_some}
use Rattle.folds.proofs.Laws.{sum-only, sum_zeros, sum-cong, sum-add, sum_mono}
use Rattle.sheet.specs.Sheet.{Sheet, Task, Link, no_task, no_link, task_count, link_count, store_of, bytes_of}
use Rattle.bundle.specs.Bundle.{Command, run, send, receive, release, discard, Bundle, programme_of}
use Rattle.bundle.specs.Sizes.{short_size}
use Rattle.bundle.specs.Lies.{size_of}
use Rattle.admission.specs.Counting.{weigh, kind, operand, same, is, need, gives, stored_by, in_use}
use Rattle.admission.specs.Releases.{is_release, gets, uses, held, right, wrong, wrong_from, wrong_in, at37}
use Rattle.admission.proofs.Weights.{weigh-split, weigh-drop, weigh-take, weigh-take-none, is-refl}

-- commands that are the same
abbrev make : ℕ → ℕ → Command
make k n = pick (eqb k 0) (run n) (pick (eqb k 1) (send n) (pick (eqb k 2) (receive n) (pick (eqb k 3) (release n) (discard n))))

make-of : (c : Command) → make (kind c) (operand c) ≡ c
make-of (run t) = refl
make-of (send l) = refl
make-of (receive l) = refl
make-of (release t) = refl
make-of (discard l) = refl

pub same-is : (c d : Command) → same c d ≡ true → c ≡ d
same-is c d e =
    let h = both-parts (eqb (kind c) (kind d)) (eqb (operand c) (operand d)) e in
    sym (make-of c) ∙ ap₂ make (eqb-true (kind c) (kind d) h.0) (eqb-true (operand c) (operand d) h.1) ∙ make-of d

pub is_one : (c d : Command) → 0 < is c d → c ≡ d
unfolding is
is_one c d h = go (same c d) refl
  where
    go : (u : Bool) → same c d ≡ u → c ≡ d
    go true q = same-is c d q
    go false q = absurd (omega (arith, ap bit q))

-- a release is no other command
pub plain-release : (c x : Command) → is_release c ≡ false → is_release x ≡ true → is c x ≡ 0
plain-release c x g h = go (dec_lt 0 (is c x))
  where
    go : Dec (0 < is c x) → is c x ≡ 0
    go (no n) = omega arith
    go (yes n) = let z : ◌≡◌ {A = Bool} false true = sym g ∙ ap is_release (is_one c x n) ∙ h in absurd (false≢true z)

pub release-plain : (x c : Command) → is_release x ≡ true → is_release c ≡ false → is x c ≡ 0
release-plain x c h g = go (dec_lt 0 (is x c))
  where
    go : Dec (0 < is x c) → is x c ≡ 0
    go (no n) = omega arith
    go (yes n) = let z : ◌≡◌ {A = Bool} false true = sym g ∙ ap is_release (sym (is_one x c n)) ∙ h in absurd (false≢true z)

-- where a command stands
pub stands_at_lem : (c : Command) (p : List Command) (i : ℕ) → 0 < weigh (is c) (take i p) → (j : ℕ) × (j < i) × (get_elem? p j ≡ some c)
unfolding weigh
stands_at_lem c p zero h = absurd (omega arith)
stands_at_lem c [] (suc i) h = absurd (omega arith)
stands_at_lem c (d ∷ p) (suc i) h = go (dec_lt 0 (is c d)) (stands_at_lem c p i)
  where
    go : Dec (0 < is c d) → (0 < weigh (is c) (take i p) → (j : ℕ) × (j < i) × (get_elem? p j ≡ some c)) → (j : ℕ) × (j < suc i) × (get_elem? (d ∷ p) j ≡ some c)
    go (yes g) r = (0, omega arith, ap some (sym (is_one c d g)))
    go (no g) r = let m = r (omega arith) in (suc m.0, omega (arith, m.1), m.2)

-- a command behind the place j weighs
pub weigh-behind : (f : Command → ℕ) (p : List Command) (i j : ℕ) (c : Command) → get_elem? p i ≡ some c → j < i → f c ≤ weigh f (drop (suc j) p)
unfolding weigh
weigh-behind f [] i j c e h = not_some e
weigh-behind f (d ∷ p) zero j c e h = absurd (omega arith)
weigh-behind f (d ∷ p) (suc i) zero c e h = omega (arith, weigh-drop f p i c e, weigh-split f p i)
weigh-behind f (d ∷ p) (suc i) (suc j) c e h = weigh-behind f p i j c e (omega arith)

-- a command that weighs stands somewhere
pub weighs : (f : Command → ℕ) (q : List Command) → 0 < weigh f q → (c : Command) × ((0 < f c) × (0 < weigh (is c) q))
unfolding weigh
weighs f [] h = absurd (omega arith)
weighs f (c ∷ q) h = go (dec_lt 0 (f c)) (weighs f q)
  where
    go : Dec (0 < f c) → (0 < weigh f q → (d : Command) × ((0 < f d) × (0 < weigh (is d) q))) → (d : Command) × ((0 < f d) × (0 < is d c + weigh (is d) q))
    go (yes g) r = (c, (g, omega (arith, is-refl c)))
    go (no g) r = let m = r (omega arith) in (m.0, (m.1.0, omega (arith, m.1.1)))

pub stands-behind : (c : Command) (p : List Command) (i : ℕ) → 0 < weigh (is c) (drop i p) → (q : ℕ) × (i ≤ q) × (get_elem? p q ≡ some c)
unfolding weigh
stands-behind c [] zero h = absurd (omega arith)
stands-behind c [] (suc i) h = absurd (omega arith)
stands-behind c (d ∷ p) (suc i) h = let m = stands-behind c p i h in (suc m.0, omega (arith, m.1), m.2)
stands-behind c (d ∷ p) zero h = go (dec_lt 0 (is c d)) (stands-behind c p 0)
  where
    go : Dec (0 < is c d) → (0 < weigh (is c) p → (q : ℕ) × (0 ≤ q) × (get_elem? p q ≡ some c)) → (q : ℕ) × (0 ≤ q) × (get_elem? (d ∷ p) q ≡ some c)
    go (yes g) r = (0, omega arith, ap some (sym (is_one c d g)))
    go (no g) r = let m = r (omega arith) in (suc m.0, omega arith, m.2)

-- f at the one place u, of n
pointed : (n : ℕ) (f : ℕ → ℕ) (u : ℕ) → (n ≤ u → f u ≡ 0) → sum n (λ t. f t * bit (eqb t u)) ≡ f u
pointed n f u h = go (dec_lt u n)
  where
    here-is : f u * bit (eqb u u) ≡ f u
    here-is = rw (eq-eqb u u refl) (mul-one (f u))

    else_is : (j : ℕ) → j ≢ u → f j * bit (eqb j u) ≡ 0
    else_is j d = rw (ne_eqb j u d) (mul-zero (f j))

    go : Dec (u < n) → sum n (λ t. f t * bit (eqb t u)) ≡ f u
    go (yes l) = sum-only n (λ t. f t * bit (eqb t u)) u l else_is ∙ here-is
    go (no l) = sum_zeros n (λ t. f t * bit (eqb t u)) (λ j m. else_is j (omega arith)) ∙ sym (h (omega arith))

nowhere : (n : ℕ) (f : ℕ → ℕ) → sum n (λ t. f t * 0) ≡ 0
nowhere n f = sum_zeros n (λ t. f t * 0) (λ j l. mul-zero (f j))

-- what commands weigh, by how often each stands there
total : (n m : ℕ) (f g : ℕ → ℕ) (mk ml : ℕ → Command) (w : Command → ℕ) → ((c : Command) → w c ≡ sum n (λ t. f t * is (mk t) c) + sum m (λ l. g l * is (ml l) c))
    → (q : List Command) → weigh w q ≡ sum n (λ t. f t * weigh (is (mk t)) q) + sum m (λ l. g l * weigh (is (ml l)) q)
unfolding weigh
total n m f g mk ml w h [] = omega (arith, nowhere n f, nowhere m g)
total n m f g mk ml w h (c ∷ q) =
    omega (
      arith,
      h c,
      total n m f g mk ml w h q,
      sum-cong n (λ t. f t * (is (mk t) c + weigh (is (mk t)) q)) (λ t. f t * is (mk t) c + f t * weigh (is (mk t)) q) (λ t l. mul-add (f t) (is (mk t) c) (weigh (is (mk t)) q)),
      sum-add n (λ t. f t * is (mk t) c) (λ t. f t * weigh (is (mk t)) q),
      sum-cong m (λ l. g l * (is (ml l) c + weigh (is (ml l)) q)) (λ l. g l * is (ml l) c + g l * weigh (is (ml l)) q) (λ l k. mul-add (g l) (is (ml l) c) (weigh (is (ml l)) q)),
      sum-add m (λ l. g l * is (ml l) c) (λ l. g l * weigh (is (ml l)) q),
    )

module _ (s : Sheet) where
  no_store : (u : ℕ) → task_count s ≤ u → store_of s u ≡ 0
  unfolding task_count store_of
  no_store u h = ap (λ (t : Task). t.store) (get_or-eq_default s.tasks no_task h)

  no_bytes : (u : ℕ) → link_count s ≤ u → bytes_of s u ≡ 0
  unfolding link_count bytes_of
  no_bytes u h = ap (λ (l : Link). l.bytes) (get_or-eq_default s.links no_link h)

  need-total : (q : List Command) → weigh (need s) q ≡ sum (task_count s) (λ t. store_of s t * weigh (is (run t)) q) + sum (link_count s) (λ l. bytes_of s l * weigh (is (receive l)) q)
  unfolding is
  need-total = total (task_count s) (link_count s) (store_of s) (bytes_of s) run receive (need s) one
    where
      one : (c : Command) → need s c ≡ sum (task_count s) (λ t. store_of s t * is (run t) c) + sum (link_count s) (λ l. bytes_of s l * is (receive l) c)
      one (run u) = omega (arith, pointed (task_count s) (store_of s) u (no_store u), nowhere (link_count s) (bytes_of s))
      one (send u) = omega (arith, nowhere (task_count s) (store_of s), nowhere (link_count s) (bytes_of s))
      one (receive u) = omega (arith, pointed (link_count s) (bytes_of s) u (no_bytes u), nowhere (task_count s) (store_of s))
      one (release u) = omega (arith, nowhere (task_count s) (store_of s), nowhere (link_count s) (bytes_of s))
      one (discard u) = omega (arith, nowhere (task_count s) (store_of s), nowhere (link_count s) (bytes_of s))

  gives-total : (q : List Command) → weigh (gives s) q ≡ sum (task_count s) (λ t. store_of s t * weigh (is (release t)) q) + sum (link_count s) (λ l. bytes_of s l * weigh (is (discard l)) q)
  unfolding is
  gives-total = total (task_count s) (link_count s) (store_of s) (bytes_of s) release discard (gives s) one
    where
      one : (c : Command) → gives s c ≡ sum (task_count s) (λ t. store_of s t * is (release t) c) + sum (link_count s) (λ l. bytes_of s l * is (discard l) c)
      one (release u) = omega (arith, pointed (task_count s) (store_of s) u (no_store u), nowhere (link_count s) (bytes_of s))
      one (send u) = omega (arith, nowhere (task_count s) (store_of s), nowhere (link_count s) (bytes_of s))
      one (discard u) = omega (arith, pointed (link_count s) (bytes_of s) u (no_bytes u), nowhere (task_count s) (store_of s))
      one (run u) = omega (arith, nowhere (task_count s) (store_of s), nowhere (link_count s) (bytes_of s))
      one (receive u) = omega (arith, nowhere (task_count s) (store_of s), nowhere (link_count s) (bytes_of s))

  -- every release of a programme is right
  abbrev pub Right : List Command → Type 0
  Right p = (i : ℕ) (c : Command) → get_elem? p i ≡ some c → is_release c ≡ true → right s (take i p) c (drop (suc i) p) ≡ true

  not-wrong : (q : List Command) (c : Command) (r : List Command) → wrong s q c r ≡ false → is_release c ≡ true → right s q c r ≡ true
  unfolding wrong
  not-wrong q c r e f = not-false (right s q c r) (sym (ap (λ (u : Bool). both u (not (right s q c r))) f) ∙ e)

  right-not : (q : List Command) (c : Command) (r : List Command) → (is_release c ≡ true → right s q c r ≡ true) → wrong s q c r ≡ false
  unfolding wrong
  right-not q c r h = go (is_release c) refl
    where
      go : (u : Bool) → is_release c ≡ u → both u (not (right s q c r)) ≡ false
      go false e = refl
      go true e = rw (h e)

  from-none : (o : ℕ) (q r : List Command) → wrong_from s o q r ≡ none → (i : ℕ) (c : Command) → get_elem? r i ≡ some c → is_release c ≡ true → right s (q ++ take i r) c (drop (suc i) r) ≡ true
  unfolding wrong_from wrong
  from-none o q [] e i c f g = not_some f
  from-none o q (d ∷ r) e i c f g = go (wrong s q d r) refl e i f (from-none (o + size_of d) (q ++ d ∷ []) r)
    where
      go : (u : Bool) → wrong s q d r ≡ u → pick u (some o) (wrong_from s (o + size_of d) (q ++ d ∷ []) r) ≡ none → (i : ℕ) → get_elem? (d ∷ r) i ≡ some c
          → (wrong_from s (o + size_of d) (q ++ d ∷ []) r ≡ none → (i : ℕ) (c : Command) → get_elem? r i ≡ some c → is_release c ≡ true → right s ((q ++ d ∷ []) ++ take i r) c (drop (suc i) r) ≡ true)
          → right s (q ++ take i (d ∷ r)) c (drop (suc i) (d ∷ r)) ≡ true
      go true w e i f ih = not_some (sym e)
      go false w e zero f ih =
          let z : d ≡ c = cc in
          rw (append-nil q) (not-wrong q c r (subst (λ (x : Command). wrong s q x r ≡ false) z w) g)
      go false w e (suc i) f ih = rw (append_assoc q (d ∷ []) (take i r)) at (ih e i c f g)

  none_from : (o : ℕ) (q r : List Command) → ((i : ℕ) (c : Command) → get_elem? r i ≡ some c → is_release c ≡ true → right s (q ++ take i r) c (drop (suc i) r) ≡ true) → wrong_from s o q r ≡ none
  unfolding wrong_from
  none_from o q [] h = refl
  none_from o q (d ∷ r) h =
      rw (right-not q d r (λ g. rw (append-nil q) at (h 0 d refl g)))
      (none_from (o + size_of d) (q ++ d ∷ []) r (λ i c f g. rw (append_assoc q (d ∷ []) (take i r)) (h (suc i) c f g)))

  in-none : (o : ℕ) (ps : List (List Command)) → wrong_in s o ps ≡ none → (k : ℕ) → Right (get_or ps k [])
  unfolding wrong_in
  in-none o [] e k = λ i c f g. not_some f
  in-none o (p ∷ ps) e k = go (wrong_from s (o + short_size) [] p) refl e k (in-none (o + short_size + weigh size_of p) ps)
    where
      go : (u : Option ℕ) → wrong_from s (o + short_size) [] p ≡ u → or_else u (wrong_in s (o + short_size + weigh size_of p) ps) ≡ none → (k : ℕ)
          → (wrong_in s (o + short_size + weigh size_of p) ps ≡ none → (k : ℕ) → Right (get_or ps k [])) → Right (get_or (p ∷ ps) k [])
      go (some x) w e k ih = not_some (sym e)
      go none w e zero ih = from-none (o + short_size) [] p w
      go none w e (suc k) ih = ih e k

  none_in : (o : ℕ) (ps : List (List Command)) → ((k : ℕ) → Right (get_or ps k [])) → wrong_in s o ps ≡ none
  unfolding wrong_in
  none_in o [] h = refl
  none_in o (p ∷ ps) h = rw (none_from (o + short_size) [] p (h 0)) (none_in (o + short_size + weigh size_of p) ps (λ k. h (suc k)))

  -- 37, of a bundle
  pub all_right : (b : Bundle) → at37 s b ≡ none → (k : ℕ) → Right (programme_of b k)
  unfolding at37 programme_of
  all_right b e k = in-none 0 b.programmes e k

  pub right-all : (b : Bundle) → ((k : ℕ) → Right (programme_of b k)) → at37 s b ≡ none
  unfolding at37 programme_of
  right-all b h = none_in 0 b.programmes h

  module _ (p : List Command) (all : Right p) where
    -- what a release at the place j asks: got before, not released before, not used behind
    pub record Placed (j : ℕ) (x : Command) : Type 0 where
      pub got : 0 < weigh (is (gets x)) (take j p)
      pub first : weigh (is x) (take j p) ≡ 0
      pub last : weigh (uses s x) (drop (suc j) p) ≡ 0

    pub placed : (j : ℕ) (x : Command) → get_elem? p j ≡ some x → is_release x ≡ true → Placed j x
    unfolding right held
    placed j x e f =
        let h = both-parts (held x (take j p)) _ (all j x e f) in
        let g = both-parts (ltb 0 (weigh (is (gets x)) (take j p))) _ h.0 in
        record { got = ltb-true 0 (weigh (is (gets x)) (take j p)) g.0; first = eqb-true (weigh (is x) (take j p)) 0 g.1; last = eqb-true (weigh (uses s x) (drop (suc j) p)) 0 h.1 }

    -- a thing that is used at the place i was not released before
    pub still : (x c : Command) (i : ℕ) → is_release x ≡ true → get_elem? p i ≡ some c → 0 < uses s x c → weigh (is x) (take i p) ≡ 0
    still x c i f e u = go (dec_lt 0 (weigh (is x) (take i p)))
      where
        go : Dec (0 < weigh (is x) (take i p)) → weigh (is x) (take i p) ≡ 0
        go (no h) = omega arith
        go (yes h) =
            let m = stands_at_lem x p i h in
            absurd (omega (arith, m.1, (placed m.0 x m.2 f).last, weigh-behind (uses s x) p i m.0 c e m.1))

    -- a release stands at most once, behind what it releases
    pub within-got : (x : Command) → is_release x ≡ true → (i : ℕ) → weigh (is x) (take i p) ≤ weigh (is (gets x)) (take i p)
    unfolding weigh
    within-got x f zero = omega arith
    within-got x f (suc i) = go (get_elem? p i) refl (within-got x f i)
      where
        next-is : (c : Command) → get_elem? p i ≡ some c → Dec (0 < is x c) → weigh (is x) (take i p) ≤ weigh (is (gets x)) (take i p) → weigh (is x) (take (suc i) p) ≤ weigh (is (gets x)) (take (suc i) p)
        next-is c e (no h) ih = omega (arith, weigh-take (is x) p i c e, weigh-take (is (gets x)) p i c e)
        next-is c e (yes h) ih =
            let z : c ≡ x = sym (is_one x c h) in
            let g = placed i x (e ∙ ap some z) f in
            omega (arith, weigh-take (is x) p i c e, weigh-take (is (gets x)) p i c e, g.first, g.got, ap (is x) z, is-refl x)

        go : (o : Option Command) → get_elem? p i ≡ o → weigh (is x) (take i p) ≤ weigh (is (gets x)) (take i p) → weigh (is x) (take (suc i) p) ≤ weigh (is (gets x)) (take (suc i) p)
        go none e ih = omega (arith, weigh-take-none (is x) p i e, weigh-take-none (is (gets x)) p i e)
        go (some c) e ih = next-is c e (dec_lt 0 (is x c)) ih

    -- so no more is given back than was taken
    backed : (i : ℕ) → weigh (gives s) (take i p) ≤ weigh (need s) (take i p)
    backed i =
        let q = take i p in
        omega (
          arith,
          gives-total q,
          need-total q,
          sum_mono (task_count s) (λ t. store_of s t * weigh (is (release t)) q) (λ t. store_of s t * weigh (is (run t)) q) (λ t l. mul-le-mul_left (store_of s t) (within-got (release t) refl i)),
          sum_mono (link_count s) (λ l. bytes_of s l * weigh (is (discard l)) q) (λ l. bytes_of s l * weigh (is (receive l)) q) (λ l m. mul-le-mul_left (bytes_of s l) (within-got (discard l) refl i)),
        )

    -- the store in use, with what was given back, is what was taken
    pub balance : (i : ℕ) → in_use s p i + weigh (gives s) (take i p) ≡ weigh (need s) (take i p)
    unfolding in_use weigh
    balance zero = refl
    balance (suc i) = go (get_elem? p i) refl (balance i)
      where
        go : (o : Option Command) → get_elem? p i ≡ o → in_use s p i + weigh (gives s) (take i p) ≡ weigh (need s) (take i p)
            → stored_by s o (in_use s p i) + weigh (gives s) (take (suc i) p) ≡ weigh (need s) (take (suc i) p)
        go none e ih = omega (arith, weigh-take-none (gives s) p i e, weigh-take-none (need s) p i e)
        go (some c) e ih = omega (arith, weigh-take (gives s) p i c e, weigh-take (need s) p i c e, backed (suc i))
