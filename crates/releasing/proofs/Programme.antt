-- One programme with its releases: what stands where, and that each release is right and could stand nowhere earlier.
use Prim.Native.Nat.{ℕ, zero, suc, ◌+◌, ◌≤◌, ◌<◌}
use native.Mathlib.Omega.{arith}
use native.Mathlib.Decide.{dec_lt}
use mathlib.Core.Bool.{Bool, true, false, not, false≢true, true≢false}
use mathlib.Core.Option.{Option, none, some}
use mathlib.Core.Path.{◌≡◌, refl, sym, ap, ◌∙◌, subst}
use mathlib.Core.Logic.{◌≢◌, ◌⊎◌, inl, inr}
use mathlib.Core.List.{List, [], ◌∷◌, ◌++◌}
use lib.ListN.{length, take, drop, get_elem?}
use lib.Seq.{take_all}
use lib.Dec.{eqb, ltb}
use borrow.Author.Tests.{eqb-true, eq-eqb, ne_eqb, ltb-true, lt-ltb, le-ltb}
use Rattle.folds.specs.Folds.{pick, bit, sum, gather}
use Rattle.folds.proofs.Tests.{both-parts, parts-both, not_some, equal-or}
use Rattle.folds.proofs.Laws.{sum-only, sum_zeros, first_some, first-none, first-lowest, first_found}
use Rattle.sheet.specs.Sheet.{Sheet, task_count, link_count}
use Rattle.bundle.specs.Bundle.{Command, run, send, receive, release, discard}
use Rattle.admission.specs.Counting.{weigh, is, need, gives, in_use}
use Rattle.admission.specs.Releases.{is_release, gets, uses_result, uses_message, uses, held, right}
use Rattle.admission.specs.Messages.{before}
use Rattle.admission.proofs.Weights.{weigh-split, weigh-drop, weigh-append, weigh-gather, is-refl}
use Rattle.admission.proofs.Before.{before-skip}
use Rattle.admission.proofs.Rights.{plain-release, release-plain, Right, balance}
use Rattle.admission.proofs.Walking.{each-elem}
use Rattle.admission.proofs.Ranks.{weigh-rises}
use Rattle.releasing.specs.Releasing.{right_at, earliest, is_at, due_at, releases_at, rest_with, released}
use Rattle.bundle.specs.Fits.{Each}
use Rattle.bundle.proofs.Parts.{each_append}
use Rattle.releasing.proofs.Each.{each-gather}

pick_same : (u : Bool) (x : ℕ) → pick u x x ≡ x
pick_same true x = refl
pick_same false x = refl

drop_all : {A : Type 0} (p : List A) → drop (length p) p ≡ []
drop_all [] = refl
drop_all (c ∷ p) = drop_all p

-- a command of the programme's own
abbrev pub own : Command → ℕ
own c = bit (not (is_release c))

-- a weight that releases do not have
abbrev pub Blind : (Command → ℕ) → Type 0
Blind f = (c : Command) → is_release c ≡ true → f c ≡ 0

-- a list of releases that belong behind the first i commands
abbrev pub Due : Sheet → List Command → ℕ → Command → Type 0
Due s p i x = (is_release x ≡ true) × (is_at (earliest s p x) i ≡ true)

-- no release
abbrev pub Plain : Command → Type 0
Plain c = is_release c ≡ false

pub weigh-blind : (f : Command → ℕ) → Blind f → (q : List Command) → Each (λ x. is_release x ≡ true) q → weigh f q ≡ 0
unfolding weigh
weigh-blind f h [] o = refl
weigh-blind f h (c ∷ q) o = omega (arith, h c o.0, weigh-blind f h q o.1)

each_map : {A : Type 0} (P Q : A → Type 0) → ((x : A) → P x → Q x) → (xs : List A) → Each P xs → Each Q xs
each_map P Q f [] h = tt
each_map P Q f (x ∷ xs) h = (f x h.0, each_map P Q f xs h.1)

-- a command that is no release is not counted at one
pub is-blind : (c : Command) → is_release c ≡ false → Blind (is c)
is-blind c h d g = plain-release c d h g

pub own-blind : Blind own
own-blind c h = rw h

gets-plain : (x : Command) → is_release (gets x) ≡ false
gets-plain (run t) = refl
gets-plain (send l) = refl
gets-plain (receive l) = refl
gets-plain (release t) = refl
gets-plain (discard l) = refl

result-blind : (s : Sheet) (t : ℕ) → Blind (uses_result s t)
result-blind s t (run u) h = absurd (false≢true h)
result-blind s t (send l) h = absurd (false≢true h)
result-blind s t (receive l) h = refl
result-blind s t (release u) h = refl
result-blind s t (discard l) h = refl

message-blind : (s : Sheet) (l : ℕ) → Blind (uses_message s l)
message-blind s l (run u) h = absurd (false≢true h)
message-blind s l (send m) h = refl
message-blind s l (receive m) h = refl
message-blind s l (release u) h = refl
message-blind s l (discard m) h = refl

uses-blind : (s : Sheet) (x : Command) → Blind (uses s x)
uses-blind s (run t) c h = refl
uses-blind s (send l) c h = refl
uses-blind s (receive l) c h = refl
uses-blind s (release t) c h = result-blind s t c h
uses-blind s (discard l) c h = message-blind s l c h

pub need-blind : (s : Sheet) → Blind (need s)
need-blind s (run u) h = absurd (false≢true h)
need-blind s (send m) h = absurd (false≢true h)
need-blind s (receive m) h = absurd (false≢true h)
need-blind s (release u) h = refl
need-blind s (discard m) h = refl

-- what stands behind the first i commands
module _ (s : Sheet) (p : List Command) where
  due-at : (i : ℕ) (x : Command) → is_release x ≡ true → Each (Due s p i) (due_at s p i x)
  unfolding due_at
  due-at i x h = go (is_at (earliest s p x) i) refl
    where
      go : (u : Bool) → is_at (earliest s p x) i ≡ u → Each (Due s p i) (pick u (x ∷ []) [])
      go true e = ((h, e), tt)
      go false e = tt

  pub block-due : (i : ℕ) → Each (Due s p i) (releases_at s p i)
  unfolding releases_at
  block-due i =
      each_append (Due s p i) (gather (task_count s) (λ t. due_at s p i (release t))) (gather (link_count s) (λ l. due_at s p i (discard l)))
      (each-gather (Due s p i) (task_count s) (λ t. due_at s p i (release t)) (λ t l. due-at i (release t) refl))
      (each-gather (Due s p i) (link_count s) (λ l. due_at s p i (discard l)) (λ t l. due-at i (discard t) refl))

  pub block-releases : (i : ℕ) → Each (λ x. is_release x ≡ true) (releases_at s p i)
  block-releases i = each_map (Due s p i) (λ x. is_release x ≡ true) (λ x h. h.0) (releases_at s p i) (block-due i)

  -- weights that releases do not have are those of the programme
  pub rest-weigh : (f : Command → ℕ) → Blind f → (i : ℕ) (r : List Command) → weigh f (rest_with (releases_at s p) i r) ≡ weigh f r
  unfolding weigh
  rest-weigh f h i [] = refl
  rest-weigh f h i (c ∷ r) =
      omega (arith, weigh-append f (releases_at s p (suc i)) (rest_with (releases_at s p) (suc i) r), weigh-blind f h (releases_at s p (suc i)) (block-releases (suc i)), rest-weigh f h (suc i) r)

  pub released-weigh : (f : Command → ℕ) → Blind f → weigh f (released s p) ≡ weigh f p
  unfolding released
  released-weigh f h =
      omega (arith, weigh-append f (releases_at s p 0) (rest_with (releases_at s p) 0 p), weigh-blind f h (releases_at s p 0) (block-releases 0), rest-weigh f h 0 p)

  -- .. and so is which command stands before which
  before-block : (c d : Command) → is_release c ≡ false → is_release d ≡ false → (i : ℕ) (r : List Command) → before c d (releases_at s p i ++ r) ≡ before c d r
  before-block c d g h i r =
      before-skip c d (releases_at s p i) r (weigh-blind (is c) (is-blind c g) (releases_at s p i) (block-releases i)) (weigh-blind (is d) (is-blind d h) (releases_at s p i) (block-releases i))

  rest-before : (c d : Command) → is_release c ≡ false → is_release d ≡ false → (i : ℕ) (r : List Command) → before c d (rest_with (releases_at s p) i r) ≡ before c d r
  unfolding before
  rest-before c d g h i [] = refl
  rest-before c d g h i (e ∷ r) =
      let w : weigh (is d) (releases_at s p (suc i) ++ rest_with (releases_at s p) (suc i) r) ≡ weigh (is d) r =
      weigh-append (is d) (releases_at s p (suc i)) (rest_with (releases_at s p) (suc i) r) ∙
      omega (arith, weigh-blind (is d) (is-blind d h) (releases_at s p (suc i)) (block-releases (suc i)), rest-weigh (is d) (is-blind d h) (suc i) r)
      in
      rw (w, before-block c d g h (suc i) (rest_with (releases_at s p) (suc i) r), rest-before c d g h (suc i) r)

  pub released-before : (c d : Command) → is_release c ≡ false → is_release d ≡ false → before c d (released s p) ≡ before c d p
  unfolding released
  released-before c d g h = before-block c d g h 0 (rest_with (releases_at s p) 0 p) ∙ rest-before c d g h 0 p

  -- the place j of commands with releases, from the i-th command on, is the place n of those without
  pub record Place (i : ℕ) (q r : List Command) (j : ℕ) : Type 0 where
    pub n : ℕ
    pub takes : (f : Command → ℕ) → Blind f → weigh f (take j q) ≡ weigh f (take n r)
    pub due : (x : Command) → get_elem? q j ≡ some x → is_release x ≡ true → is_at (earliest s p x) (i + n) ≡ true

  place-block : (i : ℕ) (b q r : List Command) → Each (Due s p i) b → ((j : ℕ) → Place i q r j) → (j : ℕ) → Place i (b ++ q) r j
  unfolding weigh
  place-block i [] q r h f j = f j
  place-block i (x ∷ b) q r h f zero =
      let e : i + 0 ≡ i = omega arith in
      record { n = 0; takes = λ g z. refl; due = λ y a z. let w : x ≡ y = cc in rw e (subst (λ (u : Command). is_at (earliest s p u) i ≡ true) w h.0.1) }
  place-block i (x ∷ b) q r h f (suc j) =
      let m = place-block i b q r h.1 f j in
      record { n = m.n; takes = λ g z. omega (arith, z x h.0.0, m.takes g z); due = m.due }

  place_rest : (i : ℕ) (r : List Command) → Each Plain r → (j : ℕ) → Place i (rest_with (releases_at s p) i r) r j
  unfolding weigh
  place_rest i [] h zero = record { n = 0; takes = λ g z. refl; due = λ y a z. not_some a }
  place_rest i [] h (suc j) = record { n = 0; takes = λ g z. refl; due = λ y a z. not_some a }
  place_rest i (c ∷ r) h zero =
      record { n = 0; takes = λ g z. refl; due = λ y a z. let w : c ≡ y = cc in absurd (false≢true (sym h.0 ∙ ap is_release w ∙ z)) }
  place_rest i (c ∷ r) h (suc j) =
      let m = place-block (suc i) (releases_at s p (suc i)) (rest_with (releases_at s p) (suc i) r) r (block-due (suc i)) (place_rest (suc i) r h.1) j in
      let e : i + suc m.n ≡ suc i + m.n = omega arith in
      record { n = suc m.n; takes = λ g z. omega (arith, m.takes g z); due = λ y a z. rw e (m.due y a z) }

  pub place : Each Plain p → (j : ℕ) → Place 0 (released s p) p j
  unfolding released
  place h j = place-block 0 (releases_at s p 0) (rest_with (releases_at s p) 0 p) p (block-due 0) (place_rest 0 p h) j

  -- how often a release stands there
  count-due : (i : ℕ) (x y : Command) → weigh (is x) (due_at s p i y) ≡ pick (is_at (earliest s p y) i) (is x y) 0
  unfolding due_at weigh
  count-due i x y = go (is_at (earliest s p y) i)
    where
      go : (u : Bool) → weigh (is x) (pick u (y ∷ []) []) ≡ pick u (is x y) 0
      go true = omega arith
      go false = refl

  -- of a kind of release: at the number t alone
  module _ (mk : ℕ → Command) (mk-is : (t u : ℕ) → is (mk t) (mk u) ≡ bit (eqb t u)) (n i : ℕ) where
    count-other : (t u : ℕ) → u ≢ t → weigh (is (mk t)) (due_at s p i (mk u)) ≡ 0
    count-other t u d = count-due i (mk t) (mk u) ∙ rw (mk-is t u, ne_eqb t u (λ q. d (sym q))) (pick_same (is_at (earliest s p (mk u)) i) 0)

    count-here : (t : ℕ) → weigh (is (mk t)) (due_at s p i (mk t)) ≡ bit (is_at (earliest s p (mk t)) i)
    count-here t = count-due i (mk t) (mk t) ∙ rw (mk-is t t, eq-eqb t t refl)

    count-kind : (t : ℕ) → weigh (is (mk t)) (gather n (λ u. due_at s p i (mk u))) ≡ pick (ltb t n) (bit (is_at (earliest s p (mk t)) i)) 0
    count-kind t = weigh-gather (is (mk t)) n (λ u. due_at s p i (mk u)) ∙ go (dec_lt t n)
      where
        go : Dec (t < n) → sum n (λ u. weigh (is (mk t)) (due_at s p i (mk u))) ≡ pick (ltb t n) (bit (is_at (earliest s p (mk t)) i)) 0
        go (yes l) = rw (lt-ltb t n l) (sum-only n (λ u. weigh (is (mk t)) (due_at s p i (mk u))) t l (λ u d. count-other t u d) ∙ count-here t)
        go (no l) = rw (le-ltb t n (omega arith)) (sum_zeros n (λ u. weigh (is (mk t)) (due_at s p i (mk u))) (λ u m. count-other t u (omega arith)))

    count_none : (x : Command) → ((u : ℕ) → is x (mk u) ≡ 0) → weigh (is x) (gather n (λ u. due_at s p i (mk u))) ≡ 0
    count_none x h = weigh-gather (is x) n (λ u. due_at s p i (mk u)) ∙ sum_zeros n (λ u. weigh (is x) (due_at s p i (mk u))) (λ u m. count-due i x (mk u) ∙ rw (h u) (pick_same (is_at (earliest s p (mk u)) i) 0))

  -- x is of a task or link of the sheet
  abbrev pub known : Command → Bool
  known (run t) = false
  known (send l) = false
  known (receive l) = false
  known (release t) = ltb t (task_count s)
  known (discard l) = ltb l (link_count s)

  block-count : (i : ℕ) (x : Command) → is_release x ≡ true → weigh (is x) (releases_at s p i) ≡ pick (known x) (bit (is_at (earliest s p x) i)) 0
  unfolding releases_at is
  block-count i (run t) h = absurd (false≢true h)
  block-count i (send l) h = absurd (false≢true h)
  block-count i (receive l) h = absurd (false≢true h)
  block-count i (release t) h =
      omega (
        arith,
        weigh-append (is (release t)) (gather (task_count s) (λ t. due_at s p i (release t))) (gather (link_count s) (λ l. due_at s p i (discard l))),
        count-kind release (λ t u. refl) (task_count s) i t,
        count_none discard (λ t u. refl) (link_count s) i (release t) (λ u. refl),
      )
  block-count i (discard l) h =
      omega (
        arith,
        weigh-append (is (discard l)) (gather (task_count s) (λ t. due_at s p i (release t))) (gather (link_count s) (λ l. due_at s p i (discard l))),
        count-kind discard (λ t u. refl) (link_count s) i l,
        count_none release (λ t u. refl) (task_count s) i (discard l) (λ u. refl),
      )

  -- none in the blocks behind the first i commands, and so none in what follows them
  rest-none : (x : Command) → is_release x ≡ true → (i : ℕ) (r : List Command) → Each Plain r → ((j : ℕ) → i < j → weigh (is x) (releases_at s p j) ≡ 0)
      → weigh (is x) (rest_with (releases_at s p) i r) ≡ 0
  unfolding weigh
  rest-none x h i [] g f = refl
  rest-none x h i (c ∷ r) g f =
      omega (
        arith,
        release-plain x c h g.0,
        weigh-append (is x) (releases_at s p (suc i)) (rest_with (releases_at s p) (suc i) r),
        f (suc i) (omega arith),
        rest-none x h (suc i) r g.1 (λ j l. f j (omega arith)),
      )

  module _ (x : Command) (h : is_release x ≡ true) (plain : Each Plain p) where
    module _ (k : known x ≡ true) (e : ℕ) (q : earliest s p x ≡ some e) where
      block_one : weigh (is x) (releases_at s p e) ≡ 1
      block_one = block-count e x h ∙ rw (k, q, eq-eqb e e refl)

      block_none : (i : ℕ) → e ≢ i → weigh (is x) (releases_at s p i) ≡ 0
      block_none i d = block-count i x h ∙ rw (k, q, ne_eqb e i d)

      rest-one : (i : ℕ) (r : List Command) → Each Plain r → i < e → e ≤ i + length r → weigh (is x) (rest_with (releases_at s p) i r) ≡ 1
      unfolding weigh
      rest-one i [] g l m = absurd (omega arith)
      rest-one i (c ∷ r) g l m = go (equal-or e (suc i)) (rest-one (suc i) r g.1)
        where
          go : (e ≡ suc i) ⊎ (e ≢ suc i) → (suc i < e → e ≤ suc i + length r → weigh (is x) (rest_with (releases_at s p) (suc i) r) ≡ 1)
              → is x c + weigh (is x) (releases_at s p (suc i) ++ rest_with (releases_at s p) (suc i) r) ≡ 1
          go (inl z) ih =
              omega (
                arith,
                release-plain x c h g.0,
                weigh-append (is x) (releases_at s p (suc i)) (rest_with (releases_at s p) (suc i) r),
                block_one,
                ap (λ (j : ℕ). weigh (is x) (releases_at s p j)) z,
                rest-none x h (suc i) r g.1 (λ j y. block_none j (omega arith)),
              )
          go (inr z) ih =
              omega (
                arith,
                release-plain x c h g.0,
                weigh-append (is x) (releases_at s p (suc i)) (rest_with (releases_at s p) (suc i) r),
                block_none (suc i) z,
                ih (omega arith) (omega arith),
              )

      -- what is once right is released just once
      pub released-once : weigh (is x) (released s p) ≡ 1
      unfolding released earliest
      released-once =
          let l = (first_some (suc (length p)) (right_at s p x) e q).0 in
          omega (arith, weigh-append (is x) (releases_at s p 0) (rest_with (releases_at s p) 0 p), go (equal-or e 0) (omega arith))
        where
          go : (e ≡ 0) ⊎ (e ≢ 0) → e ≤ length p → weigh (is x) (releases_at s p 0) + weigh (is x) (rest_with (releases_at s p) 0 p) ≡ 1
          go (inl z) l = omega (arith, block_one, ap (λ (j : ℕ). weigh (is x) (releases_at s p j)) z, rest-none x h 0 p plain (λ j y. block_none j (omega arith)))
          go (inr z) l = omega (arith, block_none 0 z, rest-one 0 p plain (omega arith) (omega arith))

    never : ((i : ℕ) → weigh (is x) (releases_at s p i) ≡ 0) → weigh (is x) (released s p) ≡ 0
    unfolding released
    never f = omega (arith, weigh-append (is x) (releases_at s p 0) (rest_with (releases_at s p) 0 p), f 0, rest-none x h 0 p plain (λ j l. f j))

    pub released-most : weigh (is x) (released s p) ≤ 1
    released-most = go (known x) (earliest s p x) refl refl
      where
        go : (u : Bool) (o : Option ℕ) → known x ≡ u → earliest s p x ≡ o → weigh (is x) (released s p) ≤ 1
        go false o k q = omega (arith, never (λ i. block-count i x h ∙ rw k))
        go true none k q = omega (arith, never (λ i. block-count i x h ∙ rw (k, q)))
        go true (some e) k q = omega (arith, released-once k e q)

    -- where it stands it is right
    at_its_place : (j : ℕ) → get_elem? (released s p) j ≡ some x → right_at s p x (place plain j).n ≡ true
    unfolding earliest
    at_its_place j f = go (earliest s p x) refl ((place plain j).due x f h)
      where
        go : (o : Option ℕ) → earliest s p x ≡ o → is_at o (0 + (place plain j).n) ≡ true → right_at s p x (place plain j).n ≡ true
        go none q e = absurd (false≢true e)
        go (some e) q g =
            let z : e ≡ (place plain j).n = omega (arith, eqb-true e (0 + (place plain j).n) g) in
            ap (right_at s p x) (sym z) ∙ (first_some (suc (length p)) (right_at s p x) e q).1

    weigh-after : (f : Command → ℕ) → Blind f → (j : ℕ) → weigh f (drop j (released s p)) ≡ weigh f (drop (place plain j).n p)
    weigh-after f g j =
        omega (arith, weigh-split f (released s p) j, weigh-split f p (place plain j).n, released-weigh f g, (place plain j).takes f g)

    right_there : (j : ℕ) → get_elem? (released s p) j ≡ some x → right s (take j (released s p)) x (drop (suc j) (released s p)) ≡ true
    unfolding right_at right held
    right_there j f =
        let n = (place plain j).n in
        let a = both-parts (held x (take n p)) (eqb (weigh (uses s x) (drop n p)) 0) (at_its_place j f) in
        let b = both-parts (ltb 0 (weigh (is (gets x)) (take n p))) (eqb (weigh (is x) (take n p)) 0) a.0 in
        parts-both (held x (take j (released s p))) (eqb (weigh (uses s x) (drop (suc j) (released s p))) 0)
        (parts-both (ltb 0 (weigh (is (gets x)) (take j (released s p)))) (eqb (weigh (is x) (take j (released s p))) 0)
        (lt-ltb 0 (weigh (is (gets x)) (take j (released s p))) (omega (arith, (place plain j).takes (is (gets x)) (is-blind (gets x) (gets-plain x)), ltb-true 0 (weigh (is (gets x)) (take n p)) b.0)))
        (eq-eqb (weigh (is x) (take j (released s p))) 0 (omega (arith, released-most, weigh-split (is x) (released s p) j, weigh-drop (is x) (released s p) j x f, is-refl x))))
        (eq-eqb (weigh (uses s x) (drop (suc j) (released s p))) 0
        (omega (arith, weigh-after (uses s x) (uses-blind s x) j, weigh-drop (uses s x) (released s p) j x f, eqb-true (weigh (uses s x) (drop n p)) 0 a.1)))

  -- every release is right
  pub released-right : Each Plain p → Right s (released s p)
  released-right plain j x f h = right_there x h plain j f

  -- a plain programme: releases and what they give back are nowhere in it
  plain-none : (f : Command → ℕ) → ((c : Command) → is_release c ≡ false → f c ≡ 0) → (q : List Command) → Each Plain q → (i : ℕ) → weigh f (take i q) ≡ 0
  unfolding weigh
  plain-none f h q g zero = refl
  plain-none f h [] g (suc i) = refl
  plain-none f h (c ∷ q) g (suc i) = omega (arith, h c g.0, plain-none f h q g.1 i)

  pub plain-right : Each Plain p → Right s p
  plain-right plain j x f h = absurd (false≢true (sym (each-elem Plain p j x plain f) ∙ h))

  gives-plain : (c : Command) → is_release c ≡ false → gives s c ≡ 0
  gives-plain (run t) h = refl
  gives-plain (send l) h = refl
  gives-plain (receive l) h = refl
  gives-plain (release t) h = absurd (true≢false h)
  gives-plain (discard l) h = absurd (true≢false h)

  -- its store in use is the sum of what its commands need
  pub plain-use : Each Plain p → (i : ℕ) → in_use s p i ≡ weigh (need s) (take i p)
  plain-use plain i = omega (arith, balance s p (plain-right plain) i, plain-none (gives s) gives-plain p plain i)

  -- the store in use is at no place above what it was at the same place without the releases
  pub released-use : (plain : Each Plain p) (j : ℕ) → in_use s (released s p) j ≤ in_use s p (place plain j).n
  released-use plain j =
      omega (arith, balance s (released s p) (released-right plain) j, (place plain j).takes (need s) (need-blind s), plain-use plain (place plain j).n)

  -- every result and every message gets its release
  pub all-released : (x : Command) → is_release x ≡ true → Each Plain p → known x ≡ true → 0 < weigh (is (gets x)) p → weigh (is x) (released s p) ≡ 1
  unfolding earliest right_at right held weigh
  all-released x h plain k g = go (earliest s p x) refl
    where
      there : right_at s p x (length p) ≡ true
      there =
          rw (take_all (length p) p (omega arith), drop_all p)
          (parts-both (held x p) (eqb 0 0)
          (parts-both (ltb 0 (weigh (is (gets x)) p)) (eqb (weigh (is x) p) 0) (lt-ltb 0 (weigh (is (gets x)) p) g)
          (eq-eqb (weigh (is x) p) 0 (rw (take_all (length p) p (omega arith)) at (plain-none (is x) (λ c f. release-plain x c h f) p plain (length p))))) refl)

      go : (o : Option ℕ) → earliest s p x ≡ o → weigh (is x) (released s p) ≡ 1
      go none q = absurd (false≢true (sym (first-none (suc (length p)) (right_at s p x) q (length p) (omega arith)) ∙ there))
      go (some e) q = released-once x h plain k e q

  was-right : (plain : Each Plain p) (x : Command) → is_release x ≡ true → (m : ℕ) → right s (take m (released s p)) x (drop m (released s p)) ≡ true → right_at s p x (place plain m).n ≡ true
  unfolding right_at right held
  was-right plain x h m q =
      let n = (place plain m).n in
      let a = both-parts (held x (take m (released s p))) (eqb (weigh (uses s x) (drop m (released s p))) 0) q in
      let b = both-parts (ltb 0 (weigh (is (gets x)) (take m (released s p)))) (eqb (weigh (is x) (take m (released s p))) 0) a.0 in
      parts-both (held x (take n p)) (eqb (weigh (uses s x) (drop n p)) 0)
      (parts-both (ltb 0 (weigh (is (gets x)) (take n p))) (eqb (weigh (is x) (take n p)) 0)
      (lt-ltb 0 (weigh (is (gets x)) (take n p)) (omega (arith, (place plain m).takes (is (gets x)) (is-blind (gets x) (gets-plain x)), ltb-true 0 (weigh (is (gets x)) (take m (released s p))) b.0)))
      (eq-eqb (weigh (is x) (take n p)) 0 (plain-none (is x) (λ c f. release-plain x c h f) p plain n)))
      (eq-eqb (weigh (uses s x) (drop n p)) 0 (omega (arith, weigh-after x h plain (uses s x) (uses-blind s x) m, eqb-true (weigh (uses s x) (drop m (released s p))) 0 a.1)))

  -- a release could stand nowhere earlier: behind fewer of the programme's own commands it would be wrong
  pub nowhere-earlier : (plain : Each Plain p) (x : Command) → is_release x ≡ true → (j : ℕ) → get_elem? (released s p) j ≡ some x
      → (m : ℕ) → weigh own (take m (released s p)) < weigh own (take j (released s p)) → right s (take m (released s p)) x (drop m (released s p)) ≡ false
  unfolding earliest
  nowhere-earlier plain x h j f m l = go (right s (take m (released s p)) x (drop m (released s p))) refl (earliest s p x) refl ((place plain j).due x f h)
    where
      earlier : {e : ℕ} → Dec ((place plain m).n < (place plain j).n) → e ≡ (place plain j).n → (place plain m).n < e
      earlier (yes d) y = omega arith
      earlier (no d) y = absurd (omega (arith, (place plain m).takes own own-blind, (place plain j).takes own own-blind, weigh-rises own p (place plain j).n (place plain m).n (omega arith)))

      go : (u : Bool) → right s (take m (released s p)) x (drop m (released s p)) ≡ u → (o : Option ℕ) → earliest s p x ≡ o → is_at o (0 + (place plain j).n) ≡ true
          → right s (take m (released s p)) x (drop m (released s p)) ≡ false
      go false q o z w = q
      go true q none z w = absurd (false≢true w)
      go true q (some e) z w =
          let y : e ≡ (place plain j).n = omega (arith, eqb-true e (0 + (place plain j).n) w) in
          let less : (place plain m).n < e = earlier (dec_lt (place plain m).n (place plain j).n) y in
          absurd (false≢true (sym (first-lowest (suc (length p)) (right_at s p x) e z (place plain m).n less) ∙ was-right plain x h m q))

  -- for the code: the release of x stands directly behind the last command that gets or uses x
  abbrev pub touches : Command → Command → ℕ
  touches x c = is (gets x) c + uses s x c

  touched-uses : (x : Command) (q : List Command) → weigh (touches x) q ≡ 0 → weigh (uses s x) q ≡ 0
  unfolding weigh
  touched-uses x [] h = refl
  touched-uses x (c ∷ q) h = omega (arith, touched-uses x q (omega arith))

  pub earliest-last : Each Plain p → (x : Command) → is_release x ≡ true → weigh (is (gets x)) p ≤ 1 → (m : ℕ) (c : Command) → get_elem? p m ≡ some c → 0 < touches x c
      → 0 < weigh (is (gets x)) (take (suc m) p) → weigh (touches x) (drop (suc m) p) ≡ 0 → earliest s p x ≡ some (suc m)
  unfolding earliest right_at right held
  earliest-last plain x h once m c e t got last =
      first_found (suc (length p)) (right_at s p x) (suc m) before-it at-it (omega (arith, below p m c e))
    where
      below : (q : List Command) (i : ℕ) (d : Command) → get_elem? q i ≡ some d → i < length q
      below [] i d f = not_some f
      below (y ∷ q) zero d f = omega arith
      below (y ∷ q) (suc i) d f = omega (arith, below q i d f)

      at-it : right s (take (suc m) p) x (drop (suc m) p) ≡ true
      at-it =
          parts-both (held x (take (suc m) p)) (eqb (weigh (uses s x) (drop (suc m) p)) 0)
          (parts-both (ltb 0 (weigh (is (gets x)) (take (suc m) p))) (eqb (weigh (is x) (take (suc m) p)) 0) (lt-ltb 0 (weigh (is (gets x)) (take (suc m) p)) got)
          (eq-eqb (weigh (is x) (take (suc m) p)) 0 (plain-none (is x) (λ d f. release-plain x d h f) p plain (suc m))))
          (eq-eqb (weigh (uses s x) (drop (suc m) p)) 0 (touched-uses x (drop (suc m) p) last))

      before-it : (j : ℕ) → j < suc m → right s (take j p) x (drop j p) ≡ false
      before-it j l = go (right s (take j p) x (drop j p)) refl (dec_lt 0 (uses s x c))
        where
          go : (u : Bool) → right s (take j p) x (drop j p) ≡ u → Dec (0 < uses s x c) → right s (take j p) x (drop j p) ≡ false
          go false q d = q
          go true q (yes d) =
              let a = both-parts (held x (take j p)) (eqb (weigh (uses s x) (drop j p)) 0) q in
              absurd (omega (arith, d, eqb-true (weigh (uses s x) (drop j p)) 0 a.1, weigh-split (uses s x) p j, weigh-split (uses s x) p m, weigh-rises (uses s x) p j m (omega arith), weigh-drop (uses s x) p m c e))
          go true q (no d) =
              let a = both-parts (held x (take j p)) (eqb (weigh (uses s x) (drop j p)) 0) q in
              let g = both-parts (ltb 0 (weigh (is (gets x)) (take j p))) (eqb (weigh (is x) (take j p)) 0) a.0 in
              absurd (omega (arith, t, once, ltb-true 0 (weigh (is (gets x)) (take j p)) g.0, weigh-rises (is (gets x)) p j m (omega arith), weigh-split (is (gets x)) p m, weigh-drop (is (gets x)) p m c e))
