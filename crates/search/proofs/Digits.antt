-- Laws of arrangements as numbers.
use Prim.Native.Nat.{ℕ, zero, suc, ◌+◌, ◌-◌, ◌*◌, ◌^◌, ◌/◌, ◌%◌, ◌≤◌, ◌<◌}
use native.Mathlib.Omega.{arith}
use mathlib.Core.Bool.{Bool, true, false}
use mathlib.Core.Path.{◌≡◌, refl, sym, ap, ◌∙◌, subst}
use mathlib.Core.List.{List, [], ◌∷◌, ◌++◌}
use lib.ListN.{length, length-append}
use lib.Dec.{eqb}
use borrow.Author.Tests.{eq-eqb, ne_eqb, eqb-true, eqb-false}
use native.Mathlib.Numerals.{add-one}
use native.Mathlib.Nat.{pow-suc}
use mathlib.Core.Logic.{◌≢◌}
use Rattle.folds.specs.Folds.{pick, either}
use Rattle.least.specs.Written.{among}
use Rattle.least.proofs.Candidates.{joins-last}
use Rattle.bundle.specs.Fits.{Each}
use Rattle.bundle.proofs.Parts.{each_append}
use Rattle.least.specs.Heads.{head_of}
use Rattle.least.specs.Pruned.{last_of}
use Rattle.least.specs.Least.{opens, joins, among_all}
use Rattle.search.specs.Codes.{arranged, tasks_of, opens_of, Coded, order_of, last_length, front_of, LastIs}
use Rattle.search.specs.declared.codes.Last.{Last}

pub either-swap : (a b : Bool) → either a b ≡ either b a
either-swap true true = refl
either-swap true false = refl
either-swap false true = refl
either-swap false false = refl

pub among-end : (t u : ℕ) (ts : List ℕ) → among t (ts ++ u ∷ []) ≡ either (among t ts) (eqb t u)
unfolding among
among-end t u [] = either-swap (eqb t u) false
among-end t u (v ∷ ts) = go (eqb t v) (among-end t u ts)
  where
    go : (x : Bool) → among t (ts ++ u ∷ []) ≡ either (among t ts) (eqb t u) → either x (among t (ts ++ u ∷ [])) ≡ either (either x (among t ts)) (eqb t u)
    go true e = refl
    go false e = e

opens-among : (t u : ℕ) (a : List (List ℕ)) → among_all t (opens a u) ≡ either (among_all t a) (eqb t u)
unfolding opens among_all among
opens-among t u [] = go (eqb t u)
  where
    go : (x : Bool) → either (either x false) false ≡ x
    go true = refl
    go false = refl
opens-among t u (ts ∷ a) = go (among t ts) (opens-among t u a)
  where
    go : (x : Bool) → among_all t (a ++ (u ∷ []) ∷ []) ≡ either (among_all t a) (eqb t u) → either x (among_all t (a ++ (u ∷ []) ∷ [])) ≡ either (either x (among_all t a)) (eqb t u)
    go true e = refl
    go false e = e

joins-among : (t u : ℕ) (a : List (List ℕ)) → 0 < length a → among_all t (joins a u) ≡ either (among_all t a) (eqb t u)
unfolding joins among_all
joins-among t u [] h = absurd (omega arith)
joins-among t u (ts ∷ []) h = ap (λ x. either x false) (among-end t u ts) ∙ go (among t ts) (eqb t u)
  where
    go : (x y : Bool) → either (either x y) false ≡ either (either x false) y
    go true y = refl
    go false true = refl
    go false false = refl
joins-among t u (ts ∷ us ∷ a) h = go (among t ts) (joins-among t u (us ∷ a) (omega arith))
  where
    go : (x : Bool) → among_all t (joins (us ∷ a) u) ≡ either (among_all t (us ∷ a)) (eqb t u) → either x (among_all t (joins (us ∷ a) u)) ≡ either (either x (among_all t (us ∷ a))) (eqb t u)
    go true e = refl
    go false e = e

joins-length : (a : List (List ℕ)) (t : ℕ) → length (joins a t) ≡ length a
unfolding joins
joins-length [] t = refl
joins-length (ts ∷ []) t = refl
joins-length (ts ∷ us ∷ a) t = omega (arith, joins-length (us ∷ a) t)

bit-of : (c : ℕ) → eqb (c / 8 % 2) 1 ≡ false → c / 8 % 2 ≡ 0
bit-of c e = omega (arith, eqb-false (c / 8 % 2) 1 e)

-- of a coded number: how many programmes, and which tasks
pub coded-length : (n c : ℕ) → Coded n c → length (arranged n c) ≡ opens_of n c
unfolding arranged opens_of Coded opens
coded-length zero c h = refl
coded-length (suc n) c h = go (eqb (c / 8 % 2) 1) refl (coded-length n (c / 16) h.0)
  where
    go : (x : Bool) → eqb (c / 8 % 2) 1 ≡ x → length (arranged n (c / 16)) ≡ opens_of n (c / 16)
        → length (pick x (arranged n (c / 16) ++ (c % 8 ∷ []) ∷ []) (joins (arranged n (c / 16)) (c % 8))) ≡ c / 8 % 2 + opens_of n (c / 16)
    go true e r = omega (arith, eqb-true (c / 8 % 2) 1 e, length-append (arranged n (c / 16)) ((c % 8 ∷ []) ∷ []))
    go false e r = omega (arith, bit-of c e, joins-length (arranged n (c / 16)) (c % 8))

pub coded-among : (n c t : ℕ) → Coded n c → among_all t (arranged n c) ≡ among t (tasks_of n c)
unfolding arranged tasks_of Coded among_all among
coded-among zero c t h = refl
coded-among (suc n) c t h = go (eqb (c / 8 % 2) 1) refl (coded-among n (c / 16) t h.0)
  where
    go : (x : Bool) → eqb (c / 8 % 2) 1 ≡ x → among_all t (arranged n (c / 16)) ≡ among t (tasks_of n (c / 16))
        → among_all t (pick x (opens (arranged n (c / 16)) (c % 8)) (joins (arranged n (c / 16)) (c % 8))) ≡ either (eqb t (c % 8)) (among t (tasks_of n (c / 16)))
    go true e r = opens-among t (c % 8) (arranged n (c / 16)) ∙ ap (λ x. either x (eqb t (c % 8))) r ∙ either-swap (among t (tasks_of n (c / 16))) (eqb t (c % 8))
    go false e r =
        joins-among t (c % 8) (arranged n (c / 16)) (omega (arith, coded-length n (c / 16) h.0, bit-of c e, h.1)) ∙
        ap (λ x. either x (eqb t (c % 8))) r ∙ either-swap (among t (tasks_of n (c / 16))) (eqb t (c % 8))

odd : (c : ℕ) → (c * 2 + 1) % 2 ≡ 1
odd c = let h : (c * 2 + 1) / 2 ≡ c = omega arith in omega arith

even : (c : ℕ) → c * 2 % 2 ≡ 0
even c = let h : c * 2 / 2 ≡ c = omega arith in omega arith

-- one task more
module _ (n c t : ℕ) (l : t < 8) where
  pub open_code : arranged (n + 1) (c * 16 + 8 + t) ≡ opens (arranged n c) t
  unfolding arranged
  open_code =
      let a : (c * 16 + 8 + t) / 16 ≡ c = omega arith in
      let q : (c * 16 + 8 + t) / 8 ≡ c * 2 + 1 = omega arith in
      let b : (c * 16 + 8 + t) % 8 ≡ t = omega arith in
      let d : (c * 16 + 8 + t) / 8 % 2 ≡ 1 = ap (λ x. x % 2) q ∙ odd c in
      rw (add-one n) (rw (a, b, eq-eqb ((c * 16 + 8 + t) / 8 % 2) 1 d))

  pub join-code : arranged (n + 1) (c * 16 + t) ≡ joins (arranged n c) t
  unfolding arranged
  join-code =
      let a : (c * 16 + t) / 16 ≡ c = omega arith in
      let q : (c * 16 + t) / 8 ≡ c * 2 = omega arith in
      let b : (c * 16 + t) % 8 ≡ t = omega arith in
      let d : (c * 16 + t) / 8 % 2 ≢ 1 = λ z. omega (arith, ap (λ x. x % 2) q ∙ even c) in
      rw (add-one n) (rw (a, b, ne_eqb ((c * 16 + t) / 8 % 2) 1 d))

  pub open-coded : Coded n c → Coded (n + 1) (c * 16 + 8 + t)
  unfolding Coded
  open-coded h =
      let a : (c * 16 + 8 + t) / 16 ≡ c = omega arith in
      let q : (c * 16 + 8 + t) / 8 ≡ c * 2 + 1 = omega arith in
      rw (add-one n) (rw a (h, omega (arith, ap (λ x. x % 2) q ∙ odd c)))

  pub join-coded : 0 < opens_of n c → Coded n c → Coded (n + 1) (c * 16 + t)
  unfolding Coded
  join-coded o h =
      let a : (c * 16 + t) / 16 ≡ c = omega arith in
      rw (add-one n) (rw a (h, omega arith))

-- as the loops go
pub opens-less : (i c : ℕ) → 0 < i → opens_of i c ≡ c / 8 % 2 + opens_of (i - 1) (c / 16)
unfolding opens_of
opens-less zero c h = absurd (omega arith)
opens-less (suc i) c h = let e : suc i - 1 ≡ i = omega arith in rw e

pub opens-none : (i c : ℕ) → i ≤ 0 → opens_of i c ≡ 0
unfolding opens_of
opens-none zero c h = refl
opens-none (suc i) c h = absurd (omega arith)

pub among-less : (t i c : ℕ) → 0 < i → t ≢ c % 8 → among t (tasks_of i c) ≡ among t (tasks_of (i - 1) (c / 16))
unfolding tasks_of among
among-less t zero c h d = absurd (omega arith)
among-less t (suc i) c h d = let e : suc i - 1 ≡ i = omega arith in rw (e, ne_eqb t (c % 8) d)

pub among-here : (t i c : ℕ) → 0 < i → t ≡ c % 8 → among t (tasks_of i c) ≡ true
unfolding tasks_of among
among-here t zero c h d = absurd (omega arith)
among-here t (suc i) c h d = rw (eq-eqb t (c % 8) d)

pub among_none : (t i c : ℕ) → i ≤ 0 → among t (tasks_of i c) ≡ false
unfolding tasks_of among
among_none t zero c h = refl
among_none t (suc i) c h = absurd (omega arith)

-- the size of a code
pub code_fits : (len c : ℕ) → len ≤ 6 → c < 16 ^ len → c < 16777216
code_fits zero c h l = omega arith
code_fits (suc zero) c h l = omega arith
code_fits (suc (suc zero)) c h l = omega arith
code_fits (suc (suc (suc zero))) c h l = omega arith
code_fits (suc (suc (suc (suc zero)))) c h l = omega arith
code_fits (suc (suc (suc (suc (suc zero))))) c h l = omega arith
code_fits (suc (suc (suc (suc (suc (suc zero)))))) c h l = omega arith
code_fits (suc (suc (suc (suc (suc (suc (suc n))))))) c h l = absurd (omega arith)

pub code-more : (len c d : ℕ) → c < 16 ^ len → d < 16 → c * 16 + d < 16 ^ (len + 1)
code-more len c d h l = let e : 16 ^ (len + 1) ≡ 16 ^ len * 16 = rw (add-one len) (pow-suc 16 len) in omega (arith, e)

pub opened-more : (len c t : ℕ) → c < 16 ^ len → t < 8 → c * 16 + 8 + t < 16 ^ (len + 1)
opened-more len c t h l = omega (arith, code-more len c (8 + t) h (omega arith))

-- the last programme
pub last-le : (n c : ℕ) → last_length n c ≤ n
unfolding last_length
last-le zero c = omega arith
last-le (suc n) c = go (eqb (c / 8 % 2) 1) (last-le n (c / 16))
  where
    go : (x : Bool) → last_length n (c / 16) ≤ n → pick x 1 (last_length n (c / 16) + 1) ≤ suc n
    go true h = omega arith
    go false h = omega arith

pub last_some : (n c : ℕ) → 0 < n → 0 < last_length n c
unfolding last_length
last_some zero c h = h
last_some (suc n) c h = go (eqb (c / 8 % 2) 1)
  where
    go : (x : Bool) → 0 < pick x 1 (last_length n (c / 16) + 1)
    go true = omega arith
    go false = omega arith

-- as the code goes
pub last_none : (n c : ℕ) → n ≡ 0 → LastIs c n (record { tasks = 0; front = c })
unfolding last_length front_of
last_none zero c e = record { tasks = refl; front = refl }
last_none (suc n) c e = absurd (omega arith)

pub last-here : (n c : ℕ) → n ≢ 0 → c / 8 % 2 ≡ 1 → LastIs c n (record { tasks = 1; front = c / 16 })
unfolding last_length front_of
last-here zero c d e = absurd (d refl)
last-here (suc n) c d e = record { tasks = rw (eq-eqb (c / 8 % 2) 1 e); front = rw (eq-eqb (c / 8 % 2) 1 e) }

pub last_more : (n c : ℕ) (r : Last) → n ≢ 0 → c / 8 % 2 ≢ 1 → LastIs (c / 16) (n - 1) r → LastIs c n (record { tasks = r.tasks + 1; front = r.front })
unfolding last_length front_of
last_more zero c r d e h = absurd (d refl)
last_more (suc n) c r d e h =
    let q : suc n - 1 ≡ n = omega arith in
    record {
      tasks = rw (ne_eqb (c / 8 % 2) 1 e) (ap (λ (x : ℕ). x + 1) (h.tasks ∙ ap (λ (i : ℕ). last_length i (c / 16)) q));
      front = rw (ne_eqb (c / 8 % 2) 1 e) (h.front ∙ ap (λ (i : ℕ). front_of i (c / 16)) q);
    }

pub record Split (n c : ℕ) : Type 0 where
  pub parts : arranged n c ≡ arranged (n - last_length n c) (front_of n c) ++ order_of (last_length n c) c ∷ []
  pub coded : Coded (n - last_length n c) (front_of n c)
  pub count : opens_of n c ≡ opens_of (n - last_length n c) (front_of n c) + 1

pub split : (n c : ℕ) → 0 < n → Coded n c → Split n c
unfolding arranged last_length front_of order_of Coded opens_of opens
split zero c h k = absurd (omega arith)
split (suc n) c h k = go (eqb (c / 8 % 2) 1) refl (split n (c / 16))
  where
    go : (x : Bool) → eqb (c / 8 % 2) 1 ≡ x → (0 < n → Coded n (c / 16) → Split n (c / 16)) → Split (suc n) c
    go true e r =
        let q : suc n - 1 ≡ n = omega arith in
        record { parts = rw (e, q); coded = rw (e, q) k.0; count = rw (e, q) (omega (arith, eqb-true (c / 8 % 2) 1 e)) }
    go false e r =
        let b : c / 8 % 2 ≡ 0 = omega (arith, eqb-false (c / 8 % 2) 1 e) in
        let some : 0 < n = positive n k.1 b in
        let z = r some k.0 in
        let p = last_length n (c / 16) in
        let q : suc n - (p + 1) ≡ n - p = omega arith in
        let one : order_of (p + 1) c ≡ order_of p (c / 16) ++ c % 8 ∷ [] = rw (add-one p) refl in
        record {
          parts =
              rw (e, q)
              (ap (λ (a : List (List ℕ)). joins a (c % 8)) z.parts ∙ joins-last (arranged (n - p) (front_of n (c / 16))) (order_of p (c / 16)) (c % 8) ∙
              ap {B = List (List ℕ)} (λ (ts : List ℕ). arranged (n - p) (front_of n (c / 16)) ++ ts ∷ []) (sym one));
          coded = rw (e, q) z.coded;
          count = rw (e, q) (omega (arith, b, z.count));
        }
      where
        positive : (n : ℕ) → 0 < c / 8 % 2 + opens_of n (c / 16) → c / 8 % 2 ≡ 0 → 0 < n
        positive zero h b = absurd (omega arith)
        positive (suc n) h b = omega arith

-- membership does not depend on the order
pub order-among : (j c u : ℕ) → among u (tasks_of j c) ≡ among u (order_of j c)
unfolding tasks_of order_of among
order-among zero c u = refl
order-among (suc j) c u = ap (either (eqb u (c % 8))) (order-among j (c / 16) u) ∙ either-swap (eqb u (c % 8)) (among u (order_of j (c / 16))) ∙ sym (among-end u (c % 8) (order_of j (c / 16)))

pub opens-le : (n c : ℕ) → opens_of n c ≤ n
unfolding opens_of
opens-le zero c = omega arith
opens-le (suc n) c = omega (arith, opens-le n (c / 16))

pub coded-rest : (len code m rest : ℕ) → 0 < len → Coded len code → m ≡ last_length len code → rest ≡ front_of len code → Coded (len - m) rest
coded-rest len code m rest h k e f =
    subst (λ (y : ℕ). Coded (len - m) y) (sym f) (subst (λ (x : ℕ). Coded (len - x) (front_of len code)) (sym e) (split len code h k).coded)

-- one task more: how many programmes, and how many tasks the last of them has
module _ (n c t : ℕ) (l : t < 8) where
  open-digit : ((c * 16 + 8 + t) / 16 ≡ c) × ((c * 16 + 8 + t) / 8 % 2 ≡ 1)
  open-digit = let q : (c * 16 + 8 + t) / 8 ≡ c * 2 + 1 = omega arith in (omega arith, ap (λ x. x % 2) q ∙ odd c)

  join-digit : ((c * 16 + t) / 16 ≡ c) × ((c * 16 + t) / 8 % 2 ≡ 0)
  join-digit = let q : (c * 16 + t) / 8 ≡ c * 2 = omega arith in (omega arith, ap (λ x. x % 2) q ∙ even c)

  pub open-count : opens_of (n + 1) (c * 16 + 8 + t) ≡ opens_of n c + 1
  unfolding opens_of
  open-count = rw (add-one n) (rw (open-digit.0, open-digit.1) (omega arith))

  pub join-count : opens_of (n + 1) (c * 16 + t) ≡ opens_of n c
  unfolding opens_of
  join-count = rw (add-one n) (rw (join-digit.0, join-digit.1) (omega arith))

  pub open-last : last_length (n + 1) (c * 16 + 8 + t) ≡ 1
  unfolding last_length
  open-last = rw (add-one n) (rw (eq-eqb ((c * 16 + 8 + t) / 8 % 2) 1 open-digit.1))

  pub join_last : last_length (n + 1) (c * 16 + t) ≡ last_length n c + 1
  unfolding last_length
  join_last = rw (add-one n) (rw (join-digit.0, ne_eqb ((c * 16 + t) / 8 % 2) 1 (λ q. omega (arith, join-digit.1))))

-- the last programme of a number that has one
order-length : (j c : ℕ) → length (order_of j c) ≡ j
unfolding order_of
order-length zero c = refl
order-length (suc j) c = omega (arith, length-append (order_of j (c / 16)) (c % 8 ∷ []), order-length j (c / 16))

order_below : (j c : ℕ) → Each (λ u. u < 8) (order_of j c)
unfolding order_of
order_below zero c = tt
order_below (suc j) c = each_append (λ u. u < 8) (order_of j (c / 16)) (c % 8 ∷ []) (order_below j (c / 16)) (omega arith, tt)

pub last-append : (a : List (List ℕ)) (ts : List ℕ) → last_of (a ++ ts ∷ []) ≡ ts
unfolding last_of
last-append [] ts = refl
last-append (us ∷ []) ts = refl
last-append (us ∷ vs ∷ a) ts = last-append (vs ∷ a) ts

module _ (n c : ℕ) (some : 0 < n) (coded : Coded n c) where
  pub last-order : last_of (arranged n c) ≡ order_of (last_length n c) c
  last-order = ap last_of (split n c some coded).parts ∙ last-append (arranged (n - last_length n c) (front_of n c)) (order_of (last_length n c) c)

  pub last-busy : 0 < length (last_of (arranged n c))
  last-busy = omega (arith, ap length last-order, order-length (last_length n c) c, last_some n c some)

  pub head-below : head_of (last_of (arranged n c)) < 8
  head-below = rw last-order (go (order_of (last_length n c) c) (order_below (last_length n c) c))
    where
      go : (ts : List ℕ) → Each (λ u. u < 8) ts → head_of ts < 8
      go [] h = omega arith
      go (t ∷ ts) h = h.0
