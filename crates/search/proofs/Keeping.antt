-- The better of two that are kept, and one candidate more.
use Prim.Native.Nat.{ℕ}
use mathlib.Core.Bool.{Bool, true, false, true≢false}
use mathlib.Core.Option.{Option, none, some}
use mathlib.Core.Path.{◌≡◌, refl, sym, ap, ap₂, ◌∙◌, subst}
use mathlib.Core.Logic.{inl}
use mathlib.Core.List.{List, [], ◌∷◌}
use lib.ListN.{take}
use Rattle.folds.specs.Folds.{pick}
use Rattle.sheet.specs.Sheet.{Sheet}
use Rattle.graph.proofs.Proper.{proper, proper-sized}
use Rattle.bundle.specs.Bundle.{Bundle}
use Rattle.bundle.specs.Writing.{bundle_bytes}
use Rattle.admission.specs.declared.view.View.{View}
use Rattle.std.specs.Ordering.{nat_cmp, ordering_then, is_le}
use Rattle.std.specs.Cmp.Lexicographic.{slice_cmp}
use Rattle.better.proofs.Bridges.{number-is, then-is, bytes-is, then-then}
use Rattle.better.specs.Orders.{by_number, then_by, by_bytes, by_rank}
use Rattle.better.specs.Ranks.{runners}
use Rattle.better.specs.Choices as choices
use Rattle.std.specs.declared.cmp.Ordering.{Ordering}
use Rattle.std.specs.declared.cmp.Ordering.TheVariants.{Less, Equal, Greater}
use Rattle.least.specs.Written.{programmes_in}
use Rattle.least.specs.Ranking.{order, choice}
use Rattle.least.specs.Least.{In, candidates, bundle_in, better, consider, best_from}
use Rattle.least.proofs.Best.{candidate-is}
use Rattle.least.proofs.Runners.{runners-of}
use Rattle.search.specs.Codes.{arranged, opens_of, Coded}
use Rattle.search.specs.Laying.{BundleIs}
use Rattle.search.specs.Judging.{Sought, JudgeIs}
use Rattle.search.specs.Keeping.{Keeps, KeepsOf, Right, OrderIs, ChoiceIs, FoldIs}
use Rattle.std.specs.Prelude.{Some, None, is_some}
use Rattle.std.specs.Prelude.{Option as Maybe}
use Rattle.search.specs.declared.choosing.Best.{Best}
use Rattle.search.proofs.Digits.{coded-length}

-- what is written for a candidate that is kept is its bundle
pub kept-bytes : {sheet : List ℕ} {v : View} {c : Best} {x : Bundle} {old buf : List ℕ} {n : ℕ} (s : Sheet) → Sought s sheet v → Keeps s v c x
    → BundleIs sheet v old buf c.code v.tasks c.claim n → take n buf ≡ bundle_bytes x
unfolding bundle_in
kept-bytes {v = v} {c = c} s k h w =
    w.is s k.known ∙
    ap bundle_bytes (ap (λ (i : ℕ). record { programmes = programmes_in s (arranged v.tasks c.code); claim = i }) (h.claim ∙ ap (λ (z : Bundle). z.claim) h.is) ∙ sym h.is)

-- the order of two that are kept
module _ (sheet : List ℕ) (v : View) (a b : Best) (codedA : Coded v.tasks a.code) (codedB : Coded v.tasks b.code) where
  abbrev front : Ordering
  front = then_by (by_number a.claim b.claim) (by_number a.programmes b.programmes)

  -- programmes are what runs a task
  runs : (s : Sheet) → Sought s sheet v → (c : Best) (x : Bundle) → Coded v.tasks c.code → Keeps s v c x → runners x ≡ c.programmes
  runs s k c x coded h =
      let p = proper sheet s k.read in
      let busy = (candidate-is s p (proper-sized sheet s k.bytes k.read) (arranged v.tasks c.code) h.candidate h.accepted).0 in
      ap runners h.is ∙ runners-of s (arranged v.tasks c.code) busy ∙ coded-length v.tasks c.code coded ∙ sym h.programmes

  whole : (s : Sheet) → Sought s sheet v → (x y : Bundle) → Keeps s v a x → Keeps s v b y → order x y ≡ then_by front (by_bytes (bundle_bytes x) (bundle_bytes y))
  unfolding order by_rank
  whole s k x y h g =
      ap₂ (λ (i : Ordering) (j : Ordering). then_by i (then_by j (by_bytes (bundle_bytes x) (bundle_bytes y))))
      (ap₂ by_number (sym h.claim) (sym g.claim))
      (ap₂ by_number (runs s k a x codedA h) (runs s k b y codedB g))
      ∙ sym (then-then (by_number a.claim b.claim) (by_number a.programmes b.programmes) _)

  told : (o n m : Ordering) → n ≡ nat_cmp a.programmes b.programmes → m ≡ nat_cmp a.claim b.claim → o ≡ ordering_then m n → o ≡ front
  told o n m p q e = e ∙ then-is m n ∙ ap₂ then_by (q ∙ number-is a.claim b.claim) (p ∙ number-is a.programmes b.programmes)

  -- where claims and programmes tell
  pub order-less : (o n m : Ordering) → n ≡ nat_cmp a.programmes b.programmes → m ≡ nat_cmp a.claim b.claim → o ≡ ordering_then m n → o ≡ Less → OrderIs sheet v a b Less
  order-less o n m p q e f = record { is = λ s k x y h g. sym (whole s k x y h g ∙ ap (λ (z : Ordering). then_by z (by_bytes (bundle_bytes x) (bundle_bytes y))) (sym (told o n m p q e) ∙ f)) }

  pub order-greater : (o n m : Ordering) → n ≡ nat_cmp a.programmes b.programmes → m ≡ nat_cmp a.claim b.claim → o ≡ ordering_then m n → o ≡ Greater → OrderIs sheet v a b Greater
  order-greater o n m p q e f = record { is = λ s k x y h g. sym (whole s k x y h g ∙ ap (λ (z : Ordering). then_by z (by_bytes (bundle_bytes x) (bundle_bytes y))) (sym (told o n m p q e) ∙ f)) }

  -- and where the bytes do
  pub order-equal : (o n m : Ordering) → n ≡ nat_cmp a.programmes b.programmes → m ≡ nat_cmp a.claim b.claim → o ≡ ordering_then m n → o ≡ Equal → (old buf old' buf' : List ℕ) (i j : ℕ)
      → BundleIs sheet v old buf a.code v.tasks a.claim i → BundleIs sheet v old' buf' b.code v.tasks b.claim j → (r : Ordering) → r ≡ slice_cmp nat_cmp (take i buf) (take j buf') → OrderIs sheet v a b r
  order-equal o n m p q e f old buf old' buf' i j w u r t =
      record {
        is =
            λ s k x y h g. t ∙ bytes-is (take i buf) (take j buf') ∙ ap₂ by_bytes (kept-bytes s k h w) (kept-bytes s k g u) ∙
            sym (whole s k x y h g ∙ ap (λ (z : Ordering). then_by z (by_bytes (bundle_bytes x) (bundle_bytes y))) (sym (told o n m p q e) ∙ f));
      }

-- the better of two
module _ {sheet : List ℕ} {v : View} {a b : Best} (codedA : Coded v.tasks a.code) (codedB : Coded v.tasks b.code) {o : Ordering} (h : OrderIs sheet v a b o) where
  by_order : (s : Sheet) → Sought s sheet v → (x y : Bundle) → Keeps s v a x → Keeps s v b y → (q : Ordering) → o ≡ q → choice x y ≡ choices.of_side x y (choices.ahead q)
  unfolding choice
  by_order s k x y f g q e = ap (λ (z : Ordering). choices.of_side x y (choices.ahead z)) (sym (h.is s k x y f g) ∙ e)

  keep-less : o ≡ Less → ChoiceIs sheet v a b a
  keep-less e = record { coded = codedA; is = λ s k x y f g. subst (Keeps s v a) (sym (by_order s k x y f g Less e)) f }

  keep-equal : o ≡ Equal → ChoiceIs sheet v a b a
  keep-equal e = record { coded = codedA; is = λ s k x y f g. subst (Keeps s v a) (sym (by_order s k x y f g Equal e)) f }

  keep-greater : o ≡ Greater → ChoiceIs sheet v a b b
  keep-greater e = record { coded = codedB; is = λ s k x y f g. subst (Keeps s v b) (sym (by_order s k x y f g Greater e)) g }

  pub keep-first : {x : Bool} → x ≡ is_le o → x ≡ true → ChoiceIs sheet v a b a
  keep-first {x} p t = go o refl (sym p ∙ t)
    where
      go : (q : Ordering) → o ≡ q → is_le q ≡ true → ChoiceIs sheet v a b a
      go Less e f = keep-less e
      go Equal e f = keep-equal e
      go Greater e f = absurd (true≢false (sym f))

  pub keep-second : {x : Bool} → x ≡ is_le o → x ≡ false → ChoiceIs sheet v a b b
  keep-second {x} p t = go o refl (sym p ∙ t)
    where
      go : (q : Ordering) → o ≡ q → is_le q ≡ false → ChoiceIs sheet v a b b
      go Less e f = absurd (true≢false f)
      go Equal e f = absurd (true≢false f)
      go Greater e f = keep-greater e

-- one that is kept can be written
pub some-right : {v : View} (b : Best) → Coded v.tasks b.code → Right v (Some b)
some-right {v = v} b coded = record { coded = λ x q. let p : b ≡ x = cc in subst (λ (y : Best). Coded v.tasks y.code) p coded }

-- one candidate more
module _ (sheet : List ℕ) (v : View) (code programmes : ℕ) (best : Maybe Best) (coded : Coded v.tasks code) (many : programmes ≡ opens_of v.tasks code) (right : Right v best) {j : Maybe ℕ}
    (judged : JudgeIs sheet v code j) where
  abbrev a : List (List ℕ)
  a = arranged v.tasks code

  -- it is not accepted
  pub not-accepted : j ≡ None → FoldIs sheet v (λ s. a ∷ []) best best
  unfolding best_from consider
  not-accepted e =
      record {
        right = right;
        is =
            λ s k sub o h. subst (λ (x : Bool). KeepsOf s v best (pick x (better o (bundle_in s a)) o)) (sym (ap is_some e) ∙ judged.accepts s k (sub a (inl refl))) h;
      }

  module _ (c : ℕ) (ok : j ≡ Some c) where
    abbrev next : Best
    next = record { claim = c; programmes = programmes; code = code }

    keeps-next : (s : Sheet) → Sought s sheet v → In a (candidates s) → Keeps s v next (bundle_in s a)
    keeps-next s k i =
        record {
          candidate = i;
          accepted = sym (judged.accepts s k i) ∙ ap is_some ok;
          is = refl;
          claim = judged.claims s k i c ok;
          programmes = many;
        }

    considered : (s : Sheet) → Sought s sheet v → In a (candidates s) → (o : Option Bundle) → better o (bundle_in s a) ≡ best_from s (a ∷ []) o
    unfolding best_from consider
    considered s k i o = ap (λ (x : Bool). pick x (better o (bundle_in s a)) o) (sym (ap is_some ok) ∙ judged.accepts s k i)

    -- the first that is accepted
    pub first_found : best ≡ None → FoldIs sheet v (λ s. a ∷ []) best (Some next)
    first_found e =
        record {
          right = some-right next coded;
          is = λ s k sub o h. subst (KeepsOf s v (Some next)) (considered s k (sub a (inl refl)) o) (go s k (sub a (inl refl)) o h);
        }
      where
        go : (s : Sheet) → Sought s sheet v → In a (candidates s) → (o : Option Bundle) → KeepsOf s v best o → KeepsOf s v (Some next) (better o (bundle_in s a))
        go s k i none h = keeps-next s k i
        go s k i (some x) h = absurd (subst (λ (y : Maybe Best). KeepsOf s v y (some x)) e h)

    -- the better of it and the best so far
    pub better-found : (b : Best) → best ≡ Some b → (r : Best) → ChoiceIs sheet v b next r → FoldIs sheet v (λ s. a ∷ []) best (Some r)
    better-found b e r g =
        record {
          right = some-right r g.coded;
          is = λ s k sub o h. subst (KeepsOf s v (Some r)) (considered s k (sub a (inl refl)) o) (go s k (sub a (inl refl)) o h);
        }
      where
        go : (s : Sheet) → Sought s sheet v → In a (candidates s) → (o : Option Bundle) → KeepsOf s v best o → KeepsOf s v (Some r) (better o (bundle_in s a))
        go s k i none h = absurd (subst (λ (y : Maybe Best). KeepsOf s v y none) e h)
        go s k i (some x) h = g.is s k x (bundle_in s a) (subst (λ (y : Maybe Best). KeepsOf s v y (some x)) e h) (keeps-next s k i)
