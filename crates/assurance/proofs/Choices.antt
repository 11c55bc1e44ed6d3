-- The order of accepted bundles, and the choice among them, of the functions of the interface.
use Prim.Native.Nat.{ℕ}
use mathlib.Core.Path.{◌≡◌, refl, sym, ap, subst, ◌∙◌}
use mathlib.Core.Option.{Option, none, some, some-injective}
use mathlib.Core.Logic.{◌⊎◌, inl, inr, ⊎_elim}
use mathlib.Core.List.{List}
use lib.ListN.{length}
use denote.Ref.{Bor}
use Rattle.folds.specs.Answers.{Answer, value, refused, and_then, number, place_or}
use Rattle.folds.proofs.Tests.{and_then-value}
use Rattle.sheet.specs.Sheet.{Sheet}
use Rattle.graph.specs.Graph.{read_sheet}
use Rattle.bundle.specs.Bundle.{Bundle}
use Rattle.bundle.specs.Format.{read_bundle}
use Rattle.checker.specs.Checker.{checked, check}
use Rattle.better.specs.Orders.{Rank, by_rank}
use Rattle.better.specs.Ranks.{runners, rank_by, rank_of}
use Rattle.better.specs.Choices.{Side, firstLent, secondLent, of_side, ahead, chosen_by, choice, better, better_answer, Handed}
use Rattle.std.specs.declared.cmp.Ordering.{Ordering as Order}
use Rattle.std.specs.declared.cmp.Ordering.TheVariants.{Less, Equal, Greater}
use Rattle.better.proofs.Chains as orders
use Rattle.zeldrupa.proofs.Gives.{enough}
use Rattle.assurance.specs.Choosing.{Accepted, Refused, Before, Choice, Choosing}
use Rattle.assurance.proofs.Whole.{check-value, check-returns}

-- an accepted bundle has a rank, with its own bytes, and its sheet was read; a refused one has none
record Ranked (sheet bundle : List ℕ) : Type 0 where
  s : Sheet
  read : read_sheet sheet ≡ value s
  x : Rank
  is : rank_of sheet bundle ≡ some x
  own : x.bytes ≡ bundle

ranked : (sheet bundle : List ℕ) → Accepted sheet bundle → Ranked sheet bundle
unfolding rank_of check
ranked sheet bundle a =
    let v = check-value sheet bundle a.area a.area' a.place a.check in
    let r = and_then-value (read_sheet sheet) (λ s. and_then (read_bundle s bundle) (checked s)) v.0 v.1 in
    record {
      s = r.0;
      read = r.1;
      x = record { claim = v.0.claim; runners = runners v.0; bytes = bundle };
      is = ap (rank_by bundle) v.1;
      own = refl;
    }

unranked : (sheet bundle : List ℕ) → Refused sheet bundle → rank_of sheet bundle ≡ none
unfolding rank_of
unranked sheet bundle h = go (check sheet bundle) refl
  where
    go : (a : Answer Bundle) → check sheet bundle ≡ a → rank_by bundle (check sheet bundle) ≡ none
    go (value b) e = absurd (h.no (check-returns sheet bundle h.area h.area' h.place h.number b h.long h.check e))
    go (refused n at) e = ap (rank_by bundle) e

-- the order
before : {sheet a b : List ℕ} (h : Ranked sheet a) (g : Ranked sheet b) → by_rank h.x g.x ≡ Less → Before sheet a b
before h g e = record { x = h.x; y = g.x; x_is = h.is; y_is = g.is; less = e }

same_bytes : {sheet a b : List ℕ} (h : Ranked sheet a) (g : Ranked sheet b) → h.x ≡ g.x → a ≡ b
same_bytes h g e = sym h.own ∙ ap (λ (r : Rank). r.bytes) e ∙ g.own

comparable : (sheet a b : List ℕ) → Accepted sheet a → Accepted sheet b → Before sheet a b ⊎ (Before sheet b a ⊎ (a ≡ b))
comparable sheet a b p q =
    let h = ranked sheet a p in
    let g = ranked sheet b q in
    ⊎_elim (λ e. inl (before h g e)) (λ o. inr (⊎_elim (λ e. inl (before g h e)) (λ e. inr (same_bytes h g e)) o)) (orders.comparable h.x g.x)

transitive : (sheet a b c : List ℕ) → Before sheet a b → Before sheet b c → Before sheet a c
transitive sheet a b c h g =
    let e : g.x ≡ h.y = some-injective _ _ (sym g.x_is ∙ h.y_is) in
    record {
      x = h.x;
      y = g.y;
      x_is = h.x_is;
      y_is = g.y_is;
      less = orders.transitive h.x h.y g.y h.less (subst (λ (r : Rank). by_rank r g.y ≡ Less) e g.less);
    }

strict : (sheet a : List ℕ) → Before sheet a a → ⊥
strict sheet a h =
    let e : h.y ≡ h.x = some-injective _ _ (sym h.y_is ∙ h.x_is) in
    orders.strict h.x (subst (λ (r : Rank). by_rank h.x r ≡ Less) e h.less)

-- what a call promises by the ranks of its bundles
record Called (first second kept : Bor (List ℕ)) (p r : ℕ) (a : Answer Side) : Type 0 where
  returns : r ≡ number a
  place : p ≡ place_or (of_side (length first.now) (length second.now)) a
  handed : Handed first second a kept

module _ {sheet : List ℕ} {first second kept : Bor (List ℕ)} {p r : ℕ} (c : Choice sheet first second kept p r) (s : Sheet) (read : read_sheet sheet ≡ value s) where
  called : (o u : Option Rank) → rank_of sheet first.now ≡ o → rank_of sheet second.now ≡ u → Called first second kept p r (choice o u)
  unfolding better_answer better
  called o u e f =
      let a : better_answer sheet first.now second.now (length c.work) ≡ choice o u = enough (better sheet first.now second.now) (length c.work) c.long ∙ rw (read, e, f) in
      record {
        returns = c.gives.returns ∙ ap number a;
        place = c.gives.place ∙ ap (place_or (of_side (length first.now) (length second.now))) a;
        handed = subst (λ (x : Answer Side). Handed first second x kept) a c.gives.handed;
      }

side-length : (first second kept : Bor (List ℕ)) (x : Side) → kept ≡ of_side first second x → of_side (length first.now) (length second.now) x ≡ length kept.now
side-length first second kept firstLent e = sym (ap (λ (r : Bor (List ℕ)). length r.now) e)
side-length first second kept secondLent e = sym (ap (λ (r : Bor (List ℕ)). length r.now) e)

module _ (sheet : List ℕ) (first second kept : Bor (List ℕ)) (p r : ℕ) where
  abbrev Better : Type 0
  Better = ((kept ≡ first) × (Before sheet first.now second.now ⊎ (first.now ≡ second.now))) ⊎ ((kept ≡ second) × Before sheet second.now first.now)

  chosen : Accepted sheet first.now → Accepted sheet second.now → Choice sheet first second kept p r → (r ≡ 0) × (p ≡ length kept.now) × Accepted sheet kept.now × Better
  unfolding by_rank
  chosen a b c =
      let h = ranked sheet first.now a in
      let g = ranked sheet second.now b in
      let k = called c h.s h.read (some h.x) (some g.x) h.is g.is in
      let way = by h g (by_rank h.x g.x) refl k.handed in
      (k.returns, k.place ∙ side-length first second kept (ahead (by_rank h.x g.x)) k.handed, accepted way, way)
    where
      by : (h : Ranked sheet first.now) (g : Ranked sheet second.now) (o : Order) → by_rank h.x g.x ≡ o → kept ≡ of_side first second (ahead o) → Better
      by h g Less e q = inl (q, inl (before h g e))
      by h g Equal e q = inl (q, inr (same_bytes h g (orders.rank_same h.x g.x e)))
      by h g Greater e q = inr (q, before g h ((orders.ranks).turns h.x g.x ∙ ap orders.turned e))

      accepted : Better → Accepted sheet kept.now
      accepted =
          ⊎_elim (λ x. subst (λ (z : Bor (List ℕ)). Accepted sheet z.now) (sym x.0) a) (λ x. subst (λ (z : Bor (List ℕ)). Accepted sheet z.now) (sym x.0) b)

  first_alone : Accepted sheet first.now → Refused sheet second.now → Choice sheet first second kept p r → (r ≡ 0) × (kept ≡ first)
  first_alone a b c =
      let h = ranked sheet first.now a in
      let k = called c h.s h.read (some h.x) none h.is (unranked sheet second.now b) in
      (k.returns, k.handed)

  second_alone : Refused sheet first.now → Accepted sheet second.now → Choice sheet first second kept p r → (r ≡ 0) × (kept ≡ second)
  second_alone a b c =
      let h = ranked sheet second.now b in
      let k = called c h.s h.read none (some h.x) (unranked sheet first.now a) h.is in
      (k.returns, k.handed)

-- lent bundles with their ranks: a call chooses by them
record Lent (sheet : List ℕ) : Type 0 where
  ref : Bor (List ℕ)
  x : Rank
  is : rank_of sheet ref.now ≡ some x

abbrev lower : {sheet : List ℕ} → Lent sheet → Lent sheet → Order
lower a b = by_rank a.x b.x

side-ref : {sheet : List ℕ} (a b : Lent sheet) (x : Side) → of_side a.ref b.ref x ≡ (of_side a b x).ref
side-ref a b firstLent = refl
side-ref a b secondLent = refl

choice-ref : {sheet : List ℕ} {kept : Bor (List ℕ)} {p r : ℕ} (a b : Lent sheet) (s : Sheet) → read_sheet sheet ≡ value s → Choice sheet a.ref b.ref kept p r → kept ≡ (chosen_by lower a b).ref
choice-ref a b s e c = (called c s e (some a.x) (some b.x) a.is b.is).handed ∙ side-ref a b (ahead (lower a b))

chains : (sheet : List ℕ) (a b c ab bc left right : Bor (List ℕ)) (p q u v m n i j : ℕ) → Accepted sheet a.now → Accepted sheet b.now → Accepted sheet c.now →
    Choice sheet a b ab p q → Choice sheet ab c left u v → Choice sheet b c bc m n → Choice sheet a bc right i j → left ≡ right
chains sheet a b c ab bc left right p q u v m n i j ha hb hc first then second last =
    let ra = ranked sheet a.now ha in
    let la : Lent sheet = lent a ra in
    let lb = lent b (ranked sheet b.now hb) in
    let lc = lent c (ranked sheet c.now hc) in
    let e = choice-ref la lb ra.s ra.read first in
    let f = choice-ref lb lc ra.s ra.read second in
    choice-ref (chosen_by lower la lb) lc ra.s ra.read (subst (λ (x : Bor (List ℕ)). Choice sheet x c left u v) e then)
    ∙ ap (λ (x : Lent sheet). x.ref) (orders.by-order-chain (orders.ranked-by (Lent sheet) (λ x. x.x)) la lb lc)
    ∙ sym (choice-ref la (chosen_by lower lb lc) ra.s ra.read (subst (λ (x : Bor (List ℕ)). Choice sheet a x right i j) f last))
  where
    lent : (x : Bor (List ℕ)) → Ranked sheet x.now → Lent sheet
    lent x h = record { ref = x; x = h.x; is = h.is }

pub choosing : Choosing
choosing =
    record {
      comparable = comparable;
      transitive = transitive;
      strict = strict;
      chosen = chosen;
      first_alone = first_alone;
      second_alone = second_alone;
      neither =
          λ sheet s e first second kept p r a b c.
          let k = called c s e none none (unranked sheet first.now a) (unranked sheet second.now b) in
          (k.returns, k.place, k.handed.0, k.handed.1);
      chains = chains;
    }
