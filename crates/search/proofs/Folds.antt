-- Parts of the walk: what each makes of the best, and how they follow on each other.
use Rattle.std.specs.Prelude.{Some, None}
use Rattle.std.specs.Prelude.{Option as Maybe}
use Prim.Native.Nat.{ℕ, zero, suc, ◌+◌, ◌-◌, ◌<◌}
use native.Mathlib.Omega.{arith}
use mathlib.Core.Bool.{Bool, true, false, true≢false}
use mathlib.Core.Option.{Option, none, some}
use mathlib.Core.Path.{◌≡◌, sym, ap, ap₂, ◌∙◌, subst}
use mathlib.Core.List.{List, [], ◌∷◌, ◌++◌}
use lib.ListN.{length}
use borrow.Author.Tests.{ltb-true}
use Rattle.folds.specs.Folds.{gather}
use Rattle.folds.proofs.Loops.{gather-one, gather-zero}
use Rattle.sheet.specs.Sheet.{Sheet, task_count}
use Rattle.bundle.specs.Bundle.{Bundle}
use Rattle.admission.specs.declared.view.View.{View}
use Rattle.least.specs.Written.{among}
use Rattle.least.specs.Least.{In, best_from}
use Rattle.least.specs.Pruned.{pruned_at, pruned, looked_from, looked_at}
use Rattle.least.proofs.Candidates.{in_left, in_right}
use Rattle.least.proofs.Bounds.{late, best-append}
use Rattle.search.specs.Codes.{arranged, tasks_of, opens_of, Coded}
use Rattle.search.specs.Judging.{Sought}
use Rattle.search.specs.Keeping.{KeepsOf, Right, FoldIs}
use Rattle.search.specs.Walking.{Ready, begun, Begins, OpenedIs, JoinedIs, opens_right, joins_right, TestIs, opened_from, joined_from, LateIs}
use Rattle.search.specs.declared.choosing.Best.{Best}
use Rattle.search.specs.declared.walking.Begun.{Begun}
use Rattle.search.proofs.Digits.{coded-length, coded-among, open_code, join-code}

abbrev Lists : Type 0
Lists = Sheet → List (List (List ℕ))

module _ {sheet : List ℕ} {v : View} where
  -- the same candidates, of every sheet that is sought
  by-list : {b r : Maybe Best} {cs ds : Lists} → ((s : Sheet) → Sought s sheet v → cs s ≡ ds s) → FoldIs sheet v cs b r → FoldIs sheet v ds b r
  by-list {b} {r} {cs} {ds} e f =
      record {
        right = f.right;
        is =
            λ s k sub o h. subst (λ (x : List (List (List ℕ))). KeepsOf s v r (best_from s x o)) (e s k)
            (f.is s k (λ x i. sub x (subst (In x) (e s k) i)) o h);
      }

  -- no candidates, or none that is better
  fold-none : {b : Maybe Best} {cs : Lists} → Right v b → ((s : Sheet) → Sought s sheet v → cs s ≡ []) → FoldIs sheet v cs b b
  unfolding best_from
  fold-none {b} right e = by-list (λ s k. sym (e s k)) (record { right = right; is = λ s k sub o h. h })

  fold-then : {a b c : Maybe Best} (cs ds : Lists) → FoldIs sheet v cs a b → FoldIs sheet v ds b c → FoldIs sheet v (λ s. cs s ++ ds s) a c
  fold-then {a} {b} {c} cs ds f g =
      record {
        right = g.right;
        is =
            λ s k sub o h. subst (KeepsOf s v c) (sym (best-append s (cs s) (ds s) o))
            (g.is s k (λ x i. sub x (in_right x (cs s) (ds s) i)) (best_from s (cs s) o) (f.is s k (λ x i. sub x (in_left x (cs s) (ds s) i)) o h));
      }

-- what is lent keeps its lengths
pub ready_on : {sheet w buf other w' buf' other' : List ℕ} {v : View} → Ready sheet w buf other v → length w' ≡ length w → length buf' ≡ length buf → length other' ≡ length other
    → Ready sheet w' buf' other' v
ready_on r p q o = record { seen = r.seen; small = r.small; area = omega (arith, r.area, p); first = omega (arith, r.first, q); second = omega (arith, r.second, o) }

-- all tasks are placed
pub leaf-coded : {sheet : List ℕ} {v : View} {b : Begun} {left : ℕ} → Begins sheet v b → left ≡ 0 → b.tasks + left ≡ v.tasks
    → Coded v.tasks b.code × (b.programmes ≡ opens_of v.tasks b.code)
leaf-coded {v = v} {b = b} g e q =
    let n : b.tasks ≡ v.tasks = omega arith in
    (subst (λ (i : ℕ). Coded i b.code) n g.coded, g.programmes ∙ ap (λ (i : ℕ). opens_of i b.code) n)

pub leaf-done : (sheet : List ℕ) (v : View) (b : Begun) (best r : Maybe Best) (left : ℕ) → left ≡ 0 → b.tasks + left ≡ v.tasks → FoldIs sheet v (λ s. arranged v.tasks b.code ∷ []) best r
    → FoldIs sheet v (λ s. looked_from s left (begun b)) best r
unfolding looked_from pruned
leaf-done sheet v b best r left e q f =
    by-list
    (λ s k.
    let n : v.tasks ≡ b.tasks = omega arith in
    ap {B = List (List (List ℕ))} (λ (i : ℕ). arranged i b.code ∷ []) n ∙ ap (λ (i : ℕ). looked_from s i (begun b)) (sym e)) f

one_more : (s : Sheet) (m : ℕ) (a : List (List ℕ)) → 0 < m → gather (task_count s) (looked_at s (m - 1) a) ≡ looked_from s m a
unfolding looked_from looked_at pruned
one_more s zero a h = absurd (omega arith)
one_more s (suc m) a h = let e : suc m - 1 ≡ m = omega arith in rw e

-- the loop over the next task
module _ (sheet : List ℕ) (v : View) (b : Begun) (best : Maybe Best) (left : ℕ) where
  abbrev pub Turned : ℕ → Maybe Best → Type 0
  Turned t k = FoldIs sheet v (λ s. gather t (looked_at s (left - 1) (begun b))) best k

  pub none-turned : Right v best → Turned 0 best
  none-turned right = fold-none right (λ s k. gather-zero (looked_at s (left - 1) (begun b)))

  pub more-turned : (t : ℕ) (k r : Maybe Best) → Turned t k → FoldIs sheet v (λ s. looked_at s (left - 1) (begun b) t) k r → Turned (t + 1) r
  more-turned t k r f g =
      by-list (λ s k. sym (gather-one t (looked_at s (left - 1) (begun b))))
      (fold-then (λ s. gather t (looked_at s (left - 1) (begun b))) (λ s. looked_at s (left - 1) (begun b) t) f g)

  pub all-turned : (t : ℕ) (k : Maybe Best) → 0 < left → t ≡ v.tasks → Turned t k → FoldIs sheet v (λ s. looked_from s left (begun b)) best k
  all-turned t k h e f =
      by-list (λ s k. ap (λ (n : ℕ). gather n (looked_at s (left - 1) (begun b))) (e ∙ sym k.known.tasks) ∙ one_more s left (begun b) h) f

-- one branch
module _ (sheet : List ℕ) (v : View) (b : Begun) (t left : ℕ) (best : Maybe Best) (g : Begins sheet v b) where
  pub used-done : {x : Bool} → Right v best → x ≡ among t (tasks_of b.tasks b.code) → x ≡ true → FoldIs sheet v (λ s. looked_at s left (begun b) t) best best
  unfolding looked_at pruned_at
  used-done right e f = fold-none right (λ s k. rw (coded-among b.tasks b.code t g.coded ∙ sym e ∙ f))

  pub free-done : {x : Bool} (k r : Maybe Best) → x ≡ among t (tasks_of b.tasks b.code) → x ≡ false → FoldIs sheet v (λ s. opened_from s left (begun b) t) best k
      → FoldIs sheet v (λ s. joined_from s left (begun b) t) k r → FoldIs sheet v (λ s. looked_at s left (begun b) t) best r
  unfolding looked_at pruned_at opened_from joined_from
  free-done k r e f p q =
      by-list (λ s k. rw (coded-among b.tasks b.code t g.coded ∙ sym e ∙ f)) (fold-then (λ s. opened_from s left (begun b) t) (λ s. joined_from s left (begun b) t) p q)

  -- t opens a programme, or not
  pub opening-skip : {x : Bool} → Right v best → TestIs opens_right sheet v b t x → x ≡ false → FoldIs sheet v (λ s. opened_from s left (begun b) t) best best
  unfolding opened_from
  opening-skip right f e = fold-none right (λ s k. rw (sym (f.is s k.known) ∙ e))

  pub opening-done : {x : Bool} (a : Begun) (r : Maybe Best) → t < 8 → TestIs opens_right sheet v b t x → x ≡ true → OpenedIs sheet v b t a → FoldIs sheet v (λ s. looked_from s left (begun a)) best r
      → FoldIs sheet v (λ s. opened_from s left (begun b) t) best r
  unfolding opened_from
  opening-done a r l f e o p =
      by-list
      (λ s k.
      rw (sym (f.is s k.known) ∙ e) (ap (looked_from s left) (ap₂ arranged o.more o.code ∙ open_code b.tasks b.code t l))) p

  -- t joins the last one, or not
  pub joining-none : Right v best → b.programmes ≡ 0 → FoldIs sheet v (λ s. joined_from s left (begun b) t) best best
  unfolding joined_from
  joining-none right e =
      let none : length (begun b) ≡ 0 = coded-length b.tasks b.code g.coded ∙ sym g.programmes ∙ e in
      fold-none right (λ s k. rw none)

  pub joining-skip : {x : Bool} → Right v best → TestIs joins_right sheet v b t x → x ≡ false → FoldIs sheet v (λ s. joined_from s left (begun b) t) best best
  unfolding joined_from
  joining-skip right f e = fold-none right (λ s k. rw (sym (f.is s k.known) ∙ e))

  pub joining-done : {x : Bool} (a : Begun) (r : Maybe Best) → t < 8 → TestIs joins_right sheet v b t x → x ≡ true → JoinedIs sheet v b t a → FoldIs sheet v (λ s. looked_from s left (begun a)) best r
      → FoldIs sheet v (λ s. joined_from s left (begun b) t) best r
  unfolding joined_from
  joining-done a r l f e o p =
      by-list
      (λ s k.
      rw (sym (f.is s k.known) ∙ e) (ap (looked_from s left) (ap₂ arranged o.more o.code ∙ join-code b.tasks b.code t l))) p

coded-some : (n c : ℕ) → Coded n c → 0 < n → 0 < opens_of n c
unfolding Coded opens_of
coded-some zero c h l = absurd (omega arith)
coded-some (suc n) c h l = h.1

-- what was found claims less than the last programme works
pub late-done : (sheet : List ℕ) (v : View) (a : Begun) (left : ℕ) (best : Maybe Best) {x : Bool} → Right v best → Begins sheet v a → LateIs best a.work x → x ≡ true
    → FoldIs sheet v (λ s. looked_from s left (begun a)) best best
late-done sheet v a left None right g l e = absurd (true≢false (sym e ∙ l.is))
late-done sheet v a left (Some best) right g l e =
    record { right = right; is = λ s k sub o. go s k o }
  where
    less : best.claim < a.work
    less = ltb-true best.claim a.work (sym l.is ∙ e)

    busy : 0 < a.tasks
    busy = omega (arith, g.short, less)

    go : (s : Sheet) → Sought s sheet v → (o : Option Bundle) → KeepsOf s v (Some best) o → KeepsOf s v (Some best) (best_from s (looked_from s left (begun a)) o)
    go s k none f = absurd f
    go s k (some y) f =
        subst (KeepsOf s v (Some best))
        (sym (late s left (begun a) y (omega (arith, coded-length a.tasks a.code g.coded, coded-some a.tasks a.code g.coded busy))
        (omega (arith, less, f.claim, g.work s k.known)))) f
