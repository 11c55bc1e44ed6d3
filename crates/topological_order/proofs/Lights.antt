-- Taking tasks off: what holds while links are counted off, tasks are put into the queue, and a task is taken from it.
use Prim.Native.Nat.{ℕ, ◌+◌, ◌-◌, ◌≤◌, ◌<◌}
use mathlib.Core.Bool.{Bool, true, false, not}
use mathlib.Core.Path.{◌≡◌, refl, ap, sym, ◌∙◌}
use mathlib.Core.Logic.{◌≢◌}
use mathlib.Core.List.{List}
use native.Mathlib.Omega.{arith}
use native.Mathlib.Decide.{dec_lt, ℕ_discrete}
use borrow.Author.Tests.{eq-eqb, ne_eqb}
use lib.ListN.{length, get_or, set}
use lib.Seq.{get_or-set_other}
use lib.Dec.{eqb, ltb}
use Rattle.workspace.specs.Area.{fixed, heads_at, levels_at, marks_at, queue_at}
use Rattle.folds.specs.Folds.{bit, both, sum, greatest}
use Rattle.folds.proofs.Tests.{both_false}
use Rattle.folds.proofs.Laws.{sum-cong, sum-point, term-le-sum, greatest-cong}
use Rattle.sheet.specs.Sheet.{Sheet, task_count, link_count, source_of, target_of, cost_of}
use Rattle.graph.specs.Graph.{level_by}
use Rattle.topological_order.specs.Words.{place_in, degree_in, task_at, Queued, in_queue, pushed}
use Rattle.topological_order.specs.Peeling.{due_by, Peel}
use Rattle.graph.proofs.Reaches.{Declared}
use Rattle.topological_order.proofs.Places.{place-le, degree-short, place_same, degree-same, place-far, degree-far, place_none, degree-put}
use Rattle.topological_order.proofs.Pushes.{queued-few, queued-room, queued-push, apart, push-here, push_else, push-none, push-due}

-- a link by what it says of t
module _ (s : Sheet) (c : ℕ → Bool) (t l : ℕ) where
  pub due-lit : c l ≡ true → due_by s c t l ≡ 0
  unfolding due_by
  due-lit e = rw (e, both_false (eqb (source_of s l) t))

  pub due-unlit : source_of s l ≡ t → c l ≡ false → due_by s c t l ≡ 1
  unfolding due_by
  due-unlit h e = rw (eq-eqb (source_of s l) t h, e)

  pub due-other : source_of s l ≢ t → due_by s c t l ≡ 0
  unfolding due_by
  due-other h = rw (ne_eqb (source_of s l) t h)

pub level-own : (s : Sheet) (of : ℕ → ℕ) (t l : ℕ) → source_of s l ≡ t → level_by s of t l ≡ cost_of s l + of (target_of s l)
unfolding level_by
level-own s of t l e = rw (eq-eqb (source_of s l) t e)

pub level-other : (s : Sheet) (of : ℕ → ℕ) (t l : ℕ) → source_of s l ≢ t → level_by s of t l ≡ 0
unfolding level_by
level-other s of t l e = rw (ne_eqb (source_of s l) t e)

pub due-cong : (s : Sheet) (c c' : ℕ → Bool) (t l : ℕ) → c l ≡ c' l → due_by s c t l ≡ due_by s c' t l
unfolding due_by
due-cong s c c' t l e = ap (λ (b : Bool). bit (both (eqb (source_of s l) t) (not b))) e

-- a task whose links are all counted off
pub due-none : (s : Sheet) (c : ℕ → Bool) (t l : ℕ) → sum (link_count s) (due_by s c t) ≡ 0 → l < link_count s → source_of s l ≡ t → c l ≡ true
due-none s c t l e h p = go (c l) refl
  where
    go : (b : Bool) → c l ≡ b → c l ≡ true
    go true q = q
    go false q = absurd (omega (arith, due-unlit s c t l p q, term-le-sum (link_count s) (due_by s c t) l h))

-- the formula of a task none of whose successors changed its level
pub level-same : (s : Sheet) (of of' : ℕ → ℕ) (t : ℕ) → ((l : ℕ) → l < link_count s → source_of s l ≡ t → of' (target_of s l) ≡ of (target_of s l))
    → greatest (link_count s) (level_by s of t) ≡ greatest (link_count s) (level_by s of' t)
level-same s of of' t h = greatest-cong (link_count s) (level_by s of t) (level_by s of' t) (λ l k. go l k (ℕ_discrete (source_of s l) t))
  where
    go : (l : ℕ) → l < link_count s → Dec (source_of s l ≡ t) → level_by s of t l ≡ level_by s of' t l
    go l k (yes e) = level-own s of t l e ∙ sym (level-own s of' t l e ∙ ap (λ (x : ℕ). cost_of s l + x) (h l k e))
    go l k (no e) = level-other s of t l e ∙ sym (level-other s of' t l e)

-- the queue of an area whose words from the queue on, and whose places, are as they were
pub queued-same : {n k : ℕ} {w w' : List ℕ} → ((t : ℕ) → place_in w' t ≡ place_in w t) → ((i : ℕ) → queue_at ≤ i → get_or w' i 0 ≡ get_or w i 0) → Queued n k w → Queued n k w'
unfolding in_queue
queued-same {n} {k} {w} {w'} place same q =
    let at : (j : ℕ) → get_or w' (queue_at + j) 0 ≡ get_or w (queue_at + j) 0 = λ j. same (queue_at + j) (omega arith) in
    record {
      task = λ j h. rw (at j) (q.task j h);
      place = λ j h. rw (at j) (place (get_or w (queue_at + j) 0) ∙ q.place j h);
      few = λ t h l. rw (place t) (q.few t h (rw (place t) at l));
      back = λ t h l. rw (place t) (at (place_in w t) ∙ q.back t h (rw (place t) at l));
      count = q.count ∙ sum-cong n (in_queue w) (in_queue w') (λ t h. ap (λ (x : ℕ). bit (ltb x 256)) (sym (place t)));
    }

-- other words for the links that are counted off
pub peel-same : {s : Sheet} {i k e f : ℕ} {w : List ℕ} (c c' : ℕ → Bool) → ((l : ℕ) → l < link_count s → c l ≡ c' l) → Peel s c i k e f w → Peel s c' i k e f w
peel-same {s} {i} {k} {e} {f} {w} c c' h p =
    record {
      queued = p.queued;
      early = p.early;
      lit = λ l g q. p.lit l g (h l g ∙ q);
      degree = λ t g. p.degree t g ∙ sum-cong (link_count s) (due_by s c t) (due_by s c' t) (λ l q. due-cong s c c' t l (h l q));
      ready = p.ready;
      waits = p.waits;
      falls = p.falls;
    }

module _ (s : Sheet) (w : List ℕ) (declared : Declared s) (few : task_count s ≤ 256) (long : fixed ≤ length w) where
  -- a link is counted off at its source
  module _ (c c' : ℕ → Bool) (i k l d : ℕ) (p : Peel s c i k 0 0 w) (l-in : l < link_count s) (off : c l ≡ false) (on : c' l ≡ true)
      (else : (j : ℕ) → j < link_count s → j ≢ l → c' j ≡ c j) (gone : place_in w (target_of s l) < i) (d-is : d ≡ degree_in w (source_of s l) - 1) where
    abbrev u : ℕ
    u = source_of s l

    abbrev lit-words : List ℕ
    lit-words = set w (marks_at + source_of s l) d

    u-in : u < task_count s
    u-in = declared.source l l-in

    pub light-some : 1 ≤ degree_in w (source_of s l)
    light-some = omega (arith, p.degree u u-in, due-unlit s c u l refl off, term-le-sum (link_count s) (due_by s c u) l l-in)

    pub light-free : 256 ≤ place_in w (source_of s l)
    light-free = go (dec_lt (place_in w u) 256)
      where
        go : Dec (place_in w u < 256) → 256 ≤ place_in w u
        go (yes h) = absurd (omega (arith, p.ready u u-in h, light-some))
        go (no h) = omega arith

    not-u : (t : ℕ) → place_in w t < 256 → t ≢ u
    not-u t h = apart w t u h light-free

    few-gone : i ≤ 256
    few-gone = omega (arith, p.early, queued-few p.queued)

    d-short : d < 65536
    d-short = omega (arith, degree-short w u)

    pub light-degree : degree_in lit-words (source_of s l) ≡ d
    light-degree = let h = u-in in degree-put w u (omega arith) d d-short

    degree-else : (t : ℕ) → t ≢ u → degree_in lit-words t ≡ degree_in w t
    degree-else t e = degree-far w (marks_at + u) d t (λ x. e (omega arith))

    light-high : (j : ℕ) → queue_at ≤ j → get_or lit-words j 0 ≡ get_or w j 0
    light-high j h = let g = u-in in get_or-set_other w (marks_at + u) j d 0 (omega arith)

    pub light-place : (t : ℕ) → place_in lit-words t ≡ place_in w t
    light-place t = go (ℕ_discrete t u)
      where
        go : Dec (t ≡ u) → place_in lit-words t ≡ place_in w t
        go (yes e) = let h = u-in in rw e (place_none w u (omega arith) d d-short ∙ omega (arith, place-le w u, light-free))
        go (no e) = place-far w (marks_at + u) d t (λ x. e (omega arith))

    due' : (t : ℕ) → t < task_count s → Dec (t ≡ u) → degree_in lit-words t ≡ sum (link_count s) (due_by s c' t)
    due' t h (yes e) =
        let one : due_by s c u l ≡ due_by s c' u l + 1 = due-unlit s c u l refl off ∙ sym (ap (λ (x : ℕ). x + 1) (due-lit s c' u l on)) in
        let all : sum (link_count s) (due_by s c u) ≡ sum (link_count s) (due_by s c' u) + 1 =
        sum-point (link_count s) (due_by s c' u) (due_by s c u) l 1 l-in one (λ j g q. due-cong s c c' u j (sym (else j g q))) in
        rw e (light-degree ∙ omega (arith, p.degree u u-in))
    due' t h (no e) =
        degree-else t e ∙ p.degree t h ∙ sum-cong (link_count s) (due_by s c t) (due_by s c' t) (λ j g. go j g (ℕ_discrete j l))
      where
        go : (j : ℕ) → j < link_count s → Dec (j ≡ l) → due_by s c t j ≡ due_by s c' t j
        go j g (yes q) =
            let x : source_of s j ≢ t = λ z. e (sym z ∙ ap (source_of s) q) in
            due-other s c t j x ∙ sym (due-other s c' t j x)
        go j g (no q) = due-cong s c c' t j (sym (else j g q))

    pub peel-light : Peel s c' i k u (u + 1) lit-words
    peel-light =
        let few' = few-gone in
        record {
          queued = queued-same light-place light-high p.queued;
          early = p.early;
          lit = λ j h q. rw (light-place (target_of s j)) (back j h q (ℕ_discrete j l));
          degree = λ t h. due' t h (ℕ_discrete t u);
          ready = λ t h g. let x = light-place t in degree-else t (not-u t (omega arith)) ∙ p.ready t h (omega arith);
          waits = λ t h x g. rw (light-place t) (let y = degree-else t (λ z. x (omega arith) (omega arith)) in p.waits t h (λ q r. absurd (omega arith)) (omega arith));
          falls = λ j h g. let a = light-place (source_of s j) in let b = light-place (target_of s j) in omega (arith, p.falls j h (omega arith));
        }
      where
        back : (j : ℕ) → j < link_count s → c' j ≡ true → Dec (j ≡ l) → place_in w (target_of s j) < i
        back j h q (yes e) = rw e gone
        back j h q (no e) = p.lit j h (sym (else j h e) ∙ q)

  -- a task whose links are all counted off goes into the queue
  module _ (c : ℕ → Bool) (i k e f e' f' u : ℕ) (p : Peel s c i k e f w) (u-in : u < task_count s) (free : 256 ≤ place_in w u) (none : degree_in w u ≡ 0)
      (less : (t : ℕ) → t ≢ u → (e' ≤ t → t < f' → ⊥) → e ≤ t → t < f → ⊥) where
    abbrev queue-words : List ℕ
    queue-words = pushed w k u

    few-k : k < 256
    few-k = omega (arith, queued-room u p.queued u-in free)

    in_place : place_in queue-words u ≡ k
    in_place = push-here (task_count s) k u w few long u-in free p.queued

    else-place : (t : ℕ) → t < task_count s → t ≢ u → place_in queue-words t ≡ place_in w t
    else-place t = push_else (task_count s) k u w few long u-in free p.queued t

    old-place : (t : ℕ) → t < task_count s → place_in w t < 256 → place_in queue-words t ≡ place_in w t
    old-place t g h = else-place t g (apart w t u h free)

    degree-word : (t : ℕ) → t < task_count s → degree_in queue-words t ≡ degree_in w t
    degree-word t h = go (ℕ_discrete t u)
      where
        go : Dec (t ≡ u) → degree_in queue-words t ≡ degree_in w t
        go (yes q) = rw q (push-none (task_count s) k u w few long u-in free p.queued ∙ sym none)
        go (no q) = push-due (task_count s) k u w few long u-in free p.queued t h q

    ready-push : (t : ℕ) → t < task_count s → place_in queue-words t < 256 → Dec (t ≡ u) → degree_in w t ≡ 0
    ready-push t h g (yes q) = ap (degree_in w) q ∙ none
    ready-push t h g (no q) = p.ready t h (omega (arith, else-place t h q))

    waits-push : (t : ℕ) → t < task_count s → (e' ≤ t → t < f' → ⊥) → degree_in w t ≡ 0 → Dec (t ≡ u) → place_in queue-words t < 256
    waits-push t h x g (yes q) = let y : place_in queue-words t ≡ place_in queue-words u = ap (place_in queue-words) q in omega (arith, in_place, few-k)
    waits-push t h x g (no q) = let y = p.waits t h (less t q x) g in omega (arith, else-place t h q)

    falls-push : (l : ℕ) → l < link_count s → place_in queue-words (source_of s l) < 256 → Dec (source_of s l ≡ u) → place_in queue-words (target_of s l) < place_in queue-words (source_of s l)
    falls-push l h g (yes q) =
        let on : c l ≡ true = due-none s c u l (sym (p.degree u u-in) ∙ none) h q in
        let x = p.lit l h on in
        let y : place_in queue-words (source_of s l) ≡ place_in queue-words u = ap (place_in queue-words) q in
        let z = old-place (target_of s l) (declared.target l h) (omega (arith, p.early, few-k)) in
        omega (arith, in_place, p.early)
    falls-push l h g (no q) =
        let x = else-place (source_of s l) (declared.source l h) q in
        let y = p.falls l h (omega arith) in
        let z = old-place (target_of s l) (declared.target l h) (omega arith) in
        omega arith

    pub peel-push : Peel s c i (k + 1) e' f' (pushed w k u)
    peel-push =
        record {
          queued = queued-push (task_count s) k u w few long u-in free p.queued;
          early = omega (arith, p.early);
          lit = λ l h q. let x = p.lit l h q in let y = old-place (target_of s l) (declared.target l h) (omega (arith, p.early, few-k)) in omega arith;
          degree = λ t h. degree-word t h ∙ p.degree t h;
          ready = λ t h g. degree-word t h ∙ ready-push t h g (ℕ_discrete t u);
          waits = λ t h x g. waits-push t h x (sym (degree-word t h) ∙ g) (ℕ_discrete t u);
          falls = λ l h g. falls-push l h g (ℕ_discrete (source_of s l) u);
        }

  -- the next task of the queue is taken off: its level is set, and the places and counts are as they were
  module _ (c : ℕ → Bool) (i k v y : ℕ) (p : Peel s c i k 0 0 w) (left : i < k) (v-in : v < task_count s) where
    abbrev off-words : List ℕ
    off-words = set w (levels_at + v) y

    pop-high : (j : ℕ) → heads_at ≤ j → get_or off-words j 0 ≡ get_or w j 0
    pop-high j h = get_or-set_other w (levels_at + v) j y 0 (omega arith)

    pub pop-same : (t : ℕ) → place_in off-words t ≡ place_in w t
    pop-same t = place_same w off-words t (pop-high (marks_at + t) (omega arith))

    pop-due : (t : ℕ) → degree_in off-words t ≡ degree_in w t
    pop-due t = degree-same w off-words t (pop-high (marks_at + t) (omega arith))

    pub pop-queue : (j : ℕ) → task_at off-words j ≡ task_at w j
    pop-queue j = pop-high (queue_at + j) (omega arith)

    pub peel-pop : Peel s c (i + 1) k 0 0 off-words
    peel-pop =
        record {
          queued = queued-same pop-same (λ j h. pop-high j (omega arith)) p.queued;
          early = omega arith;
          lit = λ l h q. let x = p.lit l h q in rw (pop-same (target_of s l)) (omega arith);
          degree = λ t h. pop-due t ∙ p.degree t h;
          ready = λ t h g. let a = pop-same t in pop-due t ∙ p.ready t h (omega arith);
          waits = λ t h x g. rw (pop-same t) (p.waits t h x (sym (pop-due t) ∙ g));
          falls = λ l h g. let a = pop-same (source_of s l) in let b = pop-same (target_of s l) in omega (arith, p.falls l h (omega arith));
        }
