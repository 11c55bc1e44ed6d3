-- Leaving branches out leaves the best: heads that do not rise, a target before its source in one programme, too large stores.
use Prim.Native.Nat.{ℕ, zero, suc, ◌+◌, ◌≤◌, ◌<◌}
use native.Mathlib.Omega.{arith}
use mathlib.Core.Bool.{Bool, true, false, not, true≢false}
use mathlib.Core.Option.{none}
use mathlib.Core.Path.{◌≡◌, refl, sym, ap, ◌∙◌, subst}
use mathlib.Core.Logic.{◌≢◌, ◌⊎◌, ⊎_elim}
use mathlib.Core.List.{List, [], ◌∷◌, ◌++◌, append_assoc, append-nil}
use lib.ListN.{length, get_or}
use lib.Seq.{get_or_at}
use lib.Dec.{ltb, eqb}
use borrow.Author.Tests.{eqb-true, eq-eqb, ne_eqb, le-leb, ltb-true}
use Rattle.folds.specs.Folds.{pick, bit, both, any, gather}
use Rattle.folds.proofs.Tests.{equal-or, both-parts, parts-both}
use Rattle.folds.proofs.Laws.{any_some, sum_zeros}
use Rattle.sheet.specs.Sheet.{Sheet, task_count, link_count, source_of, target_of, store_of}
use Rattle.graph.proofs.Proper.{Proper}
use Rattle.graph.proofs.Forms.{Sized}
use Rattle.bundle.specs.Bundle.{Command, run, send, receive, Bundle, programme_of}
use Rattle.admission.specs.Counting.{weigh, whole_of, whole, is, need}
use Rattle.admission.specs.Releases.{frees}
use Rattle.admission.specs.Messages.{home, before}
use Rattle.admission.specs.Unsplit.{inside_ok}
use Rattle.admission.proofs.Weights.{weigh-append, weigh-gather, same_refl}
use Rattle.admission.proofs.Before.{before-skip}
use Rattle.checker.proofs.Accepted.{Passes, passes}
use Rattle.planner.proofs.Schedules.{tally}
use Rattle.least.specs.Written.{among, brings_in, receive_in, send_in, block_in, blocks_in, programme_in, programmes_in}
use Rattle.least.specs.Ranking.{lower}
use Rattle.least.specs.Heads.{head_bytes, head_of, rises}
use Rattle.least.specs.Least.{In, opens, joins, among_all, extended, completions, candidates, bundle_in, best_from, best}
use Rattle.least.specs.Pruned.{pruned_at, pruned, last_of, total, heads_rise, feeds, in_order, store_fits, may_open, may_join, looked_from, looked}
use Rattle.least.proofs.Standing.{at_home, of-whole, once, inside, plain-use}
use Rattle.least.proofs.Candidates.{in_left, in_right, in-gather, tally-append, joins-last}
use Rattle.least.proofs.Normal.{programmes_in-append}
use Rattle.least.proofs.Arranging.{block_run, blocks-run, one_none, blocks-plain, length-in}
use Rattle.least.proofs.Best.{in_parts, gathered, Works, works-checked}
use Rattle.least.proofs.Heads.{among-tally, best-of-part}

-- what a completion keeps: all programmes but the last, and the front of the last
module _ (p n : ℕ) where
  pub extends : (m : ℕ) (f : List (List ℕ)) (ts : List ℕ) (x : List (List ℕ)) → In x (completions p n m (f ++ ts ∷ [])) → (us : List ℕ) × (zs : List (List ℕ)) × (x ≡ f ++ (ts ++ us) ∷ zs)
  unfolding completions extended opens
  extends zero f ts x i = ⊎_elim (λ e. ([], [], e ∙ ap {B = List (List ℕ)} (λ y. f ++ y ∷ []) (sym (append-nil ts)))) (λ z. absurd z) i
  extends (suc m) f ts x i =
      let z = gathered x n (extended p n (completions p n m) (f ++ ts ∷ [])) i in
      at z.0 (among_all z.0 (f ++ ts ∷ [])) (ltb (length (f ++ ts ∷ [])) p) (ltb 0 (length (f ++ ts ∷ []))) z.2 (extends m)
    where
      at : (t : ℕ) (u v w : Bool)
          → In x (pick u [] (pick v (completions p n m ((f ++ ts ∷ []) ++ (t ∷ []) ∷ [])) [] ++ pick w (completions p n m (joins (f ++ ts ∷ []) t)) []))
          → ((f : List (List ℕ)) (ts : List ℕ) (x : List (List ℕ)) → In x (completions p n m (f ++ ts ∷ [])) → (us : List ℕ) × (zs : List (List ℕ)) × (x ≡ f ++ (ts ++ us) ∷ zs))
          → (us : List ℕ) × (zs : List (List ℕ)) × (x ≡ f ++ (ts ++ us) ∷ zs)
      at t true v w j r = absurd j
      at t false v w j r =
          ⊎_elim (opening v) (joining w) (in_parts x (pick v (completions p n m ((f ++ ts ∷ []) ++ (t ∷ []) ∷ [])) []) (pick w (completions p n m (joins (f ++ ts ∷ []) t)) []) j)
        where
          opening : (v : Bool) → In x (pick v (completions p n m ((f ++ ts ∷ []) ++ (t ∷ []) ∷ [])) []) → (us : List ℕ) × (zs : List (List ℕ)) × (x ≡ f ++ (ts ++ us) ∷ zs)
          opening false k = absurd k
          opening true k =
              let y = r (f ++ ts ∷ []) (t ∷ []) x k in
              ([], (t ∷ y.0) ∷ y.1, y.2 ∙ append_assoc f (ts ∷ []) ((t ∷ y.0) ∷ y.1) ∙ ap {B = List (List ℕ)} (λ q. f ++ q ∷ (t ∷ y.0) ∷ y.1) (sym (append-nil ts)))

          joining : (w : Bool) → In x (pick w (completions p n m (joins (f ++ ts ∷ []) t)) []) → (us : List ℕ) × (zs : List (List ℕ)) × (x ≡ f ++ (ts ++ us) ∷ zs)
          joining false k = absurd k
          joining true k =
              let y = r f (ts ++ t ∷ []) x (rw (joins-last f ts t) at k) in
              (t ∷ y.0, y.1, y.2 ∙ ap {B = List (List ℕ)} (λ q. f ++ q ∷ y.1) (append_assoc ts (t ∷ []) y.0))

  module _ (okOpen okJoin : List (List ℕ) → ℕ → Bool) where
    -- what is looked at is a candidate
    pub pruned-in : (m : ℕ) (a x : List (List ℕ)) → In x (pruned p n okOpen okJoin m a) → In x (completions p n m a)
    unfolding pruned pruned_at completions extended
    pruned-in zero a x i = i
    pruned-in (suc m) a x i =
        let z = gathered x n (pruned_at p n okOpen okJoin (pruned p n okOpen okJoin m) a) i in
        in-gather x n (extended p n (completions p n m) a) z.0 z.1
        (at z.0 (among_all z.0 a) (ltb (length a) p) (okOpen a z.0) (ltb 0 (length a)) (okJoin a z.0) z.2 (pruned-in m))
      where
        at : (t : ℕ) (u v o w j : Bool) → In x (pick u [] (pick (both v o) (pruned p n okOpen okJoin m (opens a t)) [] ++ pick (both w j) (pruned p n okOpen okJoin m (joins a t)) []))
            → ((a x : List (List ℕ)) → In x (pruned p n okOpen okJoin m a) → In x (completions p n m a))
            → In x (pick u [] (pick v (completions p n m (opens a t)) [] ++ pick w (completions p n m (joins a t)) []))
        at t true v o w j i r = i
        at t false v o w j i r =
            ⊎_elim (λ k. in_left x (pick v (completions p n m (opens a t)) []) (pick w (completions p n m (joins a t)) []) (one v o (opens a t) k))
            (λ k. in_right x (pick v (completions p n m (opens a t)) []) (pick w (completions p n m (joins a t)) []) (one w j (joins a t) k))
            (in_parts x (pick (both v o) (pruned p n okOpen okJoin m (opens a t)) []) (pick (both w j) (pruned p n okOpen okJoin m (joins a t)) []) i)
          where
            one : (v o : Bool) (c : List (List ℕ)) → In x (pick (both v o) (pruned p n okOpen okJoin m c) []) → In x (pick v (completions p n m c) [])
            one true true c k = r c x k
            one true false c k = absurd k
            one false o c k = absurd k

    -- what has P is still there, if no branch with such a completion is left out
    module _ (P : List (List ℕ) → Type 0)
        (opens-ok : (m : ℕ) (a : List (List ℕ)) (t : ℕ) (x : List (List ℕ)) → In x (completions p n m (opens a t)) → P x → okOpen a t ≡ true)
        (joins-ok : (m : ℕ) (a : List (List ℕ)) (t : ℕ) (x : List (List ℕ)) → 0 < length a → In x (completions p n m (joins a t)) → P x → okJoin a t ≡ true) where
      pub in-pruned : (m : ℕ) (a x : List (List ℕ)) → In x (completions p n m a) → P x → In x (pruned p n okOpen okJoin m a)
      unfolding pruned pruned_at completions extended
      in-pruned zero a x i g = i
      in-pruned (suc m) a x i g =
          let z = gathered x n (extended p n (completions p n m) a) i in
          in-gather x n (pruned_at p n okOpen okJoin (pruned p n okOpen okJoin m) a) z.0 z.1
          (at z.0 (among_all z.0 a) (ltb (length a) p) (ltb 0 (length a)) refl z.2 (in-pruned m))
        where
          at : (t : ℕ) (u v w : Bool) → ltb 0 (length a) ≡ w → In x (pick u [] (pick v (completions p n m (opens a t)) [] ++ pick w (completions p n m (joins a t)) []))
              → ((a x : List (List ℕ)) → In x (completions p n m a) → P x → In x (pruned p n okOpen okJoin m a))
              → In x (pick u [] (pick (both v (okOpen a t)) (pruned p n okOpen okJoin m (opens a t)) [] ++ pick (both w (okJoin a t)) (pruned p n okOpen okJoin m (joins a t)) []))
          at t true v w e i r = i
          at t false v w e i r =
              ⊎_elim (λ k. in_left x (pick (both v (okOpen a t)) (pruned p n okOpen okJoin m (opens a t)) []) (pick (both w (okJoin a t)) (pruned p n okOpen okJoin m (joins a t)) []) (opening v k))
              (λ k. in_right x (pick (both v (okOpen a t)) (pruned p n okOpen okJoin m (opens a t)) []) (pick (both w (okJoin a t)) (pruned p n okOpen okJoin m (joins a t)) []) (joining w e k))
              (in_parts x (pick v (completions p n m (opens a t)) []) (pick w (completions p n m (joins a t)) []) i)
            where
              opening : (v : Bool) → In x (pick v (completions p n m (opens a t)) []) → In x (pick (both v (okOpen a t)) (pruned p n okOpen okJoin m (opens a t)) [])
              opening true k = rw (opens-ok m a t x k g) (r (opens a t) x k g)
              opening false k = absurd k

              joining : (w : Bool) → ltb 0 (length a) ≡ w → In x (pick w (completions p n m (joins a t)) []) → In x (pick (both w (okJoin a t)) (pruned p n okOpen okJoin m (joins a t)) [])
              joining true e k = rw (joins-ok m a t x (ltb-true 0 (length a) e) k g) (r (joins a t) x k g)
              joining false e k = absurd k

-- the last programme
pub last-split : (ts : List ℕ) (a : List (List ℕ)) → (f : List (List ℕ)) × (ts ∷ a ≡ f ++ last_of (ts ∷ a) ∷ [])
unfolding last_of
last-split ts [] = ([], refl)
last-split ts (us ∷ a) = let z = last-split us a in (ts ∷ z.0, ap {B = List (List ℕ)} (λ x. ts ∷ x) z.1)

pub split-last : (a : List (List ℕ)) → 0 < length a → (f : List (List ℕ)) × (a ≡ f ++ last_of a ∷ [])
split-last [] h = absurd (omega arith)
split-last (ts ∷ a) h = last-split ts a

rises-at : (s : Sheet) (f : List (List ℕ)) (ts us : List ℕ) (zs : List (List ℕ)) → rises s (f ++ ts ∷ us ∷ zs) ≡ true → lower (head_bytes s (head_of ts)) (head_bytes s (head_of us)) ≡ true
unfolding rises
rises-at s [] ts us zs e = (both-parts (lower (head_bytes s (head_of ts)) (head_bytes s (head_of us))) _ e).0
rises-at s (x ∷ []) ts us zs e = rises-at s [] ts us zs (both-parts (lower (head_bytes s (head_of x)) (head_bytes s (head_of ts))) _ e).1
rises-at s (x ∷ y ∷ f) ts us zs e = rises-at s (y ∷ f) ts us zs (both-parts (lower (head_bytes s (head_of x)) (head_bytes s (head_of y))) _ e).1

pub total-append : (g : ℕ → ℕ) (ts us : List ℕ) → total g (ts ++ us) ≡ total g ts + total g us
unfolding total
total-append g [] us = omega arith
total-append g (t ∷ ts) us = omega (arith, total-append g ts us)

-- what the blocks of tasks weigh at least
module _ (s : Sheet) (g : Command → ℕ) where
  pub total-le : (ts us : List ℕ) → total (λ t. g (run t)) us ≤ weigh g (blocks_in s ts us)
  unfolding total blocks_in block_in weigh
  total-le ts [] = omega arith
  total-le ts (u ∷ us) =
      omega (
        arith,
        weigh-append g (block_in s ts u) (blocks_in s ts us),
        weigh-append g (gather (link_count s) (receive_in s ts u)) (run u ∷ gather (link_count s) (send_in s ts u)),
        total-le ts us,
      )

module _ (s : Sheet) (x : List (List ℕ)) (works : Works s x) (f : List (List ℕ)) (ts : List ℕ) (zs : List (List ℕ)) (parts : x ≡ f ++ ts ∷ zs) where
  abbrev b : Bundle
  b = bundle_in s x

  abbrev k : ℕ
  k = length f

  pub ok : Passes s b
  ok = (passes s b b (works-checked s b works)).0

  pub text : programme_of b k ≡ programme_in s ts
  unfolding programme_of bundle_in programmes_in
  text =
      ap (λ (a : List (List ℕ)). get_or (programmes_in s a) k []) parts ∙
      ap (λ (ps : List (List Command)). get_or ps k []) (programmes_in-append s f (ts ∷ zs)) ∙
      get_or_at (programmes_in s f) (programme_in s ts) (programmes_in s zs) [] k (length-in s f)

  pub store-le : total (store_of s) ts ≤ s.limit
  unfolding whole_of programme_in
  store-le = omega (arith, ok.within k (length (programme_of b k)), plain-use s (programme_of b k) (ap (weigh frees) text ∙ blocks-plain s ts ts), ap (weigh (need s)) text, total-le s (need s) ts ts)

  runs_here : (u : ℕ) → whole_of b (is (run u)) k ≡ tally u ts
  unfolding whole_of programme_in
  runs_here u = ap (weigh (is (run u))) text ∙ blocks-run s ts ts u

  here-home : (u : ℕ) → u < task_count s → 0 < tally u ts → home b (run u) ≡ k
  here-home u h l = at_home b (run u) k (omega (arith, once s b ok.published u h)) (omega (arith, runs_here u))

  tally-le : (u : ℕ) → u < task_count s → tally u ts ≤ 1
  tally-le u h = omega (arith, runs_here u, once s b ok.published u h, of-whole b (run u) k)

  -- a link inside ts goes forward
  pub forward : (l : ℕ) → l < link_count s → source_of s l < task_count s → target_of s l < task_count s → 0 < tally (source_of s l) ts → 0 < tally (target_of s l) ts
      → before (run (source_of s l)) (run (target_of s l)) (programme_in s ts) ≡ true
  unfolding inside_ok
  forward l h m n p q =
      let tgt-home = here-home (target_of s l) n q in
      let z = both-parts (eqb (whole b (is (send l)) + whole b (is (receive l))) 0) _ (inside s b ok.published l h (here-home (source_of s l) m p ∙ sym tgt-home)) in
      ap (before (run (source_of s l)) (run (target_of s l))) (sym text ∙ ap (programme_of b) (sym tgt-home)) ∙ z.1

-- a task whose block comes later does not run before
module _ (s : Sheet) (w : List ℕ) (t v : ℕ) where
  no_run : (u y : ℕ) → weigh (is (run u)) (gather (link_count s) (receive_in s w y)) ≡ 0
  unfolding receive_in is
  no_run u y =
      weigh-gather (is (run u)) (link_count s) (receive_in s w y) ∙
      sum_zeros (link_count s) (λ l. weigh (is (run u)) (receive_in s w y l)) (λ l h. one_none s (brings_in s w y l) u (receive l) refl)

  block-late : (rest : List Command) → before (run t) (run v) (block_in s w v ++ rest) ≡ false
  unfolding before block_in
  block-late rest =
      rw (append_assoc (gather (link_count s) (receive_in s w v)) (run v ∷ gather (link_count s) (send_in s w v)) rest)
      (before-skip (run t) (run v) (gather (link_count s) (receive_in s w v)) (run v ∷ (gather (link_count s) (send_in s w v) ++ rest)) (no_run t v) (no_run v v) ∙ rw (same_refl (run v)))

  late : (ts us : List ℕ) → tally t ts ≡ 0 → 0 < tally v ts → before (run t) (run v) (blocks_in s w (ts ++ us)) ≡ false
  unfolding blocks_in
  late [] us e h = absurd (omega arith)
  late (y ∷ ts) us e h =
      ⊎_elim (λ (q : v ≡ y). subst (λ (z : ℕ). before (run t) (run v) (block_in s w z ++ blocks_in s w (ts ++ us)) ≡ false) q (block-late (blocks_in s w (ts ++ us))))
      (λ d. before-skip (run t) (run v) (block_in s w y) (blocks_in s w (ts ++ us)) (omega (arith, block_run s w t y)) (omega (arith, block_run s w v y, ap bit (ne_eqb v y d))) ∙
      late ts us (omega arith) (omega (arith, ap bit (ne_eqb v y d)))) (equal-or v y)

module _ (s : Sheet) (proper : Proper s) (sized : Sized s) where
  abbrev Right : List (List ℕ) → Type 0
  Right x = Works s x × (rises s x ≡ true)

  may-open : (m : ℕ) (a : List (List ℕ)) (t : ℕ) (x : List (List ℕ)) → In x (completions s.processors (task_count s) m (opens a t)) → Right x → may_open s a t ≡ true
  unfolding may_open opens total
  may-open m a t x i g =
      let e = extends s.processors (task_count s) m a (t ∷ []) x i in
      parts-both (heads_rise s a t) (store_fits s (t ∷ []))
      (heads a e.0 e.1 e.2)
      (le-leb (total (store_of s) (t ∷ [])) s.limit (omega (arith, store-le s x g.0 a (t ∷ e.0) e.1 e.2)))
    where
      heads : (a : List (List ℕ)) (us : List ℕ) (zs : List (List ℕ)) → x ≡ a ++ (t ∷ us) ∷ zs → heads_rise s a t ≡ true
      heads [] us zs q = refl
      heads (ts ∷ a) us zs q =
          let z = last-split ts a in
          let l = last_of (ts ∷ a) in
          let r : x ≡ z.0 ++ l ∷ (t ∷ us) ∷ zs = q ∙ ap (λ (y : List (List ℕ)). y ++ (t ∷ us) ∷ zs) z.1 ∙ append_assoc z.0 (l ∷ []) ((t ∷ us) ∷ zs) in
          rises-at s z.0 l (t ∷ us) zs (subst (λ (y : List (List ℕ)). rises s y ≡ true) r g.1)

  may-join : (m : ℕ) (a : List (List ℕ)) (t : ℕ) (x : List (List ℕ)) → 0 < length a → In x (completions s.processors (task_count s) m (joins a t)) → Right x → may_join s a t ≡ true
  unfolding may_join total programme_in
  may-join m a t x h i g =
      let z = split-last a h in
      let l = last_of a in
      let j : In x (completions s.processors (task_count s) m (z.0 ++ (l ++ t ∷ []) ∷ [])) =
      subst (λ (y : List (List ℕ)). In x (completions s.processors (task_count s) m y)) (ap (λ (y : List (List ℕ)). joins y t) z.1 ∙ joins-last z.0 l t) i
      in
      let e = extends s.processors (task_count s) m z.0 (l ++ t ∷ []) x j in
      let w = (l ++ t ∷ []) ++ e.0 in
      parts-both (in_order s a t) (store_fits s (l ++ t ∷ []))
      (ordered (any (link_count s) (feeds s t l)) refl z.0 w e.1 e.2 e.0 (append_assoc l (t ∷ []) e.0))
      (le-leb (total (store_of s) (l ++ t ∷ [])) s.limit (omega (arith, store-le s x g.0 z.0 w e.1 e.2, total-append (store_of s) (l ++ t ∷ []) e.0)))
    where
      ordered : (y : Bool) → any (link_count s) (feeds s t (last_of a)) ≡ y → (f : List (List ℕ)) (w : List ℕ) (zs : List (List ℕ)) → x ≡ f ++ w ∷ zs → (us : List ℕ) → w ≡ last_of a ++ (t ∷ us) → not y ≡ true
      ordered false q f w zs e us r = refl
      ordered true q f w zs e us r =
          let m = any_some (link_count s) (feeds s t (last_of a)) q in
          let l = m.0 in
          let c = both-parts (eqb (source_of s l) t) (among (target_of s l) (last_of a)) m.2 in
          let src : source_of s l ≡ t = eqb-true (source_of s l) t c.0 in
          let tgt = among-tally (target_of s l) (last_of a) c.1 in
          let below : t < task_count s = omega (arith, proper.form.source l m.1) in
          let at-t : tally t w ≡ tally t (last_of a) + (1 + tally t us) = ap (tally t) r ∙ tally-append t (last_of a) (t ∷ us) ∙ omega (arith, ap bit (eq-eqb t t refl)) in
          let at-v : tally (target_of s l) w ≡ tally (target_of s l) (last_of a) + tally (target_of s l) (t ∷ us) = ap (tally (target_of s l)) r ∙ tally-append (target_of s l) (last_of a) (t ∷ us) in
          let fwd = forward s x g.0 f w zs e l m.1 (proper.form.source l m.1) (proper.form.target l m.1) (omega (arith, ap (λ u. tally u w) src)) (omega arith) in
          let back : before (run t) (run (target_of s l)) (blocks_in s w (last_of a ++ (t ∷ us))) ≡ false =
          late s w t (target_of s l) (last_of a) (t ∷ us) (omega (arith, tally-le s x g.0 f w zs e t below)) tgt
          in
          absurd (true≢false (sym fwd ∙ ap (λ u. before (run u) (run (target_of s l)) (programme_in s w)) src ∙ same_text w r (target_of s l) ∙ back))
        where
          same_text : (w : List ℕ) → w ≡ last_of a ++ (t ∷ us) → (v : ℕ) → before (run t) (run v) (programme_in s w) ≡ before (run t) (run v) (blocks_in s w (last_of a ++ (t ∷ us)))
          same_text w r v = ap (λ (y : List ℕ). before (run t) (run v) (blocks_in s w y)) r

  -- the code may look at these alone
  pub best-looked : s.cube ≡ false → best_from s (looked s) none ≡ best s
  unfolding looked looked_from candidates
  best-looked flat =
      best-of-part s proper sized flat (looked s)
      (λ a i. pruned-in s.processors (task_count s) (may_open s) (may_join s) (task_count s) [] a i)
      (λ a i works up. in-pruned s.processors (task_count s) (may_open s) (may_join s) Right may-open may-join (task_count s) [] a i (works, up))
