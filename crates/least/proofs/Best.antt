-- The best of a list of arrangements: one of them that is accepted, and none that is accepted is ahead of it.
use Prim.Native.Nat.{ℕ, zero, suc, ◌+◌, ◌-◌, ◌≤◌, ◌<◌}
use native.Mathlib.Omega.{arith}
use mathlib.Core.Bool.{Bool, true, false, false≢true}
use mathlib.Core.Option.{Option, none, some}
use mathlib.Core.Path.{◌≡◌, refl, sym, ap, ◌∙◌, subst}
use mathlib.Core.Logic.{◌⊎◌, inl, inr, ⊎_elim}
use mathlib.Core.List.{List, [], ◌∷◌, ◌++◌}
use lib.ListN.{length, length-append}
use lib.Dec.{ltb}
use borrow.Author.Tests.{ltb-true, le-ltb}
use Rattle.folds.specs.Folds.{pick, either, gather}
use Rattle.folds.specs.Answers.{Answer, value, refused}
use Rattle.folds.proofs.Tests.{not_some, not-value, value_same, and_then-value}
use Rattle.numbers.specs.Number.{Bytes}
use Rattle.sheet.specs.Sheet.{Sheet, task_count}
use Rattle.graph.specs.Graph.{read_sheet}
use Rattle.graph.proofs.Proper.{Proper, proper, proper-sized}
use Rattle.graph.proofs.Forms.{Sized}
use Rattle.bundle.specs.Bundle.{Bundle, programme_count}
use Rattle.bundle.specs.Format.{read_bundle}
use Rattle.bundle.specs.Writing.{bundle_bytes}
use Rattle.bundle.specs.Fits.{Each, Formed, Fits}
use Rattle.bundle.proofs.Parts.{each_append}
use Rattle.bundle.proofs.Backs.{read_back}
use Rattle.bundle.proofs.Rounds.{read-formed}
use Rattle.checker.specs.Checker.{checked, check}
use Rattle.checker.proofs.Accepted.{Passes, passes}
use Rattle.machine.specs.Runs.{settled, latest}
use Rattle.machine.proofs.Orders.{any_order, ended-still}
use Rattle.machine.proofs.Runs.{leads-sound, fresh-sound}
use Rattle.least.specs.Written.{Busy, Written, NoRelease}
use Rattle.least.specs.Ranking.{ahead, choice}
use Rattle.least.specs.Least.{In, opens, joins, among_all, extended, completions, candidates, bundle_in, is_value, better, consider, best_from, best, most, best_or11, least_time}
use Rattle.least.specs.Promise.{NoneAccepted, Found, LeastTime}
use Rattle.least.proofs.Orders.{not-better, ahead-self, not-ahead, ahead-claim, choice-first, choice-second, choice-one}
use Rattle.least.proofs.Standing.{home_below}
use Rattle.least.proofs.Arranging.{all_known, length-in, is-candidate, written-plain}
use Rattle.least.proofs.Normal.{Normal, normal}

pub in_parts : {A : Type 0} (x : A) (ys zs : List A) → In x (ys ++ zs) → In x ys ⊎ In x zs
in_parts x [] zs h = inr h
in_parts x (y ∷ ys) zs h = ⊎_elim (λ e. inl (inl e)) (λ i. ⊎_elim (λ j. inl (inr j)) (λ j. inr j) (in_parts x ys zs i)) h

pub gathered : {A : Type 0} (x : A) (n : ℕ) (f : ℕ → List A) → In x (gather n f) → (t : ℕ) × (t < n) × In x (f t)
unfolding gather
gathered x zero f h = absurd h
gathered x (suc n) f h = ⊎_elim (λ i. let z = gathered x n f i in (z.0, omega (arith, z.1), z.2)) (λ i. (n, omega arith, i)) (in_parts x (gather n f) (f n) h)

-- what every candidate has
pub record Good (p n : ℕ) (a : List (List ℕ)) : Type 0 where
  pub below : Each (Each (λ u. u < n)) a
  pub busy : Each Busy a
  pub few : length a ≤ p

pub joins-length : (a : List (List ℕ)) (t : ℕ) → length (joins a t) ≡ length a
unfolding joins
joins-length [] t = refl
joins-length (ts ∷ []) t = refl
joins-length (ts ∷ us ∷ a) t = omega (arith, joins-length (us ∷ a) t)

module _ (p n : ℕ) where
  joins-below : (a : List (List ℕ)) (t : ℕ) → t < n → Each (Each (λ u. u < n)) a → Each (Each (λ u. u < n)) (joins a t)
  unfolding joins
  joins-below [] t h g = tt
  joins-below (ts ∷ []) t h g = (each_append (λ u. u < n) ts (t ∷ []) g.0 (h, tt), tt)
  joins-below (ts ∷ us ∷ a) t h g = (g.0, joins-below (us ∷ a) t h g.1)

  joins-busy : (a : List (List ℕ)) (t : ℕ) → Each Busy a → Each Busy (joins a t)
  unfolding joins
  joins-busy [] t g = tt
  joins-busy (ts ∷ []) t g = (omega (arith, length-append ts (t ∷ [])), tt)
  joins-busy (ts ∷ us ∷ a) t g = (g.0, joins-busy (us ∷ a) t g.1)

  pub good : (m : ℕ) (a x : List (List ℕ)) → Good p n a → In x (completions p n m a) → Good p n x
  unfolding completions extended opens
  good zero a x g i = ⊎_elim (λ e. rw e g) (λ z. absurd z) i
  good (suc m) a x g i = let z = gathered x n (extended p n (completions p n m) a) i in at z.0 z.1 (among_all z.0 a) (ltb (length a) p) (ltb 0 (length a)) refl z.2 (λ c h. good m c x h)
    where
      at : (t : ℕ) → t < n → (u v w : Bool) → ltb (length a) p ≡ v → In x (pick u [] (pick v (completions p n m (opens a t)) [] ++ pick w (completions p n m (joins a t)) []))
          → ((c : List (List ℕ)) → Good p n c → In x (completions p n m c) → Good p n x) → Good p n x
      at t h true v w e i r = absurd i
      at t h false v w e i r =
          ⊎_elim (opening v e)
          (joining w)
          (in_parts x (pick v (completions p n m (opens a t)) []) (pick w (completions p n m (joins a t)) []) i)
        where
          opening : (v : Bool) → ltb (length a) p ≡ v → In x (pick v (completions p n m (opens a t)) []) → Good p n x
          opening true e j =
              r (opens a t)
              (record {
                below = each_append (Each (λ u. u < n)) a ((t ∷ []) ∷ []) g.below ((h, tt), tt);
                busy = each_append Busy a ((t ∷ []) ∷ []) g.busy (omega arith, tt);
                few = omega (arith, length-append a ((t ∷ []) ∷ []), ltb-true (length a) p e);
              }) j
          opening false e j = absurd j

          joining : (w : Bool) → In x (pick w (completions p n m (joins a t)) []) → Good p n x
          joining true j = r (joins a t) (record { below = joins-below a t h g.below; busy = joins-busy a t g.busy; few = omega (arith, joins-length a t, g.few) }) j
          joining false j = absurd j

module _ (s : Sheet) where
  abbrev pub Works : List (List ℕ) → Type 0
  Works a = is_value (checked s (bundle_in s a)) ≡ true

  pub works-checked : (b : Bundle) → is_value (checked s b) ≡ true → checked s b ≡ value b
  works-checked b e = go (checked s b) refl e
    where
      go : (r : Answer Bundle) → checked s b ≡ r → is_value r ≡ true → checked s b ≡ value b
      go (value v) q f = q ∙ ap value (sym (passes s b v q).1)
      go (refused n at) q f = absurd (false≢true f)

  pub checked-works : (b : Bundle) → checked s b ≡ value b → is_value (checked s b) ≡ true
  checked-works b e = ap is_value e

  consider-keeps : (y : Bundle) (a : List (List ℕ)) → (x : Bundle) × (consider s (some y) a ≡ some x) × (ahead y x ≡ false)
  unfolding consider
  consider-keeps y a = go (is_value (checked s (bundle_in s a)))
    where
      go : (w : Bool) → (x : Bundle) × (pick w (better (some y) (bundle_in s a)) (some y) ≡ some x) × (ahead y x ≡ false)
      go true = (choice y (bundle_in s a), refl, choice-first y (bundle_in s a))
      go false = (y, refl, ahead-self y)

  consider-holds : (o : Option Bundle) (a : List (List ℕ)) → Works a → (x : Bundle) × (consider s o a ≡ some x) × (ahead (bundle_in s a) x ≡ false)
  unfolding consider
  consider-holds none a w = rw w (bundle_in s a, refl, ahead-self (bundle_in s a))
  consider-holds (some y) a w = rw w (choice y (bundle_in s a), refl, choice-second y (bundle_in s a))

  consider-from : (o : Option Bundle) (a : List (List ℕ)) (x : Bundle) → consider s o a ≡ some x → (o ≡ some x) ⊎ (Works a × (x ≡ bundle_in s a))
  unfolding consider
  consider-from o a x e = go (is_value (checked s (bundle_in s a))) refl o e
    where
      go : (w : Bool) → is_value (checked s (bundle_in s a)) ≡ w → (o : Option Bundle) → pick w (better o (bundle_in s a)) o ≡ some x → (o ≡ some x) ⊎ (Works a × (x ≡ bundle_in s a))
      go false q o f = inl f
      go true q none f = inr (q, (cc))
      go true q (some y) f =
          let z : choice y (bundle_in s a) ≡ x = cc in
          ⊎_elim (λ r. inl (ap some (sym r ∙ z))) (λ r. inr (q, sym z ∙ r)) (choice-one y (bundle_in s a))

  best_keeps : (cs : List (List (List ℕ))) (y : Bundle) → (x : Bundle) × (best_from s cs (some y) ≡ some x) × (ahead y x ≡ false)
  unfolding best_from
  best_keeps [] y = (y, refl, ahead-self y)
  best_keeps (a ∷ cs) y =
      let z = consider-keeps y a in
      let r = best_keeps cs z.0 in
      (r.0, ap (best_from s cs) z.1 ∙ r.1, not-ahead r.0 z.0 y r.2 z.2)

  pub best-holds : (cs : List (List (List ℕ))) (o : Option Bundle) (a : List (List ℕ)) → In a cs → Works a → (x : Bundle) × (best_from s cs o ≡ some x) × (ahead (bundle_in s a) x ≡ false)
  unfolding best_from
  best-holds [] o a i w = absurd i
  best-holds (c ∷ cs) o a i w =
      ⊎_elim
      (λ (e : a ≡ c).
      let z = consider-holds o a w in
      let r = best_keeps cs z.0 in
      (r.0, ap (best_from s cs) (ap (consider s o) (sym e) ∙ z.1) ∙ r.1, not-ahead r.0 z.0 (bundle_in s a) r.2 z.2))
      (λ j. best-holds cs (consider s o c) a j w) i

  pub best-from : (cs : List (List (List ℕ))) (o : Option Bundle) (x : Bundle) → best_from s cs o ≡ some x
      → (o ≡ some x) ⊎ ((a : List (List ℕ)) × In a cs × Works a × (x ≡ bundle_in s a))
  unfolding best_from
  best-from [] o x e = inl e
  best-from (c ∷ cs) o x e =
      ⊎_elim (λ q. ⊎_elim (λ r. inl r) (λ r. inr (c, inl refl, r.0, r.1)) (consider-from o c x q)) (λ z. inr (z.0, inr z.1, z.2, z.3))
      (best-from cs (consider s o c) x e)

  -- what is found, and what is found where any bundle is accepted
  module _ (proper : Proper s) (sized : Sized s) where
    pub candidate-is : (a : List (List ℕ)) → In a (candidates s) → Works a → Each Busy a × Formed s (bundle_in s a)
    unfolding candidates bundle_in programme_count
    candidate-is a i w =
        let g = good s.processors (task_count s) (task_count s) [] a (record { below = tt; busy = tt; few = omega arith }) i in
        let ok = works-checked (bundle_in s a) w in
        (g.busy, record { busy = λ some. omega (arith, home_below s (bundle_in s a) (passes s (bundle_in s a) (bundle_in s a) ok).0.published 0 some); few = omega (arith, length-in s a, g.few); known = all_known s a g.below })

    pub found-is : (b : Bundle) → best s ≡ some b → Written s b × Formed s b × (checked s b ≡ value b)
    unfolding best bundle_in
    found-is b e =
        ⊎_elim (λ q. not_some q)
        (λ z.
        let c = candidate-is z.0 z.1 z.2 in
        rw z.3 (record { tasks = z.0; busy = c.0; written = refl }, c.1, works-checked (bundle_in s z.0) z.2))
        (best-from (candidates s) none b e)

    pub clock-is : (c : Bundle) → Passes s c → latest (settled s c) ≡ c.claim
    clock-is c p =
        ap latest (sym (any_order s c p.published p.end p.leads (ended-still s c p.end (leads-sound s c p.leads (fresh-sound s c p.published)) p.over))) ∙ p.claimed

    -- the best is not behind any accepted bundle in the written form
    pub not_behind : (c : Bundle) → Formed s c → checked s c ≡ value c → Written s c → (x : Bundle) × (best s ≡ some x) × (ahead c x ≡ false)
    unfolding best
    not_behind c formed ok w =
        let p = (passes s c c ok).0 in
        let i = is-candidate s c formed p w (clock-is c p) in
        let z = best-holds (candidates s) none w.tasks i.0 (subst (λ (y : Bundle). is_value (checked s y) ≡ true) (sym i.1) (checked-works c ok)) in
        (z.0, z.1, subst (λ (y : Bundle). ahead y z.0 ≡ false) i.1 z.2)

    -- where any bundle without releases is accepted there is a best one, and it claims no more than that bundle brought into the written form
    pub best-by : (c : Bundle) (formed : Formed s c) (ok : checked s c ≡ value c) → NoRelease c → (m : Normal s c) × (x : Bundle) × (best s ≡ some x) × (x.claim ≤ m.bundle.claim)
    best-by c formed ok plain =
        let m = normal s proper sized c formed (passes s c c ok).0 plain in
        let z = not_behind m.bundle m.fit.formed m.accepted m.form in
        (m, z.0, z.1, ahead-claim z.0 m.bundle z.2)

    -- the best fits its bytes
    pub best-fits : (b : Bundle) → best s ≡ some b → Fits s b
    best-fits b e =
        let z = found-is b e in
        let l = best-by b z.1 z.2 (written-plain s b z.0) in
        let same : l.1 ≡ b = (cc l.2) in
        record { formed = z.1; claimed = omega (arith, l.3, l.0.fit.claimed, ap (λ (x : Bundle). x.claim) same) }

    -- and on a sheet without `48` and `55` it claims no more than any accepted bundle without releases, in any form
    pub least-of : s.cube ≡ false → s.unpacking ≡ 0 → (c : Bundle) → Formed s c → checked s c ≡ value c → NoRelease c → (x : Bundle) × (best s ≡ some x) × (x.claim ≤ c.claim)
    least-of flat idle c formed ok plain = let l = best-by c formed ok plain in (l.1, l.2, omega (arith, l.3, l.0.sooner flat idle))

  -- of bytes
  module _ (sheet : List ℕ) (bytes-are : Bytes sheet) (reads : read_sheet sheet ≡ value s) where
    abbrev is_proper : Proper s
    is_proper = proper sheet s reads

    abbrev is_sized : Sized s
    is_sized = proper-sized sheet s bytes-are reads

    check-is : (out : List ℕ) (b : Bundle) → read_bundle s out ≡ value b → check sheet out ≡ checked s b
    unfolding check
    check-is out b f = rw (reads, f)

    checks : (bytes : List ℕ) (c : Bundle) → check sheet bytes ≡ value c → Formed s c × (checked s c ≡ value c)
    unfolding check
    checks bytes c e =
        let q = and_then-value (read_bundle s bytes) (checked s) c (rw reads at e) in
        let p = passes s q.0 c q.2 in
        (read-formed s bytes c (q.1 ∙ ap value p.1), subst (λ (x : Bundle). checked s x ≡ value c) p.1 q.2)

    -- what a result is
    result : (out : List ℕ) → least_time s ≡ value out → (b : Bundle) × (best s ≡ some b) × (bundle_bytes b ≡ out) × (s.cube ≡ false)
    unfolding least_time
    result out e = go (ltb most (task_count s)) s.cube (best s) refl refl e
      where
        go : (x y : Bool) (o : Option Bundle) → s.cube ≡ y → best s ≡ o → pick (either x y) (refused 38 (task_count s)) (best_or11 s o) ≡ value out → (b : Bundle) × (best s ≡ some b) × (bundle_bytes b ≡ out) × (s.cube ≡ false)
        go true y o c q f = not-value f
        go false true o c q f = not-value f
        go false false none c q f = not-value f
        go false false (some b) c q f = (b, q, value_same f, c)

    accepted : (out : List ℕ) (b : Bundle) → best s ≡ some b → bundle_bytes b ≡ out → check sheet out ≡ value b
    accepted out b e q =
        let z = found-is is_proper is_sized b e in
        check-is out b (subst (λ (o : List ℕ). read_bundle s o ≡ value b) q (read_back s b (omega (arith, is_proper.form.links)) (best-fits is_proper is_sized b e))) ∙ z.2

    none-accepted : best s ≡ none → NoneAccepted sheet
    none-accepted e bytes c h plain = let f = checks bytes c h in not_some (sym e ∙ (best-by is_proper is_sized c f.0 f.1 plain).2)

    found-time : (out : List ℕ) → least_time s ≡ value out → Found sheet s out
    found-time out e =
        let r = result out e in
        record {
          bundle = r.0;
          accepted = accepted out r.0 r.1 r.2;
          bytes = r.2;
          form = (found-is is_proper is_sized r.0 r.1).0;
          best =
              λ other c h w.
              let f = checks other c h in
              let z = not_behind is_proper is_sized c f.0 f.1 w in
              let same : z.0 ≡ r.0 = (cc (z.1, r.1)) in
              not-better c r.0 (subst (λ (x : Bundle). ahead c x ≡ false) same z.2);
          least =
              λ idle other c h plain.
              let f = checks other c h in
              let z = least-of is_proper is_sized r.3 idle c f.0 f.1 plain in
              let same : z.0 ≡ r.0 = (cc (z.1, r.1)) in
              subst (λ (x : Bundle). x.claim ≤ c.claim) same z.2;
        }

    pub least-time : LeastTime sheet s
    unfolding least_time
    least-time =
        record {
          found = found-time;
          refused_11 = λ p e. refusal p (either (ltb most (task_count s)) s.cube) (best s) refl e;
          only_11 = λ h flat none_is. nothing h flat none_is (best s) refl;
        }
      where
        refusal : (p : ℕ) (x : Bool) (o : Option Bundle) → best s ≡ o → pick x (refused 38 (task_count s)) (best_or11 s o) ≡ refused 11 p
            → (p ≡ task_count s - 1) × NoneAccepted sheet
        refusal p true o q f = let z : ◌≡◌ {A = ℕ} 38 11 = cc in absurd (omega arith)
        refusal p false none q f = ((cc), none-accepted q)
        refusal p false (some b) q f = not-value (sym f)

        nothing : task_count s ≤ most → s.cube ≡ false → NoneAccepted sheet → (o : Option Bundle) → best s ≡ o → pick (either (ltb most (task_count s)) s.cube) (refused 38 (task_count s)) (best_or11 s (best s)) ≡ refused 11 (task_count s - 1)
        nothing h flat none_is none q =
            let small : either (ltb most (task_count s)) s.cube ≡ false = ap (λ (x : Bool). either x s.cube) (le-ltb most (task_count s) h) ∙ flat in
            ap (λ (x : Bool). pick x (refused 38 (task_count s)) (best_or11 s (best s))) small ∙ ap (best_or11 s) q
        nothing h flat none_is (some b) q = absurd (none_is (bundle_bytes b) b (accepted (bundle_bytes b) b q refl) (written-plain s b (found-is is_proper is_sized b q).0))
