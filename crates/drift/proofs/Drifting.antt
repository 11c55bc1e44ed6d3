-- For an accepted bundle: what one task's work raised by d makes of the finishing time, and that the report is the greatest d that leaves it.
use Prim.Native.Nat.{ℕ, suc, ◌+◌, ◌-◌, ◌≤◌, ◌<◌, max}
use native.Mathlib.Omega.{arith}
use native.Mathlib.Decide.{dec_lt}
use mathlib.Core.Bool.{Bool, true, false}
use mathlib.Core.Option.{Option, none, some}
use mathlib.Core.Path.{◌≡◌, refl, sym, ap, ◌∙◌}
use mathlib.Core.Logic.{◌≢◌, ◌⊎◌, inl, inr}
use mathlib.Core.List.{List, [], ◌∷◌}
use lib.ListN.{length, get_or, set, length-set, length-replicate, take, drop}
use lib.Seq.{get_or-set_same, get_or-set_other, set_out}
use lib.Dec.{eqb}
use borrow.Author.Tests.{eqb-true, eq-eqb, ne_eqb}
use Rattle.folds.specs.Folds.{pick, both, then, first}
use Rattle.folds.specs.Answers.{value}
use Rattle.folds.proofs.Tests.{equal-or}
use Rattle.folds.proofs.Laws.{greatest-is}
use Rattle.sheet.specs.Sheet.{Sheet, Task, no_task, task_count, link_count, work_of, store_of, source_of, target_of, cost_of, bytes_of}
use Rattle.sheet.specs.Hops.{link_time}
use Rattle.bundle.specs.Bundle.{Command, run, send, receive, release, discard, Bundle, programme_count, programme_of}
use Rattle.admission.specs.Counting.{weigh, each, is, need, gives}
use Rattle.admission.specs.Releases.{uses_result, uses_message, uses, held, right}
use Rattle.admission.specs.Messages.{not_once, inside, send_fault, receive_fault, order_fault, message_fault, at26, at_message, Published}
use Rattle.admission.proofs.Messages.{run-once}
use Rattle.admission.proofs.Rights.{all_right, right-all}
use Rattle.machine.specs.Machine.{State, fresh_state, next, waits, travels, stated, moved, step_in, step}
use Rattle.machine.specs.Runs.{left, latest}
use Rattle.machine.proofs.Steps.{step_move}
use Rattle.machine.proofs.Runs.{Leads, here, on, leads-sound, fresh-left, fresh-sound, ended-all}
use Rattle.machine.proofs.Orders.{ended-still, any_order}
use Rattle.checker.specs.Checker.{checked}
use Rattle.checker.proofs.Accepted.{passes}
use Rattle.drift.specs.Drift.{raise, finishing, leaves, leaving, drift_of}
use Rattle.drift.specs.Tails.{Steps}
use Rattle.drift.specs.Following.{Follows, done, more, commands, through}
use Rattle.drift.proofs.Following.{follows-left, extra, raised_time, raised, through-le}

weigh-cong : (f g : Command → ℕ) → ((c : Command) → f c ≡ g c) → (q : List Command) → weigh f q ≡ weigh g q
unfolding weigh
weigh-cong f g h [] = refl
weigh-cong f g h (c ∷ q) = omega (arith, h c, weigh-cong f g h q)

module _ (s : Sheet) (t d : ℕ) where
  -- the raised sheet
  count-raise : task_count (raise s t d) ≡ task_count s
  unfolding task_count raise
  count-raise = simp length-set

  store-raise : (u : ℕ) → store_of (raise s t d) u ≡ store_of s u
  unfolding raise store_of task_count
  store-raise u = go (equal-or u t) (dec_lt t (task_count s))
    where
      go : (u ≡ t) ⊎ (u ≢ t) → Dec (t < task_count s) → (get_or (set s.tasks t (record { work = work_of s t + d; store = store_of s t })) u no_task).store ≡ store_of s u
      go (inr q) l = ap (λ (x : Task). x.store) (get_or-set_other s.tasks t u (record { work = work_of s t + d; store = store_of s t }) no_task q)
      go (inl q) (yes l) = rw q (ap (λ (x : Task). x.store) (get_or-set_same s.tasks t (record { work = work_of s t + d; store = store_of s t }) no_task l))
      go (inl q) (no l) = ap (λ (x : List Task). (get_or x u no_task).store) (set_out s.tasks t (record { work = work_of s t + d; store = store_of s t }) (omega arith))

  need-raise : (c : Command) → need (raise s t d) c ≡ need s c
  unfolding raise bytes_of
  need-raise (run u) = store-raise u
  need-raise (send l) = refl
  need-raise (receive l) = refl
  need-raise (release u) = refl
  need-raise (discard l) = refl

  gives-raise : (c : Command) → gives (raise s t d) c ≡ gives s c
  unfolding raise bytes_of
  gives-raise (run u) = refl
  gives-raise (send l) = refl
  gives-raise (receive l) = refl
  gives-raise (release u) = store-raise u
  gives-raise (discard l) = refl

  module _ (known : t < task_count s) (b : Bundle) where
    work-raise : (u : ℕ) → work_of (raise s t d) u ≡ work_of s u + pick (eqb t u) d 0
    unfolding raise work_of task_count
    work-raise u = go (equal-or u t)
      where
        go : (u ≡ t) ⊎ (u ≢ t) → (get_or (set s.tasks t (record { work = work_of s t + d; store = store_of s t })) u no_task).work ≡ work_of s u + pick (eqb t u) d 0
        go (inr q) =
            ap (λ (x : Task). x.work) (get_or-set_other s.tasks t u (record { work = work_of s t + d; store = store_of s t }) no_task q) ∙
            omega (arith, ap (λ (z : Bool). pick {X = ℕ} z d 0) (ne_eqb t u (λ r. q (sym r))))
        go (inl q) =
            rw (q, eq-eqb t t refl) (ap (λ (x : Task). x.work) (get_or-set_same s.tasks t (record { work = work_of s t + d; store = store_of s t }) no_task known))

    stated-raise : (k : ℕ) (c : Command) → stated (raise s t d) b k c ≡ stated s b k c + extra s b (stated s b) t d c
    unfolding stated travels link_time raise cost_of target_of
    stated-raise k (run u) = work-raise u
    stated-raise k (send l) = omega arith
    stated-raise k (receive l) = omega arith
    stated-raise k (release u) = refl
    stated-raise k (discard l) = refl

    moved-raise : (σ : State) (k : ℕ) (c : Command) (x w : ℕ) → moved (raise s t d) σ k c x w ≡ moved s σ k c x w
    moved-raise σ k c x w = rw (need-raise c, gives-raise c)

    pub step-raise : (σ : State) (k : ℕ) → step (raise s t d) b σ k ≡ step_in s b (raised_time s b (stated s b) t d) σ k
    unfolding step step_in
    step-raise σ k = by_next (next b σ k)
      where
        by-waits : (c : Command) (o : Option ℕ) → then o (λ w. some (moved (raise s t d) σ k c (stated (raise s t d) b k c) w)) ≡ then o (λ w. some (moved s σ k c (raised_time s b (stated s b) t d k c) w))
        by-waits c none = refl
        by-waits c (some w) = ap some (moved-raise σ k c (stated (raise s t d) b k c) w ∙ ap (λ (x : ℕ). moved s σ k c x w) (stated-raise k c))

        by_next : (o : Option Command) → then o (λ c. then (waits σ c) (λ w. some (moved (raise s t d) σ k c (stated (raise s t d) b k c) w))) ≡ then o (λ c. then (waits σ c) (λ w. some (moved s σ k c (raised_time s b (stated s b) t d k c) w)))
        by_next none = refl
        by_next (some c) = by-waits c (waits σ c)

    follows-leads : {es : Steps} {σ φ : State} → Follows s b (raised_time s b (stated s b) t d) es σ φ → Leads (raise s t d) b σ φ
    follows-leads done = here
    follows-leads {es} {σ} (more k c n e r) = on k (step-raise σ k ∙ e) (follows-leads r)

  -- it has the same published messages
  result-raise : (u : ℕ) (c : Command) → uses_result (raise s t d) u c ≡ uses_result s u c
  unfolding raise link_count source_of target_of
  result-raise u (run v) = refl
  result-raise u (send l) = refl
  result-raise u (receive l) = refl
  result-raise u (release v) = refl
  result-raise u (discard l) = refl

  message-raise : (l : ℕ) (c : Command) → uses_message (raise s t d) l c ≡ uses_message s l c
  unfolding raise target_of
  message-raise l (run v) = refl
  message-raise l (send m) = refl
  message-raise l (receive m) = refl
  message-raise l (release v) = refl
  message-raise l (discard m) = refl

  uses-raise : (x c : Command) → uses (raise s t d) x c ≡ uses s x c
  uses-raise (run u) c = refl
  uses-raise (send l) c = refl
  uses-raise (receive l) c = refl
  uses-raise (release u) c = result-raise u c
  uses-raise (discard l) c = message-raise l c

  right-raise : (q : List Command) (x : Command) (r : List Command) → right (raise s t d) q x r ≡ right s q x r
  unfolding right
  right-raise q x r = ap (λ (n : ℕ). both (held x q) (eqb n 0)) (weigh-cong (uses (raise s t d) x) (uses s x) (uses-raise x) r)

  pub published-raise : (b : Bundle) → Published s b → Published (raise s t d) b
  unfolding at26 at_message message_fault send_fault receive_fault order_fault inside raise link_count source_of target_of
  published-raise b h =
      record {
        once = ap (λ (n : ℕ). first n (not_once b)) count-raise ∙ h.once;
        messages = h.messages;
        releases = right-all (raise s t d) b (λ k i c e f. right-raise (take i (programme_of b k)) c (drop (suc i) (programme_of b k)) ∙ all_right s b h.releases k i c e f);
      }

leads-follows : (s : Sheet) (b : Bundle) {σ φ : State} → Leads s b σ φ → (es : Steps) × Follows s b (stated s b) es σ φ
unfolding step
leads-follows s b here = ([], done)
leads-follows s b {σ} (on {τ = τ} k e r) =
    let m = step_move s b σ k τ e in
    let f = leads-follows s b r in
    ((k, m.c) ∷ f.0, more k m.c m.comes e f.1)

follows-there : (s : Sheet) (b : Bundle) {es : Steps} {σ φ : State} → Follows s b (stated s b) es σ φ → Leads s b σ φ
unfolding step
follows-there s b done = here
follows-there s b (more k c n e r) = on k e (follows-there s b r)

-- where nothing is left, the run has come to its finishing time
finish-is : (s : Sheet) (b : Bundle) → Published s b → (φ : State) → Leads s b (fresh_state s b) φ → left b φ each ≡ 0 → finishing s b ≡ latest φ
unfolding finishing
finish-is s b h φ r z = ap latest (sym (any_order s b h φ r (ended-still s b φ (leads-sound s b r (fresh-sound s b h)) z)))

-- of two numbers with the same bounds above
same-bounds : (a c e : ℕ) → ((x : ℕ) → c ≤ x → e ≤ x → a ≤ x) → ((x : ℕ) → a ≤ x → (c ≤ x) × (e ≤ x)) → a ≡ max c e
same-bounds a c e f g = omega (arith, f (max c e) (omega arith) (omega arith), (g a (omega arith)).0, (g a (omega arith)).1)

-- any run of the bundle to its end, in any order
module _ (s : Sheet) (b : Bundle) (published : Published s b) {es : Steps} {φ : State} (h : Follows s b (stated s b) es (fresh_state s b) φ) (over : left b φ each ≡ 0) where
  finish-end : finishing s b ≡ latest φ
  finish-end = finish-is s b published φ (follows-there s b h) over

  module _ (t : ℕ) (known : t < task_count s) where
    way : ℕ
    way = through s b (stated s b) t h

    fresh-many : length (fresh_state s b).processors ≡ programme_count b
    fresh-many = length-replicate _ _

    once-there : weigh (is (run t)) (commands es) ≡ 1
    once-there =
        omega (arith, follows-left s b (stated s b) h fresh-many (is (run t)), fresh-left s b (is (run t)), run-once s b published.once t known, ended-all s b φ over (is (run t)))

    pub way-le : through s b (stated s b) t h ≤ finishing s b
    way-le = rw finish-end (through-le s b (stated s b) t 0 h fresh-many)

    -- raised by d, the bundle finishes at the later of what it was and the way through t, d longer
    pub finishing-raised : (d : ℕ) → finishing (raise s t d) b ≡ max (finishing s b) (through s b (stated s b) t h + d)
    unfolding raise link_count
    finishing-raised d =
        let a = raised s b (stated s b) t d h fresh-many once-there in
        let z : left b a.end each ≡ 0 =
        omega (arith, over, follows-left s b (stated s b) h fresh-many each, follows-left s b (raised_time s b (stated s b) t d) a.follows fresh-many each)
        in
        finish-is (raise s t d) b (published-raise s t d b published) a.end (follows-leads s t d known b a.follows) z ∙
        same-bounds (latest a.end) (finishing s b) (through s b (stated s b) t h + d) (λ x p q. a.later x (omega (arith, finish-end)) q)
        (λ x p. let y = a.before x p in (omega (arith, finish-end, y.0), y.1))

    -- the finishing time moves by between 0 and d
    pub moves-little : (d : ℕ) → (finishing s b ≤ finishing (raise s t d) b) × (finishing (raise s t d) b ≤ finishing s b + d)
    moves-little d = (omega (arith, finishing-raised d), omega (arith, finishing-raised d, way-le))

    leaves-is : (d : ℕ) → d ≤ finishing s b - through s b (stated s b) t h → leaves s b t d ≡ true
    unfolding leaves
    leaves-is d l = eq-eqb (finishing (raise s t d) b) (finishing s b) (omega (arith, finishing-raised d, way-le))

    is-leaves : (d : ℕ) → finishing (raise s t d) b ≡ finishing s b → d ≤ finishing s b - through s b (stated s b) t h
    is-leaves d e = omega (arith, finishing-raised d, way-le)

    -- the report, by the one backward pass over any run
    pub drift-is : drift_of s b t ≡ finishing s b - through s b (stated s b) t h
    unfolding drift_of leaves
    drift-is =
        let v = finishing s b - through s b (stated s b) t h in
        greatest-is (suc (finishing s b)) (leaving s b t) v v (omega arith) (ap (λ (u : Bool). pick {X = ℕ} u v 0) (leaves-is v (omega arith))) (λ j l. bound j (leaves s b t j) refl)
      where
        bound : (j : ℕ) (u : Bool) → leaves s b t j ≡ u → pick u j 0 ≤ finishing s b - through s b (stated s b) t h
        bound j true e = is-leaves j (eqb-true (finishing (raise s t j) b) (finishing s b) e)
        bound j false e = omega arith

    -- it is the greatest d that leaves the finishing time unchanged
    pub drift-leaves : finishing (raise s t (drift_of s b t)) b ≡ finishing s b
    drift-leaves = omega (arith, finishing-raised (drift_of s b t), drift-is, way-le)

    pub drift-greatest : (d : ℕ) → finishing (raise s t d) b ≡ finishing s b → d ≤ drift_of s b t
    drift-greatest d e = omega (arith, is-leaves d e, drift-is)

-- of a bundle that the checker accepts
pub record Drift (s : Sheet) (b : Bundle) : Type 0 where
  pub claimed : finishing s b ≡ b.claim
  pub little : (t d : ℕ) → t < task_count s → (finishing s b ≤ finishing (raise s t d) b) × (finishing (raise s t d) b ≤ finishing s b + d)
  pub leaves : (t : ℕ) → t < task_count s → finishing (raise s t (drift_of s b t)) b ≡ finishing s b
  pub greatest : (t d : ℕ) → t < task_count s → finishing (raise s t d) b ≡ finishing s b → d ≤ drift_of s b t
  pub within : (t : ℕ) → t < task_count s → drift_of s b t ≤ finishing s b

pub drifting : (s : Sheet) (b v : Bundle) → checked s b ≡ value v → Drift s b
drifting s b v e =
    let p = (passes s b v e).0 in
    let f = leads-follows s b p.leads in
    record {
      claimed = finish-is s b p.published p.end p.leads p.over ∙ p.claimed;
      little = λ t d k. moves-little s b p.published f.1 p.over t k d;
      leaves = λ t k. drift-leaves s b p.published f.1 p.over t k;
      greatest = λ t d k. drift-greatest s b p.published f.1 p.over t k d;
      within = λ t k. omega (arith, drift-is s b p.published f.1 p.over t k);
    }
