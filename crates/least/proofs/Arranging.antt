-- An accepted bundle in the written form is that of a candidate; and every candidate is in the written form.
use Prim.Native.Nat.{ℕ, zero, suc, ◌+◌, ◌<◌}
use native.Mathlib.Omega.{arith}
use mathlib.Core.Bool.{Bool, true, false}
use mathlib.Core.Option.{Option, none, some}
use mathlib.Core.Path.{◌≡◌, refl, sym, ap, ap₂, ◌∙◌, subst}
use mathlib.Core.List.{List, [], ◌∷◌, ◌++◌}
use lib.ListN.{length, get_or}
use lib.Dec.{eqb}
use Rattle.folds.specs.Folds.{pick, bit, sum, gather, first, then}
use Rattle.folds.proofs.Laws.{sum-front, sum_zeros}
use Rattle.sheet.specs.Sheet.{Sheet, task_count, link_count}
use Rattle.bundle.specs.Bundle.{Command, run, send, receive, release, discard, Bundle, programme_count, programme_of}
use Rattle.bundle.specs.Fits.{Known, Each, Formed}
use Rattle.admission.specs.Counting.{weigh, whole_of, whole, each, is}
use Rattle.admission.specs.Releases.{frees}
use Rattle.admission.specs.Messages.{holds, home}
use Rattle.admission.proofs.Weights.{weigh-append, weigh-gather}
use Rattle.machine.specs.Machine.{State, fresh_state, next, travels, stated, step_in, step, holds_some, can_step}
use Rattle.machine.specs.Runs.{onwards, settle, settled, latest}
use Rattle.checker.proofs.Accepted.{Passes}
use Rattle.planner.proofs.Schedules.{tally}
use Rattle.least.specs.Written.{brings_in, takes_in, receive_in, send_in, block_in, blocks_in, programme_in, programmes_in, Written, NoRelease}
use Rattle.least.specs.Least.{In, candidates, bundle_in}
use Rattle.least.proofs.Standing.{once}
use Rattle.least.proofs.Candidates.{tally_all, Arranged, candidate}
use Rattle.bundle.proofs.Parts.{each_append}
use Rattle.bundle.proofs.Each.{each-gather, each-one}

pub each-parts : {A : Type 0} (P : A → Type 0) (xs ys : List A) → Each P (xs ++ ys) → Each P xs × Each P ys
each-parts P [] ys h = (tt, h)
each-parts P (x ∷ xs) ys h = let z = each-parts P xs ys h.1 in ((h.0, z.0), z.1)

-- runs in blocks
module _ (s : Sheet) where
  pub one_none : (x : Bool) (t : ℕ) (c : Command) → is (run t) c ≡ 0 → weigh (is (run t)) (pick x (c ∷ []) []) ≡ 0
  unfolding weigh
  one_none true t c e = omega (arith, e)
  one_none false t c e = refl

  pub block_run : (ts : List ℕ) (t u : ℕ) → weigh (is (run t)) (block_in s ts u) ≡ bit (eqb t u)
  unfolding block_in receive_in send_in is weigh
  block_run ts t u =
      omega (
        arith,
        weigh-append (is (run t)) (gather (link_count s) (receive_in s ts u)) (run u ∷ gather (link_count s) (send_in s ts u)),
        weigh-gather (is (run t)) (link_count s) (receive_in s ts u),
        weigh-gather (is (run t)) (link_count s) (send_in s ts u),
        sum_zeros (link_count s) (λ l. weigh (is (run t)) (receive_in s ts u l)) (λ l h. one_none (brings_in s ts u l) t (receive l) refl),
        sum_zeros (link_count s) (λ l. weigh (is (run t)) (send_in s ts u l)) (λ l h. one_none (takes_in s ts u l) t (send l) refl),
      )

  pub blocks-run : (ts us : List ℕ) (t : ℕ) → weigh (is (run t)) (blocks_in s ts us) ≡ tally t us
  unfolding blocks_in weigh
  blocks-run ts [] t = refl
  blocks-run ts (u ∷ us) t = omega (arith, weigh-append (is (run t)) (block_in s ts u) (blocks_in s ts us), block_run ts t u, blocks-run ts us t)

  abbrev pub weigh_all : (Command → ℕ) → List (List Command) → ℕ
  weigh_all f [] = 0
  weigh_all f (p ∷ ps) = weigh f p + weigh_all f ps

  pub runs-all : (a : List (List ℕ)) (t : ℕ) → weigh_all (is (run t)) (programmes_in s a) ≡ tally_all t a
  unfolding programmes_in programme_in
  runs-all [] t = refl
  runs-all (ts ∷ a) t = omega (arith, blocks-run ts ts t, runs-all a t)

  sum-list : (f : Command → ℕ) (ps : List (List Command)) → sum (length ps) (λ k. weigh f (get_or ps k [])) ≡ weigh_all f ps
  unfolding sum
  sum-list f [] = refl
  sum-list f (p ∷ ps) = omega (arith, sum-front (length ps) (λ k. weigh f (get_or (p ∷ ps) k [])), sum-list f ps)

  pub whole-list : (b : Bundle) (f : Command → ℕ) → whole b f ≡ weigh_all f b.programmes
  unfolding whole whole_of programme_count programme_of
  whole-list b f = sum-list f b.programmes

  -- none of their commands is a release
  one_plain : (x : Bool) (c : Command) → frees c ≡ 0 → weigh frees (pick x (c ∷ []) []) ≡ 0
  unfolding weigh
  one_plain true c e = omega (arith, e)
  one_plain false c e = refl

  block-plain : (ts : List ℕ) (u : ℕ) → weigh frees (block_in s ts u) ≡ 0
  unfolding block_in receive_in send_in weigh
  block-plain ts u =
      omega (
        arith,
        weigh-append frees (gather (link_count s) (receive_in s ts u)) (run u ∷ gather (link_count s) (send_in s ts u)),
        weigh-gather frees (link_count s) (receive_in s ts u),
        weigh-gather frees (link_count s) (send_in s ts u),
        sum_zeros (link_count s) (λ l. weigh frees (receive_in s ts u l)) (λ l h. one_plain (brings_in s ts u l) (receive l) refl),
        sum_zeros (link_count s) (λ l. weigh frees (send_in s ts u l)) (λ l h. one_plain (takes_in s ts u l) (send l) refl),
      )

  pub blocks-plain : (ts us : List ℕ) → weigh frees (blocks_in s ts us) ≡ 0
  unfolding blocks_in weigh
  blocks-plain ts [] = refl
  blocks-plain ts (u ∷ us) = omega (arith, weigh-append frees (block_in s ts u) (blocks_in s ts us), block-plain ts u, blocks-plain ts us)

  all_plain : (a : List (List ℕ)) → weigh_all frees (programmes_in s a) ≡ 0
  unfolding programmes_in programme_in
  all_plain [] = refl
  all_plain (ts ∷ a) = omega (arith, blocks-plain ts ts, all_plain a)

  pub written-plain : (b : Bundle) → Written s b → NoRelease b
  written-plain b w = whole-list b frees ∙ ap (weigh_all frees) w.written ∙ all_plain w.tasks

  -- tasks of a programme whose commands are known are declared
  known-block : (ts : List ℕ) (u : ℕ) → Each (Known s) (block_in s ts u) → u < task_count s
  unfolding block_in
  known-block ts u h = (each-parts (Known s) (gather (link_count s) (receive_in s ts u)) (run u ∷ gather (link_count s) (send_in s ts u)) h).1.0

  known-blocks : (ts us : List ℕ) → Each (Known s) (blocks_in s ts us) → Each (λ u. u < task_count s) us
  unfolding blocks_in
  known-blocks ts [] h = tt
  known-blocks ts (u ∷ us) h = let z = each-parts (Known s) (block_in s ts u) (blocks_in s ts us) h in (known-block ts u z.0, known-blocks ts us z.1)

  pub known-all : (a : List (List ℕ)) → Each (Each (Known s)) (programmes_in s a) → Each (Each (λ u. u < task_count s)) a
  unfolding programmes_in programme_in
  known-all [] h = tt
  known-all (ts ∷ a) h = (known-blocks ts ts h.0, known-all a h.1)

  -- and back
  block-known : (ts : List ℕ) (u : ℕ) → u < task_count s → Each (Known s) (block_in s ts u)
  unfolding block_in receive_in send_in
  block-known ts u h =
      each_append (Known s) (gather (link_count s) (receive_in s ts u)) (run u ∷ gather (link_count s) (send_in s ts u))
      (each-gather (Known s) (link_count s) (receive_in s ts u) (λ l m. each-one (Known s) (brings_in s ts u l) (receive l) m))
      (h, each-gather (Known s) (link_count s) (send_in s ts u) (λ l m. each-one (Known s) (takes_in s ts u l) (send l) m))

  blocks-known : (ts us : List ℕ) → Each (λ u. u < task_count s) us → Each (Known s) (blocks_in s ts us)
  unfolding blocks_in
  blocks-known ts [] h = tt
  blocks-known ts (u ∷ us) h = each_append (Known s) (block_in s ts u) (blocks_in s ts us) (block-known ts u h.0) (blocks-known ts us h.1)

  pub all_known : (a : List (List ℕ)) → Each (Each (λ u. u < task_count s)) a → Each (Each (Known s)) (programmes_in s a)
  unfolding programmes_in programme_in
  all_known [] h = tt
  all_known (ts ∷ a) h = (blocks-known ts ts h.0, all_known a h.1)

  pub length-in : (a : List (List ℕ)) → length (programmes_in s a) ≡ length a
  unfolding programmes_in
  length-in [] = refl
  length-in (ts ∷ a) = omega (arith, length-in a)

  -- "every accepted written-form bundle is in that list"
  pub arranged : (b : Bundle) → Formed s b → Passes s b → (w : Written s b) → Arranged s.processors (task_count s) w.tasks
  arranged b formed passes w =
      record {
        below = known-all w.tasks (subst (Each (Each (Known s))) w.written formed.known);
        busy = w.busy;
        few = omega (arith, formed.few, ap length w.written, length-in w.tasks);
        once = λ t h. sym (runs-all w.tasks t) ∙ ap (weigh_all (is (run t))) (sym w.written) ∙ sym (whole-list b (is (run t))) ∙ once s b passes.published t h;
      }

-- the claim has no part in a run
module _ (s : Sheet) (ps : List (List Command)) (x y : ℕ) where
  abbrev bx : Bundle
  bx = record { programmes = ps; claim = x }

  abbrev by : Bundle
  by = record { programmes = ps; claim = y }

  same-stated : (k : ℕ) (c : Command) → stated s bx k c ≡ stated s by k c
  unfolding stated travels home holds programme_count programme_of whole_of
  same-stated k (run t) = refl
  same-stated k (send l) = refl
  same-stated k (receive l) = refl
  same-stated k (release t) = refl
  same-stated k (discard l) = refl

  same_step : (σ : State) (k : ℕ) → step s bx σ k ≡ step s by σ k
  unfolding step step_in next programme_of
  same_step σ k = ap (λ (time : ℕ → Command → ℕ). step_in s bx time σ k) (λ i j c. same-stated j c i)

  -- by what each processor's step gives
  abbrev settle_by : (State → State) → State → (ℕ → Option State) → State
  settle_by on σ f = onwards on σ (then (first (length ps) (λ k. holds_some (f k))) f)

  same-settle : (n : ℕ) (σ : State) → settle n s bx σ ≡ settle n s by σ
  unfolding settle can_step programme_count
  same-settle zero σ = refl
  same-settle (suc n) σ = ap (settle_by (settle n s bx) σ) (λ i k. same_step σ k i) ∙ go (then (first (programme_count by) (can_step s by σ)) (step s by σ)) (same-settle n)
    where
      go : (o : Option State) → ((τ : State) → settle n s bx τ ≡ settle n s by τ) → onwards (settle n s bx) σ o ≡ onwards (settle n s by) σ o
      go none r = refl
      go (some τ) r = r τ

  pub same-settled : settled s bx ≡ settled s by
  unfolding settled programme_count whole whole_of programme_of
  same-settled = same-settle (whole by each) (fresh_state s by)

abbrev made : List (List Command) → ℕ → Bundle
made ps c = record { programmes = ps; claim = c }

-- an accepted bundle in the written form is the candidate's
pub is-candidate : (s : Sheet) (b : Bundle) → Formed s b → Passes s b → (w : Written s b) → latest (settled s b) ≡ b.claim → In w.tasks (candidates s) × (bundle_in s w.tasks ≡ b)
unfolding candidates bundle_in
is-candidate s b formed passes w e = (
  candidate s.processors (task_count s) w.tasks (arranged s b formed passes w),
  ap₂ made (sym w.written)
      (ap latest (same-settled s (programmes_in s w.tasks) 0 b.claim ∙ ap (λ (ps : List (List Command)). settled s (record { programmes = ps; claim = b.claim })) (sym w.written)) ∙ e),
)
