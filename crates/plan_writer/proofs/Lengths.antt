-- The length of a bundle: each task stands in one programme, and each link gives a send and a receive, or neither.
use Prim.Native.Nat.{ℕ, ◌+◌, ◌*◌, ◌<◌}
use mathlib.Core.Path.{◌≡◌, refl, sym, ap, ◌∙◌}
use mathlib.Core.Bool.{Bool, true, false, not}
use mathlib.Core.Logic.{◌≢◌}
use native.Mathlib.Omega.{arith}
use native.Mathlib.Decide.{ℕ_discrete}
use borrow.Author.Tests.{eq-eqb, ne_eqb}
use mathlib.Core.List.{List}
use lib.Dec.{eqb}
use lib.ListN.{length, get_or}
use Rattle.folds.specs.Folds.{pick, bit, sum}
use Rattle.folds.proofs.Laws.{sum-cong, sum-add, sum-only, sum-swap}
use Rattle.sheet.specs.Sheet.{Sheet, task_count, link_count, source_of, target_of}
use Rattle.sheet.specs.Tables.{sheet_in}
use Rattle.sheet.proofs.Rows.{ranged}
use Rattle.adjacency.specs.Chains.{end_by}
use Rattle.adjacency.proofs.Building.{end_below}
use Rattle.adjacency.specs.declared.End.{End}
use Rattle.adjacency.specs.declared.End.TheVariants.{Source, Target}
use Rattle.bundle.specs.Writing.{bundle_bytes}
use Rattle.planner.specs.Schedule.{Schedule, place_of, stands}
use Rattle.planner.specs.Planner.{bundle_of}
use Rattle.schedule.specs.Layout.{schedule_in}
use Rattle.plan_writer.specs.Scheduled.{Scheduled}
use Rattle.plan_writer.specs.Bytes.{far_by, message_length, message_bytes, messages_bytes, block_bytes, turn_bytes, open_bytes}
use Rattle.plan_writer.proofs.Sums.{sum-twos, sum-once}
use Rattle.plan_writer.proofs.Gathers.{gather-long}
use Rattle.plan_writer.proofs.Parts.{message-none, block-away}
use Rattle.plan_writer.proofs.Measures.{stands_here, stands-else, message-three, message-empty, block-length, open-length, bundle-length}

eqb_swap : (a b : ℕ) → eqb a b ≡ eqb b a
eqb_swap a b = go (ℕ_discrete a b)
  where
    go : Dec (a ≡ b) → eqb a b ≡ eqb b a
    go (yes e) = eq-eqb a b e ∙ sym (eq-eqb b a (sym e))
    go (no d) = ne_eqb a b d ∙ sym (ne_eqb b a (λ q. d (sym q)))

module _ (s : Sheet) (σ : Schedule) where
  -- the places of both ends, which were read and compared
  module _ (l : ℕ) {a b x y : ℕ} (p : a ≡ source_of s l) (q : b ≡ target_of s l) (u : x ≡ place_of σ a) (v : y ≡ place_of σ b) where
    pub length-here : x ≡ y → 0 ≡ message_length s σ l
    unfolding message_length stands
    length-here h = sym (ap (λ (c : Bool). pick c 0 3) (eq-eqb (place_of σ (source_of s l)) (place_of σ (target_of s l)) (ap (place_of σ) (sym p) ∙ sym u ∙ h ∙ v ∙ ap (place_of σ) q)))

    pub length-away : x ≢ y → 3 ≡ message_length s σ l
    unfolding message_length stands
    length-away h = sym (ap (λ (c : Bool). pick c 0 3) (ne_eqb (place_of σ (source_of s l)) (place_of σ (target_of s l)) (λ e. h (u ∙ ap (place_of σ) p ∙ e ∙ ap (place_of σ) (sym q) ∙ sym v))))

  abbrev far : End → ℕ → Bool
  far e l = stands σ (far_by e s l) (place_of σ (end_by e s l))

  far-length : (e : End) (l : ℕ) → pick (far e l) 0 3 ≡ message_length s σ l
  unfolding message_length stands
  far-length Source l = ap (λ (b : Bool). pick b 0 3) (eqb_swap (place_of σ (target_of s l)) (place_of σ (source_of s l)))
  far-length Target l = refl

  -- at its own task, on that task's processor
  message-own : (e : End) (l : ℕ) → length (message_bytes s σ e (place_of σ (end_by e s l)) (end_by e s l) l) ≡ message_length s σ l
  message-own e l = go (far e l) refl ∙ far-length e l
    where
      go : (b : Bool) → far e l ≡ b → length (message_bytes s σ e (place_of σ (end_by e s l)) (end_by e s l) l) ≡ pick (far e l) 0 3
      go true q = sym (message-empty s σ e (place_of σ (end_by e s l)) l (ap not q)) ∙ sym (ap (λ (b : Bool). pick b 0 3) q)
      go false q = sym (message-three s σ e (place_of σ (end_by e s l)) l (ap not q)) ∙ sym (ap (λ (b : Bool). pick b 0 3) q)

  message-of : (e : End) (t l : ℕ) → length (message_bytes s σ e (place_of σ t) t l) ≡ pick (eqb (end_by e s l) t) (message_length s σ l) 0
  message-of e t l = go (ℕ_discrete (end_by e s l) t)
    where
      go : Dec (end_by e s l ≡ t) → length (message_bytes s σ e (place_of σ t) t l) ≡ pick (eqb (end_by e s l) t) (message_length s σ l) 0
      go (yes q) =
          ap (λ (u : ℕ). length (message_bytes s σ e (place_of σ u) u l)) (sym q) ∙ message-own e l
          ∙ sym (ap (λ (b : Bool). pick b (message_length s σ l) 0) (eq-eqb (end_by e s l) t q))
      go (no d) = ap length (message-none s σ e (place_of σ t) t l d) ∙ sym (ap (λ (b : Bool). pick b (message_length s σ l) 0) (ne_eqb (end_by e s l) t d))

  messages-of : (e : End) (t : ℕ) → length (messages_bytes s σ e (place_of σ t) t) ≡ sum (link_count s) (λ l. pick (eqb (end_by e s l) t) (message_length s σ l) 0)
  unfolding messages_bytes
  messages-of e t =
      gather-long (link_count s) (message_bytes s σ e (place_of σ t) t)
      ∙ sum-cong (link_count s) (λ l. length (message_bytes s σ e (place_of σ t) t l)) (λ l. pick (eqb (end_by e s l) t) (message_length s σ l) 0) (λ l h. message-of e t l)

  module _ (tasks : (i : ℕ) → i < length σ.order → get_or σ.order i 0 < task_count s) (standing : (t : ℕ) → t < task_count s → place_of σ t < σ.opened)
      (once : (t : ℕ) → t < task_count s → sum (length σ.order) (λ i. bit (eqb t (get_or σ.order i 0))) ≡ 1)
      (ends : (e : End) (l : ℕ) → l < link_count s → end_by e s l < task_count s) where
    abbrev messages : End → ℕ → ℕ
    messages e t = sum (link_count s) (λ l. pick (eqb (end_by e s l) t) (message_length s σ l) 0)

    -- the blocks of t in all programmes: it stands in one of them
    block-once : (t : ℕ) → t < task_count s → sum σ.opened (λ k. length (block_bytes s σ k t)) ≡ 2 + (messages Target t + messages Source t)
    block-once t h =
        let p = place_of σ t in
        omega (
          arith,
          sum-only σ.opened (λ k. length (block_bytes s σ k t)) p (standing t h) (λ j d. ap length (block-away s σ j t (stands-else σ t j refl (λ q. d (sym q))))),
          block-length s σ p t (stands_here σ t p refl refl),
          messages-of Target t,
          messages-of Source t,
        )

    -- the messages at one end of the links: each link has one task there, which was placed once
    messages-once : (e : End) → sum (length σ.order) (λ i. messages e (get_or σ.order i 0)) ≡ sum (link_count s) (message_length s σ)
    messages-once e =
        sum-swap (length σ.order) (link_count s) (λ i l. pick (eqb (end_by e s l) (get_or σ.order i 0)) (message_length s σ l) 0)
        ∙ sum-cong (link_count s) (λ l. sum (length σ.order) (λ i. pick (eqb (end_by e s l) (get_or σ.order i 0)) (message_length s σ l) 0)) (message_length s σ)
        (λ l h. sum-once (length σ.order) (λ i. eqb (end_by e s l) (get_or σ.order i 0)) (message_length s σ l) (once (end_by e s l) (ends e l h)))

    opened-length : sum σ.opened (λ k. length (open_bytes s σ k)) ≡ 2 * σ.opened + sum σ.opened (λ k. sum (length σ.order) (λ i. length (turn_bytes s σ k i)))
    opened-length =
        sum-cong σ.opened (λ k. length (open_bytes s σ k)) (λ k. 2 + sum (length σ.order) (λ i. length (turn_bytes s σ k i)))
        (λ k h. omega (arith, open-length s σ k, gather-long (length σ.order) (turn_bytes s σ k)))
        ∙ sum-twos σ.opened (λ k. sum (length σ.order) (λ i. length (turn_bytes s σ k i)))

    turns-length : sum σ.opened (λ k. sum (length σ.order) (λ i. length (turn_bytes s σ k i))) ≡ 2 * length σ.order + 2 * sum (link_count s) (message_length s σ)
    unfolding turn_bytes
    turns-length =
        let p = length σ.order in
        let both = sum-add p (λ i. messages Target (get_or σ.order i 0)) (λ i. messages Source (get_or σ.order i 0)) in
        sum-swap σ.opened p (λ k i. length (turn_bytes s σ k i))
        ∙ sum-cong p (λ i. sum σ.opened (λ k. length (turn_bytes s σ k i))) (λ i. 2 + (messages Target (get_or σ.order i 0) + messages Source (get_or σ.order i 0)))
        (λ i h. block-once (get_or σ.order i 0) (tasks i h))
        ∙ sum-twos p (λ i. messages Target (get_or σ.order i 0) + messages Source (get_or σ.order i 0))
        ∙ omega (arith, both, messages-once Target, messages-once Source)

    pub length-is : length (bundle_bytes (bundle_of s σ)) ≡ 5 + 2 * σ.opened + 2 * length σ.order + 2 * sum (link_count s) (message_length s σ)
    length-is = omega (arith, bundle-length s σ, gather-long σ.opened (open_bytes s σ), opened-length, turns-length)

-- .. from the numbers that were read
pub bundle-long : {w : List ℕ} {opened placed bytes : ℕ} → Scheduled w → opened ≡ (schedule_in w).opened → placed ≡ length (schedule_in w).order → bytes ≡ sum (link_count (sheet_in w)) (message_length (sheet_in w) (schedule_in w))
    → 5 + 2 * opened + 2 * placed + 2 * bytes ≡ length (bundle_bytes (bundle_of (sheet_in w) (schedule_in w)))
bundle-long {w} h p q r = omega (arith, p, q, r, length-is (sheet_in w) (schedule_in w) h.tasks h.standing h.once (λ e. end_below e (ranged w h.loaded)))
