-- A walk along the links of a task, and the lengths of the parts of a bundle.
use Prim.Native.Nat.{ℕ, ◌+◌, ◌≤◌, ◌<◌}
use mathlib.Core.Path.{◌≡◌, sym, ap, ◌∙◌}
use mathlib.Core.Bool.{true, false, not}
use mathlib.Core.Logic.{◌≢◌}
use mathlib.Core.List.{List, [], ◌∷◌, ◌++◌}
use native.Mathlib.Omega.{arith}
use borrow.Author.Tests.{eq-eqb, ne_eqb}
use lib.ListN.{length, get_or, length-append}
use Rattle.folds.specs.Folds.{gather}
use Rattle.sheet.specs.Sheet.{Sheet, task_count, link_count}
use Rattle.sheet.specs.Tables.{sheet_in}
use Rattle.adjacency.specs.Chains.{end_by, head_of, next_of, Chained}
use Rattle.adjacency.specs.declared.End.{End}
use Rattle.adjacency.specs.declared.End.TheVariants.{Source, Target}
use Rattle.bundle.specs.Writing.{bundle_bytes, claim_bytes}
use Rattle.planner.specs.Schedule.{Schedule, place_of, stands}
use Rattle.planner.specs.Planner.{claim_of, bundle_of}
use Rattle.plan_writer.specs.Bytes.{far_by, message_bytes, messages_bytes, block_bytes, turn_bytes, open_bytes}
use Rattle.plan_writer.specs.Scheduled.{Scheduled}
use Rattle.plan_writer.proofs.Parts.{message-home, message-away, block-home, open-parts, bundle-parts}

pub chained-of : {w : List ℕ} → Scheduled w → (e : End) → Chained e (sheet_in w) w
chained-of h Source = h.outward
chained-of h Target = h.inward

-- the place that was read, and compared with k
pub stands_here : (σ : Schedule) (t k : ℕ) {p : ℕ} → p ≡ place_of σ t → p ≡ k → stands σ t k ≡ true
unfolding stands
stands_here σ t k e h = eq-eqb (place_of σ t) k (sym e ∙ h)

pub stands-else : (σ : Schedule) (t k : ℕ) {p : ℕ} → p ≡ place_of σ t → p ≢ k → stands σ t k ≡ false
unfolding stands
stands-else σ t k e h = ne_eqb (place_of σ t) k (λ q. h (e ∙ q))

-- a walk along the chain of t that stands at link l
pub record Walk (e : End) (s : Sheet) (t l : ℕ) : Type 0 where
  pub here : l ≤ link_count s
  pub own : l < link_count s → end_by e s l ≡ t

module _ {e : End} {s : Sheet} {w : List ℕ} (d : Chained e s w) (t : ℕ) (t-in : t < task_count s) where
  pub walk-starts : {l : ℕ} → l ≡ head_of e w t → l ≤ link_count s → Walk e s t l
  walk-starts {l} q h = record { here = h; own = λ k. rw q (d.head_own t t-in (rw q at k)) }

  pub walk-on : {l l' : ℕ} → Walk e s t l → l < link_count s → l' ≡ next_of e w l → l' ≤ link_count s → Walk e s t l'
  walk-on {l} {l'} g h q few = record { here = few; own = λ k. rw q (d.next_own l h (rw q at k)) ∙ g.own h }

module _ (s : Sheet) (σ : Schedule) where
  pub message-three : (e : End) (k l : ℕ) → not (stands σ (far_by e s l) k) ≡ true → 3 ≡ length (message_bytes s σ e k (end_by e s l) l)
  message-three e k l h = sym (ap length (message-away s σ e k l h))

  pub message-empty : (e : End) (k l : ℕ) → not (stands σ (far_by e s l) k) ≡ false → 0 ≡ length (message_bytes s σ e k (end_by e s l) l)
  message-empty e k l h = sym (ap length (message-home s σ e k l h))

  -- receives, run, sends
  pub block-length : (k t : ℕ) → stands σ t k ≡ true → length (block_bytes s σ k t) ≡ length (messages_bytes s σ Target k t) + 2 + length (messages_bytes s σ Source k t)
  block-length k t h =
      omega (
        arith,
        ap length (block-home s σ k t h),
        length-append (messages_bytes s σ Target k t ++ (0x52 ∷ t ∷ [])) (messages_bytes s σ Source k t),
        length-append (messages_bytes s σ Target k t) (0x52 ∷ t ∷ []),
      )

  pub turn_is : (k i t : ℕ) → t ≡ get_or σ.order i 0 → block_bytes s σ k t ≡ turn_bytes s σ k i
  unfolding turn_bytes
  turn_is k i t e = ap (block_bytes s σ k) e

  -- `50 k`, and the blocks of its tasks
  pub open-length : (k : ℕ) → length (open_bytes s σ k) ≡ 2 + length (gather (length σ.order) (turn_bytes s σ k))
  open-length k = omega (arith, ap length (open-parts s σ k), length-append (0x50 ∷ k ∷ []) (gather (length σ.order) (turn_bytes s σ k)))

  -- the programmes, and the claim
  pub bundle-length : length (bundle_bytes (bundle_of s σ)) ≡ 5 + length (gather σ.opened (open_bytes s σ))
  bundle-length = omega (arith, ap length (bundle-parts s σ), length-append (gather σ.opened (open_bytes s σ)) (claim_bytes (claim_of s σ)))
