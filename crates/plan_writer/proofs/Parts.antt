-- The bytes of a bundle are those of its parts, one behind the other.
use Prim.Native.Nat.{ℕ, zero, suc, ◌+◌}
use mathlib.Core.Path.{◌≡◌, refl, sym, ap, ap₂, ◌∙◌}
use mathlib.Core.Bool.{true, false, not}
use mathlib.Core.Logic.{◌≢◌}
use mathlib.Core.List.{List, [], ◌∷◌, ◌++◌, append_assoc}
use native.Mathlib.Omega.{arith}
use native.Mathlib.Nat.{add-zero, zero-add}
use borrow.Author.Tests.{eq-eqb, ne_eqb}
use lib.ListN.{length, get_or}
use Rattle.folds.specs.Folds.{pick, listed, gather}
use Rattle.folds.proofs.Lists.{length-listed, get_or-listed}
use Rattle.numbers.specs.Number.{number_bytes}
use Rattle.sheet.specs.Sheet.{Sheet, link_count, source_of, target_of}
use Rattle.adjacency.specs.Chains.{end_by}
use Rattle.adjacency.specs.declared.End.{End}
use Rattle.adjacency.specs.declared.End.TheVariants.{Source, Target}
use Rattle.bundle.specs.Bundle.{Command, run}
use Rattle.bundle.specs.Writing.{command_bytes, programme_bytes, programmes_bytes, claim_bytes, bundle_bytes}
use Rattle.planner.specs.Schedule.{Schedule, stands}
use Rattle.planner.specs.Planner.{brings, takes_away, receive_of, send_of, block_of, blocks, programme, claim_of, bundle_of}
use Rattle.plan_writer.specs.Bytes.{far_by, code_of, message_bytes, messages_bytes, block_bytes, turn_bytes, open_bytes}
use Rattle.plan_writer.proofs.Gathers.{gather_cong, gather-front}

pub programme-append : (p q : List Command) → programme_bytes (p ++ q) ≡ programme_bytes p ++ programme_bytes q
programme-append [] q = refl
programme-append (c ∷ p) q = ap (λ (x : List ℕ). command_bytes c ++ x) (programme-append p q) ∙ sym (append_assoc (command_bytes c) (programme_bytes p) (programme_bytes q))

programme-gather : (n : ℕ) (f : ℕ → List Command) → programme_bytes (gather n f) ≡ gather n (λ i. programme_bytes (f i))
unfolding gather
programme-gather zero f = refl
programme-gather (suc n) f = programme-append (gather n f) (f n) ∙ ap (λ (x : List ℕ). x ++ programme_bytes (f n)) (programme-gather n f)

programmes-gather : (k : ℕ) (ps : List (List Command)) → programmes_bytes k ps ≡ gather (length ps) (λ i. 0x50 ∷ (k + i) ∷ programme_bytes (get_or ps i []))
unfolding gather
programmes-gather k [] = refl
programmes-gather k (p ∷ ps) =
    ap (λ (x : List ℕ). 0x50 ∷ k ∷ (programme_bytes p ++ x))
    (programmes-gather (suc k) ps ∙ gather_cong (length ps) _ _ (λ i h. step i))
    ∙ ap (λ (x : ℕ). 0x50 ∷ x ∷ (programme_bytes p ++ gather (length ps) (λ i. 0x50 ∷ (k + suc i) ∷ programme_bytes (get_or ps i [])))) (sym (add-zero k))
    ∙ sym (gather-front (length ps) (λ i. 0x50 ∷ (k + i) ∷ programme_bytes (get_or (p ∷ ps) i [])))
  where
    step : (i : ℕ) → 0x50 ∷ (suc k + i) ∷ programme_bytes (get_or ps i []) ≡ 0x50 ∷ (k + suc i) ∷ programme_bytes (get_or ps i [])
    step i = let z : suc k + i ≡ k + suc i = omega arith in ap (λ (x : ℕ). 0x50 ∷ x ∷ programme_bytes (get_or ps i [])) z

-- the message of a link: none of another task's, none to the same processor
module _ (s : Sheet) (σ : Schedule) where
  pub message-none : (e : End) (k t l : ℕ) → end_by e s l ≢ t → message_bytes s σ e k t l ≡ []
  unfolding message_bytes send_of receive_of takes_away brings
  message-none Source k t l h = rw (ne_eqb (source_of s l) t h)
  message-none Target k t l h = rw (ne_eqb (target_of s l) t h)

  pub message-home : (e : End) (k l : ℕ) → not (stands σ (far_by e s l) k) ≡ false → message_bytes s σ e k (end_by e s l) l ≡ []
  unfolding message_bytes send_of receive_of takes_away brings
  message-home Source k l h = rw (eq-eqb (source_of s l) (source_of s l) refl, h)
  message-home Target k l h = rw (eq-eqb (target_of s l) (target_of s l) refl, h)

  pub message-away : (e : End) (k l : ℕ) → not (stands σ (far_by e s l) k) ≡ true → message_bytes s σ e k (end_by e s l) l ≡ code_of e ∷ number_bytes 2 l
  unfolding message_bytes send_of receive_of takes_away brings
  message-away Source k l h = rw (eq-eqb (source_of s l) (source_of s l) refl, h)
  message-away Target k l h = rw (eq-eqb (target_of s l) (target_of s l) refl, h)

  -- "receives .., run, sends"
  pub block-home : (k t : ℕ) → stands σ t k ≡ true → block_bytes s σ k t ≡ messages_bytes s σ Target k t ++ (0x52 ∷ t ∷ []) ++ messages_bytes s σ Source k t
  unfolding block_bytes block_of messages_bytes message_bytes
  block-home k t h =
      rw h (
      programme-append (gather (link_count s) (receive_of s σ k t)) (run t ∷ gather (link_count s) (send_of s σ k t))
      ∙ ap₂ (λ (x y : List ℕ). x ++ (0x52 ∷ t ∷ y)) (programme-gather (link_count s) (receive_of s σ k t)) (programme-gather (link_count s) (send_of s σ k t))
      ∙ sym (append_assoc (gather (link_count s) (λ l. programme_bytes (receive_of s σ k t l))) (0x52 ∷ t ∷ []) (gather (link_count s) (λ l. programme_bytes (send_of s σ k t l)))))

  pub block-away : (k t : ℕ) → stands σ t k ≡ false → block_bytes s σ k t ≡ []
  unfolding block_bytes
  block-away k t h = rw h

  blocks-gather : (k : ℕ) (ts : List ℕ) → programme_bytes (blocks s σ k ts) ≡ gather (length ts) (λ i. block_bytes s σ k (get_or ts i 0))
  unfolding blocks gather block_bytes
  blocks-gather k [] = refl
  blocks-gather k (t ∷ ts) =
      programme-append (pick (stands σ t k) (block_of s σ k t) []) (blocks s σ k ts)
      ∙ ap (λ (x : List ℕ). programme_bytes (pick (stands σ t k) (block_of s σ k t) []) ++ x) (blocks-gather k ts)
      ∙ sym (gather-front (length ts) (λ i. programme_bytes (pick (stands σ (get_or (t ∷ ts) i 0) k) (block_of s σ k (get_or (t ∷ ts) i 0)) [])))

  pub open-parts : (k : ℕ) → open_bytes s σ k ≡ (0x50 ∷ k ∷ []) ++ gather (length σ.order) (turn_bytes s σ k)
  unfolding open_bytes programme turn_bytes
  open-parts k = ap (λ (x : List ℕ). 0x50 ∷ k ∷ x) (blocks-gather k σ.order)

  pub bundle-parts : bundle_bytes (bundle_of s σ) ≡ gather σ.opened (open_bytes s σ) ++ claim_bytes (claim_of s σ)
  unfolding bundle_bytes bundle_of open_bytes
  bundle-parts =
      ap (λ (x : List ℕ). x ++ claim_bytes (claim_of s σ))
      (programmes-gather 0 (listed σ.opened (programme s σ))
      ∙ ap (λ (n : ℕ). gather n (λ i. 0x50 ∷ (0 + i) ∷ programme_bytes (get_or (listed σ.opened (programme s σ)) i []))) (length-listed σ.opened (programme s σ))
      ∙ gather_cong σ.opened _ _ (λ i h. ap₂ (λ (x : ℕ) (p : List Command). 0x50 ∷ x ∷ programme_bytes p) (zero-add i) (get_or-listed σ.opened (programme s σ) i [] h)))
