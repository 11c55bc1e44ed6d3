-- Bytes put one behind the other.
use Prim.Native.Nat.{ℕ, ◌+◌, ◌-◌, ◌≤◌, ◌<◌}
use mathlib.Core.Path.{◌≡◌, refl, sym, ap, ◌∙◌}
use mathlib.Core.Bool.{true}
use mathlib.Core.List.{List, [], ◌∷◌}
use native.Mathlib.Omega.{arith}
use lib.ListN.{length, set}
use borrow.Rule.Slice.PartMut.{mid_of, put_mid, mid_len, same_len_mid}
use Rattle.folds.specs.Folds.{gather}
use Rattle.folds.proofs.Lists.{gather-part}
use Rattle.folds.proofs.Loops.{gather-zero, gather-one}
use Rattle.numbers.specs.Number.{number_bytes, stored}
use Rattle.numbers.proofs.Laws.{stored_one, stored-then}
use Rattle.sheet.specs.Sheet.{Sheet, task_count, link_count}
use Rattle.adjacency.specs.Chains.{end_by, head_of, next_of, Chained}
use Rattle.adjacency.specs.declared.End.{End}
use Rattle.adjacency.specs.declared.End.TheVariants.{Source, Target}
use Rattle.bundle.specs.Writing.{claim_bytes, bundle_bytes}
use Rattle.planner.specs.Schedule.{Schedule, stands}
use Rattle.planner.specs.Planner.{claim_of, bundle_of}
use Rattle.plan_writer.specs.Bytes.{message_bytes, messages_bytes, block_bytes, turn_bytes, open_bytes}
use Rattle.numbers.specs.Number.{Put}
use Rattle.plan_writer.specs.Laid.{Laid}
use Rattle.plan_writer.proofs.Lays.{laid_none, laid_as, laid_then, laid-put, laid-last, laid-lent}
use Rattle.plan_writer.proofs.Gathers.{gather-first, gather-next}
use Rattle.plan_writer.proofs.Parts.{message-none, block-home, open-parts, bundle-parts}
use Rattle.plan_writer.proofs.Measures.{Walk, walk-starts, walk-on}

-- a command byte, and a number behind it
pub stored-number : (width : ℕ) (b last : List ℕ) (at x y c l : ℕ) → at < length b → x ≡ c → y ≡ l → last ≡ stored (set b at x) (at + 1) (number_bytes width y) → last ≡ stored b at (c ∷ number_bytes width l)
stored-number width b last at x y c l h p q e =
    stored-then b (set b at x) last at (at + 1) (x ∷ []) (number_bytes width y) (stored_one b at x h) e refl (omega arith)
    ∙ ap (λ (v : ℕ). stored b at (v ∷ number_bytes width y)) p ∙ ap (λ (v : ℕ). stored b at (c ∷ number_bytes width v)) q

-- the first i lists of an index stand from start on
pub record Filled (f : ℕ → List ℕ) (old : List ℕ) (start i : ℕ) (out : List ℕ) (at : ℕ) : Type 0 where
  pub laid : Laid old start (gather i f) out at
  pub long : length out ≡ length old

module _ (f : ℕ → List ℕ) (old : List ℕ) (start : ℕ) where
  pub filled_none : Filled f old start 0 old start
  filled_none = record { laid = laid_as (sym (gather-zero f)) (laid_none old start); long = refl }

  module _ {i : ℕ} {out : List ℕ} {at : ℕ} (g : Filled f old start i out at) where
    pub filled-room : (n : ℕ) → i < n → start + length (gather n f) + 3 ≤ length old → at + length (f i) + 3 ≤ length out
    filled-room n h room = omega (arith, g.laid.next, g.long, gather-part n f i h)

    pub filled_more : {last : List ℕ} {r : ℕ} → Laid out at (f i) last r → length last ≡ length out → Filled f old start (i + 1) last r
    filled_more p l = record { laid = laid_as (sym (gather-one i f)) (laid_then g.laid p); long = l ∙ g.long }

    -- the rest of the output, from the current end, is handed on: it has room for the next list, which is laid at its front
    pub filled-rest : (n : ℕ) → i < n → start + length (gather n f) + 3 ≤ length old → length (f i) + 3 ≤ length (mid_of at (length out - at) out)
    filled-rest n h room =
        let z : at + length (f i) + 3 ≤ length out = filled-room n h room in
        let m : length (mid_of at (length out - at) out) ≡ length out - at = mid_len at (length out) out (omega arith) in
        omega arith

    pub filled-lent : {last : List ℕ} {n : ℕ} → at ≤ length out → Laid (mid_of at (length out - at) out) 0 (f i) last n → length last ≡ length (mid_of at (length out - at) out)
        → Filled f old start (i + 1) (put_mid at (length out - at) out last) (at + n)
    filled-lent {last} {n} h p l = filled_more (laid-lent out last (f i) at n h p) (same_len_mid at (length out - at) out last l)

    pub filled-all : (n : ℕ) → i ≡ n → Laid old start (gather n f) out at
    filled-all n e = laid_as (ap (λ (k : ℕ). gather k f) e) g.laid

-- the messages of t by its links below l
module _ (s : Sheet) (σ : Schedule) where
  pub record Putting (e : End) (k t : ℕ) (old : List ℕ) (start l : ℕ) (out : List ℕ) (at : ℕ) : Type 0 where
    pub walk : Walk e s t l
    pub filled : Filled (message_bytes s σ e k t) old start l out at

  module _ {e : End} {w : List ℕ} (d : Chained e s w) (k t : ℕ) (t-in : t < task_count s) (old : List ℕ) (start : ℕ) where
    pub putting-starts : {l : ℕ} → l ≡ head_of e w t → l ≤ link_count s → Putting e k t old start l old start
    putting-starts q h =
        record {
          walk = walk-starts d t t-in q h;
          filled = record { laid = laid_as (sym (gather-first d t t-in (message_bytes s σ e k t) (λ i g. message-none s σ e k t i g) q)) (laid_none old start); long = refl };
        }

    pub putting-room : {l : ℕ} {out : List ℕ} {at : ℕ} → Putting e k t old start l out at → l < link_count s → start + length (messages_bytes s σ e k t) + 3 ≤ length old → at + 3 ≤ length out
    unfolding messages_bytes
    putting-room {l} g h room = omega (arith, filled-room (message_bytes s σ e k t) old start g.filled (link_count s) h room)

    pub putting-on : {l l' : ℕ} {out last : List ℕ} {at r : ℕ} → Putting e k t old start l out at → l < link_count s
        → Laid out at (message_bytes s σ e k (end_by e s l) l) last r → length last ≡ length out
        → l' ≡ next_of e w l → l' ≤ link_count s → l < l' → Putting e k t old start l' last r
    putting-on {l} {l'} g h p long q few more =
        let f = message_bytes s σ e k t in
        let own = g.walk.own h in
        record {
          walk = walk-on d t t-in g.walk h q few;
          filled =
              record {
                laid =
                    laid_as (sym (gather-next d t t-in f (λ i z. message-none s σ e k t i z) h own q more))
                    (laid_then g.filled.laid (laid_as (ap (λ (u : ℕ). message_bytes s σ e k u l) own) p));
                long = long ∙ g.filled.long;
              };
        }

  pub putting-done : {e : End} {k t l start at : ℕ} {old out : List ℕ} → Putting e k t old start l out at → link_count s ≤ l → Laid old start (messages_bytes s σ e k t) out at
  unfolding messages_bytes
  putting-done {e} {k} {t} {l} {start} {at} {old} g h = filled-all (message_bytes s σ e k t) old start g.filled (link_count s) (omega (arith, g.walk.here))

  -- receives, run, sends
  pub block-put : (k t : ℕ) → stands σ t k ≡ true → {old m₁ m₂ m₃ : List ℕ} {at a b r : ℕ} → Laid old at (messages_bytes s σ Target k t) m₁ a → a ≤ length m₁ → Put m₁ a (0x52 ∷ t ∷ []) m₂ b
      → Laid m₂ b (messages_bytes s σ Source k t) m₃ r → Laid old at (block_bytes s σ k t) m₃ r
  block-put k t h p l q r = laid_as (sym (block-home s σ k t h)) (laid_then (laid_then p (laid-put l q)) r)

  -- `50 k`, and the blocks of its tasks
  pub open-put : (k : ℕ) {old mid last : List ℕ} {start a r : ℕ} → start ≤ length old → Put old start (0x50 ∷ k ∷ []) mid a → Laid mid a (gather (length σ.order) (turn_bytes s σ k)) last r
      → Laid old start (open_bytes s σ k) last r
  open-put k l p q = laid_as (sym (open-parts s σ k)) (laid_then (laid-put l p) q)

  -- the programmes, and the claim
  pub bundle-put : {old mid last : List ℕ} {a : ℕ} → Laid old 0 (gather σ.opened (open_bytes s σ)) mid a → last ≡ stored mid a (claim_bytes (claim_of s σ)) → last ≡ stored old 0 (bundle_bytes (bundle_of s σ))
  bundle-put {old} p e = laid-last (claim_bytes (claim_of s σ)) (omega arith) p e ∙ ap (stored old 0) (sym (bundle-parts s σ))
