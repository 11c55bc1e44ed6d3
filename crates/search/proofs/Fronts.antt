-- Laws of what stands in front of an offset of a buffer: bytes, messages and blocks.
use Prim.Native.Nat.{ℕ, zero, suc, ◌+◌, ◌-◌, ◌*◌, ◌/◌, ◌%◌, ◌≤◌, ◌<◌}
use native.Mathlib.Omega.{arith}
use mathlib.Core.Bool.{Bool, true, false, not}
use mathlib.Core.Path.{◌≡◌, refl, sym, ap, ◌∙◌, subst}
use mathlib.Core.Logic.{◌≢◌}
use mathlib.Core.List.{List, [], ◌∷◌, ◌++◌, append_assoc, append-nil}
use lib.ListN.{length, take, drop, set, get_or, length-append, length-take}
use lib.Dec.{eqb}
use borrow.Author.Tests.{eq-eqb, ne_eqb}
use Rattle.folds.specs.Folds.{pick, both, gather}
use Rattle.folds.proofs.Loops.{gather-one, gather-zero}
use Rattle.numbers.specs.Number.{number_bytes, stored}
use Rattle.numbers.proofs.Laws.{length-stored, stored_one, stored-two, stored-then}
use lib.Seq.{take_at}
use Rattle.sheet.specs.Sheet.{Sheet, link_count, source_of, target_of}
use Rattle.bundle.specs.Bundle.{Command, run, send, receive}
use Rattle.bundle.specs.Writing.{command_bytes, programme_bytes}
use Rattle.adjacency.specs.Chains.{end_by}
use Rattle.adjacency.specs.declared.End.{End}
use Rattle.adjacency.specs.declared.End.TheVariants.{Source, Target}
use Rattle.admission.specs.Fields.{source_at, target_at, Known}
use Rattle.admission.specs.declared.view.View.{View}
use Rattle.least.specs.Written.{among, brings_in, takes_in, receive_in, send_in, block_in, blocks_in}
use Rattle.least.proofs.Normal.{blocks_in-append}
use Rattle.search.specs.Codes.{tasks_of, order_of}
use Rattle.search.specs.Laying.{most_links, Front, other_end, code_of, message_in, EndIs, MessageIs, MessagesIs, BlockIs, TasksIs}

pub front-none : (b : List ℕ) (i : ℕ) → Front b i [] b i
front-none b i = record { long = refl; front = sym (append-nil (take i b)); next = omega arith }

pub front-then : {a b c : List ℕ} {i j k : ℕ} (x y : List ℕ) → Front a i x b j → Front b j y c k → Front a i (x ++ y) c k
front-then {a} {b} {c} {i} {j} {k} x y f g =
    record {
      long = g.long ∙ f.long;
      front = g.front ∙ ap (λ (z : List ℕ). z ++ y) f.front ∙ append_assoc (take i a) x y;
      next = omega (arith, f.next, g.next, length-append x y);
    }

pub front-as : {a b : List ℕ} {i j : ℕ} {x y : List ℕ} → x ≡ y → Front a i x b j → Front a i y b j
front-as {a} {b} {i} {j} e f = subst (λ (z : List ℕ). Front a i z b j) e f

-- bytes stored at an offset
front-stored : (b last v : List ℕ) (i r : ℕ) → last ≡ stored b i v → r ≡ i + length v → r ≤ length b → Front b i v last r
unfolding stored
front-stored b last v i r e n h =
    let put : Front b i v (stored b i v) (i + length v) =
    record {
      long = length-stored b i v (omega arith);
      front = take_at (take i b ++ v) (drop (i + length v) b) (i + length v) (omega (arith, length-append (take i b) v, length-take i b));
      next = refl;
    }
    in
    rw (e, n) put

-- a command: its byte and one more, or its byte and a number
pub pair-done : (b : List ℕ) (at k x : ℕ) → at + 2 ≤ length b → Front b at (k ∷ x ∷ []) (set (set b at k) (at + 1) x) (at + 2)
pair-done b at k x h = front-stored b _ (k ∷ x ∷ []) at (at + 2) (stored-two b at k x h) refl h

pub command-done : (b last : List ℕ) (at w k n r : ℕ) → last ≡ stored (set b at k) (at + 1) (number_bytes w n) → r ≡ at + 1 + length (number_bytes w n) → r ≤ length b
    → Front b at (k ∷ number_bytes w n) last r
command-done b last at w k n r e l h =
    front-stored b last (k ∷ number_bytes w n) at r (stored-then b _ last at (at + 1) (k ∷ []) (number_bytes w n) (stored_one b at k (omega arith)) e refl (omega arith)) (omega arith) h

pub programme_bytes-append : (p q : List Command) → programme_bytes (p ++ q) ≡ programme_bytes p ++ programme_bytes q
programme_bytes-append [] q = refl
programme_bytes-append (c ∷ p) q = ap (λ (z : List ℕ). command_bytes c ++ z) (programme_bytes-append p q) ∙ sym (append_assoc (command_bytes c) (programme_bytes p) (programme_bytes q))

-- an end of a link, from the sheet's bytes
pub source-done : (sheet : List ℕ) (v : View) {e : End} (l r : ℕ) → e ≡ Source → r ≡ get_or sheet (source_at v.middle l) 0 → r < 256 → EndIs sheet v e l r
source-done sheet v l r q e h = rw q record { byte = h; is = λ s k m. e ∙ k.fields.source l m }

pub target-done : (sheet : List ℕ) (v : View) {e : End} (l r : ℕ) → e ≡ Target → r ≡ get_or sheet (target_at v.middle l) 0 → r < 256 → EndIs sheet v e l r
target-done sheet v l r q e h = rw q record { byte = h; is = λ s k m. e ∙ k.fields.target l m }

-- what is put for one link: nothing where it is not a link of t, or its other task runs here too
module _ (s : Sheet) (ts : List ℕ) (t l : ℕ) where
  not-mine : (e : End) → end_by e s l ≢ t → programme_bytes (message_in e s ts t l) ≡ []
  unfolding receive_in brings_in send_in takes_in
  not-mine Source d = rw (ne_eqb (source_of s l) t d)
  not-mine Target d = rw (ne_eqb (target_of s l) t d)

  local : (e : End) → among (end_by (other_end e) s l) ts ≡ true → programme_bytes (message_in e s ts t l) ≡ []
  unfolding receive_in brings_in send_in takes_in
  local Source e = go (eqb (source_of s l) t)
    where
      go : (x : Bool) → programme_bytes (pick (both x (not (among (target_of s l) ts))) (send l ∷ []) []) ≡ []
      go true = rw e
      go false = refl
  local Target e = go (eqb (target_of s l) t)
    where
      go : (x : Bool) → programme_bytes (pick (both x (not (among (source_of s l) ts))) (receive l ∷ []) []) ≡ []
      go true = rw e
      go false = refl

  across : (e : End) → end_by e s l ≡ t → among (end_by (other_end e) s l) ts ≡ false → programme_bytes (message_in e s ts t l) ≡ code_of e ∷ number_bytes 2 l
  unfolding receive_in brings_in send_in takes_in
  across Source q e = rw (eq-eqb (source_of s l) t q, e)
  across Target q e = rw (eq-eqb (target_of s l) t q, e)

module _ (sheet : List ℕ) (v : View) (old : List ℕ) (e : End) (at part len t l : ℕ) where
  pub skip-near : (x : ℕ) → EndIs sheet v e l x → x ≢ t → MessageIs sheet v old old e at part len t l at
  skip-near x n d =
      record {
        long = refl;
        few = omega arith;
        is = λ s k h. front-as (sym (not-mine s (tasks_of len part) t l e (λ q. d (n.is s k h ∙ q)))) (front-none old at);
      }

  pub skip-far : (x : ℕ) {y : Bool} {o : End} → o ≡ other_end e → EndIs sheet v o l x → y ≡ among x (tasks_of len part) → y ≡ true → MessageIs sheet v old old e at part len t l at
  skip-far x {y} {o} g n u w =
      record {
        long = refl;
        few = omega arith;
        is =
            λ s k h. front-as
            (sym (local s (tasks_of len part) t l e (ap (λ (z : End). among (end_by z s l) (tasks_of len part)) (sym g) ∙ ap (λ (z : ℕ). among z (tasks_of len part)) (sym (n.is s k h)) ∙ sym u ∙ w)))
            (front-none old at);
      }

  pub put-far : (last : List ℕ) (r x y : ℕ) {z : Bool} {o : End} {c : ℕ} → EndIs sheet v e l x → x ≡ t → o ≡ other_end e → EndIs sheet v o l y → z ≡ among y (tasks_of len part) → z ≡ false
      → c ≡ code_of e → Front old at (c ∷ number_bytes 2 l) last r → MessageIs sheet v old last e at part len t l r
  put-far last r x y {z} {o} {c} n q g m u w d p =
      record {
        long = p.long;
        few = omega (arith, p.next);
        is =
            λ s k h. front-as
            (ap {B = List ℕ} (λ (i : ℕ). i ∷ number_bytes 2 l) d ∙
            sym (across s (tasks_of len part) t l e (sym (n.is s k h) ∙ q)
            (ap (λ (i : End). among (end_by i s l) (tasks_of len part)) (sym g) ∙ ap (λ (i : ℕ). among i (tasks_of len part)) (sym (m.is s k h)) ∙ sym u ∙ w))) p;
      }

-- as the loop over the links goes
module _ (sheet : List ℕ) (v : View) (old : List ℕ) (e : End) (start part len t : ℕ) where
  pub record Passed (l : ℕ) (buf : List ℕ) (at : ℕ) : Type 0 where
    pub long : length buf ≡ length old
    pub few : at ≤ start + 3 * l
    pub is : (s : Sheet) → Known s sheet v → l ≤ link_count s → Front old start (programme_bytes (gather l (message_in e s (tasks_of len part) t))) buf at

  pub passed_none : Passed 0 old start
  passed_none =
      record { long = refl; few = omega arith; is = λ s k h. front-as (sym (ap programme_bytes (gather-zero (message_in e s (tasks_of len part) t)))) (front-none old start) }

  pub passed-more : {l : ℕ} {buf last : List ℕ} {at r : ℕ} → Passed l buf at → MessageIs sheet v buf last e at part len t l r → Passed (l + 1) last r
  passed-more {l} {buf} {last} {at} {r} p q =
      record {
        long = q.long ∙ p.long;
        few = omega (arith, p.few, q.few);
        is =
            λ s k h.
            let f = message_in e s (tasks_of len part) t in
            front-as (sym (ap programme_bytes (gather-one l f) ∙ programme_bytes-append (gather l f) (f l)))
            (front-then (programme_bytes (gather l f)) (programme_bytes (f l)) (p.is s k (omega arith)) (q.is s k (omega arith)));
      }

  pub passed-all : {l : ℕ} {buf : List ℕ} {at : ℕ} → l ≡ v.links → Passed l buf at → MessagesIs sheet v old buf e start part len t at
  passed-all {l} {buf} {at} q p =
      record {
        long = p.long;
        few = omega (arith, p.few, q);
        is =
            λ s k.
            let n : l ≡ link_count s = q ∙ sym k.links in
            subst (λ (m : ℕ). Front old start (programme_bytes (gather m (message_in e s (tasks_of len part) t))) buf at) n (p.is s k (omega arith));
      }

-- blocks
module _ (sheet : List ℕ) (v : View) (old : List ℕ) (at part len t : ℕ) where
  pub block-done : (a b c : List ℕ) (i j r : ℕ) → v.links ≤ most_links → MessagesIs sheet v old a Target at part len t i → Front a i (0x52 ∷ t ∷ []) b j → MessagesIs sheet v b c Source j part len t r
      → BlockIs sheet v old c at part len t r
  unfolding block_in
  block-done a b c i j r h p q u =
      record {
        long = u.long ∙ q.long ∙ p.long;
        few = omega (arith, p.few, q.next, u.few);
        is =
            λ s k.
            let ts = tasks_of len part in
            let receives = gather (link_count s) (receive_in s ts t) in
            let sends = gather (link_count s) (send_in s ts t) in
            front-as (sym (programme_bytes-append receives (run t ∷ sends)))
            (front-then (programme_bytes receives) (0x52 ∷ t ∷ programme_bytes sends) (p.is s k) (front-then (0x52 ∷ t ∷ []) (programme_bytes sends) q (u.is s k)));
      }

module _ (sheet : List ℕ) (v : View) (old : List ℕ) (at part len rest : ℕ) where
  pub tasks-none : (j : ℕ) → j ≡ 0 → TasksIs sheet v old old at part len rest j at
  unfolding order_of blocks_in
  tasks-none j e = rw e record { long = refl; few = omega arith; is = λ s k. front-none old at }

  pub tasks-more : (j : ℕ) (a b : List ℕ) (i r : ℕ) → 0 < j → TasksIs sheet v old a at part len (rest / 16) (j - 1) i → BlockIs sheet v a b i part len (rest % 8) r
      → TasksIs sheet v old b at part len rest j r
  unfolding order_of blocks_in
  tasks-more zero a b i r h p q = absurd (omega arith)
  tasks-more (suc j) a b i r h p q =
      let e : suc j - 1 ≡ j = omega arith in
      let p' : TasksIs sheet v old a at part len (rest / 16) j i = rw e at p in
      record {
        long = q.long ∙ p.long;
        few = omega (arith, p'.few, q.few);
        is =
            λ s k.
            let ts = tasks_of len part in
            let before = blocks_in s ts (order_of j (rest / 16)) in
            front-as
            (sym (ap programme_bytes (blocks_in-append s ts (order_of j (rest / 16)) (rest % 8 ∷ [])) ∙ programme_bytes-append before (block_in s ts (rest % 8) ++ []) ∙
            ap (λ (z : List Command). programme_bytes before ++ programme_bytes z) (append-nil (block_in s ts (rest % 8)))))
            (front-then (programme_bytes before) (programme_bytes (block_in s ts (rest % 8))) (p'.is s k) (q.is s k));
      }
