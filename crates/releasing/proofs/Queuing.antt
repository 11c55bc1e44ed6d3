-- Things are queued, the last first.
use Prim.Native.Nat.{ℕ, suc, ◌+◌, ◌-◌, ◌%◌, ◌≤◌, ◌<◌}
use native.Mathlib.Omega.{arith}
use native.Mathlib.Numerals.{add-one}
use native.Mathlib.Decide.{ℕ_discrete, dec_lt}
use mathlib.Core.Path.{◌≡◌, refl, sym, ap, ◌∙◌, subst}
use mathlib.Core.Logic.{◌≢◌, ◌⊎◌, inl, inr, ⊎_elim}
use mathlib.Core.List.{List}
use lib.ListN.{length, get_or, set, length-set}
use lib.Seq.{get_or-set_same, get_or-set_other}
use Rattle.workspace.specs.Area.{ClearIs}
use Rattle.admission.specs.Notes.{slots_at, releases_at, slots_end}
use Rattle.releasing.specs.Queues.{queues, things, Declared, queue_of, First, over, next, Queued, Above, QueueIs, QueuesIs, AllIs}

above_same : (w : List ℕ) → Above w w
above_same w = record { long = refl; high = λ i l. refl }

pub above_then : {w u v : List ℕ} → Above w u → Above u v → Above w v
above_then g h = record { long = h.long ∙ g.long; high = λ i l. h.high i l ∙ g.high i l }

declared-small : {n m x : ℕ} → n ≤ 256 → m ≤ 1024 → Declared n m x → x < things
declared-small f l (inl h) = omega arith
declared-small f l (inr h) = omega (arith, h.1)

queue-same : {w last : List ℕ} → Above w last → (x : ℕ) → queue_of last x ≡ queue_of w x
queue-same g x = ap (λ (u : ℕ). u % queues) (g.high (releases_at + x) (omega arith))

-- a queue by words that keep what is released, and from a lower thing on, where none of this queue stands between
first-kept : {n m : ℕ} {w last : List ℕ} {r a word : ℕ} → Above w last → First n m w r a word → First n m last r a word
first-kept g (over e h) = over e (λ y l d q. h y l d (sym (queue-same g y) ∙ q))
first-kept g (next x e l d q h) = next x e l d (queue-same g x ∙ q) (λ y k f i p. h y k f i (sym (queue-same g y) ∙ p))

first-lower : {n m : ℕ} {w : List ℕ} {r a word : ℕ} (c : ℕ) → c ≤ a → ((y : ℕ) → c ≤ y → y < a → Declared n m y → queue_of w y ≡ r → ⊥) → First n m w r a word → First n m w r c word
first-lower {a = a} c l f (over e h) = over e (λ y k d q. ⊎_elim (λ (i : y < a). f y k i d q) (λ (i : a ≤ y). h y i d q) (split y a))
  where
    split : (y a : ℕ) → (y < a) ⊎ (a ≤ y)
    split y a = elim (dec_lt y a) [ yes i ↦ inl i | no i ↦ inr (omega arith) ]
first-lower {a = a} c l f (next x e k d q h) = next x e (omega arith) d q (λ y i j g p. ⊎_elim (λ (u : y < a). f y i u g p) (λ (u : a ≤ y). h y u j g p) (split y a))
  where
    split : (y a : ℕ) → (y < a) ⊎ (a ≤ y)
    split y a = elim (dec_lt y a) [ yes i ↦ inl i | no i ↦ inr (omega arith) ]

-- one thing more
pub queue-more : (w mid last : List ℕ) (x u r first : ℕ) → x < things → slots_end ≤ length w → u ≡ get_or w (releases_at + x) 0 → r ≡ u % queues
    → (first ≡ get_or w (slots_at + r) 0) × (first < 4294967296) → mid ≡ set w x (first % 4294967296) → last ≡ set mid (slots_at + r) ((things - x) % 4294967296) → QueueIs w last x
queue-more w mid last x u r first small long eu er ef em el = record { above = kept; is = λ n m d q. by n m d q }
  where
    low : r < queues
    low = omega arith

    here : queue_of w x ≡ r
    here = ap (λ (y : ℕ). y % queues) (sym eu) ∙ sym er

    -- the words: at x, at its queue's first, and elsewhere
    at_x : get_or last x 0 ≡ get_or w (slots_at + r) 0
    at_x =
        ap (λ (v : List ℕ). get_or v x 0) el ∙ get_or-set_other mid (slots_at + r) x ((things - x) % 4294967296) 0 (λ q. omega arith) ∙ ap (λ (v : List ℕ). get_or v x 0) em
        ∙ get_or-set_same w x (first % 4294967296) 0 (omega arith) ∙ omega (arith, ef.1) ∙ ef.0

    at-queue : get_or last (slots_at + r) 0 ≡ things - x
    at-queue =
        ap (λ (v : List ℕ). get_or v (slots_at + r) 0) el
        ∙ get_or-set_same mid (slots_at + r) ((things - x) % 4294967296) 0 (omega (arith, low, ap length em, length-set w x (first % 4294967296))) ∙ omega arith

    elsewhere : (i : ℕ) → i ≢ x → i ≢ slots_at + r → get_or last i 0 ≡ get_or w i 0
    elsewhere i d e =
        ap (λ (v : List ℕ). get_or v i 0) el ∙ get_or-set_other mid (slots_at + r) i ((things - x) % 4294967296) 0 e ∙ ap (λ (v : List ℕ). get_or v i 0) em
        ∙ get_or-set_other w x i (first % 4294967296) 0 d

    kept : Above w last
    kept =
        record {
          long = ap length el ∙ length-set mid (slots_at + r) ((things - x) % 4294967296) ∙ ap length em ∙ length-set w x (first % 4294967296);
          high = λ i l. elsewhere i (λ q. omega arith) (λ q. omega (arith, low));
        }

    by : (n m : ℕ) → Declared n m x → Queued n m w (suc x) → Queued n m last x
    by n m d q =
        record {
          few = q.few;
          less = q.less;
          first = λ t l. firsts t l (ℕ_discrete t r);
          next = λ y l f. nexts y l f (ℕ_discrete y x);
        }
      where
        firsts : (t : ℕ) → t < queues → Dec (t ≡ r) → First n m last t x (get_or last (slots_at + t) 0)
        firsts t l (yes e) =
            next x (omega (arith, ap (λ (i : ℕ). get_or last (slots_at + i) 0) e, at-queue)) (omega arith) d (queue-same kept x ∙ here ∙ sym e) (λ y k j f p. omega arith)
        firsts t l (no e) =
            subst (First n m last t x) (sym (elsewhere (slots_at + t) (λ q. omega arith) (λ q. e (omega arith))))
            (first-kept kept
            (first-lower x (omega arith) (λ y k j f p. let z : y ≡ x = omega arith in e (sym p ∙ ap (queue_of w) z ∙ here)) (q.first t l)))

        nexts : (y : ℕ) → x ≤ y → Declared n m y → Dec (y ≡ x) → First n m last (queue_of last y) (suc y) (get_or last y 0)
        nexts y l f (yes e) =
            subst (λ (i : ℕ). First n m last (queue_of last i) (suc i) (get_or last i 0)) (sym e)
            (subst (First n m last (queue_of last x) (suc x)) (sym at_x)
            (subst (λ (t : ℕ). First n m last t (suc x) (get_or w (slots_at + r) 0)) (sym (queue-same kept x ∙ here)) (first-kept kept (q.first r low))))
        nexts y l f (no e) =
            subst (First n m last (queue_of last y) (suc y)) (sym (elsewhere y e (λ z. omega (arith, declared-small q.few q.less f))))
            (subst (λ (t : ℕ). First n m last t (suc y) (get_or w y 0)) (sym (queue-same kept y)) (first-kept kept (q.next y (omega arith) f)))

-- the things from x on, of those from a up to e
pub queues-none : (w : List ℕ) (e : ℕ) → QueuesIs w w e e
queues-none w e = record { above = above_same w; is = λ n m d q. q }

pub queues-more : {w u v : List ℕ} {x e y : ℕ} → x + 1 ≡ y → y ≤ e → QueuesIs w u y e → QueueIs u v x → QueuesIs w v x e
queues-more {w} {u} {v} {x} {e} {y} z l g h =
    record {
      above = above_then g.above h.above;
      is = λ n m d q. h.is n m (d x (omega arith) (omega arith)) (subst (Queued n m u) (sym z ∙ add-one x) (g.is n m (λ i k j. d i (omega arith) j) q));
    }

pub queues-at : {w v : List ℕ} {x a e : ℕ} → x ≡ a → QueuesIs w v x e → QueuesIs w v a e
queues-at {w} {v} {x} {a} {e} q g = subst (λ (i : ℕ). QueuesIs w v i e) q g

-- all of them
queued-lower : {n m : ℕ} {w : List ℕ} {a : ℕ} (c : ℕ) → c ≤ a → ((y : ℕ) → c ≤ y → y < a → Declared n m y → ⊥) → Queued n m w a → Queued n m w c
queued-lower {n} {m} {w} {a} c l f q =
    record {
      few = q.few;
      less = q.less;
      first = λ r k. first-lower c l (λ y i j d p. f y i j d) (q.first r k);
      next = λ x k d. elim (dec_lt x a) [ yes j ↦ absurd (f x k j d) | no j ↦ q.next x (omega arith) d ];
    }

pub queue-all : {w v x last : List ℕ} (n m : ℕ) → n ≤ 256 → m ≤ 1024 → slots_end ≤ length w → ClearIs w v slots_at (slots_at + queues) → QueuesIs v x 256 (256 + m) → QueuesIs x last 0 n → AllIs w last n m
queue-all {w} {v} {x} {last} n m few less long c g h =
    record {
      above = above_then (above_then (record { long = c.long; high = λ i l. c.other i (inr (omega arith)) }) g.above) h.above;
      queued = h.is n m (λ y l k. inl k) (queued-lower n few (λ y l k d. between y l k d) (g.is n m (λ y l k. inr (l, k)) none_yet));
    }
  where
    between : (y : ℕ) → n ≤ y → y < 256 → Declared n m y → ⊥
    between y l k (inl d) = omega arith
    between y l k (inr d) = omega (arith, d.0)

    behind : (y : ℕ) → 256 + m ≤ y → Declared n m y → ⊥
    behind y l (inl d) = omega arith
    behind y l (inr d) = omega (arith, d.1)

    none_yet : Queued n m v (256 + m)
    none_yet =
        record {
          few = few;
          less = less;
          first = λ r l. over (c.zeros (slots_at + r) (omega arith) (omega arith)) (λ y k d p. behind y k d);
          next = λ y l d. absurd (behind y l d);
        }
