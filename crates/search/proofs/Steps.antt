-- One task more: what is carried along, and the tests by which a branch is left out.
use Prim.Native.Nat.{ℕ, ◌+◌, ◌*◌, ◌≤◌, ◌<◌}
use native.Mathlib.Omega.{arith}
use native.Mathlib.Decide.{dec_lt}
use mathlib.Core.Bool.{Bool, true, false, not}
use mathlib.Core.Path.{◌≡◌, refl, sym, ap, ap₂, ◌∙◌, subst}
use mathlib.Core.Logic.{◌≢◌, ⊎_elim}
use mathlib.Core.List.{List, [], ◌∷◌, ◌++◌}
use lib.ListN.{length}
use lib.Dec.{eqb, ltb, leb}
use borrow.Author.Tests.{eq-eqb, ne_eqb, lt-ltb, le-ltb, le-leb, lt-leb}
use Rattle.folds.specs.Folds.{both, any}
use Rattle.folds.proofs.Tests.{below_suc, both_false}
use Rattle.folds.proofs.Laws.{any_found, any_some, any-cong, none_first, first_found}
use Rattle.numbers.specs.Number.{number_at}
use Rattle.sheet.specs.Sheet.{Sheet, link_count, source_of, target_of, work_of, store_of}
use Rattle.adjacency.specs.declared.End.TheVariants.{Source, Target}
use Rattle.admission.specs.Fields.{work_at, store_at, Known}
use Rattle.admission.specs.declared.view.View.{View}
use Rattle.least.specs.Written.{among}
use Rattle.least.specs.Heads.{leads_to, head_of, receives, key_of, head_key}
use Rattle.least.specs.Least.{opens, joins, most}
use Rattle.least.specs.Pruned.{last_of, total, heads_rise, feeds, store_fits, may_open, may_join}
use Rattle.least.proofs.Candidates.{joins-last}
use Rattle.least.proofs.Pruning.{split-last, total-append}
use Rattle.least.proofs.Keys.{key-lower}
use Rattle.search.specs.Codes.{arranged, tasks_of, order_of}
use Rattle.search.specs.Laying.{most_links, Small, EndIs}
use Rattle.search.specs.Walking.{most_load, LoadIs, KeyIs, FeedIs, FeedsIs, floor_of, begun, Begins, OpenedIs, JoinedIs, opens_right, joins_right, TestIs}
use Rattle.search.specs.declared.walking.Begun.{Begun}
use Rattle.search.proofs.Digits.{coded-length, open_code, join-code, open-coded, join-coded, code-more, opened-more, open-count, join-count, open-last, join_last, opens-le, order-among, last-append, last-order, last-busy, head-below}

-- a task's store and work, from the sheet's bytes
pub store-done : (sheet : List ℕ) (v : View) (t i r : ℕ) → t < v.tasks → i ≡ store_at v.front t → r ≡ number_at 2 sheet i → r ≤ most_load → LoadIs store_of sheet v t r
store-done sheet v t i r h e f l = record { few = l; is = λ s k. f ∙ ap (number_at 2 sheet) e ∙ k.fields.store t (omega (arith, k.tasks)) }

pub work-done : (sheet : List ℕ) (v : View) (t i r : ℕ) → t < v.tasks → i ≡ work_at v.front t → r ≡ number_at 2 sheet i → r ≤ most_load → LoadIs work_of sheet v t r
work-done sheet v t i r h e f l = record { few = l; is = λ s k. f ∙ ap (number_at 2 sheet) e ∙ k.fields.work t (omega (arith, k.tasks)) }

-- a loop over the links: none of the first l passes a test
module _ (p : Sheet → ℕ → Bool) (sheet : List ℕ) (v : View) where
  pub record NoneOf (l : ℕ) : Type 0 where
    pub few : l ≤ v.links
    pub is : (s : Sheet) → Known s sheet v → (j : ℕ) → j < l → p s j ≡ false

  pub none-first-of : NoneOf 0
  none-first-of = record { few = omega arith; is = λ s k j h. absurd (omega arith) }

  pub none_more : {l : ℕ} → l < v.links → NoneOf l → ((s : Sheet) → Known s sheet v → p s l ≡ false) → NoneOf (l + 1)
  none_more {l} h n e =
      record { few = omega arith; is = λ s k j m. ⊎_elim (λ q. n.is s k j q) (λ q. subst (λ (i : ℕ). p s i ≡ false) (sym q) (e s k)) (below_suc (omega (arith, m))) }

-- the first link to a task
module _ (sheet : List ℕ) (v : View) (t : ℕ) where
  abbrev pub Leads : ℕ → Type 0
  Leads l = NoneOf (λ s. leads_to s t) sheet v l

  pub not-to : {l : ℕ} (x : ℕ) → l < v.links → EndIs sheet v Target l x → x ≢ t → (s : Sheet) → Known s sheet v → leads_to s t l ≡ false
  not-to x h e d s k = ne_eqb _ t (λ q. d (e.is s k (omega (arith, k.links)) ∙ q))

  pub key-receive : (l x : ℕ) → v.links ≤ most_links → l < v.links → Leads l → EndIs sheet v Target l x → x ≡ t → KeyIs sheet v t (receives + l)
  unfolding head_key
  key-receive l x few h n e q =
      record {
        few = omega arith;
        is =
            λ s k.
            let m : l < link_count s = omega (arith, k.links) in
            ap (key_of t) (sym (first_found (link_count s) (leads_to s t) l (n.is s k) (eq-eqb (target_of s l) t (sym (e.is s k m) ∙ q)) m));
      }

  pub key-run : (l : ℕ) → t < receives → v.links ≤ l → Leads l → KeyIs sheet v t t
  unfolding head_key
  key-run l h m n = record { few = omega arith; is = λ s k. ap (key_of t) (sym (none_first (link_count s) (leads_to s t) (λ j i. n.is s k j (omega (arith, k.links))))) }

-- a link from a task back to the last ones
module _ (sheet : List ℕ) (v : View) (code own t : ℕ) where
  pub feed-not : (l x : ℕ) → l < v.links → EndIs sheet v Source l x → x ≢ t → FeedIs sheet v code own t l false
  feed-not l x h e d = record { is = λ s k. rw (ne_eqb (source_of s l) t (λ q. d (e.is s k (omega (arith, k.links)) ∙ q))) }

  pub feed-by : (l x y : ℕ) (r : Bool) → l < v.links → EndIs sheet v Source l x → x ≡ t → EndIs sheet v Target l y → r ≡ among y (tasks_of own code) → FeedIs sheet v code own t l r
  feed-by l x y r h e q f g =
      record {
        is =
            λ s k.
            let m : l < link_count s = omega (arith, k.links) in
            rw (eq-eqb (source_of s l) t (sym (e.is s k m) ∙ q)) (g ∙ ap (λ (i : ℕ). among i (tasks_of own code)) (f.is s k m));
      }

  abbrev pub Feeds : ℕ → Type 0
  Feeds l = NoneOf (λ s. feeds s t (tasks_of own code)) sheet v l

  pub feeds-one : (l : ℕ) {r : Bool} → l < v.links → FeedIs sheet v code own t l r → r ≡ true → FeedsIs sheet v code own t true
  feeds-one l h f e = record { is = λ s k. sym (any_found (link_count s) (feeds s t (tasks_of own code)) l (omega (arith, k.links)) (sym (f.is s k) ∙ e)) }

  pub feeds-none : (l : ℕ) → v.links ≤ l → Feeds l → FeedsIs sheet v code own t false
  feeds-none l h n = record { is = λ s k. go s k (any (link_count s) (feeds s t (tasks_of own code))) refl }
    where
      go : (s : Sheet) → Known s sheet v → (x : Bool) → any (link_count s) (feeds s t (tasks_of own code)) ≡ x → false ≡ x
      go s k false q = refl
      go s k true q = let m = any_some (link_count s) (feeds s t (tasks_of own code)) q in sym (n.is s k m.0 (omega (arith, m.1, k.links))) ∙ m.2

-- the floor behind an arrangement whose last programme is ts
floor-last : (s : Sheet) (a : List (List ℕ)) (ts : List ℕ) → floor_of s (a ++ ts ∷ []) ≡ head_key s (head_of ts) + 1
unfolding floor_of last_of
floor-last s [] ts = refl
floor-last s (us ∷ a) ts = ap (λ (x : List ℕ). head_key s (head_of x) + 1) (last-append (us ∷ a) ts)

head-append : (ts : List ℕ) (u : ℕ) → 0 < length ts → head_of (ts ++ u ∷ []) ≡ head_of ts
head-append [] u h = absurd (omega arith)
head-append (t ∷ ts) u h = refl

last-joins : (a : List (List ℕ)) (t : ℕ) → 0 < length a → last_of (joins a t) ≡ last_of a ++ t ∷ []
last-joins a t h =
    let z = split-last a h in
    ap (λ (c : List (List ℕ)). last_of (joins c t)) z.1 ∙ ap last_of (joins-last z.0 (last_of a) t) ∙ last-append z.0 (last_of a ++ t ∷ [])

-- t in a programme of its own
module _ {sheet : List ℕ} {v : View} {b : Begun} (g : Begins sheet v b) (room : b.tasks < most) {t : ℕ} (below : t < 8) where
  abbrev A : List (List ℕ)
  A = begun b

  pub opened-done : (key store work : ℕ) → KeyIs sheet v t key → LoadIs store_of sheet v t store → LoadIs work_of sheet v t work
      → OpenedIs sheet v b t (record { code = b.code * 16 + 8 + t; tasks = b.tasks + 1; programmes = b.programmes + 1; own = 1; floor = key + 1; store = store; work = work })
  unfolding opens total
  opened-done key store work k p q =
      let code : arranged (b.tasks + 1) (b.code * 16 + 8 + t) ≡ opens A t = open_code b.tasks b.code t below in
      record {
        begins =
            record {
              few = omega arith;
              coded = open-coded b.tasks b.code t below g.coded;
              small = opened-more b.tasks b.code t g.small below;
              programmes = omega (arith, g.programmes, open-count b.tasks b.code t below);
              own = sym (open-last b.tasks b.code t below);
              low = omega (arith, k.few);
              light = omega (arith, p.few);
              short = omega (arith, q.few);
              floor = λ s h. ap (λ (x : ℕ). x + 1) (k.is s h) ∙ sym (ap (floor_of s) code ∙ floor-last s A (t ∷ []));
              store = λ s h. p.is s h ∙ sym (ap (λ (x : List (List ℕ)). total (store_of s) (last_of x)) code ∙ ap (total (store_of s)) (last-append A (t ∷ [])) ∙ omega arith);
              work = λ s h. q.is s h ∙ sym (ap (λ (x : List (List ℕ)). total (work_of s) (last_of x)) code ∙ ap (total (work_of s)) (last-append A (t ∷ [])) ∙ omega arith);
            };
        more = refl;
        code = refl;
      }

  -- t at the end of the last programme
  module _ (busy : 0 < b.programmes) where
    has-programme : 0 < length A
    has-programme = omega (arith, coded-length b.tasks b.code g.coded, g.programmes)

    has-task : 0 < b.tasks
    has-task = omega (arith, g.programmes, opens-le b.tasks b.code)

    pub joined-done : (store work : ℕ) → LoadIs store_of sheet v t store → LoadIs work_of sheet v t work
        → JoinedIs sheet v b t (record { code = b.code * 16 + t; tasks = b.tasks + 1; programmes = b.programmes; own = b.own + 1; floor = b.floor; store = b.store + store; work = b.work + work })
    unfolding total
    joined-done store work p q =
        let code : arranged (b.tasks + 1) (b.code * 16 + t) ≡ joins A t = join-code b.tasks b.code t below in
        let z = split-last A has-programme in
        let last = last-joins A t has-programme in
        record {
          begins =
              record {
                few = omega arith;
                coded = join-coded b.tasks b.code t below (omega (arith, g.programmes)) g.coded;
                small = code-more b.tasks b.code t g.small (omega arith);
                programmes = omega (arith, g.programmes, join-count b.tasks b.code t below);
                own = omega (arith, g.own, join_last b.tasks b.code t below);
                low = g.low;
                light = omega (arith, p.few, g.light);
                short = omega (arith, q.few, g.short);
                floor =
                    λ s h. g.floor s h ∙ ap (floor_of s) z.1 ∙ floor-last s z.0 (last_of A) ∙
                    ap (λ (x : ℕ). head_key s x + 1) (sym (head-append (last_of A) t (last-busy b.tasks b.code has-task g.coded))) ∙
                    sym (ap (floor_of s) code ∙ ap (λ (c : List (List ℕ)). floor_of s (joins c t)) z.1 ∙ ap (floor_of s) (joins-last z.0 (last_of A) t) ∙ floor-last s z.0 (last_of A ++ t ∷ []));
                store =
                    λ s h. sym (ap (λ (x : List (List ℕ)). total (store_of s) (last_of x)) code ∙ ap (total (store_of s)) last ∙ total-append (store_of s) (last_of A) (t ∷ []) ∙ omega (arith, p.is s h, g.store s h));
                work =
                    λ s h. sym (ap (λ (x : List (List ℕ)). total (work_of s) (last_of x)) code ∙ ap (total (work_of s)) last ∙ total-append (work_of s) (last_of A) (t ∷ []) ∙ omega (arith, q.is s h, g.work s h));
              };
          more = refl;
          code = refl;
        }

ltb-one : (x y : ℕ) → ltb x y ≡ ltb (x + 1) (y + 1)
ltb-one x y = go (dec_lt x y)
  where
    go : Dec (x < y) → ltb x y ≡ ltb (x + 1) (y + 1)
    go (yes l) = lt-ltb x y l ∙ sym (lt-ltb (x + 1) (y + 1) (omega arith))
    go (no l) = le-ltb x y (omega arith) ∙ sym (le-ltb (x + 1) (y + 1) (omega arith))

both_true : (x : Bool) → both x true ≡ x
both_true true = refl
both_true false = refl

-- the tests
module _ {sheet : List ℕ} {v : View} {b : Begun} (g : Begins sheet v b) where
  long : length (begun b) ≡ b.programmes
  long = coded-length b.tasks b.code g.coded ∙ sym g.programmes

  -- a programme of its own
  module _ (small : Small v) {t : ℕ} {a : Begun} (o : OpenedIs sheet v b t a) (below : t < 8) where
    after : begun a ≡ opens (begun b) t
    after = ap₂ arranged o.more o.code ∙ open_code b.tasks b.code t below

    rises_by : (s : Sheet) → Known s sheet v → heads_rise s (begun b) t ≡ ltb b.floor a.floor
    unfolding opens floor_of
    rises_by s k = go (begun b) refl ∙ sym (ap₂ ltb (g.floor s k) (o.begins.floor s k ∙ ap (floor_of s) after ∙ floor-last s (begun b) (t ∷ [])))
      where
        go : (x : List (List ℕ)) → begun b ≡ x → heads_rise s x t ≡ ltb (floor_of s x) (head_key s t + 1)
        go [] e = sym (lt-ltb 0 (head_key s t + 1) (omega arith))
        go (ts ∷ x) e =
            let some : 0 < b.tasks = omega (arith, opens-le b.tasks b.code, g.programmes, long, ap length e) in
            let h : head_of (last_of (ts ∷ x)) < 8 = subst (λ (y : List (List ℕ)). head_of (last_of y) < 8) e (head-below b.tasks b.code some g.coded) in
            key-lower s (omega (arith, k.links, small.links)) (head_of (last_of (ts ∷ x))) t (omega arith) (omega arith) ∙ ltb-one (head_key s (head_of (last_of (ts ∷ x)))) (head_key s t)

    store_by_lem : (s : Sheet) → Known s sheet v → store_fits s (t ∷ []) ≡ leb a.store v.limit
    unfolding opens
    store_by_lem s k =
        ap₂ leb (sym (o.begins.store s k ∙ ap (λ (x : List (List ℕ)). total (store_of s) (last_of x)) after ∙ ap (total (store_of s)) (last-append (begun b) (t ∷ [])))) k.limited

    opens_by : (s : Sheet) → Known s sheet v → opens_right s (begun b) t ≡ both (ltb b.programmes v.processors) (both (ltb b.floor a.floor) (leb a.store v.limit))
    unfolding may_open
    opens_by s k = ap₂ both (ap₂ ltb long k.processors) (ap₂ both (rises_by s k) (store_by_lem s k))

    pub no-processor : v.processors ≤ b.programmes → TestIs opens_right sheet v b t false
    no-processor h = record { is = λ s k. sym (opens_by s k ∙ rw (le-ltb b.programmes v.processors h)) }

    pub no-rise : b.programmes < v.processors → a.floor ≤ b.floor → TestIs opens_right sheet v b t false
    no-rise h l = record { is = λ s k. sym (opens_by s k ∙ rw (lt-ltb b.programmes v.processors h, le-ltb b.floor a.floor l)) }

    pub fits-open : b.programmes < v.processors → b.floor < a.floor → TestIs opens_right sheet v b t (leb a.store v.limit)
    fits-open h l = record { is = λ s k. sym (opens_by s k ∙ rw (lt-ltb b.programmes v.processors h, lt-ltb b.floor a.floor l)) }

  -- the last programme
  module _ {t : ℕ} {a : Begun} (o : JoinedIs sheet v b t a) (below : t < 8) (busy : 0 < b.programmes) where
    joined : begun a ≡ joins (begun b) t
    joined = ap₂ arranged o.more o.code ∙ join-code b.tasks b.code t below

    has-task-of : 0 < b.tasks
    has-task-of = omega (arith, opens-le b.tasks b.code, g.programmes)

    order-by : (s : Sheet) {r : Bool} → Known s sheet v → FeedsIs sheet v b.code b.own t r → any (link_count s) (feeds s t (last_of (begun b))) ≡ r
    order-by s k f =
        let e : last_of (begun b) ≡ order_of b.own b.code = last-order b.tasks b.code has-task-of g.coded ∙ ap (λ (n : ℕ). order_of n b.code) (sym g.own) in
        any-cong (link_count s) (feeds s t (last_of (begun b))) (feeds s t (tasks_of b.own b.code))
        (λ l h. ap (both (eqb (source_of s l) t)) (ap (among (target_of s l)) e ∙ sym (order-among b.own b.code (target_of s l)))) ∙ sym (f.is s k)

    joint-by : (s : Sheet) → Known s sheet v → store_fits s (last_of (begun b) ++ t ∷ []) ≡ leb a.store v.limit
    joint-by s k =
        ap₂ leb
        (sym (o.begins.store s k ∙ ap (λ (x : List (List ℕ)). total (store_of s) (last_of x)) joined ∙ ap (total (store_of s)) (last-joins (begun b) t (omega (arith, long)))))
        k.limited

    joins-by : (s : Sheet) → Known s sheet v → joins_right s (begun b) t ≡ both (not (any (link_count s) (feeds s t (last_of (begun b))))) (leb a.store v.limit)
    unfolding may_join
    joins-by s k = ap₂ both (lt-ltb 0 (length (begun b)) (omega (arith, long))) (ap (both (not (any (link_count s) (feeds s t (last_of (begun b)))))) (joint-by s k))

    pub no_room : v.limit < a.store → TestIs joins_right sheet v b t false
    no_room h = record { is = λ s k. sym (joins-by s k ∙ rw (lt-leb a.store v.limit h) (both_false (not (any (link_count s) (feeds s t (last_of (begun b))))))) }

    pub fits-join : {r : Bool} → a.store ≤ v.limit → FeedsIs sheet v b.code b.own t r → TestIs joins_right sheet v b t (not r)
    fits-join {r} h f = record { is = λ s k. sym (joins-by s k ∙ rw (order-by s k f, le-leb a.store v.limit h) (both_true (not r))) }
