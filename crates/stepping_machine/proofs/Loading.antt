-- A command decoded, and a programme, command by command.
use Prim.Native.Nat.{ℕ, zero, suc, ◌+◌, ◌*◌, ◌/◌, ◌%◌, ◌-◌, ◌≤◌, ◌<◌, max}
use mathlib.Core.Path.{◌≡◌, refl, sym, ap, ap₂, ◌∙◌}
use mathlib.Core.Logic.{◌⊎◌, ⊎_elim}
use mathlib.Core.Bool.{Bool, true, false}
use mathlib.Core.List.{List, [], ◌∷◌}
use native.Mathlib.Omega.{arith}
use borrow.Author.Tests.{eq-eqb, ne_eqb}
use lib.ListN.{length, get_or, set, drop, length-set}
use lib.Seq.{get_or-set_same, get_or-set_other}
use lib.Dec.{eqb}
use Rattle.folds.specs.Folds.{pick, greatest}
use Rattle.folds.proofs.Tests.{below_suc}
use Rattle.numbers.specs.Number.{number_at}
use Rattle.sheet.specs.Sheet.{Sheet, task_count, link_count, work_of, store_of, cost_of, bytes_of}
use Rattle.sheet.specs.Sizes.{task_size, link_size}
use Rattle.bundle.specs.Bundle.{Command, run, send, receive, release, discard}
use Rattle.bundle.specs.Fits.{Known as Declared}
use Rattle.bundle.specs.Lies.{size_of, Stands, Lies}
use Rattle.bundle.proofs.Lying.{Next, lies-next, lies-none}
use Rattle.admission.specs.Counting.{need, gives, in_use, highest}
use Rattle.admission.specs.Fields.{work_at, store_at, cost_at, Known}
use Rattle.admission.specs.declared.view.View.{View}
use Rattle.admission.proofs.Stores.{use-next}
use Rattle.admission.proofs.Walking.{drop-next, drop-short}
use Rattle.admission.proofs.Noted.{stands-known}
use Rattle.stepping_machine.specs.declared.decoding.Coded.{Coded}
use Rattle.stepping_machine.specs.Layout as lay
use Rattle.stepping_machine.specs.Words.{plain_amount, word_by}
use Rattle.stepping_machine.specs.Represents.{Decoded}
use Rattle.stepping_machine.specs.Loads.{Decodable, CodeIs, ProgrammeIs}
use Rattle.stepping_machine.proofs.Packing.{plain-small, word_fits}

-- a number at an offset that is told
pub number-there : (b : List ℕ) (i j x : ℕ) → x ≡ number_at 2 b i → i ≡ j → x ≡ number_at 2 b j
number-there b i j x e f = e ∙ ap (number_at 2 b) f

-- what decoding asks: where it reads is inside
module _ (sheet bundle : List ℕ) (v : View) (o e : ℕ) (g : Decodable sheet bundle v o e) (below : o < e) where
  there : Next v.tasks v.links bundle o e g.commands
  there = lies-next v.tasks v.links bundle g.lies below

  pub byte_inside : o + 2 ≤ length bundle
  byte_inside = by there.command there.stands
    where
      by : (d : Command) → Stands v.tasks v.links bundle o d → o + 2 ≤ length bundle
      by (run y) h = h.3
      by (send y) h = omega (arith, h.3)
      by (receive y) h = omega (arith, h.3)
      by (release y) h = h.3
      by (discard y) h = omega (arith, h.3)

  module _ (c : ℕ) (ec : c ≡ get_or bundle o 0) where
    pub task-inside : (t : ℕ) → (c ≡ 0x52) ⊎ (c ≡ 0x46) → t ≡ get_or bundle (o + 1) 0 → v.front + task_size * t + task_size ≤ length sheet
    task-inside t z et = by there.command there.stands
      where
        without_task : (0x47 ≤ c) → (c ≡ 0x52 → ⊥) → ⊥
        without_task l d = ⊎_elim d (λ (q : c ≡ 0x46). omega arith) z

        by : (d : Command) → Stands v.tasks v.links bundle o d → v.front + task_size * t + task_size ≤ length sheet
        by (run y) h = omega (arith, h.1, h.2, v.behind, g.inside)
        by (send y) h = absurd (without_task (omega (arith, h.0)) (λ q. omega (arith, h.0)))
        by (receive y) h = absurd (without_task (omega (arith, h.0)) (λ q. omega (arith, h.0)))
        by (release y) h = omega (arith, h.1, h.2, v.behind, g.inside)
        by (discard y) h = absurd (without_task (omega (arith, h.0)) (λ q. omega (arith, h.0)))

    module _ (d : c ≡ 0x52 → ⊥) (f : c ≡ 0x46 → ⊥) where
      pub pair_inside : o + 3 ≤ length bundle
      pair_inside = by there.command there.stands
        where
          by : (x : Command) → Stands v.tasks v.links bundle o x → o + 3 ≤ length bundle
          by (run y) h = absurd (d (ec ∙ h.0))
          by (send y) h = h.3
          by (receive y) h = h.3
          by (release y) h = absurd (f (ec ∙ h.0))
          by (discard y) h = h.3

      pub link-inside : (l : ℕ) → l ≡ number_at 2 bundle (o + 1) → (v.middle + link_size * l + link_size ≤ length sheet) × ((c + 172) / 256 ≤ 1)
      link-inside l et = by there.command there.stands
        where
          by : (x : Command) → Stands v.tasks v.links bundle o x → (v.middle + link_size * l + link_size ≤ length sheet) × ((c + 172) / 256 ≤ 1)
          by (run y) h = absurd (d (ec ∙ h.0))
          by (send y) h = (omega (arith, h.1, h.2, g.inside), omega (arith, h.0))
          by (receive y) h = (omega (arith, h.1, h.2, g.inside), omega (arith, h.0))
          by (release y) h = absurd (f (ec ∙ h.0))
          by (discard y) h = (omega (arith, h.1, h.2, g.inside), omega (arith, h.0))

  -- behind that command
  pub decodable-more : (r : ℕ) → ((t l : ℕ) (c : Command) → Stands t l bundle o c → r ≡ size_of c) → Decodable sheet bundle v (o + r) e
  decodable-more r h =
      let n = there in
      record {
        inside = g.inside;
        commands = n.rest;
        lies = rw (h v.tasks v.links n.command n.stands) n.behind;
      }

-- each way through `decode`
module _ (sheet bundle : List ℕ) (v : View) (o : ℕ) where
  abbrev Codes : Coded → Type 0
  Codes x = (s : Sheet) (d : Command) → Known s sheet v → Stands (task_count s) (link_count s) bundle o d → (x.word ≡ word_by (plain_amount s) d) × (x.need ≡ need s d) × (x.gives ≡ gives s d)

  pub coded-run : (c t a n : ℕ) (x : Coded) → c ≡ get_or bundle o 0 → c ≡ 0x52 → t ≡ get_or bundle (o + 1) 0 → a ≡ number_at 2 sheet (work_at v.front t)
      → n ≡ number_at 2 sheet (store_at v.front t) → n < 65536 → x.word ≡ lay.kinds + lay.numbers * (lay.tasks + t) + a → x.size ≡ 2 → x.need ≡ n → x.gives ≡ 0 → CodeIs sheet bundle v o x
  unfolding word_by
  coded-run c t a n x ec z et ea en fn ex es eq eg = record { some = omega arith; few = omega arith; small = omega arith; sized = long; is = by }
    where
      long : (t l : ℕ) (d : Command) → Stands t l bundle o d → x.size ≡ size_of d
      long t l (run y) h = es
      long t l (send y) h = absurd (omega (arith, h.0))
      long t l (receive y) h = absurd (omega (arith, h.0))
      long t l (release y) h = absurd (omega (arith, h.0))
      long t l (discard y) h = absurd (omega (arith, h.0))

      by : Codes x
      by s (run y) known h =
          let q : t ≡ y = et ∙ h.1 in
          let e : a ≡ work_of s y = ea ∙ ap (λ (i : ℕ). number_at 2 sheet (work_at v.front i)) q ∙ known.fields.work y h.2 in
          let f : n ≡ store_of s y = en ∙ ap (λ (i : ℕ). number_at 2 sheet (store_at v.front i)) q ∙ known.fields.store y h.2 in
          (omega arith, eq ∙ f, eg)
      by s (send y) known h = absurd (omega (arith, h.0))
      by s (receive y) known h = absurd (omega (arith, h.0))
      by s (release y) known h = absurd (omega (arith, h.0))
      by s (discard y) known h = absurd (omega (arith, h.0))

  pub coded-release : (c t n : ℕ) (x : Coded) → c ≡ get_or bundle o 0 → c ≡ 0x46 → t ≡ get_or bundle (o + 1) 0 → n ≡ number_at 2 sheet (store_at v.front t)
      → x.word ≡ 4 * lay.kinds + lay.numbers * (lay.tasks + t) + n → x.size ≡ 2 → x.need ≡ 0 → x.gives ≡ n → CodeIs sheet bundle v o x
  unfolding word_by
  coded-release c t n x ec z et en ex es eq eg = record { some = omega arith; few = omega arith; small = omega arith; sized = long; is = by }
    where
      long : (t l : ℕ) (d : Command) → Stands t l bundle o d → x.size ≡ size_of d
      long t l (run y) h = absurd (omega (arith, h.0))
      long t l (send y) h = absurd (omega (arith, h.0))
      long t l (receive y) h = absurd (omega (arith, h.0))
      long t l (release y) h = es
      long t l (discard y) h = absurd (omega (arith, h.0))

      by : Codes x
      by s (run y) known h = absurd (omega (arith, h.0))
      by s (send y) known h = absurd (omega (arith, h.0))
      by s (receive y) known h = absurd (omega (arith, h.0))
      by s (release y) known h =
          let q : t ≡ y = et ∙ h.1 in
          let f : n ≡ store_of s y = en ∙ ap (λ (i : ℕ). number_at 2 sheet (store_at v.front i)) q ∙ known.fields.store y h.2 in
          (omega arith, eq, eg ∙ f)
      by s (discard y) known h = absurd (omega (arith, h.0))

  pub coded-discard : (c l n : ℕ) (x : Coded) → c ≡ get_or bundle o 0 → c < 0x50 → (c ≡ 0x46 → ⊥) → l ≡ number_at 2 bundle (o + 1) → n ≡ number_at 2 sheet (cost_at v.middle l + 2)
      → x.word ≡ 4 * lay.kinds + lay.numbers * l + n → x.size ≡ 3 → x.need ≡ 0 → x.gives ≡ n → CodeIs sheet bundle v o x
  unfolding word_by
  coded-discard c l n x ec low z et en ex es eq eg = record { some = omega arith; few = omega arith; small = omega arith; sized = long; is = by }
    where
      long : (t l : ℕ) (d : Command) → Stands t l bundle o d → x.size ≡ size_of d
      long t l (run y) h = absurd (omega (arith, h.0))
      long t l (send y) h = absurd (omega (arith, h.0))
      long t l (receive y) h = absurd (omega (arith, h.0))
      long t l (release y) h = absurd (z (ec ∙ h.0))
      long t l (discard y) h = es

      by : Codes x
      by s (run y) known h = absurd (omega (arith, h.0))
      by s (send y) known h = absurd (omega (arith, h.0))
      by s (receive y) known h = absurd (omega (arith, h.0))
      by s (release y) known h = absurd (z (ec ∙ h.0))
      by s (discard y) known h =
          let q : l ≡ y = et ∙ h.1 in
          let j : cost_at v.middle l + 2 ≡ v.middle + 5 + link_size * y = omega arith in
          let f : n ≡ bytes_of s y = en ∙ ap (number_at 2 sheet) j ∙ known.fields.bytes y h.2 in
          (omega arith, eq, eg ∙ f)

  pub coded-message : (c l r a n : ℕ) (x : Coded) → c ≡ get_or bundle o 0 → (c ≡ 0x52 → ⊥) → 0x50 ≤ c → l ≡ number_at 2 bundle (o + 1) → r ≡ (c + 172) / 256
      → a ≡ number_at 2 sheet (cost_at v.middle l + 2 * r) → a < 65536 → n ≡ pick (eqb r 1) a 0 → x.word ≡ 2 * lay.kinds + lay.kinds * r + lay.numbers * l + a → x.size ≡ 3 → x.need ≡ n
      → x.gives ≡ 0 → CodeIs sheet bundle v o x
  unfolding word_by
  coded-message c l r a n x ec z high et er ea fa en ex es eq eg = record { some = omega arith; few = omega arith; small = omega (arith, eq, few-need (eqb r 1)); sized = long; is = by }
    where
      few-pick : (b' : Bool) → pick b' a 0 ≤ a
      few-pick true = omega arith
      few-pick false = omega arith

      few-need : (b' : Bool) → n ≤ a
      few-need b' = omega (arith, en, few-pick (eqb r 1))

      long : (t l : ℕ) (d : Command) → Stands t l bundle o d → x.size ≡ size_of d
      long t l (run y) h = absurd (z (ec ∙ h.0))
      long t l (send y) h = es
      long t l (receive y) h = es
      long t l (release y) h = absurd (omega (arith, h.0))
      long t l (discard y) h = absurd (omega (arith, h.0))

      by : Codes x
      by s (run y) known h = absurd (z (ec ∙ h.0))
      by s (send y) known h =
          let q : l ≡ y = et ∙ h.1 in
          let n : r ≡ 0 = omega (arith, h.0) in
          let j : cost_at v.middle l + 2 * r ≡ cost_at v.middle y = omega arith in
          let e : a ≡ cost_of s y = ea ∙ ap (number_at 2 sheet) j ∙ known.fields.cost y h.2 in
          (omega arith, eq ∙ en ∙ rw (ne_eqb r 1 (λ u. omega arith)) refl, eg)
      by s (receive y) known h =
          let q : l ≡ y = et ∙ h.1 in
          let n : r ≡ 1 = omega (arith, h.0) in
          let j : cost_at v.middle l + 2 * r ≡ v.middle + 5 + link_size * y = omega arith in
          let e : a ≡ bytes_of s y = ea ∙ ap (number_at 2 sheet) j ∙ known.fields.bytes y h.2 in
          (omega arith, eq ∙ en ∙ rw (eq-eqb r 1 n) e, eg)
      by s (release y) known h = absurd (omega (arith, h.0))
      by s (discard y) known h = absurd (omega (arith, h.0))

-- the command at place i, where more are left from there on
drop_head : (p : List Command) (i : ℕ) (c : Command) (r : List Command) → drop i p ≡ c ∷ r → (i < length p) × (get_or p i (run 0) ≡ c) × (drop (suc i) p ≡ r)
drop_head [] zero c r e = let z : ◌≡◌ {A = ℕ} 0 1 = cc in absurd (omega arith)
drop_head [] (suc i) c r e = let z : ◌≡◌ {A = ℕ} 0 1 = cc in absurd (omega arith)
drop_head (x ∷ p) zero c r e = (omega arith, cc, cc)
drop_head (x ∷ p) (suc i) c r e = let h = drop_head p i c r e in (omega (arith, h.0), h.1, h.2)

-- the first commands of cs stand in the words w from the index a to the index to; those from the offset `from` on are still to load
pub record Part (s : Sheet) (bundle w : List ℕ) (e a from to store top : ℕ) (cs : List Command) : Type 0 where
  pub count : ℕ
  pub lies : Lies (task_count s) (link_count s) bundle from e (drop count cs)
  pub behind : to ≡ a + count
  pub few : count ≤ length cs
  pub known : (i : ℕ) → i < count → Declared s (get_or cs i (run 0))
  pub word : (i : ℕ) → i < count → get_or w (a + i) 0 ≡ word_by (plain_amount s) (get_or cs i (run 0))
  pub used : store ≡ in_use s cs count
  pub topped : top ≡ greatest (suc count) (in_use s cs)

pub record Loading (sheet bundle u w : List ℕ) (v : View) (o e a from to store top : ℕ) : Type 0 where
  pub decodable : Decodable sheet bundle v from e
  pub long : length w ≡ length u
  pub ahead : a ≤ to
  pub slow : to + o ≤ a + from
  pub near : from ≤ max o (e + 2)
  pub small : store + 65536 * a ≤ 65536 * to
  pub low : (i : ℕ) → i < a → get_or w i 0 ≡ get_or u i 0
  pub is : (s : Sheet) (cs : List Command) → Known s sheet v → Lies (task_count s) (link_count s) bundle o e cs → a + length cs < length u → Part s bundle w e a from to store top cs

-- the highest store in use, command by command
top-more : (s : Sheet) (cs : List Command) (n : ℕ) → max (greatest (suc n) (in_use s cs)) (in_use s cs (suc n)) ≡ greatest (suc (suc n)) (in_use s cs)
unfolding greatest
top-more s cs n = refl

highest-all : (s : Sheet) (cs : List Command) (n : ℕ) → n ≡ length cs → greatest (suc n) (in_use s cs) ≡ highest s cs
unfolding highest
highest-all s cs n e = ap (λ (i : ℕ). greatest (suc i) (in_use s cs)) e

module _ (sheet bundle u : List ℕ) (v : View) (o e a : ℕ) where
  pub loading-starts : Decodable sheet bundle v o e → Loading sheet bundle u u v o e a o a 0 0
  unfolding greatest in_use
  loading-starts g =
      record {
        decodable = g;
        long = refl;
        ahead = omega arith;
        slow = omega arith;
        near = omega arith;
        small = omega arith;
        low = λ i h. refl;
        is =
            λ s cs known lies room.
            record {
              count = 0;
              lies = lies;
              behind = omega arith;
              few = omega arith;
              known = λ i h. absurd (omega arith);
              word = λ i h. absurd (omega arith);
              used = refl;
              topped = refl;
            };
      }

  module _ (w x : List ℕ) (from to store top store' top' : ℕ) (d : Coded) (g : Loading sheet bundle u w v o e a from to store top) (below : from < e) (h : CodeIs sheet bundle v from d) (ex : x ≡ set w to (d.word % 4294967296))
      (eu : store' ≡ store + d.need - d.gives) (et : top' ≡ max top store') where
    same : (i : ℕ) → (i ≡ to → ⊥) → get_or x i 0 ≡ get_or w i 0
    same i n = ap (λ (l : List ℕ). get_or l i 0) ex ∙ get_or-set_other w to i (d.word % 4294967296) 0 n

    part-more : (s : Sheet) (cs : List Command) → Known s sheet v → a + length cs < length u → Part s bundle w e a from to store top cs → Part s bundle x e a (from + d.size) (to + 1) store' top' cs
    part-more s cs known room p =
        let n = lies-next (task_count s) (link_count s) bundle p.lies below in
        let c = n.command in
        let q = drop_head cs p.count c n.rest n.here in
        let q2 = drop-next cs p.count c n.rest n.here in
        let y = h.is s c known n.stands in
        let z = h.sized (task_count s) (link_count s) c n.stands in
        let declared : Declared s c = stands-known s bundle from c n.stands in
        let inside : p.count < length cs = q.0 in
        let lw : to < length w = omega (arith, g.long, p.behind) in
        let fits : d.word % 4294967296 ≡ word_by (plain_amount s) c = omega (arith, word_fits s known.ranged (plain_amount s) (plain-small s known.ranged) c declared d.word y.0, y.0) in
        let here : get_or x to 0 ≡ word_by (plain_amount s) c = ap (λ (l : List ℕ). get_or l to 0) ex ∙ get_or-set_same w to (d.word % 4294967296) 0 lw ∙ fits in
        let behind : to ≡ a + p.count = p.behind in
        let now-used : store' ≡ in_use s cs (suc p.count) = omega (arith, y.1, y.2, p.used, use-next s cs p.count c q2.0) in
        record {
          count = suc p.count;
          lies = rw (q.2, z) n.behind;
          behind = omega arith;
          few = omega arith;
          known = λ i l. ⊎_elim (λ (j : i < p.count). p.known i j) (λ (j : i ≡ p.count). rw (j, q.1) declared) (below_suc l);
          word =
              λ i l.
              ⊎_elim (λ (j : i < p.count). same (a + i) (λ z. omega arith) ∙ p.word i j)
              (λ (j : i ≡ p.count). rw (j, q.1) (ap (λ (m : ℕ). get_or x m 0) (sym behind) ∙ here)) (below_suc l);
          used = now-used;
          topped = et ∙ ap₂ max p.topped now-used ∙ top-more s cs p.count;
        }

    pub loading-more : Loading sheet bundle u x v o e a (from + d.size) (to + 1) store' top'
    loading-more =
        record {
          decodable = decodable-more sheet bundle v from e g.decodable below d.size h.sized;
          long = ap length ex ∙ length-set w to _ ∙ g.long;
          ahead = omega (arith, g.ahead);
          slow = omega (arith, g.slow, h.some);
          near = omega (arith, h.few);
          small = omega (arith, g.small, h.small);
          low = λ i l. same i (λ z. omega (arith, g.ahead)) ∙ g.low i l;
          is = λ s cs known lies room. part-more s cs known room (g.is s cs known lies room);
        }

  module _ (w last : List ℕ) (from to store top : ℕ) (g : Loading sheet bundle u w v o e a from to store top) (over : e ≤ from) (el : last ≡ set w to (0 % 4294967296)) where
    kept : (i : ℕ) → (i ≡ to → ⊥) → get_or last i 0 ≡ get_or w i 0
    kept i d = ap (λ (l : List ℕ). get_or l i 0) el ∙ get_or-set_other w to i 0 0 d

    ended : (s : Sheet) (cs : List Command) → a + length cs < length u → Part s bundle w e a from to store top cs → (to ≡ a + length cs) × Decoded s (plain_amount s) last a cs × (top ≡ highest s cs)
    ended s cs room p =
        let short = drop-short cs p.count (lies-none (task_count s) (link_count s) bundle p.lies over) in
        let all : p.count ≡ length cs = omega (arith, p.few, short) in
        let behind : to ≡ a + length cs = omega (arith, p.behind) in
        let inside : to < length w = omega (arith, g.long) in (
          behind,
          record {
            known = λ i l. p.known i (omega arith);
            word = λ i l. kept (a + i) (λ z. omega arith) ∙ p.word i (omega arith);
            end = ap (λ (i : ℕ). get_or last i 0) (sym behind) ∙ ap (λ (l : List ℕ). get_or l to 0) el ∙ get_or-set_same w to 0 0 inside;
          },
          p.topped ∙ highest-all s cs p.count all,
        )

    pub loading-ends : ProgrammeIs sheet bundle u last v o e a to top
    loading-ends =
        record {
          long = ap length el ∙ length-set w to 0 ∙ g.long;
          ahead = g.ahead;
          far = omega (arith, g.slow, g.near);
          low = λ i l. kept i (λ z. omega (arith, g.ahead)) ∙ g.low i l;
          is = λ s cs known lies room. ended s cs room (g.is s cs known lies room);
        }
