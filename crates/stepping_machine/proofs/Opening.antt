-- Programmes opened one behind the other, and the fresh state beside them.
use Prim.Native.Nat.{ℕ, suc, ◌+◌, ◌*◌, ◌-◌, ◌/◌, ◌%◌, ◌≤◌, ◌<◌}
use mathlib.Core.Path.{◌≡◌, refl, sym, ap, ◌∙◌, subst}
use mathlib.Core.Bool.{false}
use mathlib.Core.Logic.{◌⊎◌, inl, inr, ⊎_elim}
use mathlib.Core.List.{List, []}
use native.Mathlib.Omega.{arith}
use native.Mathlib.Numerals.{add-one}
use native.Mathlib.Decide.{dec_lt}
use borrow.Author.Tests.{lt-ltb, le-ltb}
use lib.ListN.{length, get_or, set, length-set, get_or-eq_default}
use lib.Seq.{get_or-set_same, get_or-set_other}
use Rattle.folds.specs.Folds.{sum}
use Rattle.folds.proofs.Tests.{below_suc}
use Rattle.folds.proofs.Laws.{sum-rises, none_first, first_found}
use Rattle.workspace.specs.Area.{ClearIs}
use Rattle.workspace.specs.Found.{Found}
use Rattle.std.specs.Prelude.{Some, None}
use Rattle.numbers.specs.Number.{number_at}
use Rattle.sheet.specs.Sheet.{Sheet, task_count, link_count}
use Rattle.bundle.specs.Bundle.{Command, Bundle, programme_count, programme_of}
use Rattle.bundle.specs.Lies.{Lies}
use Rattle.admission.specs.Counting.{whole_of, whole, each, highest}
use Rattle.admission.specs.Messages.{over_store, at28}
use Rattle.admission.specs.Fields.{store_at}
use Rattle.admission.specs.Notes.{slots_at}
use Rattle.admission.specs.declared.view.View.{View}
use Rattle.admission.proofs.Weights.{weigh-each}
use Rattle.admission.proofs.Walking.{laid_by}
use Rattle.machine.specs.Machine.{fresh_state}
use Rattle.stepping_machine.specs.Layout as lay
use Rattle.stepping_machine.specs.Words.{next_in, first_in, last_in, amount_of, opened_words}
use Rattle.stepping_machine.specs.Represents.{Decoded, Programmed, Represents, Within}
use Rattle.stepping_machine.specs.Loads.{Decodable, Ready, ProgrammeIs, Opens, Homes, WaysIs, OneIs, LaidOut, AllIs, HomesIs, RestIs, WipeIs, NeedsIs, LoadIs}
use Rattle.stepping_machine.proofs.Moves.{decoded-same}
use Rattle.stepping_machine.proofs.Fresh.{fresh-represented}

-- a processor stands so in words that are the same where it stands and where its programme does
pub opens-same : (s : Sheet) (amount : Command → ℕ) (w u : List ℕ) (c d k : ℕ) (cs : List Command) → next_in u k ≡ next_in w k → first_in u k ≡ first_in w k → last_in u k ≡ last_in w k
    → ((i : ℕ) → lay.commands ≤ i → i < c → get_or u i 0 ≡ get_or w i 0) → c ≤ d → Opens s amount w c k cs → Opens s amount u d k cs
opens-same s amount w u c d k cs en ef el same more h =
    record {
      next = en ∙ h.next ∙ sym ef;
      low = omega (arith, h.low);
      high = omega (arith, h.high);
      last = el ∙ h.last ∙ ap (λ (i : ℕ). i + length cs) (sym ef);
      decoded = rw ef (decoded-same s amount w u (first_in w k) cs (λ i l m. same i (omega (arith, h.low)) (omega (arith, h.high))) h.decoded);
    }

-- the words of a processor that was opened, and the others
module _ (w u : List ℕ) (k first last : ℕ) (e : u ≡ opened_words w k first last) (near : k < 16) where
  pub opened-long : length u ≡ length w
  unfolding opened_words
  opened-long = ap length e ∙ simp length-set

  pub opened-else : (i : ℕ) → (i ≡ k → ⊥) → (i ≡ lay.firsts + k → ⊥) → (i ≡ lay.lasts + k → ⊥) → get_or u i 0 ≡ get_or w i 0
  unfolding opened_words
  opened-else i a b d = ap (λ (l : List ℕ). get_or l i 0) e ∙ simp get_or-set_other

  module _ (long : lay.extent ≤ length w) where
    pub opened-next : next_in u k ≡ first
    unfolding opened_words
    opened-next =
        let a : k ≡ lay.firsts + k → ⊥ = λ q. omega arith in
        let b : k ≡ lay.lasts + k → ⊥ = λ q. omega arith in
        let l : k < length w = omega arith in
        ap (λ (x : List ℕ). get_or x k 0) e ∙ simp (get_or-set_other, get_or-set_same)

    pub opened-first : first_in u k ≡ first
    unfolding opened_words
    opened-first =
        let b : lay.firsts + k ≡ lay.lasts + k → ⊥ = λ q. omega arith in
        let l : lay.firsts + k < length (set w k first) = simp length-set (omega arith) in
        ap (λ (x : List ℕ). get_or x (lay.firsts + k) 0) e ∙ simp (get_or-set_other, get_or-set_same)

    pub opened-last : last_in u k ≡ last
    unfolding opened_words
    opened-last =
        let l : lay.lasts + k < length (set (set w k first) (lay.firsts + k) first) = simp length-set (omega arith) in
        ap (λ (x : List ℕ). get_or x (lay.lasts + k) 0) e ∙ simp get_or-set_same

-- where the offsets are read
pub decodable-at : (sheet bundle w : List ℕ) (v : View) (k x e : ℕ) → x ≡ get_or w k 0 → e ≡ get_or w (k + 1) 0 → Decodable sheet bundle v (get_or w k 0 + 2) (get_or w (suc k) 0) → Decodable sheet bundle v (x + 2) e
decodable-at sheet bundle w v k x e ex ee g = rw (ex, ee, add-one) g

-- words below the programmes that stay are the same homes
homes_same : {s : Sheet} {b : Bundle} {w u : List ℕ} → ((i : ℕ) → lay.needs ≤ i → i < lay.commands → get_or u i 0 ≡ get_or w i 0) → task_count s ≤ 256 → Homes s b w → Homes s b u
homes_same same few h = record { at = λ c t l. same (lay.needs + t) (omega arith) (omega arith) ∙ h.at c t l }

-- one programme, from the index c on
pub one-loaded : (sheet bundle w y u last : List ℕ) (v : View) (k c x e r n : ℕ) → k < 16 → lay.extent ≤ length w → lay.commands ≤ c → x ≡ get_or w k 0 → e ≡ get_or w (k + 1) 0 → e < 4294967296
    → ProgrammeIs sheet bundle w y v (x + 2) e c r n → WaysIs sheet y u v k c r → last ≡ opened_words u k (c % 4294967296) (r % 4294967296) → OneIs sheet bundle w last v k c (r + 1) n
one-loaded sheet bundle w y u last v k c x e r n near long behind ex ee fe p z el =
    record {
      long = opened-long u last k _ _ el near ∙ z.long ∙ p.long;
      ahead = omega (arith, p.ahead);
      few = omega (arith, p.far);
      low = λ i l a b d. opened-else u last k _ _ el near i a b d ∙ z.other i (inl l) ∙ p.low i l;
      is =
          λ s b cs known few homes lies room.
          let ek : e ≡ get_or w (suc k) 0 = ee ∙ ap (λ (i : ℕ). get_or w i 0) (add-one k) in
          let there : Lies (task_count s) (link_count s) bundle (x + 2) e cs = rw (ex, ek) lies in
          let y' = p.is s cs known there (omega arith) in
          let fits : lay.extent ≤ length u = omega (arith, z.long, p.long) in
          let way = z.is s b cs known few (homes_same (λ i a d. p.low i (omega arith)) known.ranged.few_tasks homes) y'.0 (omega (arith, p.long, y'.0)) y'.1 in
          let fc : c % 4294967296 ≡ c = omega arith in
          let fr : r % 4294967296 ≡ c + length cs = omega (arith, y'.0) in
          let f : first_in last k ≡ c = opened-first u last k _ _ el near fits ∙ fc in (
            omega (arith, y'.0),
            record {
              next = opened-next u last k _ _ el near fits ∙ fc ∙ sym f;
              low = omega arith;
              high = omega (arith, y'.0);
              last = opened-last u last k _ _ el near fits ∙ fr ∙ ap (λ (i : ℕ). i + length cs) (sym f);
              decoded = rw f (decoded-same s (amount_of s b k) u last c cs (λ i l m. opened-else u last k _ _ el near i (λ q. omega arith) (λ q. omega arith) (λ q. omega arith)) way);
            },
            y'.2,
          );
    }

-- the first k programmes are opened up to the index c, in the words w that were u, and none of them needs too much
pub record Going (sheet bundle u w : List ℕ) (v : View) (m c k : ℕ) : Type 0 where
  pub long : length w ≡ length u
  pub behind : lay.commands ≤ c
  pub few : c ≤ lay.commands + k * 4294967300
  pub rest : (i : ℕ) → k ≤ i → i < 17 → get_or w i 0 ≡ get_or u i 0
  pub homes : (i : ℕ) → lay.needs ≤ i → i < lay.commands → get_or w i 0 ≡ get_or u i 0
  pub is : (s : Sheet) (b : Bundle) → LaidOut sheet bundle u v m s b → Homes s b u
      → (c ≡ lay.commands + sum k (whole_of b each) + k) × ((j : ℕ) → j < k → Opens s (amount_of s b j) w c j (programme_of b j)) × ((j : ℕ) → j < k → over_store s b j ≡ false)

module _ (sheet bundle u : List ℕ) (v : View) (m : ℕ) (few : m ≤ 16) where
  pub going-starts : Going sheet bundle u u v m lay.commands 0
  unfolding sum
  going-starts =
      record {
        long = refl;
        behind = omega arith;
        few = omega arith;
        rest = λ i a b. refl;
        homes = λ i a b. refl;
        is = λ s b given homes. (omega arith, λ j h. absurd (omega arith), λ j h. absurd (omega arith));
      }

  -- what the next programme asks
  pub going-decodable : (w : List ℕ) (c k : ℕ) → Ready sheet bundle u v m → Going sheet bundle u w v m c k → k < m → Decodable sheet bundle v (get_or w k 0 + 2) (get_or w (suc k) 0)
  going-decodable w c k y g below =
      record {
        inside = y.inside;
        commands = get_or y.programmes k [];
        lies = rw (g.rest k (omega arith) (omega arith), g.rest (suc k) (omega arith) (omega arith)) (y.laid.lies k (omega (arith, y.count)));
      }

  -- the room for programme k
  room_for : (b : Bundle) (k : ℕ) → k < programme_count b → whole b each ≤ 3584 → sum k (whole_of b each) + length (programme_of b k) ≤ 3584
  unfolding sum whole whole_of
  room_for b k h short = omega (arith, sum-rises (suc k) (programme_count b) (whole_of b each) h, weigh-each (programme_of b k))

  sum-all : (b : Bundle) (k : ℕ) → k ≡ programme_count b → sum k (whole_of b each) ≡ whole b each
  unfolding whole
  sum-all b k e = ap (λ (i : ℕ). sum i (whole_of b each)) e

  sum_more : (b : Bundle) (k : ℕ) → sum (k + 1) (whole_of b each) ≡ sum k (whole_of b each) + length (programme_of b k)
  unfolding sum whole_of
  sum_more b k = rw add-one (omega (arith, weigh-each (programme_of b k)))

  module _ (w x : List ℕ) (c k r n : ℕ) (g : Going sheet bundle u w v m c k) (below : k < m) (h : OneIs sheet bundle w x v k c r n) where
    module _ (s : Sheet) (b : Bundle) (given : LaidOut sheet bundle u v m s b) (homes : Homes s b u) where
      done : (r ≡ c + length (programme_of b k) + 1) × Opens s (amount_of s b k) x r k (programme_of b k) × (n ≡ highest s (programme_of b k))
      unfolding programme_count programme_of
      done =
          let inside : k < length b.programmes = omega (arith, given.programmes) in
          let lies = given.laid.lies k inside in
          let p = g.is s b given homes in
          h.is s b (programme_of b k) given.known given.few (homes_same g.homes given.known.ranged.few_tasks homes) (rw (g.rest k (omega arith) (omega arith), g.rest (suc k) (omega arith) (omega arith)) lies)
          (omega (arith, p.0, room_for b k inside given.short))

      opened : (j : ℕ) → j < k + 1 → Opens s (amount_of s b j) x r j (programme_of b j)
      opened j l =
          let d = done in
          let p = g.is s b given homes in
          let q = g.behind in
          ⊎_elim
          (λ (i : j < k).
          opens-same s (amount_of s b j) w x c r j (programme_of b j) (h.low j (omega arith) (λ z. omega arith) (λ z. omega arith) (λ z. omega arith))
          (h.low (lay.firsts + j) (omega arith) (λ z. omega arith) (λ z. omega arith) (λ z. omega arith))
          (h.low (lay.lasts + j) (omega arith) (λ z. omega arith) (λ z. omega arith) (λ z. omega arith))
          (λ i a b. h.low i b (λ z. omega arith) (λ z. omega arith) (λ z. omega arith)) (omega (arith, d.0)) (p.1 j i))
          (λ (i : j ≡ k). rw i d.1) (below_suc (rw add-one at l))

      needs : n ≡ highest s (programme_of b k)
      unfolding whole_of
      needs = done.2

    pub going_more : n ≤ v.limit → Going sheet bundle u x v m r (k + 1)
    unfolding over_store
    going_more fits =
        record {
          long = h.long ∙ g.long;
          behind = omega (arith, g.behind, h.ahead);
          few = omega (arith, g.few, h.few);
          rest = λ i a b. let q = g.behind in h.low i (omega arith) (λ z. omega arith) (λ z. omega arith) (λ z. omega arith) ∙ g.rest i (omega arith) b;
          homes = λ i a b. let q = g.behind in h.low i (omega arith) (λ z. omega arith) (λ z. omega arith) (λ z. omega arith) ∙ g.homes i a b;
          is =
              λ s b given homes.
              let p = g.is s b given homes in (
                omega (arith, p.0, (done s b given homes).0, sum_more b k),
                opened s b given homes,
                λ j l.
                    ⊎_elim (λ (i : j < k). p.2 j i) (λ (i : j ≡ k). rw i (le-ltb s.limit (highest s (programme_of b k)) (omega (arith, needs s b given homes, given.known.limited)))) (below_suc (rw add-one at l)),
              );
        }

    pub going-over : v.limit < n → AllIs sheet bundle u x v m (Some k)
    unfolding at28 over_store
    going-over over =
        record {
          long = h.long ∙ g.long;
          is_28 =
              λ s b given homes.
              let p = g.is s b given homes in
              sym
              (first_found (programme_count b) (over_store s b) k p.2
              (lt-ltb s.limit (highest s (programme_of b k)) (omega (arith, needs s b given homes, given.known.limited))) (omega (arith, given.programmes)));
          opens = λ q. apart q;
        }
      where
        apart : {X : Type 0} → Some k ≡ None → X
        apart z = let y : ◌≡◌ {A = ℕ} 0 1 = cc in absurd (omega arith)

  pub going-ends : (w : List ℕ) (c k : ℕ) → k ≡ m → Going sheet bundle u w v m c k → AllIs sheet bundle u w v m None
  unfolding at28 programme_of
  going-ends w c k e g =
      record {
        long = g.long;
        is_28 = λ s b given homes. sym (none_first (programme_count b) (over_store s b) (λ j l. (g.is s b given homes).2 j (omega (arith, given.programmes))));
        opens =
            λ q s b given homes j l.
            let p = g.is s b given homes in
            opens-same s (amount_of s b j) w w c (lay.commands + whole b each + m) j (programme_of b j) refl refl refl (λ i a b. refl) (omega (arith, p.0, sum-all b k (omega (arith, given.programmes)))) (p.1 j (omega arith));
      }

-- processors without commands, one by one
pub rest-starts : (w : List ℕ) (m : ℕ) → RestIs w w m m
rest-starts w m = record { long = refl; idle = λ k a b. absurd (omega arith); kept = λ k l. (refl, refl, refl); other = λ i l. refl }

pub rest_more : (w u x : List ℕ) (m k : ℕ) → m ≤ k → k < 16 → lay.extent ≤ length w → RestIs w u m k → x ≡ opened_words u k (lay.idle % 4294967296) (lay.idle % 4294967296) → RestIs w x m (k + 1)
rest_more w u x m k from near long g e =
    let fits : lay.extent ≤ length u = omega (arith, g.long) in
    let else : (i : ℕ) → (i ≡ k → ⊥) → (i ≡ lay.firsts + k → ⊥) → (i ≡ lay.lasts + k → ⊥) → get_or x i 0 ≡ get_or u i 0 = opened-else u x k _ _ e near in
    record {
      long = opened-long u x k _ _ e near ∙ g.long;
      idle =
          λ j a l.
          ⊎_elim
          (λ (i : j < k).
          let y = g.idle j a i in (
            else j (λ z. omega arith) (λ z. omega arith) (λ z. omega arith) ∙ y.0,
            else (lay.firsts + j) (λ z. omega arith) (λ z. omega arith) (λ z. omega arith) ∙ y.1,
            else (lay.lasts + j) (λ z. omega arith) (λ z. omega arith) (λ z. omega arith) ∙ y.2,
          ))
          (λ (i : j ≡ k). rw i (opened-next u x k _ _ e near fits, opened-first u x k _ _ e near fits, opened-last u x k _ _ e near fits)) (below_suc (rw add-one at l));
      kept =
          λ j l.
          let y = g.kept j l in (
            else j (λ z. omega arith) (λ z. omega arith) (λ z. omega arith) ∙ y.0,
            else (lay.firsts + j) (λ z. omega arith) (λ z. omega arith) (λ z. omega arith) ∙ y.1,
            else (lay.lasts + j) (λ z. omega arith) (λ z. omega arith) (λ z. omega arith) ∙ y.2,
          );
      other = λ i l. else i (λ z. omega arith) (λ z. omega arith) (λ z. omega arith) ∙ g.other i l;
    }

-- two parts are cleared, and two counts and the time of a receive are put
pub wiped : (w a b d f last : List ℕ) (m l u : ℕ) → m ≤ 16 → l ≤ 1024 → u < 65536 → lay.extent ≤ length w → ClearIs w a lay.clocks lay.firsts → ClearIs a b lay.idle (lay.stamps + l)
    → d ≡ set b lay.count (m % 4294967296) → f ≡ set d lay.links (l % 4294967296) → last ≡ set f lay.unpacking (u % 4294967296) → WipeIs w last m l u
wiped w a b d f last m l u fm fl fu long p q ed ef el =
    let ld : length d ≡ length b = ap length ed ∙ length-set b lay.count _ in
    let lf : length f ≡ length d = ap length ef ∙ length-set d lay.links _ in
    let past : (i : ℕ) → (i ≡ lay.unpacking → ⊥) → get_or last i 0 ≡ get_or f i 0 = λ i x. ap (λ (z : List ℕ). get_or z i 0) el ∙ get_or-set_other f lay.unpacking i _ 0 x in
    let counted : (i : ℕ) → (i ≡ lay.links → ⊥) → get_or f i 0 ≡ get_or d i 0 = λ i x. ap (λ (z : List ℕ). get_or z i 0) ef ∙ get_or-set_other d lay.links i _ 0 x in
    let here : (i : ℕ) → (i < lay.count) ⊎ (lay.unpacking < i) → get_or last i 0 ≡ get_or b i 0 =
    λ i x.
    past i (λ y. ⊎_elim (λ z. omega arith) (λ z. omega arith) x)
    ∙ counted i (λ y. ⊎_elim (λ z. omega arith) (λ z. omega arith) x)
    ∙ ap (λ (z : List ℕ). get_or z i 0) ed ∙ get_or-set_other b lay.count i _ 0 (λ y. ⊎_elim (λ z. omega arith) (λ z. omega arith) x)
    in
    let low : (i : ℕ) → lay.clocks ≤ i → i < lay.firsts → get_or last i 0 ≡ 0 = λ i x y. here i (inl (omega arith)) ∙ q.other i (inl (omega arith)) ∙ p.zeros i x y in
    let high : (i : ℕ) → lay.idle ≤ i → i < lay.stamps + l → get_or last i 0 ≡ 0 = λ i x y. here i (inr (omega arith)) ∙ q.zeros i x y in
    record {
      long = ap length el ∙ length-set f lay.unpacking _ ∙ lf ∙ ld ∙ q.long ∙ p.long;
      count =
          past lay.count (λ z. omega arith) ∙ counted lay.count (λ z. omega arith) ∙ ap (λ (z : List ℕ). get_or z lay.count 0) ed
          ∙ get_or-set_same b lay.count _ 0 (omega (arith, q.long, p.long)) ∙ omega arith;
      links =
          past lay.links (λ z. omega arith) ∙ ap (λ (z : List ℕ). get_or z lay.links 0) ef ∙ get_or-set_same d lay.links _ 0 (omega (arith, ld, q.long, p.long))
          ∙ omega arith;
      unpacks = ap (λ (z : List ℕ). get_or z lay.unpacking 0) el ∙ get_or-set_same f lay.unpacking _ 0 (omega (arith, lf, ld, q.long, p.long)) ∙ omega arith;
      clock = λ k h. low (lay.clocks + k) (omega arith) (omega arith);
      store = λ k h. low (lay.stores + k) (omega arith) (omega arith);
      idle = high lay.idle (omega arith) (omega arith);
      stamp = λ i h. high (lay.stamps + i) (omega arith) (omega arith);
      other =
          λ i x.
          ⊎_elim (λ (z : i < lay.clocks). here i (inl (omega arith)) ∙ q.other i (inl (omega arith)) ∙ p.other i (inl (omega arith)))
          (⊎_elim (λ (z : (lay.firsts ≤ i) × (i < lay.count)). here i (inl (omega arith)) ∙ q.other i (inl (omega arith)) ∙ p.other i (inr (omega arith)))
          (λ (z : lay.needs ≤ i). here i (inr (omega arith)) ∙ q.other i (inr (omega arith)) ∙ p.other i (inr (omega arith)))) x;
    }

-- the needs of the tasks, one by one
pub needs-none : (sheet w : List ℕ) (front : ℕ) → NeedsIs sheet w w front 0
needs-none sheet w front = record { long = refl; needs = λ t h. absurd (omega arith); other = λ i h. refl }

pub needs-more : (sheet w u x : List ℕ) (front t need : ℕ) → t < 256 → lay.extent ≤ length w → NeedsIs sheet w u front t → need ≡ number_at 2 sheet (store_at front t) → need < 65536
    → x ≡ set u (lay.needs + t) (need % 4294967296) → NeedsIs sheet w x front (t + 1)
needs-more sheet w u x front t need near long g es fs el =
    let same : (i : ℕ) → (i ≡ lay.needs + t → ⊥) → get_or x i 0 ≡ get_or u i 0 = λ i d. ap (λ (z : List ℕ). get_or z i 0) el ∙ get_or-set_other u (lay.needs + t) i _ 0 d in
    record {
      long = ap length el ∙ length-set u (lay.needs + t) _ ∙ g.long;
      needs =
          λ j below.
          ⊎_elim (λ (h : j < t). same (lay.needs + j) (λ z. omega arith) ∙ g.needs j h)
          (λ (q : j ≡ t). rw q (ap (λ (z : List ℕ). get_or z (lay.needs + t) 0) el ∙ get_or-set_same u (lay.needs + t) _ 0 (omega (arith, g.long)) ∙ omega arith)) (below_suc (rw add-one at below));
      other = λ i h. same i (λ z. ⊎_elim (λ (a : i < lay.needs). omega arith) (λ (a : lay.commands ≤ i). omega arith) h) ∙ g.other i h;
    }

-- processor k before the first command of its programme, which may be empty
pub record Waiting (s : Sheet) (b : Bundle) (w : List ℕ) (e k : ℕ) : Type 0 where
  pub next : next_in w k ≡ first_in w k
  pub low : lay.idle ≤ first_in w k
  pub within : (first_in w k + length (programme_of b k) < lay.stamps) ⊎ ((lay.commands ≤ first_in w k) × (first_in w k + length (programme_of b k) < e))
  pub high : first_in w k + length (programme_of b k) < lay.extent
  pub last : last_in w k ≡ first_in w k + length (programme_of b k)
  pub decoded : Decoded s (amount_of s b k) w (first_in w k) (programme_of b k)

-- the programmes that run the tasks do not change where the programmes lie
module _ (sheet bundle w u : List ℕ) (v : View) (m : ℕ) (h : HomesIs w u v) where
  pub ready-still : Ready sheet bundle w v m → Ready sheet bundle u v m
  ready-still y =
      record {
        inside = y.inside;
        programmes = y.programmes;
        count = y.count;
        few = y.few;
        laid = laid_by (λ i j. h.other i (inl (omega (arith, y.count, y.few)))) y.laid;
        long = omega (arith, h.long, y.long);
      }

  module _ (s : Sheet) (b : Bundle) (given : LaidOut sheet bundle w v m s b) where
    pub laid-still : LaidOut sheet bundle u v m s b
    unfolding programme_count
    laid-still =
        record {
          known = given.known;
          programmes = given.programmes;
          few = given.few;
          short = given.short;
          laid = laid_by (λ i j. h.other i (inl (omega (arith, given.few)))) given.laid;
          homes = λ t l. ap (λ (x : ℕ). x / 4096 - 1) (h.other (slots_at + t) (inr (omega arith))) ∙ given.homes t l;
        }

    pub homes-there : Homes s b u
    homes-there =
        record { at = λ c t l. h.homes (sym given.known.wired ∙ c) t (omega (arith, given.known.tasks)) ∙ given.homes t l }

-- all together: the fresh state
module _ (sheet bundle w a r d last : List ℕ) (v : View) (m : ℕ) (long : lay.extent ≤ length w) (p : AllIs sheet bundle w a v m None) (q : RestIs a r m 16) (z : WipeIs r d m v.links v.unpacking)
    (n : NeedsIs sheet d last v.front v.tasks) (s : Sheet) (b : Bundle) (given : LaidOut sheet bundle w v m s b) (homes : Homes s b w) where
  -- the index behind all commands
  abbrev end : ℕ
  end = lay.commands + whole b each + m

  -- words that neither wiping nor the needs change
  stays : (i : ℕ) → (i < lay.clocks) ⊎ ((lay.firsts ≤ i) × (i < lay.count)) ⊎ (lay.commands ≤ i) → get_or last i 0 ≡ get_or r i 0
  stays i h =
      ⊎_elim (λ (x : i < lay.clocks). n.other i (inl (omega arith)) ∙ z.other i (inl x))
      (⊎_elim (λ (x : (lay.firsts ≤ i) × (i < lay.count)). n.other i (inl (omega arith)) ∙ z.other i (inr (inl x)))
      (λ (x : lay.commands ≤ i). n.other i (inr x) ∙ z.other i (inr (inr (omega arith))))) h

  low : (i : ℕ) → i < lay.needs → get_or last i 0 ≡ get_or d i 0
  low i h = n.other i (inl h)

  busy : (k : ℕ) → k < m → Waiting s b last end k
  busy k l =
      let few = given.few in
      let em = given.programmes in
      let y = q.kept k l in
      let short = given.short in
      let o : Opens s (amount_of s b k) last end k (programme_of b k) =
      opens-same s (amount_of s b k) a last end end k (programme_of b k) (stays k (inl (omega arith)) ∙ y.0) (stays (lay.firsts + k) (inr (inl (omega arith, omega arith))) ∙ y.1)
      (stays (lay.lasts + k) (inr (inl (omega arith, omega arith))) ∙ y.2) (λ i x h. stays i (inr (inr x)) ∙ q.other i (omega arith)) (omega arith) (p.opens refl s b given homes k l)
      in
      record { next = o.next; low = omega (arith, o.low); within = inr (o.low, o.high); high = omega (arith, o.high); last = o.last; decoded = o.decoded }

  none-there : (k : ℕ) → m ≤ k → length (programme_of b k) ≡ 0
  unfolding programme_of programme_count
  none-there k l = ap length (get_or-eq_default b.programmes [] {n = k} (omega (arith, given.programmes)))

  still : (k : ℕ) → m ≤ k → k < 16 → Waiting s b last end k
  still k l h =
      let y = q.idle k l h in
      let c : length (programme_of b k) ≡ 0 = none-there k l in
      let f : first_in last k ≡ lay.idle = stays (lay.firsts + k) (inr (inl (omega arith, omega arith))) ∙ y.1 in
      let e : get_or last (first_in last k + length (programme_of b k)) 0 ≡ 0 =
      ap (λ (i : ℕ). get_or last i 0) (omega (arith, f, c)) ∙ low lay.idle (omega arith) ∙ z.idle
      in
      record {
        next = stays k (inl (omega arith)) ∙ y.0 ∙ sym f;
        low = omega arith;
        within = inl (omega arith);
        high = omega arith;
        last = stays (lay.lasts + k) (inr (inl (omega arith, omega arith))) ∙ y.2 ∙ omega arith;
        decoded = record { known = λ i l. absurd (omega arith); word = λ i l. absurd (omega arith); end = e };
      }

  every : (k : ℕ) → k < 16 → Waiting s b last end k
  every k l = elim (dec_lt k m) [ yes h ↦ busy k h | no h ↦ still k (omega arith) l ]

  programmed : Programmed s b last
  programmed =
      record {
        long = omega (arith, n.long, z.long, q.long, p.long);
        few = given.few;
        ranged = given.known.ranged;
        programmes = low lay.count (omega arith) ∙ z.count ∙ sym given.programmes;
        links = low lay.links (omega arith) ∙ z.links ∙ sym given.known.links;
        unpacks = low lay.unpacking (omega arith) ∙ z.unpacks ∙ sym given.known.unpacked;
        needs = λ t h. n.needs t (omega (arith, given.known.tasks)) ∙ given.known.fields.store t h;
        low = λ k h. (every k h).low;
        apart = λ k h. ⊎_elim (λ x. inl x) (λ x. inr (omega (arith, x.0))) (every k h).within;
        high = λ k h. (every k h).high;
        last = λ k h. (every k h).last;
        decoded = λ k h. (every k h).decoded;
      }

  pub loaded-fresh : Represents s b last (fresh_state s b)
  loaded-fresh =
      fresh-represented s b last programmed (λ k h. (every k h).next) (λ k h. low (lay.clocks + k) (omega arith) ∙ z.clock k h) (λ k h. low (lay.stores + k) (omega arith) ∙ z.store k h)
      (λ l h. let e = given.known.links in let f = given.known.ranged.few_links in low (lay.stamps + l) (omega arith) ∙ z.stamp l (omega arith)) (omega (arith, given.short))

  pub loaded-within : Within b last end
  loaded-within = record { within = λ k h. (every k h).within }

pub load-over : (sheet bundle w u last : List ℕ) (v : View) (m k : ℕ) (f : Found) → f ≡ Some k → HomesIs w u v → AllIs sheet bundle u last v m f → LoadIs sheet bundle w last v m (Some k)
load-over sheet bundle w u last v m k f e h p =
    record {
      long = p.long ∙ h.long;
      is_28 = λ s b given. rw e at (p.is_28 s b (laid-still sheet bundle w u v m h s b given) (homes-there sheet bundle w u v m h s b given));
      represents = λ q. apart q;
    }
  where
    apart : {X : Type 0} → Some k ≡ None → X
    apart z = let y : ◌≡◌ {A = ℕ} 0 1 = cc in absurd (omega arith)

pub load_fits : (sheet bundle w u a r d last : List ℕ) (v : View) (m : ℕ) (f : Found) → lay.extent ≤ length w → f ≡ None → HomesIs w u v → AllIs sheet bundle u a v m f → RestIs a r m 16 → WipeIs r d m v.links v.unpacking
    → NeedsIs sheet d last v.front v.tasks → LoadIs sheet bundle w last v m None
load_fits sheet bundle w u a r d last v m f long e h p q z n =
    let p' : AllIs sheet bundle u a v m None = subst (AllIs sheet bundle u a v m) e p in
    let long' : lay.extent ≤ length u = omega (arith, h.long) in
    record {
      long = n.long ∙ z.long ∙ q.long ∙ p.long ∙ h.long;
      is_28 = λ s b given. p'.is_28 s b (laid-still sheet bundle w u v m h s b given) (homes-there sheet bundle w u v m h s b given);
      represents =
          λ i s b given.
          let g = laid-still sheet bundle w u v m h s b given in
          let t = homes-there sheet bundle w u v m h s b given in
          (loaded-fresh sheet bundle u a r d last v m long' p' q z n s b g t, loaded-within sheet bundle u a r d last v m long' p' q z n s b g t);
    }
