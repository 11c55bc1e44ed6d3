-- The pass over a bundle's bytes that writes it with its releases: how far it has come, one command more, the next programme, and its end.
use Prim.Native.Nat.{ℕ, zero, suc, ◌+◌, ◌*◌, ◌-◌, ◌%◌, ◌≤◌, ◌<◌, min}
use native.Mathlib.Omega.{arith}
use native.Mathlib.Numerals.{add-one}
use mathlib.Core.Bool.{Bool, true, false}
use mathlib.Core.Option.{some}
use mathlib.Core.Path.{◌≡◌, refl, sym, ap, ap₂, ◌∙◌}
use mathlib.Core.List.{List, [], ◌∷◌, ◌++◌, map, append_assoc, append-nil}
use lib.ListN.{length, get_or, drop, get_elem?, length-append, length-take, length-drop, drop_of_length-le}
use lib.Dec.{eqb}
use borrow.Author.Tests.{lt-ltb, le-ltb, eq-eqb}
use Rattle.folds.specs.Folds.{pick, gather}
use Rattle.sheet.specs.Sheet.{Sheet, task_count, link_count}
use Rattle.bundle.specs.Bundle.{Command, release, discard, Bundle, programme_count, programme_of}
use Rattle.bundle.specs.Sizes.{short_size, claim_size}
use Rattle.bundle.specs.Writing.{command_bytes, programme_bytes, programmes_bytes, claim_bytes, bundle_bytes}
use Rattle.bundle.specs.Kinds.{is_message, size_by}
use Rattle.bundle.specs.Lies.{size_of}
use Rattle.bundle.proofs.Lying.{stands-sized}
use Rattle.bundle.proofs.Rounds.{bytes-again}
use Rattle.admission.specs.Notes.{releases_at, discards_at, sofar, rank}
use Rattle.admission.proofs.Weights.{command-below}
use Rattle.admission.proofs.Walking.{drop_at}
use Rattle.admission.proofs.Rows.{rows}
use Rattle.admission.proofs.Ranks.{sofar-less, rank-none, rank-next, rank-more}
use Rattle.admission.proofs.Passes.{size-between, Pass, pass-first, pass-open, pass-here, pass_on, pass-ends}
use Rattle.releasing.specs.Releasing.{earliest, is_at, due_at, rest_with, released}
use Rattle.releasing.specs.Releasing as passing
use Rattle.releasing.specs.Inserting.{Lay, part, thing, due_bytes, due_from, behind_bytes, Marked, Bare, with_releases}
use Rattle.releasing.specs.Queues.{Queued, BehindIs, InsertIs}
use Rattle.releasing.proofs.Running.{released-rest}
use Rattle.releasing.proofs.Lays.{lay-none, lay-as, lay-then, lay-long, part_none, part-rest}
use Rattle.releasing.proofs.Rests.{programme-append, programme-gather, size-length, rest_of, rest-command, rest-block, rest-open, rest_end, rest-first, rest-none, same, bytes_same, part-front}
use Rattle.releasing.proofs.Marks.{elem_below, notable-at, one_at}

gather_cong : {X : Type 0} (n : ℕ) (f g : ℕ → List X) → ((i : ℕ) → i < n → f i ≡ g i) → gather n f ≡ gather n g
unfolding gather
gather_cong zero f g h = refl
gather_cong (suc n) f g h = ap₂ ◌++◌ (gather_cong n f g (λ i l. h i (omega arith))) (h n (omega arith))

-- the releases behind a command, by their marks
due-one : (u : Bool) (c : Command) → pick u (command_bytes c) [] ≡ programme_bytes (pick u (c ∷ []) [])
due-one true c = sym (append-nil (command_bytes c))
due-one false c = refl

behind-is : {s : Sheet} {b : Bundle} {bundle w : List ℕ} → Bare s b bundle → Marked s b w → (k i note : ℕ) → i < length (programme_of b k) → note ≡ 4096 * suc k + rank b k i
    → behind_bytes w note (task_count s) (link_count s) ≡ programme_bytes (passing.releases_at s (programme_of b k) (suc i))
unfolding behind_bytes due_from due_bytes thing passing.releases_at due_at
behind-is {s} {b} {bundle} {w} h g k i note l e =
    ap₂ ◌++◌ (gather_cong (task_count s) _ _ (λ t y. result t y)) (gather_cong (link_count s) _ _ (λ m y. message m y))
    ∙ sym
    (programme-append (gather (task_count s) (λ t. due_at s p (suc i) (release t))) (gather (link_count s) (λ m. due_at s p (suc i) (discard m)))
    ∙ ap₂ ◌++◌ (programme-gather (task_count s) (λ t. due_at s p (suc i) (release t))) (programme-gather (link_count s) (λ m. due_at s p (suc i) (discard m))))
  where
    p : List Command
    p = programme_of b k

    result : (t : ℕ) → t < task_count s → pick (eqb (get_or w (releases_at + (0 + t)) 0) note) (command_bytes (thing (0 + t))) [] ≡ programme_bytes (due_at s (programme_of b k) (suc i) (release t))
    result t y =
        let z : 0 + t ≡ t = omega arith in
        rw (z, lt-ltb t 256 (omega (arith, h.few_tasks)), e, g.results t y k i l) (due-one (is_at (earliest s (programme_of b k) (release t)) (suc i)) (release t))

    message : (m : ℕ) → m < link_count s → pick (eqb (get_or w (releases_at + (256 + m)) 0) note) (command_bytes (thing (256 + m))) [] ≡ programme_bytes (due_at s (programme_of b k) (suc i) (discard m))
    message m y =
        let z : releases_at + (256 + m) ≡ discards_at + m = omega arith in
        let x : (256 + m) - 256 ≡ m = omega arith in
        rw (z, le-ltb (256 + m) 256 (omega arith), x, e, g.messages m y k i l) (due-one (is_at (earliest s (programme_of b k) (discard m)) (suc i)) (discard m))

-- what is written behind the first 50, and what is still to come of the bundle and of the same with its releases
pub record Written (s : Sheet) (b : Bundle) (bundle old : List ℕ) (start : ℕ) (out : List ℕ) (to r k i at : ℕ) : Type 0 where
  pub done : List ℕ
  pub rest : drop at bundle ≡ rest_of same b k (drop i (programme_of b k))
  pub whole : 0x50 ∷ 0 ∷ (done ++ rest_of (released s) b k (rest_with (passing.releases_at s (programme_of b k)) i (drop i (programme_of b k)))) ≡ bundle_bytes (with_releases s b)
  pub lay : Lay old start done out to
  pub count : r ≡ rank b k i

-- .. or no programme stands in it
pub record Writing (s : Sheet) (b : Bundle) (bundle old : List ℕ) (start : ℕ) (out : List ℕ) (to r k i at : ℕ) : Type 0 where
  pub some_left : 0 < programme_count b → Written s b bundle old start out to r k i at
  pub none_left : programme_count b ≡ 0 → Lay old start [] out to

pub record Inserted (bundle w old : List ℕ) (start : ℕ) (out : List ℕ) (at k r to : ℕ) : Type 0 where
  pub long : length out ≡ length old
  pub few : 2 * k ≤ at
  pub less : 2 * r ≤ at
  pub room : to ≤ 4096 * at
  pub reach : at ≤ length bundle + 3
  pub each : (s : Sheet) (b : Bundle) → Bare s b bundle → Marked s b w → Queued (task_count s) (link_count s) w 0
      → Pass s b bundle (λ k i at. Writing s b bundle old start out to r k i at) at k

-- the size of a command
pub size-of-command : (c z : ℕ) → z ≡ size_by c → (2 ≤ z) × (z ≤ 3)
size-of-command c z e = (omega (arith, (size-between c).0), omega (arith, (size-between c).1))

-- the bytes of a bundle with programmes, and of one without
first-bytes : {s : Sheet} {b : Bundle} {bundle : List ℕ} → Bare s b bundle → 0 < programme_count b → bundle ≡ (0x50 ∷ 0 ∷ []) ++ rest_of same b 0 (programme_of b 0)
first-bytes {s} {b} {bundle} h l = sym (bytes-again s bundle b h.bytes h.read) ∙ sym (bytes_same b) ∙ rest-first same b l

none-bytes : {s : Sheet} {b : Bundle} {bundle : List ℕ} → Bare s b bundle → programme_count b ≡ 0 → bundle ≡ claim_bytes b.claim
none-bytes {s} {b} {bundle} h z = sym (bytes-again s bundle b h.bytes h.read) ∙ sym (bytes_same b) ∙ rest-none same b z

rest-long : (b : Bundle) (k : ℕ) (q : List Command) → 5 ≤ length (rest_of same b k q)
rest-long b k q =
    let t = programmes_bytes (suc k) (map same (drop (suc k) b.programmes)) in
    omega (arith, length-append (programme_bytes q) (t ++ claim_bytes b.claim), length-append t (claim_bytes b.claim))

writing-starts : {s : Sheet} {b : Bundle} {bundle : List ℕ} (old : List ℕ) (start : ℕ) → Bare s b bundle → Writing s b bundle old start old start 0 0 0 short_size
writing-starts {s} {b} {bundle} old start h =
    record {
      some_left =
          λ l.
          record {
            done = [];
            rest = (part-front bundle (0x50 ∷ 0 ∷ []) (rest_of same b 0 (programme_of b 0)) 0 2 (first-bytes h l) refl).1;
            whole = sym (rest-first (released s) b l ∙ ap (λ (q : List Command). 0x50 ∷ 0 ∷ rest_of (released s) b 0 q) (released-rest s (programme_of b 0)));
            lay = lay-none old start;
            count = sym (rank-none b);
          };
      none_left = λ n. lay-none old start;
    }

pub insert-starts : (bundle w old : List ℕ) (start : ℕ) → start ≤ 2 → Inserted bundle w old start old short_size 0 0 start
insert-starts bundle w old start small =
    record {
      long = refl;
      few = omega arith;
      less = omega arith;
      room = omega arith;
      reach = omega arith;
      each = λ s b h mk qs. pass-first s b bundle (rows s (omega (arith, h.few_links)) bundle b h.bytes h.read) (writing-starts old start h);
    }

-- the first 50 was written before
pub first_small : {old last : List ℕ} {r : ℕ} (bundle : List ℕ) (end begin : ℕ) → begin ≡ min end short_size → Lay old 0 (part bundle 0 begin) last r → r ≤ 2
first_small bundle end begin e g = omega (arith, g.next, length-take (begin - 0) (drop 0 bundle))

module _ {bundle w old out : List ℕ} {start at k r to : ℕ} (end : ℕ) (far : end ≡ length bundle - claim_size) (g : Inserted bundle w old start out at k r to) (less : at < end) (z : ℕ)
    (ez : z ≡ size_by (get_or bundle at 0)) (between : (2 ≤ z) × (z ≤ 3)) where
  pub near : {last : List ℕ} {a : ℕ} → Lay out to (part bundle at (at + z)) last a → a ≤ to + 3
  near y = omega (arith, y.next, between.1, length-take ((at + z) - at) (drop at bundle))

  -- a programme opens
  pub insert-open : (last : List ℕ) (a : ℕ) → get_or bundle at 0 ≡ 0x50 → Lay out to (part bundle at (at + z)) last a → Inserted bundle w old start last (at + z) (k + 1) r a
  unfolding size_by is_message
  insert-open last a q y =
      let size : z ≡ short_size = rw q at ez in
      record {
        long = lay-long y ∙ g.long;
        few = omega (arith, g.few, between.0);
        less = omega (arith, g.less, between.0);
        room = omega (arith, g.room, between.0, near y);
        reach = omega (arith, far, between.1);
        each =
            λ s b h mk qs.
            rw (add-one, size)
            (pass-open s b bundle end far less q (g.each s b h mk qs)
            (λ i l u x.
            let nz : 0 < programme_count b = omega arith in
            record { some_left = λ _. opened s b i l u (x.some_left nz) size; none_left = λ v. absurd (omega arith) }));
      }
    where
      opened : (s : Sheet) (b : Bundle) (i : ℕ) → length (programme_of b k) ≤ i → suc k < programme_count b → Written s b bundle old start out to r k i at → z ≡ short_size
          → Written s b bundle old start last a r (suc k) 0 (at + short_size)
      opened s b i l u x size =
          let none_here : drop i (programme_of b k) ≡ [] = drop_of_length-le (programme_of b k) {i = i} l in
          let f = passing.releases_at s (programme_of b k) in
          let rest-is : drop at bundle ≡ (0x50 ∷ suc k ∷ []) ++ rest_of same b (suc k) (programme_of b (suc k)) = x.rest ∙ ap (rest_of same b k) none_here ∙ rest-open same b k u in
          let v = part-front bundle (0x50 ∷ suc k ∷ []) (rest_of same b (suc k) (programme_of b (suc k))) at 2 rest-is refl in
          record {
            done = x.done ++ 0x50 ∷ suc k ∷ [];
            rest = v.1;
            whole =
                ap (λ (t : List ℕ). 0x50 ∷ 0 ∷ t)
                (append_assoc x.done (0x50 ∷ suc k ∷ []) (rest_of (released s) b (suc k) (rest_with (passing.releases_at s (programme_of b (suc k))) 0 (programme_of b (suc k))))
                ∙ ap (λ (t : List ℕ). x.done ++ t)
                (sym
                (ap (λ (d : List Command). rest_of (released s) b k (rest_with f i d)) none_here ∙ rest-open (released s) b k u
                ∙ ap (λ (d : List Command). 0x50 ∷ suc k ∷ rest_of (released s) b (suc k) d) (released-rest s (programme_of b (suc k))))))
                ∙ x.whole;
            lay = lay-then x.lay (lay-as (ap (λ (j : ℕ). part bundle at (at + j)) size ∙ v.0) y);
            count = x.count ∙ rank-next b k i l;
          }

  -- a command, and the releases behind it
  pub insert-command : (mid last : List ℕ) (a c note : ℕ) → (get_or bundle at 0 ≡ 0x50 → ⊥) → Lay out to (part bundle at (at + z)) mid a → note ≡ 4096 * (k % 16 + 1) + r
      → BehindIs w note mid a last c → Inserted bundle w old start last (at + z) k (r + 1) c
  insert-command mid last a c note q y en u =
      record {
        long = u.long ∙ lay-long y ∙ g.long;
        few = omega (arith, g.few, between.0);
        less = omega (arith, g.less, between.0);
        room = omega (arith, g.room, between.0, near y, u.near);
        reach = omega (arith, far, between.1);
        each =
            λ s b h mk qs.
            let x = pass-here s b bundle end far less q (g.each s b h mk qs) in
            let size : z ≡ size_of x.command = ez ∙ stands-sized (task_count s) (link_count s) bundle at x.command x.stands in
            let below = command-below b k x.place x.command x.here in
            pass_on s b bundle x z size
            (record {
              some_left = λ _. ran s b h mk qs x.place x.command x.here size (x.kept.some_left (omega arith));
              none_left = λ v. absurd (omega arith);
            });
      }
    where
      ran : (s : Sheet) (b : Bundle) → Bare s b bundle → Marked s b w → Queued (task_count s) (link_count s) w 0 → (i : ℕ) (d : Command) → get_elem? (programme_of b k) i ≡ some d → z ≡ size_of d
          → Written s b bundle old start out to r k i at → Written s b bundle old start last c (r + 1) k (suc i) (at + z)
      ran s b h mk qs i d e size x =
          let p = programme_of b k in
          let f = passing.releases_at s p in
          let q = rest_with f (suc i) (drop (suc i) p) in
          let below = command-below b k i d e in
          let rest-is : drop at bundle ≡ command_bytes d ++ rest_of same b k (drop (suc i) p) = x.rest ∙ ap (rest_of same b k) (drop_at p i d e) ∙ rest-command same b k d (drop (suc i) p) in
          let v = part-front bundle (command_bytes d) (rest_of same b k (drop (suc i) p)) at z rest-is (size ∙ sym (size-length d)) in
          let note-is : note ≡ 4096 * suc k + rank b k i = omega (arith, en, h.few, x.count) in
          let new : sofar b k i d ≡ 0 = omega (arith, sofar-less b k i d e, one_at h k i d e) in
          record {
            done = (x.done ++ command_bytes d) ++ programme_bytes (f (suc i));
            rest = v.1;
            whole =
                ap (λ (t : List ℕ). 0x50 ∷ 0 ∷ t)
                (append_assoc (x.done ++ command_bytes d) (programme_bytes (f (suc i))) (rest_of (released s) b k q)
                ∙ append_assoc x.done (command_bytes d) (programme_bytes (f (suc i)) ++ rest_of (released s) b k q)
                ∙ ap (λ (t : List ℕ). x.done ++ t)
                (sym
                (ap (λ (y : List Command). rest_of (released s) b k (rest_with f i y)) (drop_at p i d e)
                ∙ rest-command (released s) b k d (f (suc i) ++ q) ∙ ap (λ (t : List ℕ). command_bytes d ++ t) (rest-block (released s) b k (f (suc i)) q))))
                ∙ x.whole;
            lay =
                lay-then (lay-then x.lay (lay-as v.0 y))
                (lay-as (behind-is h mk k i note (elem_below p i d e) note-is) (u.is (task_count s) (link_count s) qs));
            count = ap (λ (j : ℕ). j + 1) x.count ∙ sym (rank-more s h.few_tasks h.few_links b k i d (notable-at h k i d e) e ∙ rw (eq-eqb (sofar b k i d) 0 new));
          }

-- nothing but the claim is left
pub insert-ends : {bundle w entry old out : List ℕ} {start at k r to : ℕ} (end begin : ℕ) → end ≡ length bundle - claim_size → begin ≡ min end short_size → Lay entry 0 (part bundle 0 begin) old start
    → Inserted bundle w old start out at k r to → end ≤ at → (last : List ℕ) (a : ℕ) → Lay out to (part bundle end (length bundle)) last a → InsertIs bundle w entry last a
insert-ends {bundle} {w} {entry} {old} {out} {start} {at} {k} {r} {to} end begin far short first g over last a y =
    record {
      long = lay-long y ∙ g.long ∙ lay-long first;
      is =
          λ s b h mk qs.
          pass-ends s b bundle end far over (g.each s b h mk qs) (λ z x. bare s b h z (x.none_left z))
          (λ i l u x. let nz : 0 < programme_count b = omega arith in closed s b h nz i l u (x.some_left nz));
    }
  where
    claim-part : (t : List ℕ) → drop end bundle ≡ t → part bundle end (length bundle) ≡ t
    claim-part t e = part-rest bundle end (omega (arith, far)) ∙ e

    bare : (s : Sheet) (b : Bundle) → Bare s b bundle → programme_count b ≡ 0 → Lay old start [] out to → Lay entry 0 (bundle_bytes (with_releases s b)) last a
    bare s b h z x =
        let e = none-bytes h z in
        let f : end ≡ 0 = omega (arith, far, ap length e) in
        let i : begin ≡ 0 = omega arith in
        lay-as (sym (rest-none (released s) b z))
        (lay-then (lay-then (lay-as (ap (part bundle 0) i ∙ part_none bundle 0) first) x) (lay-as (claim-part (claim_bytes b.claim) (ap (λ (i : ℕ). drop i bundle) f ∙ e)) y))

    closed : (s : Sheet) (b : Bundle) → Bare s b bundle → 0 < programme_count b → (i : ℕ) → length (programme_of b k) ≤ i → suc k ≡ programme_count b → Written s b bundle old start out to r k i at
        → Lay entry 0 (bundle_bytes (with_releases s b)) last a
    closed s b h nz i l u x =
        let none_here : drop i (programme_of b k) ≡ [] = drop_of_length-le (programme_of b k) {i = i} l in
        let f = passing.releases_at s (programme_of b k) in
        let e : drop at bundle ≡ claim_bytes b.claim = x.rest ∙ ap (rest_of same b k) none_here ∙ rest_end same b k (omega arith) in
        let j : at ≡ end = omega (arith, far, length-drop at bundle, ap length e) in
        let v = first-bytes h nz in
        let two : begin ≡ 2 = omega (arith, far, ap length v, rest-long b 0 (programme_of b 0)) in
        let opening = (part-front bundle (0x50 ∷ 0 ∷ []) (rest_of same b 0 (programme_of b 0)) 0 2 v refl).0 in
        lay-as
        (ap (λ (t : List ℕ). 0x50 ∷ 0 ∷ (x.done ++ t)) (sym (ap (λ (d : List Command). rest_of (released s) b k (rest_with f i d)) none_here ∙ rest_end (released s) b k (omega arith))) ∙ x.whole)
        (lay-then (lay-as (ap (part bundle 0) two ∙ opening) first) (lay-then x.lay (lay-as (claim-part (claim_bytes b.claim) (ap (λ (i : ℕ). drop i bundle) (sym j) ∙ e)) y)))
