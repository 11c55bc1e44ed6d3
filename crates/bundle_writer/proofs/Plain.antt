-- The values of a bundle that is read: each command has one of six bytes and an operand that fits it.
use Prim.Native.Nat.{ℕ, suc, ◌+◌, ◌%◌, ◌<◌, ◌≤◌}
use mathlib.Core.Path.{◌≡◌, refl, sym, ap, subst, ◌∙◌}
use mathlib.Core.List.{List, [], ◌∷◌, ◌++◌, append_assoc}
use native.Mathlib.Omega.{arith}
use native.Mathlib.Numerals.{add-one, add-two}
use native.Mathlib.Decide.{dec_lt}
use lib.ListN.{length, get_or, drop, set, length-append, drop_of_length-le}
use lib.Seq.{drop-cons}
use Rattle.folds.specs.Answers.{value, written}
use Rattle.numbers.specs.Number.{number_bytes, stored}
use Rattle.numbers.proofs.Laws.{length-stored, stored_one, stored-then, stored-none}
use Rattle.numbers.proofs.Puts.{front}
use Rattle.sheet.specs.Sheet.{Sheet}
use Rattle.bundle.specs.Bundle.{Command, run, send, receive, release, discard, Bundle}
use Rattle.bundle.specs.Format.{kind_of, read_bundle}
use Rattle.bundle.specs.Writing.{claim_bytes, programme_values, programmes_values, bundle_values, operand_bytes, value_bytes}
use Rattle.bundle.specs.Fits.{Known, Each}
use Rattle.bundle.specs.Kinds.{is_message}
use Rattle.bundle_writer.specs.Writes.{Small, Writable, put_bytes, PutIs}
use Rattle.bundle.proofs.Rounds.{read-formed, values-again}
use Rattle.bundle_writer.proofs.Judging.{values-at, values-end, some_bytes}

pub data Pair : ℕ → ℕ → Type 0 where
  opens : {x : ℕ} → x < 256 → Pair 0x50 x
  runs : {x : ℕ} → x < 256 → Pair 0x52 x
  sends : {x : ℕ} → x < 65536 → Pair 0x53 x
  receives : {x : ℕ} → x < 65536 → Pair 0x56 x
  releases : {x : ℕ} → x < 256 → Pair 0x46 x
  discards : {x : ℕ} → x < 65536 → Pair 0x47 x

abbrev pub Plain : List ℕ → Type 0
Plain [] = Unit {0}
Plain (c ∷ []) = ⊥
Plain (c ∷ x ∷ vs) = Pair c x × Plain vs

module _ (s : Sheet) (few : Small s) where
  plain-programme : (p : List Command) (vs : List ℕ) → Each (Known s) p → Plain vs → Plain (programme_values p ++ vs)
  plain-programme [] vs h g = g
  plain-programme (run x ∷ p) vs h g = (runs {x = x} (omega (arith, h.0, few.tasks)), plain-programme p vs h.1 g)
  plain-programme (send x ∷ p) vs h g = (sends {x = x} (omega (arith, h.0, few.links)), plain-programme p vs h.1 g)
  plain-programme (receive x ∷ p) vs h g = (receives {x = x} (omega (arith, h.0, few.links)), plain-programme p vs h.1 g)
  plain-programme (release x ∷ p) vs h g = (releases {x = x} (omega (arith, h.0, few.tasks)), plain-programme p vs h.1 g)
  plain-programme (discard x ∷ p) vs h g = (discards {x = x} (omega (arith, h.0, few.links)), plain-programme p vs h.1 g)

  plain-programmes : (k : ℕ) (ps : List (List Command)) → k + length ps ≤ 256 → Each (Each (Known s)) ps → Plain (programmes_values k ps)
  plain-programmes k [] l h = tt
  plain-programmes k (p ∷ ps) l h = (opens {x = k} (omega arith), plain-programme p (programmes_values (suc k) ps) h.0 (plain-programmes (suc k) ps (omega arith) h.1))

  -- the values of a bundle that is read from any bytes
  pub plain-bundle : (b : List ℕ) (x : Bundle) → read_bundle s b ≡ value x → Plain (bundle_values x)
  unfolding bundle_values
  plain-bundle b x e =
      let f = read-formed s b x e in
      plain-programmes 0 x.programmes (omega (arith, f.few, few.processors)) f.known

-- the values at index i
pub pair-at : (vs : List ℕ) (i : ℕ) → Plain (drop i vs) → i < length vs → (i + 1 < length vs) × Pair (get_or vs i 0) (get_or vs (i + 1) 0) × Plain (drop (i + 2) vs)
pair-at vs i h l = elim (dec_lt (i + 1) (length vs)) [ yes m ↦ both m | no m ↦ absurd (one (omega arith)) ]
  where
    both : i + 1 < length vs → (i + 1 < length vs) × Pair (get_or vs i 0) (get_or vs (i + 1) 0) × Plain (drop (i + 2) vs)
    both m =
        let e : drop i vs ≡ get_or vs i 0 ∷ get_or vs (i + 1) 0 ∷ drop (i + 2) vs = rw (drop-cons vs i 0 l, add-one, drop-cons vs (suc i) 0 (omega arith), add-two) in
        let q = subst Plain e h in
        (m, q.0, q.1)

    one : i + 1 ≡ length vs → ⊥
    one m =
        let e : drop i vs ≡ get_or vs i 0 ∷ [] = rw (drop-cons vs i 0 l, drop_of_length-le vs {i = suc i} (omega arith)) in
        subst Plain e h

-- what is put for such a command are its bytes
put-pair : (c x : ℕ) → Pair c x → put_bytes c x ≡ c ∷ operand_bytes (kind_of c) x
unfolding put_bytes is_message
put-pair c x (opens h) = let e : x % 256 ≡ x = omega arith in ap {B = List ℕ} (λ (y : ℕ). 0x50 ∷ y ∷ []) e
put-pair c x (runs h) = let e : x % 256 ≡ x = omega arith in ap {B = List ℕ} (λ (y : ℕ). 0x52 ∷ y ∷ []) e
put-pair c x (sends h) = refl
put-pair c x (receives h) = refl
put-pair c x (releases h) = let e : x % 256 ≡ x = omega arith in ap {B = List ℕ} (λ (y : ℕ). 0x46 ∷ y ∷ []) e
put-pair c x (discards h) = refl

pair-least : (c x : ℕ) → Pair c x → 1 ≤ length (operand_bytes (kind_of c) x)
pair-least c x (opens h) = omega arith
pair-least c x (runs h) = omega arith
pair-least c x (sends h) = omega arith
pair-least c x (receives h) = omega arith
pair-least c x (releases h) = omega arith
pair-least c x (discards h) = omega arith

-- the bytes of the values below i are written
pub record Putting (vs : List ℕ) (claim : ℕ) (old out : List ℕ) (at i : ℕ) : Type 0 where
  pub done : List ℕ
  pub place : i ≤ length vs
  pub size : length done ≡ at
  pub whole : done ++ value_bytes (drop i vs) claim ≡ value_bytes vs claim
  pub plain : Plain (drop i vs)
  pub here : out ≡ stored old 0 done
  pub room : length (value_bytes vs claim) ≤ length old

pub putting-starts : (vs : List ℕ) (claim : ℕ) (old : List ℕ) → Writable vs claim old → ((i : ℕ) → get_or vs i 0 < 65536) → claim < 4294967296 → Putting vs claim old old 0 0
putting-starts vs claim old w small c =
    let v = values-again w.sheet vs claim w.bundle small c w.reads in
    record {
      done = [];
      place = omega arith;
      size = refl;
      whole = refl;
      plain = subst Plain v.0 (plain-bundle w.sheet w.small (value_bytes vs claim) w.bundle w.reads);
      here = stored-none old;
      room = w.room;
    }

module _ {vs : List ℕ} {claim : ℕ} {old out : List ℕ} {at i : ℕ} (g : Putting vs claim old out at i) where
  left : at + length (value_bytes (drop i vs) claim) ≤ length old
  left = omega (arith, g.room, g.size, ap length g.whole, length-append g.done (value_bytes (drop i vs) claim))

  pub putting-long : length out ≡ length old
  putting-long = ap length g.here ∙ length-stored old 0 g.done (omega (arith, left, g.size))

  -- no value is left alone
  pub putting-even : length vs ≤ i + 1 → length vs ≤ i
  putting-even h = elim (dec_lt i (length vs)) [ yes m ↦ absurd (omega (arith, (pair-at vs i g.plain m).0)) | no m ↦ omega arith ]

  -- a command has its two values, and room for its bytes
  pub putting-next : i < length vs → (i + 1 < length vs) × (at + 3 ≤ length out)
  putting-next h =
      let p = pair-at vs i g.plain h in
      let y = get_or vs i 0 in
      let x = get_or vs (i + 1) 0 in
      let r = value_bytes (drop (i + 2) vs) claim in
      let e : length (value_bytes (drop i vs) claim) ≡ length (y ∷ (operand_bytes (kind_of y) x ++ r)) = ap length (values-at vs claim i p.0) in
      (p.0, omega (arith, putting-long, left, e, length-append (operand_bytes (kind_of y) x) r, some_bytes (drop (i + 2) vs) claim, pair-least y x p.1))

  pub putting-on : (last : List ℕ) (r : ℕ) → i < length vs → PutIs out last at (get_or vs i 0) (get_or vs (i + 1) 0) r → Putting vs claim old last r (i + 2)
  putting-on last r h u =
      let p = pair-at vs i g.plain h in
      let y = get_or vs i 0 in
      let x = get_or vs (i + 1) 0 in
      let t = value_bytes (drop (i + 2) vs) claim in
      let w = put_bytes y x in
      let e : value_bytes (drop i vs) claim ≡ w ++ t = values-at vs claim i p.0 ∙ ap (λ (b : List ℕ). b ++ t) (sym (put-pair y x p.1)) in
      record {
        done = g.done ++ w;
        place = omega (arith, p.0);
        size = length-append g.done w ∙ omega (arith, g.size, u.next);
        whole = append_assoc g.done w t ∙ ap (λ (b : List ℕ). g.done ++ b) (sym e) ∙ g.whole;
        plain = p.2;
        here = stored-then old out last 0 at g.done w g.here u.left (omega (arith, g.size)) (omega arith);
        room = g.room;
      }

  pub putting-last : length vs ≤ i → at + 5 ≤ length out
  putting-last h = omega (arith, putting-long, left, ap length (values-end vs claim i h))

  pub putting-ends : (last : List ℕ) → length vs ≤ i → last ≡ stored (set out at 0x5A) (at + 1) (number_bytes 4 claim)
      → last ≡ value_bytes vs claim ++ drop (length (value_bytes vs claim)) old
  unfolding written
  putting-ends last h e =
      let q = putting-last h in
      let a = stored_one out at 0x5A (omega arith) in
      let b = stored-then out (set out at 0x5A) last at (at + 1) (0x5A ∷ []) (number_bytes 4 claim) a e refl (omega arith) in
      let c = stored-then old out last 0 at g.done (claim_bytes claim) g.here b (omega (arith, g.size)) (omega arith) in
      let w : g.done ++ claim_bytes claim ≡ value_bytes vs claim = ap (λ (x : List ℕ). g.done ++ x) (sym (values-end vs claim i h)) ∙ g.whole in
      c ∙ ap (stored old 0) w ∙ front old (value_bytes vs claim)
