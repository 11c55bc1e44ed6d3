-- Commands of a bundle copied as values: what is copied so far, one command more, and the end.
use Prim.Native.Nat.{ℕ, zero, suc, ◌+◌, ◌-◌, ◌%◌, ◌<◌, ◌≤◌}
use mathlib.Core.Path.{◌≡◌, refl, sym, ap, ap₂, ◌∙◌}
use mathlib.Core.Bool.{true, false}
use mathlib.Core.List.{List, [], ◌∷◌, ◌++◌, append_assoc, append-nil}
use native.Mathlib.Omega.{arith}
use lib.ListN.{length, get_or, drop, set, length-append, length-drop}
use lib.Seq.{get_or-drop, drop-drop}
use Rattle.folds.specs.Answers.{value}
use Rattle.numbers.specs.Number.{Bytes, number_at, number_bytes, stored}
use Rattle.numbers.proofs.Laws.{number_at-drop, number_at-cons, number-of-bytes, length-stored, stored-two, stored-then, stored-none}
use Rattle.sheet.specs.Sheet.{Sheet}
use Rattle.bundle.specs.Bundle.{Bundle}
use Rattle.bundle.specs.Format.{kind_of, read_bundle}
use Rattle.bundle.specs.Writing.{bundle_values, operand_bytes, value_bytes}
use Rattle.bundle.specs.Kinds.{is_message, size_by}
use Rattle.bundle_writer.specs.Writes.{Small}
use Rattle.bundle_writer.specs.Copies.{Copyable, CopyIs, operand_in}
use Rattle.bundle.proofs.Rounds.{read_fits, bytes-again, values-again, bytes-of-values}
use Rattle.bundle_writer.proofs.Plain.{Pair, opens, runs, sends, receives, releases, discards, Plain, plain-bundle}

plain-long : (vs : List ℕ) (claim : ℕ) → Plain vs → 5 ≤ length (value_bytes vs claim)
unfolding value_bytes
plain-long [] claim h = omega arith
plain-long (c ∷ []) claim h = absurd h
plain-long (c ∷ x ∷ vs) claim h = omega (arith, length-append (operand_bytes (kind_of c) x) (value_bytes vs claim), plain-long vs claim h.1)

plain-small : (vs : List ℕ) → Plain vs → (i : ℕ) → get_or vs i 0 < 65536
plain-small [] h i = omega arith
plain-small (c ∷ []) h i = absurd h
plain-small (c ∷ x ∷ vs) h zero = byte c x h.0
  where
    byte : (c x : ℕ) → Pair c x → c < 65536
    byte c x (opens l) = omega arith
    byte c x (runs l) = omega arith
    byte c x (sends l) = omega arith
    byte c x (receives l) = omega arith
    byte c x (releases l) = omega arith
    byte c x (discards l) = omega arith
plain-small (c ∷ x ∷ vs) h (suc zero) = operand c x h.0
  where
    operand : (c x : ℕ) → Pair c x → x < 65536
    operand c x (opens l) = omega arith
    operand c x (runs l) = omega arith
    operand c x (sends l) = l
    operand c x (receives l) = l
    operand c x (releases l) = omega arith
    operand c x (discards l) = l
plain-small (c ∷ x ∷ vs) h (suc (suc i)) = plain-small vs h.1 i

-- the first of two bytes
pub low_byte : (b : List ℕ) (i : ℕ) → get_or b i 0 < 256 → number_at 2 b i % 256 ≡ get_or b i 0
unfolding number_at
low_byte b i h = omega arith

-- the command of the values c and x at offset o, and the bytes r behind it
record Found (b : List ℕ) (o c x : ℕ) (r : List ℕ) : Type 0 where
  byte : get_or b o 0 ≡ c
  operand : operand_in b o ≡ x
  behind : drop (o + size_by c) b ≡ r
  room : o + size_by c + length r ≡ length b
  least : 2 ≤ size_by c
  most : size_by c ≤ 3

module _ (b : List ℕ) (o c x : ℕ) (r : List ℕ) where
  byte_at : (d : List ℕ) → drop o b ≡ d → get_or b o 0 ≡ get_or d 0 0
  byte_at d e = let z : o + 0 ≡ o = omega arith in sym (get_or-drop o b 0 0 ∙ ap (λ (i : ℕ). get_or b i 0) z) ∙ ap (λ (y : List ℕ). get_or y 0 0) e

  found-short : is_message c ≡ false → drop o b ≡ c ∷ x ∷ r → Found b o c x r
  unfolding operand_in size_by
  found-short m e =
      let y : get_or b o 0 ≡ c = byte_at (c ∷ x ∷ r) e in
      let z : get_or b (o + 1) 0 ≡ x = sym (get_or-drop o b 1 0) ∙ ap (λ (d : List ℕ). get_or d 1 0) e in
      let q : size_by c ≡ 2 = rw m in
      let n : length b - o ≡ suc (suc (length r)) = sym (length-drop o b) ∙ ap length e in
      record {
        byte = y;
        operand = rw (y, m) z;
        behind = ap (λ (i : ℕ). drop (o + i) b) q ∙ sym (drop-drop 2 o b) ∙ ap (drop 2) e;
        room = omega arith;
        least = omega arith;
        most = omega arith;
      }

  found-message : is_message c ≡ true → x < 65536 → drop o b ≡ c ∷ (number_bytes 2 x ++ r) → Found b o c x r
  unfolding operand_in size_by
  found-message m h e =
      let y : get_or b o 0 ≡ c = byte_at (c ∷ (number_bytes 2 x ++ r)) e in
      let z : number_at 2 b (o + 1) ≡ x =
      sym (number_at-drop 2 o b 1) ∙ ap (λ (d : List ℕ). number_at 2 d 1) e ∙ number_at-cons 2 c (number_bytes 2 x ++ r) 0 ∙ number-of-bytes 2 x r h
      in
      let q : size_by c ≡ 3 = rw m in
      let n : length b - o ≡ suc (suc (suc (length r))) = sym (length-drop o b) ∙ ap length e in
      record {
        byte = y;
        operand = rw (y, m) z;
        behind = ap (λ (i : ℕ). drop (o + i) b) q ∙ sym (drop-drop 3 o b) ∙ ap (drop 3) e;
        room = omega arith;
        least = omega arith;
        most = omega arith;
      }

found : (b : List ℕ) (o c x : ℕ) (r : List ℕ) → Pair c x → drop o b ≡ c ∷ (operand_bytes (kind_of c) x ++ r) → Found b o c x r
unfolding is_message
found b o c x r (opens h) e = found-short b o 0x50 x r refl e
found b o c x r (runs h) e = found-short b o 0x52 x r refl e
found b o c x r (sends h) e = found-message b o 0x53 x r refl h e
found b o c x r (receives h) e = found-message b o 0x56 x r refl h e
found b o c x r (releases h) e = found-short b o 0x46 x r refl e
found b o c x r (discards h) e = found-message b o 0x47 x r refl h e

-- the values of the commands below an offset are copied
pub record Copying (b old out : List ℕ) (end at i : ℕ) : Type 0 where
  pub values : List ℕ
  pub claim : ℕ
  pub done : List ℕ
  pub rest : List ℕ
  pub closed : end + 5 ≡ length b
  pub behind : drop at b ≡ value_bytes rest claim
  pub whole : done ++ rest ≡ values
  pub plain : Plain rest
  pub size : length done ≡ i
  pub here : out ≡ stored old 0 done
  pub room : length values ≤ length old
  pub is : (s : Sheet) → Small s → (x : Bundle) → read_bundle s b ≡ value x → bundle_values x ≡ values

module _ (b old : List ℕ) (y : Bytes b) (w : Copyable b old) where
  own : value_bytes (bundle_values w.bundle) w.bundle.claim ≡ b
  own = bytes-of-values w.bundle ∙ bytes-again w.sheet b w.bundle y w.reads

  own-plain : Plain (bundle_values w.bundle)
  own-plain = plain-bundle w.sheet w.small b w.bundle w.reads

  -- a bundle has at least its claim
  pub copy-long : 5 ≤ length b
  copy-long = omega (arith, plain-long (bundle_values w.bundle) w.bundle.claim own-plain, ap length own)

  -- another sheet reads the same values
  same-values : (s : Sheet) → Small s → (x : Bundle) → read_bundle s b ≡ value x → bundle_values x ≡ bundle_values w.bundle
  same-values s m x e =
      let q : value_bytes (bundle_values x) x.claim ≡ b = bytes-of-values x ∙ bytes-again s b x y e in
      let f = read_fits s b x y e in
      sym
      (values-again w.sheet (bundle_values x) x.claim w.bundle (plain-small (bundle_values x) (plain-bundle s m b x e)) f.claimed
      (ap (read_bundle w.sheet) q ∙ w.reads)
      ).0

  pub copying-starts : (end : ℕ) → end + 5 ≡ length b → Copying b old old end 0 0
  copying-starts end e =
      record {
        values = bundle_values w.bundle;
        claim = w.bundle.claim;
        done = [];
        rest = bundle_values w.bundle;
        closed = e;
        behind = sym own;
        whole = refl;
        plain = own-plain;
        size = refl;
        here = stored-none old;
        room = w.room;
        is = same-values;
      }

module _ {b old out : List ℕ} {end at i : ℕ} (g : Copying b old out end at i) where
  pub copying-long : length out ≡ length old
  copying-long = ap length g.here ∙ length-stored old 0 g.done (omega (arith, g.room, ap length g.whole, length-append g.done g.rest))

  -- the next command
  record Ahead : Type 0 where
    command : ℕ
    operand : ℕ
    tail : List ℕ
    split : g.rest ≡ command ∷ operand ∷ tail
    sound : Plain tail
    there : Found b at command operand (value_bytes tail g.claim)

  ahead : at < end → Ahead
  unfolding value_bytes
  ahead h = by g.rest refl g.plain
    where
      by : (r : List ℕ) → g.rest ≡ r → Plain r → Ahead
      by [] e p = absurd (omega (arith, g.closed, length-drop at b, ap length (g.behind ∙ ap (λ (v : List ℕ). value_bytes v g.claim) e)))
      by (c ∷ []) e p = absurd p
      by (c ∷ x ∷ r) e p =
          record {
            command = c;
            operand = x;
            tail = r;
            split = e;
            sound = p.1;
            there = found b at c x (value_bytes r g.claim) p.0 (g.behind ∙ ap (λ (v : List ℕ). value_bytes v g.claim) e);
          }

  pub copying-room : at < end → (at + 3 ≤ length b) × (i + 2 ≤ length out) × (at + size_by (get_or b at 0) ≤ length b) × (2 ≤ size_by (get_or b at 0))
  copying-room h =
      let a = ahead h in
      let f = a.there in
      let k : size_by (get_or b at 0) ≡ size_by a.command = ap size_by f.byte in (
        omega (arith, f.room, f.least, plain-long a.tail g.claim a.sound),
        omega (arith, copying-long, g.room, g.size, ap length g.whole, length-append g.done g.rest, ap length a.split),
        omega (arith, f.room),
        omega (arith, f.least),
      )

  pub copying-on : at < end → (x : ℕ) → x ≡ operand_in b at → Copying b old (set (set out i (get_or b at 0)) (i + 1) x) end (at + size_by (get_or b at 0)) (i + 2)
  copying-on h x e =
      let a = ahead h in
      let f = a.there in
      let m = copying-room h in
      let c = get_or b at 0 in
      let q : g.rest ≡ c ∷ x ∷ a.tail = a.split ∙ ap₂ (λ (u v : ℕ). u ∷ v ∷ a.tail) (sym f.byte) (sym (e ∙ f.operand)) in
      record {
        values = g.values;
        claim = g.claim;
        done = g.done ++ (c ∷ x ∷ []);
        rest = a.tail;
        closed = g.closed;
        behind = ap (λ (k : ℕ). drop (at + size_by k) b) f.byte ∙ f.behind;
        whole = append_assoc g.done (c ∷ x ∷ []) a.tail ∙ ap (λ (v : List ℕ). g.done ++ v) (sym q) ∙ g.whole;
        plain = a.sound;
        size = length-append g.done (c ∷ x ∷ []) ∙ omega (arith, g.size);
        here = stored-then old out _ 0 i g.done (c ∷ x ∷ []) g.here (stored-two out i c x m.1) (omega (arith, g.size)) (omega arith);
        room = g.room;
        is = g.is;
      }

  pub copying-ends : end ≤ at → CopyIs b old out
  unfolding value_bytes stored
  copying-ends h = record { left = λ s m x e. by x g.rest refl g.plain (g.is s m x e) }
    where
      by : (x : Bundle) (r : List ℕ) → g.rest ≡ r → Plain r → bundle_values x ≡ g.values → out ≡ bundle_values x ++ drop (length (bundle_values x)) old
      by x [] e p f =
          let q : g.done ≡ bundle_values x = sym (append-nil g.done) ∙ ap (λ (v : List ℕ). g.done ++ v) (sym e) ∙ g.whole ∙ sym f in
          let k : 0 + length (bundle_values x) ≡ length (bundle_values x) = omega arith in
          g.here ∙ ap (stored old 0) q ∙ ap (λ (n : ℕ). bundle_values x ++ drop n old) k
      by x (c ∷ []) e p f = absurd p
      by x (c ∷ z ∷ r) e p f =
          absurd
          (omega (
            arith,
            g.closed,
            length-drop at b,
            ap length (g.behind ∙ ap (λ (v : List ℕ). value_bytes v g.claim) e),
            length-append (operand_bytes (kind_of c) z) (value_bytes r g.claim),
            plain-long r g.claim p.1,
          ))
