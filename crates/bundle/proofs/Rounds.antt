-- The bytes that are read as a bundle are that bundle's, and so are the values that they were written from; what such a bundle satisfies.
use Prim.Native.Nat.{ℕ, suc, ◌+◌, ◌≤◌, ◌<◌}
use mathlib.Core.Path.{◌≡◌, refl, sym, ap, ap₂, subst, ◌∙◌}
use mathlib.Core.Bool.{Bool, true, false, true≢false}
use mathlib.Core.Option.{Option, some}
use mathlib.Core.List.{List, [], ◌∷◌, ◌++◌, append_assoc, append-nil}
use native.Mathlib.Omega.{arith}
use borrow.Author.Tests.{ltb-false}
use lib.ListN.{length, get_or, take, drop, take-append-drop}
use lib.Seq.{drop-drop, take_all}
use lib.Dec.{ltb}
use Rattle.folds.specs.Folds.{pick}
use Rattle.folds.specs.Answers.{value, refused}
use Rattle.folds.proofs.Tests.{not-value}
use Rattle.numbers.specs.Number.{Bytes, number_at, number_bytes}
use Rattle.numbers.proofs.Laws.{number-of-bytes, drop-bytes}
use Rattle.commands.specs.Commands.{Outcome, go, judge}
use Rattle.commands.proofs.Going.{comes}
use Rattle.sheet.specs.Sheet.{Sheet}
use Rattle.bundle.specs.Bundle.{Command, run, send, receive, release, discard, Bundle, programme_count}
use Rattle.bundle.specs.Format.{Kind, claiming, kind_of, width, after, closes, ended, bundle_format, read_bundle}
use Rattle.bundle.specs.Writing.{programme_bytes, programmes_bytes, claim_bytes, bundle_bytes, programme_values, programmes_values, bundle_values, operand_bytes, value_bytes}
use Rattle.bundle.specs.Fits.{Formed, Fits}
use Rattle.bundle.proofs.Walks.{Keeps, arrives-all}
use Rattle.bundle.proofs.Steps.{Clear, none-clear}
use Rattle.bundle.proofs.Parts.{byte_of, kind-byte, claim-facts, Part, part-after, closing-byte, closing-kind, width_some, drop-operand, operand_from, operand-back, values-after, written_after, operand-again}

-- the end of a bundle that is read
pub ended-value : (ps : List (List Command)) (e : ℕ) (b : List ℕ) (x : Bundle) → ended ps e b ≡ value x → (length b ≤ 4) × (x ≡ record { programmes = ps; claim = number_at 4 b 0 })
unfolding ended
ended-value ps e b x h = by (ltb 4 (length b)) refl h
  where
    by : (t : Bool) → ltb 4 (length b) ≡ t → pick t (refused 24 (e + 5)) (value (record { programmes = ps; claim = number_at 4 b 0 })) ≡ value x
        → (length b ≤ 4) × (x ≡ record { programmes = ps; claim = number_at 4 b 0 })
    by true q r = not-value r
    by false q r = (ltb-false 4 (length b) q, cc)

-- a command's bytes, and what follows them
pub split-command : (b : List ℕ) (n : ℕ) → 0 < length b → b ≡ (get_or b 0 0 ∷ take n (drop 1 b)) ++ drop (1 + n) b
split-command [] n h = absurd (omega arith)
split-command (x ∷ b) n h =
    ap {B = List ℕ} (λ r. x ∷ r) (sym (take-append-drop n b)) ∙ ap {B = List ℕ} (λ r. x ∷ (take n b ++ r)) (drop-drop n 1 (x ∷ b))

splice : (P Q w r U : List ℕ) → Q ≡ P ++ w → P ++ (w ++ r) ≡ U → Q ++ r ≡ U
splice P Q w r U e f = ap (λ x. x ++ r) e ∙ append_assoc P w r ∙ f

module _ (s : Sheet) where
  -- a command that comes is of its byte, and nothing refuses it
  pub clear_of : (ps : List (List Command)) (b : List ℕ) (k : Kind) → judge (bundle_format s) ps b ≡ go k → Clear s ps k (drop 1 b)
  clear_of ps b k j = none-clear s ps k (drop 1 b) (comes (bundle_format s) ps b k j).clear

  kept-part : Keeps (bundle_format s) (λ ps e b. Part s ps)
  kept-part ps e b k o j h = part-after s ps k (drop 1 b) (clear_of ps b k j) h

  -- what a bundle satisfies that is read
  pub read-formed : (b : List ℕ) (x : Bundle) → read_bundle s b ≡ value x → Formed s x
  unfolding read_bundle
  read-formed b x h =
      let a = arrives-all (bundle_format s) (λ ps e b. Part s ps) kept-part x [] b h (record { few = omega arith; known = tt }) in
      let k : a.kind ≡ claiming = closing-kind a.kind a.last in
      let c = subst (λ (k : Kind). Clear s a.progress k (drop 1 a.bytes)) k (clear_of a.progress a.bytes a.kind a.judged) in
      let e = (ended-value a.progress a.offset (drop 1 a.bytes) x a.closed).1 in
      subst (λ (y : Bundle). Formed s y) (sym e)
      (record { busy = (claim-facts s a.progress (drop 1 a.bytes) c).0; few = a.kept.few; known = a.kept.known })

  -- what was read so far is bytes of b
  record Behind (b : List ℕ) (ps : List (List Command)) (c : List ℕ) : Type 0 where
    whole : programmes_bytes 0 ps ++ c ≡ b
    small : Bytes c

  kept-bytes : (b : List ℕ) → Keeps (bundle_format s) (λ ps e c. Behind b ps c)
  kept-bytes b ps e c k o j h =
      let m = comes (bundle_format s) ps c k j in
      let f = clear_of ps c k j in
      let q : byte_of k ∷ operand_bytes (some k) (operand_from k (drop 1 c)) ≡ get_or c 0 0 ∷ take (width k) (drop 1 c) =
      ap₂ (λ (x : ℕ) (r : List ℕ). x ∷ r) (sym (kind-byte (get_or c 0 0) k m.kind)) (operand-again k (drop 1 c) f.room (drop-bytes 1 c h.small))
      in
      record {
        whole =
            splice (programmes_bytes 0 ps) (programmes_bytes 0 (after ps k (drop 1 c))) (get_or c 0 0 ∷ take (width k) (drop 1 c)) (drop (1 + width k) c) b
            (written_after s ps k (drop 1 c) o f ∙ ap (λ r. programmes_bytes 0 ps ++ r) q)
            (ap (λ r. programmes_bytes 0 ps ++ r) (sym (split-command c (width k) m.more)) ∙ h.whole);
        small = drop-bytes (1 + width k) c h.small;
      }

  -- the bytes of what is read from bytes are those bytes
  pub bytes-again : (b : List ℕ) (x : Bundle) → Bytes b → read_bundle s b ≡ value x → bundle_bytes x ≡ b
  unfolding read_bundle bundle_bytes
  bytes-again b x y h =
      let a = arrives-all (bundle_format s) (λ ps e c. Behind b ps c) (kept-bytes b) x [] b h (record { whole = refl; small = y }) in
      let ps = a.progress in
      let c = a.bytes in
      let k : a.kind ≡ claiming = closing-kind a.kind a.last in
      let j : judge (bundle_format s) ps c ≡ go claiming = a.judged ∙ ap {B = Outcome Kind} go k in
      let m = comes (bundle_format s) ps c claiming j in
      let f = clear_of ps c claiming j in
      let e = ended-value ps a.offset (drop 1 c) x a.closed in
      let q : claim_bytes (number_at 4 (drop 1 c) 0) ≡ c =
      ap₂ (λ (x : ℕ) (r : List ℕ). x ∷ r) (sym (kind-byte (get_or c 0 0) claiming m.kind))
      (operand-again claiming (drop 1 c) f.room (drop-bytes 1 c a.kept.small) ∙ take_all 4 (drop 1 c) e.0)
      ∙ sym (first_byte c m.more)
      in
      ap bundle_bytes e.1 ∙ ap (λ r. programmes_bytes 0 ps ++ r) q ∙ a.kept.whole
    where
      first_byte : (c : List ℕ) → 0 < length c → c ≡ get_or c 0 0 ∷ drop 1 c
      first_byte [] h = absurd (omega arith)
      first_byte (x ∷ c) h = refl

  -- a claim that is read from bytes has four of them
  pub read_fits : (b : List ℕ) (x : Bundle) → Bytes b → read_bundle s b ≡ value x → Fits s x
  unfolding read_bundle number_at
  read_fits b x y h =
      let a = arrives-all (bundle_format s) (λ ps e c. Behind b ps c) (kept-bytes b) x [] b h (record { whole = refl; small = y }) in
      let e = (ended-value a.progress a.offset (drop 1 a.bytes) x a.closed).1 in
      let d = drop-bytes 1 a.bytes a.kept.small in
      let n : number_at 4 (drop 1 a.bytes) 0 < 4294967296 = omega (arith, d 0, d 1, d 2, d 3) in
      record { formed = read-formed b x h; claimed = subst (λ (y : Bundle). y.claim < 4294967296) (sym e) n }

  -- what was read so far was written from the first of these values
  record Told (vs : List ℕ) (claim : ℕ) (ps : List (List Command)) (c : List ℕ) : Type 0 where
    rest : List ℕ
    here : c ≡ value_bytes rest claim
    small : (i : ℕ) → get_or rest i 0 < 65536
    values : programmes_values 0 ps ++ rest ≡ vs
    bytes : programmes_bytes 0 ps ++ c ≡ value_bytes vs claim

  module _ (vs : List ℕ) (claim : ℕ) where
    told_more : (ps : List (List Command)) (k : Kind) (y x : ℕ) (r : List ℕ) → closes k ≡ false → kind_of y ≡ some k
        → Clear s ps k (operand_bytes (some k) x ++ value_bytes r claim) → ((i : ℕ) → get_or (y ∷ x ∷ r) i 0 < 65536)
        → programmes_values 0 ps ++ y ∷ x ∷ r ≡ vs → programmes_bytes 0 ps ++ y ∷ (operand_bytes (some k) x ++ value_bytes r claim) ≡ value_bytes vs claim
        → Told vs claim (after ps k (operand_bytes (some k) x ++ value_bytes r claim)) (drop (1 + width k) (y ∷ (operand_bytes (some k) x ++ value_bytes r claim)))
    told_more ps k y x r o q f small v b =
        let ops = operand_bytes (some k) x ++ value_bytes r claim in
        let same : operand_from k ops ≡ x = operand-back k x (value_bytes r claim) (small 1) in
        let byte : byte_of k ≡ y = sym (kind-byte y k q) in
        let d = drop-operand k y x (value_bytes r claim) in
        record {
          rest = r;
          here = d;
          small = λ i. small (suc (suc i));
          values =
              splice (programmes_values 0 ps) (programmes_values 0 (after ps k ops)) (y ∷ x ∷ []) r vs
              (values-after s ps k ops o f ∙ ap₂ (λ (a c : ℕ). programmes_values 0 ps ++ (a ∷ c ∷ [])) byte same) v;
          bytes =
              ap (λ z. programmes_bytes 0 (after ps k ops) ++ z) d
              ∙ splice (programmes_bytes 0 ps) (programmes_bytes 0 (after ps k ops)) (y ∷ operand_bytes (some k) x) (value_bytes r claim) (value_bytes vs claim)
              (written_after s ps k ops o f ∙ ap₂ (λ (a c : ℕ). programmes_bytes 0 ps ++ (a ∷ operand_bytes (some k) c)) byte same) b;
        }

    told-by : (ps : List (List Command)) (k : Kind) → closes k ≡ false → (c rest : List ℕ) → c ≡ value_bytes rest claim → judge (bundle_format s) ps c ≡ go k
        → ((i : ℕ) → get_or rest i 0 < 65536) → programmes_values 0 ps ++ rest ≡ vs → programmes_bytes 0 ps ++ c ≡ value_bytes vs claim
        → Told vs claim (after ps k (drop 1 c)) (drop (1 + width k) c)
    unfolding value_bytes
    told-by ps k o c [] h j small v b =
        let m = subst (λ (x : List ℕ). kind_of (get_or x 0 0) ≡ some k) h (comes (bundle_format s) ps c k j).kind in
        absurd (true≢false (sym (closing-byte k (sym (kind-byte 0x5A k m))) ∙ o))
    told-by ps k o c (y ∷ []) h j small v b =
        let m = subst (λ (x : List ℕ). Clear s ps k (drop 1 x)) h (clear_of ps c k j) in
        absurd (omega (arith, width_some k, m.room))
    told-by ps k o c (y ∷ x ∷ r) h j small v b =
        let q : kind_of y ≡ some k = subst (λ (z : List ℕ). kind_of (get_or z 0 0) ≡ some k) h (comes (bundle_format s) ps c k j).kind in
        let g : c ≡ y ∷ (operand_bytes (some k) x ++ value_bytes r claim) = h ∙ ap {B = List ℕ} (λ (z : Option Kind). y ∷ (operand_bytes z x ++ value_bytes r claim)) q in
        subst (λ (z : List ℕ). Told vs claim (after ps k (drop 1 z)) (drop (1 + width k) z)) (sym g)
        (told_more ps k y x r o q (subst (λ (z : List ℕ). Clear s ps k (drop 1 z)) g (clear_of ps c k j)) small v (sym (ap (λ (z : List ℕ). programmes_bytes 0 ps ++ z) g) ∙ b))

    kept-told : Keeps (bundle_format s) (λ ps e c. Told vs claim ps c)
    kept-told ps e c k o j h = told-by ps k o c h.rest h.here j h.small h.values h.bytes

    -- the values end where the claim is read
    told-end : (ps : List (List Command)) (c : List ℕ) (rest : List ℕ) → c ≡ value_bytes rest claim → judge (bundle_format s) ps c ≡ go claiming → length (drop 1 c) ≤ 4 → rest ≡ []
    unfolding value_bytes
    told-end ps c [] h j l = refl
    told-end ps c (y ∷ []) h j l =
        let m = subst (λ (x : List ℕ). Clear s ps claiming (drop 1 x)) h (clear_of ps c claiming j) in
        absurd (omega (arith, m.room))
    told-end ps c (y ∷ x ∷ r) h j l =
        let q : kind_of y ≡ some claiming = subst (λ (z : List ℕ). kind_of (get_or z 0 0) ≡ some claiming) h (comes (bundle_format s) ps c claiming j).kind in
        let g : c ≡ y ∷ (operand_bytes (some claiming) x ++ value_bytes r claim) = h ∙ ap {B = List ℕ} (λ (z : Option Kind). y ∷ (operand_bytes z x ++ value_bytes r claim)) q in
        absurd (omega (arith, subst (λ (z : List ℕ). length (drop 1 z) ≤ 4) g l, some_bytes r))
      where
        some_bytes : (r : List ℕ) → 1 ≤ length (value_bytes r claim)
        some_bytes [] = omega arith
        some_bytes (x ∷ []) = omega arith
        some_bytes (x ∷ y ∷ r) = omega arith

  -- what is read from a bundle that was written is that bundle
  pub values-again : (vs : List ℕ) (claim : ℕ) (x : Bundle) → ((i : ℕ) → get_or vs i 0 < 65536) → claim < 4294967296 → read_bundle s (value_bytes vs claim) ≡ value x
      → (bundle_values x ≡ vs) × (x.claim ≡ claim) × (bundle_bytes x ≡ value_bytes vs claim)
  unfolding read_bundle bundle_values bundle_bytes value_bytes
  values-again vs claim x small l h =
      let b = value_bytes vs claim in
      let a =
      arrives-all (bundle_format s) (λ ps e c. Told vs claim ps c) (kept-told vs claim) x [] b h
      (record { rest = vs; here = refl; small = small; values = refl; bytes = refl })
      in
      let ps = a.progress in
      let c = a.bytes in
      let t = a.kept in
      let k : a.kind ≡ claiming = closing-kind a.kind a.last in
      let j : judge (bundle_format s) ps c ≡ go claiming = a.judged ∙ ap {B = Outcome Kind} go k in
      let e = ended-value ps a.offset (drop 1 c) x a.closed in
      let r : t.rest ≡ [] = told-end vs claim ps c t.rest t.here j e.0 in
      let g : c ≡ claim_bytes claim = t.here ∙ ap (λ (z : List ℕ). value_bytes z claim) r in
      let n : number_at 4 (drop 1 c) 0 ≡ claim = ap (λ (z : List ℕ). number_at 4 (drop 1 z) 0) g ∙ number-of-bytes 4 claim [] l in
      let f : x ≡ record { programmes = ps; claim = claim } = e.1 ∙ ap (λ (z : ℕ). record { programmes = ps; claim = z }) n in (
        ap bundle_values f ∙ sym (append-nil (programmes_values 0 ps)) ∙ ap (λ (z : List ℕ). programmes_values 0 ps ++ z) (sym r) ∙ t.values,
        ap (λ (z : Bundle). z.claim) f,
        ap bundle_bytes f ∙ ap (λ (z : List ℕ). programmes_bytes 0 ps ++ z) (sym g) ∙ t.bytes,
      )

-- the values of a bundle are written as its bytes
values-tail : (k : ℕ) (ps : List (List Command)) (claim : ℕ) (p : List Command) → value_bytes (programmes_values k ps) claim ≡ programmes_bytes k ps ++ claim_bytes claim
    → value_bytes (programme_values p ++ programmes_values k ps) claim ≡ (programme_bytes p ++ programmes_bytes k ps) ++ claim_bytes claim
unfolding value_bytes
values-tail k ps claim [] h = h
values-tail k ps claim (run x ∷ p) h = ap {B = List ℕ} (λ z. 0x52 ∷ x ∷ z) (values-tail k ps claim p h)
values-tail k ps claim (send x ∷ p) h = ap {B = List ℕ} (λ z. 0x53 ∷ (number_bytes 2 x ++ z)) (values-tail k ps claim p h)
values-tail k ps claim (receive x ∷ p) h = ap {B = List ℕ} (λ z. 0x56 ∷ (number_bytes 2 x ++ z)) (values-tail k ps claim p h)
values-tail k ps claim (release x ∷ p) h = ap {B = List ℕ} (λ z. 0x46 ∷ x ∷ z) (values-tail k ps claim p h)
values-tail k ps claim (discard x ∷ p) h = ap {B = List ℕ} (λ z. 0x47 ∷ (number_bytes 2 x ++ z)) (values-tail k ps claim p h)

values-written : (k : ℕ) (ps : List (List Command)) (claim : ℕ) → value_bytes (programmes_values k ps) claim ≡ programmes_bytes k ps ++ claim_bytes claim
unfolding value_bytes
values-written k [] claim = refl
values-written k (p ∷ ps) claim = ap {B = List ℕ} (λ z. 0x50 ∷ k ∷ z) (values-tail (suc k) ps claim p (values-written (suc k) ps claim))

pub bytes-of-values : (b : Bundle) → value_bytes (bundle_values b) b.claim ≡ bundle_bytes b
unfolding bundle_values bundle_bytes
bytes-of-values b = values-written 0 b.programmes b.claim

-- a bundle of a sheet of few processors
pub few-programmes : (s : Sheet) (bundle : List ℕ) (b : Bundle) → read_bundle s bundle ≡ value b → s.processors ≤ 16 → programme_count b ≤ 16
unfolding programme_count
few-programmes s bundle b q l = omega (arith, (read-formed s bundle b q).few)
