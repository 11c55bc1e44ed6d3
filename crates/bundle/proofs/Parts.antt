-- What each kind of command that passes says: its byte, its operand, and the programmes with it.
use Prim.Native.Nat.{ℕ, suc, ◌+◌, ◌≤◌, ◌<◌}
use mathlib.Core.Path.{◌≡◌, refl, sym, ap, ◌∙◌}
use mathlib.Core.Bool.{true, false, not, false≢true, true≢false}
use mathlib.Core.Option.{none, some}
use mathlib.Core.List.{List, [], ◌∷◌, ◌++◌}
use native.Mathlib.Omega.{arith}
use borrow.Author.Tests.{eqb-true, eqb-false, leb-false, not-false, lt-ltb}
use lib.ListN.{length, get_or, take, drop, length-append}
use lib.Dec.{eqb}
use Rattle.folds.proofs.Tests.{either-none, not_some}
use Rattle.numbers.specs.Number.{Bytes, number_at}
use Rattle.numbers.proofs.Laws.{bytes-of-number, number-of-bytes}
use Rattle.commands.proofs.Bytes.{by_byte}
use Rattle.sheet.specs.Sheet.{Sheet, task_count, link_count}
use Rattle.bundle.specs.Bundle.{Command, run, send, receive, release, discard}
use Rattle.bundle.specs.Format.{Kind, opening, running, sending, receiving, releasing, discarding, claiming, kind_of, width, within, after, closes}
use Rattle.bundle.specs.Writing.{programmes_bytes, programmes_values, operand_bytes}
use Rattle.bundle.specs.Fits.{Known, Each}
use Rattle.bundle.specs.Kinds.{OfLink, sends, receives, discards, OfTask, runs, releases}
use Rattle.bundle.proofs.Steps.{Clear}
use Rattle.bundle.proofs.Coded.{bytes-within, bytes-open, values-within, values-open}

abbrev pub byte_of : Kind → ℕ
byte_of opening = 0x50
byte_of running = 0x52
byte_of sending = 0x53
byte_of receiving = 0x56
byte_of releasing = 0x46
byte_of discarding = 0x47
byte_of claiming = 0x5A

pub kind-byte : (c : ℕ) (k : Kind) → kind_of c ≡ some k → c ≡ byte_of k
kind-byte c k =
    by_byte byte_of c opening k _
    (by_byte byte_of c running k _
    (by_byte byte_of c sending k _
    (by_byte byte_of c receiving k _
    (by_byte byte_of c releasing k _ (by_byte byte_of c discarding k _ (by_byte byte_of c claiming k none not_some))))))

module _ (s : Sheet) (ps : List (List Command)) (b : List ℕ) where
  -- what was tested, as facts
  pub open-facts : Clear s ps opening b → (1 ≤ length b) × (get_or b 0 0 ≡ length ps) × (length ps < s.processors)
  open-facts c =
      let z = either-none (not (eqb (get_or b 0 0) (length ps))) _ c.numbered in
      let e = eqb-true (get_or b 0 0) (length ps) (not-false _ z.0) in
      (c.room, e, omega (arith, leb-false s.processors (get_or b 0 0) z.1))

  pub task-facts : {k : Kind} → OfTask k → Clear s ps k b → (0 < length ps) × (1 ≤ length b) × (get_or b 0 0 < task_count s)
  task-facts runs c = (omega (arith, eqb-false (length ps) 0 c.busy), c.room, leb-false (task_count s) (get_or b 0 0) c.declared)
  task-facts releases c = (omega (arith, eqb-false (length ps) 0 c.busy), c.room, leb-false (task_count s) (get_or b 0 0) c.declared)

  pub link-facts : {k : Kind} → OfLink k → Clear s ps k b → (0 < length ps) × (2 ≤ length b) × (number_at 2 b 0 < link_count s)
  link-facts sends c = (omega (arith, eqb-false (length ps) 0 c.busy), c.room, leb-false (link_count s) (number_at 2 b 0) c.declared)
  link-facts receives c = (omega (arith, eqb-false (length ps) 0 c.busy), c.room, leb-false (link_count s) (number_at 2 b 0) c.declared)
  link-facts discards c = (omega (arith, eqb-false (length ps) 0 c.busy), c.room, leb-false (link_count s) (number_at 2 b 0) c.declared)

  pub claim-facts : Clear s ps claiming b → (0 < task_count s → 0 < length ps) × (4 ≤ length b)
  claim-facts c = (λ h. let e : eqb (length ps) 0 ≡ false = rw (lt-ltb 0 (task_count s) h) at c.busy in omega (arith, eqb-false (length ps) 0 e), c.room)

pub length-within : (ps : List (List Command)) (c : Command) → length (within ps c) ≡ length ps
length-within [] c = refl
length-within (p ∷ []) c = refl
length-within (p ∷ q ∷ ps) c = ap suc (length-within (q ∷ ps) c)

pub each_append : {A : Type 0} (P : A → Type 0) (xs ys : List A) → Each P xs → Each P ys → Each P (xs ++ ys)
each_append P [] ys h k = k
each_append P (x ∷ xs) ys h k = (h.0, each_append P xs ys h.1 k)

pub each_within : (P : Command → Type 0) (ps : List (List Command)) (c : Command) → P c → Each (Each P) ps → Each (Each P) (within ps c)
each_within P [] c h k = tt
each_within P (p ∷ []) c h k = (each_append P p (c ∷ []) k.0 (h, tt), tt)
each_within P (p ∷ q ∷ ps) c h k = (k.0, each_within P (q ∷ ps) c h k.1)

-- the programmes so far can be a bundle's
pub record Part (s : Sheet) (ps : List (List Command)) : Type 0 where
  pub few : length ps ≤ s.processors
  pub known : Each (Each (Known s)) ps

part-within : (s : Sheet) (ps : List (List Command)) (c : Command) → Known s c → Part s ps → Part s (within ps c)
part-within s ps c k h = record { few = omega (arith, length-within ps c, h.few); known = each_within (Known s) ps c k h.known }

pub part-after : (s : Sheet) (ps : List (List Command)) (k : Kind) (b : List ℕ) → Clear s ps k b → Part s ps → Part s (after ps k b)
part-after s ps opening b c h =
    let f = open-facts s ps b c in
    record {
      few = omega (arith, length-append ps ([] ∷ []), f.2);
      known = each_append (Each (Known s)) ps ([] ∷ []) h.known (tt, tt);
    }
part-after s ps running b c h = part-within s ps (run (get_or b 0 0)) (task-facts s ps b runs c).2 h
part-after s ps sending b c h = part-within s ps (send (number_at 2 b 0)) (link-facts s ps b sends c).2 h
part-after s ps receiving b c h = part-within s ps (receive (number_at 2 b 0)) (link-facts s ps b receives c).2 h
part-after s ps releasing b c h = part-within s ps (release (get_or b 0 0)) (task-facts s ps b releases c).2 h
part-after s ps discarding b c h = part-within s ps (discard (number_at 2 b 0)) (link-facts s ps b discards c).2 h
part-after s ps claiming b c h = h

take-one : (b : List ℕ) → 1 ≤ length b → take 1 b ≡ get_or b 0 0 ∷ []
take-one [] h = absurd (omega arith)
take-one (x ∷ b) h = refl

-- only a claim closes, and every command has operands
pub closing-byte : (k : Kind) → byte_of k ≡ 0x5A → closes k ≡ true
closing-byte opening e = absurd (omega arith)
closing-byte running e = absurd (omega arith)
closing-byte sending e = absurd (omega arith)
closing-byte receiving e = absurd (omega arith)
closing-byte releasing e = absurd (omega arith)
closing-byte discarding e = absurd (omega arith)
closing-byte claiming e = refl

pub closing-kind : (k : Kind) → closes k ≡ true → k ≡ claiming
closing-kind opening e = absurd (false≢true e)
closing-kind running e = absurd (false≢true e)
closing-kind sending e = absurd (false≢true e)
closing-kind receiving e = absurd (false≢true e)
closing-kind releasing e = absurd (false≢true e)
closing-kind discarding e = absurd (false≢true e)
closing-kind claiming e = refl

pub width_some : (k : Kind) → 1 ≤ width k
width_some opening = omega arith
width_some running = omega arith
width_some sending = omega arith
width_some receiving = omega arith
width_some releasing = omega arith
width_some discarding = omega arith
width_some claiming = omega arith

-- a command given by its byte and its operand
pub drop-operand : (k : Kind) (y x : ℕ) (r : List ℕ) → drop (1 + width k) (y ∷ (operand_bytes (some k) x ++ r)) ≡ r
drop-operand opening y x r = refl
drop-operand running y x r = refl
drop-operand sending y x r = refl
drop-operand receiving y x r = refl
drop-operand releasing y x r = refl
drop-operand discarding y x r = refl
drop-operand claiming y x r = refl

-- the operand of a command of kind k, of which these bytes say it
abbrev pub operand_from : Kind → List ℕ → ℕ
operand_from opening b = get_or b 0 0
operand_from running b = get_or b 0 0
operand_from sending b = number_at 2 b 0
operand_from receiving b = number_at 2 b 0
operand_from releasing b = get_or b 0 0
operand_from discarding b = number_at 2 b 0
operand_from claiming b = number_at 4 b 0

pub operand-back : (k : Kind) (x : ℕ) (r : List ℕ) → x < 65536 → operand_from k (operand_bytes (some k) x ++ r) ≡ x
operand-back opening x r h = refl
operand-back running x r h = refl
operand-back sending x r h = number-of-bytes 2 x r h
operand-back receiving x r h = number-of-bytes 2 x r h
operand-back releasing x r h = refl
operand-back discarding x r h = number-of-bytes 2 x r h
operand-back claiming x r h = number-of-bytes 4 x r (omega arith)

-- the values and the bytes of the programmes with one command more, by its kind and operand
pub values-after : (s : Sheet) (ps : List (List Command)) (k : Kind) (b : List ℕ) → closes k ≡ false → Clear s ps k b
    → programmes_values 0 (after ps k b) ≡ programmes_values 0 ps ++ (byte_of k ∷ operand_from k b ∷ [])
values-after s ps opening b o c =
    values-open ps ∙ ap {B = List ℕ} (λ (x : ℕ). programmes_values 0 ps ++ (0x50 ∷ x ∷ [])) (sym (open-facts s ps b c).1)
values-after s ps running b o c = values-within ps (run (get_or b 0 0)) (task-facts s ps b runs c).0
values-after s ps sending b o c = values-within ps (send (number_at 2 b 0)) (link-facts s ps b sends c).0
values-after s ps receiving b o c = values-within ps (receive (number_at 2 b 0)) (link-facts s ps b receives c).0
values-after s ps releasing b o c = values-within ps (release (get_or b 0 0)) (task-facts s ps b releases c).0
values-after s ps discarding b o c = values-within ps (discard (number_at 2 b 0)) (link-facts s ps b discards c).0
values-after s ps claiming b o c = absurd (true≢false o)

pub written_after : (s : Sheet) (ps : List (List Command)) (k : Kind) (b : List ℕ) → closes k ≡ false → Clear s ps k b
    → programmes_bytes 0 (after ps k b) ≡ programmes_bytes 0 ps ++ (byte_of k ∷ operand_bytes (some k) (operand_from k b))
written_after s ps opening b o c =
    bytes-open ps ∙ ap {B = List ℕ} (λ (x : ℕ). programmes_bytes 0 ps ++ (0x50 ∷ x ∷ [])) (sym (open-facts s ps b c).1)
written_after s ps running b o c = bytes-within ps (run (get_or b 0 0)) (task-facts s ps b runs c).0
written_after s ps sending b o c = bytes-within ps (send (number_at 2 b 0)) (link-facts s ps b sends c).0
written_after s ps receiving b o c = bytes-within ps (receive (number_at 2 b 0)) (link-facts s ps b receives c).0
written_after s ps releasing b o c = bytes-within ps (release (get_or b 0 0)) (task-facts s ps b releases c).0
written_after s ps discarding b o c = bytes-within ps (discard (number_at 2 b 0)) (link-facts s ps b discards c).0
written_after s ps claiming b o c = absurd (true≢false o)

-- a command's bytes are the bytes that it was read from
pub operand-again : (k : Kind) (b : List ℕ) → width k ≤ length b → Bytes b → operand_bytes (some k) (operand_from k b) ≡ take (width k) b
operand-again opening b h y = sym (take-one b h)
operand-again running b h y = sym (take-one b h)
operand-again sending b h y = bytes-of-number 2 b 0 (omega arith) y
operand-again receiving b h y = bytes-of-number 2 b 0 (omega arith) y
operand-again releasing b h y = sym (take-one b h)
operand-again discarding b h y = bytes-of-number 2 b 0 (omega arith) y
operand-again claiming b h y = bytes-of-number 4 b 0 (omega arith) y
