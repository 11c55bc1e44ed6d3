-- What refuses each kind of command by the bytes at its offset, and that the counts of a sheet decide it.
use Prim.Native.Nat.{ℕ, ◌+◌, ◌-◌, ◌<◌}
use mathlib.Core.Path.{◌≡◌, refl, ap, ◌∙◌}
use mathlib.Core.Bool.{true, false, not}
use mathlib.Core.Option.{Option, none, some}
use mathlib.Core.Logic.{⊎_elim}
use mathlib.Core.List.{List, [], ◌∷◌}
use native.Mathlib.Nat.{add-zero}
use borrow.Author.Tests.{ne_eqb, eqb-true}
use lib.ListN.{length, get_or, drop, length-drop, replicate, length-replicate}
use lib.Seq.{get_or-drop}
use lib.Dec.{eqb, ltb, leb}
use Rattle.folds.specs.Folds.{both, either, first_of}
use Rattle.folds.proofs.Tests.{either-part, either-none}
use Rattle.numbers.specs.Number.{number_at}
use Rattle.numbers.proofs.Laws.{number_at-drop}
use Rattle.commands.specs.Commands.{verdict, judge_kind, judge}
use Rattle.commands.proofs.Going.{judge-at}
use Rattle.sheet.specs.Sheet.{Sheet, no_task, no_link, task_count, link_count}
use Rattle.bundle.specs.Bundle.{Command}
use Rattle.bundle.specs.Format.{Kind, opening, running, sending, receiving, releasing, discarding, claiming, kind_of, fault, bundle_format}
use Rattle.bundle.specs.Counts.{Sized, fault_below, limit_of, count_format}
use Rattle.bundle.specs.Kinds.{is_message, is_task, OfLink, sends, receives, discards, OfTask, runs, releases}

module _ (m n : ℕ) (b : List ℕ) (at : ℕ) where
  pub fault-open : fault_below m n opening (drop (at + 1) b) ≡ first_of ((ltb (length b - (at + 1)) 1, 21) ∷ (either (not (eqb (get_or b (at + 1) 0) n)) (leb m (get_or b (at + 1) 0)), 23) ∷ [])
  unfolding fault_below
  fault-open = simp (length-drop, get_or-drop, add-zero)

  pub fault-run : fault_below m n running (drop (at + 1) b) ≡ first_of ((eqb n 0, 23) ∷ (ltb (length b - (at + 1)) 1, 21) ∷ (leb m (get_or b (at + 1) 0), 25) ∷ [])
  unfolding fault_below
  fault-run = simp (length-drop, get_or-drop, add-zero)

  pub fault-send : fault_below m n sending (drop (at + 1) b) ≡ first_of ((eqb n 0, 23) ∷ (ltb (length b - (at + 1)) 2, 21) ∷ (leb m (number_at 2 b (at + 1)), 25) ∷ [])
  unfolding fault_below
  fault-send = simp (length-drop, number_at-drop 2 (at + 1) b 0, add-zero)

  pub fault-claim : fault_below m n claiming (drop (at + 1) b) ≡ first_of ((both (ltb 0 m) (eqb n 0), 23) ∷ (ltb (length b - (at + 1)) 4, 21) ∷ [])
  unfolding fault_below
  fault-claim = simp length-drop

-- all commands of a link are refused alike, and all of a task
pub fault-link : {k : Kind} → OfLink k → (m n : ℕ) (b : List ℕ) → fault_below m n k b ≡ fault_below m n sending b
unfolding fault_below
fault-link sends m n b = refl
fault-link receives m n b = refl
fault-link discards m n b = refl

pub fault-task : {k : Kind} → OfTask k → (m n : ℕ) (b : List ℕ) → fault_below m n k b ≡ fault_below m n running b
unfolding fault_below
fault-task runs m n b = refl
fault-task releases m n b = refl

-- the kind of a byte, among those of which Q holds
pub record Found (Q : Kind → Type 0) (c : ℕ) : Type 0 where
  pub kind : Kind
  pub among : Q kind
  pub is : kind_of c ≡ some kind

pub message-kind : (c : ℕ) → is_message c ≡ true → Found OfLink c
unfolding is_message
message-kind c e =
    ⊎_elim (λ q. record { kind = sending; among = sends; is = ap kind_of (eqb-true c 0x53 q) })
    (λ f.
    ⊎_elim (λ q. record { kind = receiving; among = receives; is = ap kind_of (eqb-true c 0x56 q) })
    (λ q. record { kind = discarding; among = discards; is = ap kind_of (eqb-true c 0x47 q) }) (either-part (eqb c 0x56) (eqb c 0x47) f))
    (either-part (eqb c 0x53) (either (eqb c 0x56) (eqb c 0x47)) e)

pub task-kind : (c : ℕ) → is_task c ≡ true → Found OfTask c
unfolding is_task
task-kind c e =
    ⊎_elim (λ q. record { kind = running; among = runs; is = ap kind_of (eqb-true c 0x52 q) })
    (λ q. record { kind = releasing; among = releases; is = ap kind_of (eqb-true c 0x46 q) }) (either-part (eqb c 0x52) (eqb c 0x46) e)

-- no command byte
pub strange-kind : (c : ℕ) → is_message c ≡ false → is_task c ≡ false → (c ≡ 0x50 → ⊥) → (c ≡ 0x5A → ⊥) → kind_of c ≡ none
unfolding is_message is_task
strange-kind c m r o k =
    let f = either-none (eqb c 0x53) (either (eqb c 0x56) (eqb c 0x47)) m in
    let g = either-none (eqb c 0x56) (eqb c 0x47) f.1 in
    let h = either-none (eqb c 0x52) (eqb c 0x46) r in
    simp (ne_eqb _ _ o, h.0, f.0, g.0, h.1, g.1, ne_eqb _ _ k)

-- the command at an offset, by the kind of its first byte
module _ (p t l n : ℕ) (b : List ℕ) (at : ℕ) (more : at < length b) where
  pub judge-kind : (o : Option Kind) → kind_of (get_or b at 0) ≡ o → judge (count_format p t l) n (drop at b) ≡ judge_kind (count_format p t l) n o (drop (at + 1) b)
  judge-kind o e =
      judge-at (count_format p t l) n b at more ∙ ap (λ (o : Option Kind). judge_kind (count_format p t l) n o (drop (at + 1) b)) e

-- a sheet's faults are those of its counts
fault-sized : {s : Sheet} {p t l : ℕ} → Sized s p t l → (ps : List (List Command)) (n : ℕ) → length ps ≡ n → (k : Kind) (b : List ℕ) → fault s ps k b ≡ fault_below (limit_of p t l k) n k b
unfolding fault fault_below
fault-sized z ps n e opening b = rw (e, z.processors)
fault-sized z ps n e running b = rw (e, z.tasks)
fault-sized z ps n e sending b = rw (e, z.links)
fault-sized z ps n e receiving b = rw (e, z.links)
fault-sized z ps n e releasing b = rw (e, z.tasks)
fault-sized z ps n e discarding b = rw (e, z.links)
fault-sized z ps n e claiming b = rw (e, z.tasks)

verdict-sized : (s : Sheet) (p t l : ℕ) (k : Kind) (o : Option ℕ) → verdict (bundle_format s) k o ≡ verdict (count_format p t l) k o
verdict-sized s p t l k none = refl
verdict-sized s p t l k (some r) = refl

kind-sized : {s : Sheet} {p t l : ℕ} → Sized s p t l → (ps : List (List Command)) (n : ℕ) → length ps ≡ n → (o : Option Kind) (b : List ℕ) → judge_kind (bundle_format s) ps o b ≡ judge_kind (count_format p t l) n o b
kind-sized z ps n e none b = refl
kind-sized {s} {p} {t} {l} z ps n e (some k) b =
    ap (verdict (bundle_format s) k) (fault-sized z ps n e k b) ∙ verdict-sized s p t l k (fault_below (limit_of p t l k) n k b)

pub judge-sized : {s : Sheet} {p t l : ℕ} → Sized s p t l → (ps : List (List Command)) (n : ℕ) → length ps ≡ n → (b : List ℕ) → judge (bundle_format s) ps b ≡ judge (count_format p t l) n b
unfolding judge
judge-sized z ps n e [] = refl
judge-sized z ps n e (c ∷ b) = kind-sized z ps n e (kind_of c) b

-- some sheet has these counts
abbrev pub sheet_by : ℕ → ℕ → ℕ → Sheet
sheet_by p t l = record { processors = p; limit = 0; unpacking = 0; cube = false; tasks = replicate t no_task; links = replicate l no_link }

pub sized-by : (p t l : ℕ) → Sized (sheet_by p t l) p t l
unfolding task_count link_count
sized-by p t l = record { processors = refl; tasks = length-replicate t no_task; links = length-replicate l no_link }
