-- What the programmes of a bundle must have: each task once (26), the right messages (31 to 33) and releases (37), and room in the store (28).
use Rattle.std.specs.Prelude.{ℕ, Bool, false, not, List, [], ◌∷◌, ◌≡◌, ltb, eqb}
use Rattle.std.proofs.Math.Option.{Option, none}
use Rattle.folds.specs.Folds.{pick, both, first, first_with, first_of, or_value}
use Rattle.sheet.specs.Sheet.{Sheet, task_count, link_count, source_of, target_of}
use Rattle.bundle.specs.Bundle.{Command, run, send, receive, Bundle, programme_count, programme_of}
use Rattle.admission.specs.Counting.{weigh, whole_of, whole, same, is, highest}
use Rattle.admission.specs.Releases.{at37}

-- 26: "task not run just once"
unfoldable pub not_once : Bundle → ℕ → Bool
not_once b t = not (eqb (whole b (is (run t))) 1)

-- the programme of k has c
unfoldable pub holds : Bundle → Command → ℕ → Bool
holds b c k = ltb 0 (whole_of b (is c) k)

-- the lowest processor whose programme has c
unfoldable pub home : Bundle → Command → ℕ
home b c = or_value (first (programme_count b) (holds b c)) 0

-- c stands before d: the first d has a c before it
unfoldable pub before : Command → Command → List Command → Bool
before c d [] = false
before c d (e ∷ es) = pick (same d e) false (pick (same c e) (ltb 0 (weigh (is d) es)) (before c d es))

-- both tasks of link l run on one processor
unfoldable pub inside : Sheet → Bundle → ℕ → Bool
inside s b l = eqb (home b (run (source_of s l))) (home b (run (target_of s l)))

-- 31: a link between processors "has not exactly one send in the whole bundle, or its send isn't after its source's run in that run's programme"; a link inside one
-- processor has a send: "a message on a link inside one processor is a fault of the send if any send names it"
unfoldable pub send_fault : Sheet → Bundle → ℕ → Bool
send_fault s b l =
    pick (inside s b l) (not (eqb (whole b (is (send l))) 0))
    (not (both (eqb (whole b (is (send l))) 1) (before (run (source_of s l)) (send l) (programme_of b (home b (run (source_of s l)))))))

-- 32: it has not exactly one receive, "or its receive isn't before its target's run in that run's programme"; inside one processor, "else of the receive"
unfoldable pub receive_fault : Sheet → Bundle → ℕ → Bool
receive_fault s b l =
    pick (inside s b l) (not (eqb (whole b (is (receive l))) 0))
    (not (both (eqb (whole b (is (receive l))) 1) (before (receive l) (run (target_of s l)) (programme_of b (home b (run (target_of s l)))))))

-- 33: inside one processor, "its source runs after its target"
unfoldable pub order_fault : Sheet → Bundle → ℕ → Bool
order_fault s b l = both (inside s b l) (not (before (run (source_of s l)) (run (target_of s l)) (programme_of b (home b (run (target_of s l))))))

-- "the send is looked at first, then the receive, then the order inside one processor"
unfoldable pub message_fault : Sheet → Bundle → ℕ → Option ℕ
message_fault s b l = first_of ((send_fault s b l, 31) ∷ (receive_fault s b l, 32) ∷ (order_fault s b l, 33) ∷ [])

-- 28: "compares the highest store in use of each programme with M"
unfoldable pub over_store : Sheet → Bundle → ℕ → Bool
over_store s b k = ltb s.limit (highest s (programme_of b k))

-- the place of each refusal, or none
unfoldable pub at26 : Sheet → Bundle → Option ℕ
at26 s b = first (task_count s) (not_once b)

-- "for the lowest link in fault": the number, and the link as place
unfoldable pub at_message : Sheet → Bundle → Option (ℕ × ℕ)
at_message s b = first_with (link_count s) (message_fault s b)

unfoldable pub at28 : Sheet → Bundle → Option ℕ
at28 s b = first (programme_count b) (over_store s b)

-- the published messages: 26, 31 to 33 and 37 don't apply
pub record Published (s : Sheet) (b : Bundle) : Type 0 where
  pub once : at26 s b ≡ none
  pub messages : at_message s b ≡ none
  pub releases : at37 s b ≡ none
