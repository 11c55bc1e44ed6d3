-- The fresh state: programmes that stand in the words, and every processor before its first command.
use Prim.Native.Nat.{ℕ, ◌≤◌, ◌<◌}
use mathlib.Core.Path.{◌≡◌, sym, ap, ◌∙◌}
use mathlib.Core.Option.{Option, none}
use mathlib.Core.List.{List}
use native.Mathlib.Omega.{arith}
use lib.ListN.{length-replicate}
use Rattle.folds.proofs.Tests.{not_some}
use Rattle.folds.proofs.Lists.{get_d_replicate}
use Rattle.sheet.specs.Sheet.{Sheet, link_count}
use Rattle.bundle.specs.Bundle.{Bundle}
use Rattle.admission.specs.Counting.{whole, each}
use Rattle.machine.specs.Machine.{fresh_state, stamp_of, stamp_in}
use Rattle.machine.specs.Runs.{left}
use Rattle.machine.proofs.Runs.{fresh-processor, fresh-left}
use Rattle.stepping_machine.specs.Layout as lay
use Rattle.stepping_machine.specs.Words.{next_in, clock_in, store_in, first_in, stamped_in}
use Rattle.stepping_machine.specs.Represents.{Programmed, Represents}

module _ (s : Sheet) (b : Bundle) (w : List ℕ) where
  no-stamp-yet : (l : ℕ) → stamp_of (fresh_state s b) l ≡ none
  unfolding stamp_of
  no-stamp-yet l = get_d_replicate {A = Option ℕ} (link_count s) l none

  pub fresh-represented : Programmed s b w → ((k : ℕ) → k < 16 → next_in w k ≡ first_in w k) → ((k : ℕ) → k < 16 → clock_in w k ≡ 0) → ((k : ℕ) → k < 16 → store_in w k ≡ 0)
      → ((l : ℕ) → l < link_count s → stamped_in w l ≡ 0) → whole b each ≤ lay.longest → Represents s b w (fresh_state s b)
  fresh-represented h next clock store stamp few =
      let all : left b (fresh_state s b) each ≡ whole b each = fresh-left s b each in
      record {
        programmed = h;
        processors = length-replicate _ _;
        stamps = length-replicate _ _;
        inside = λ k l. rw (fresh-processor s b k) (omega arith);
        next = λ k l. rw (fresh-processor s b k) (omega (arith, next k l));
        clock = λ k l. rw (fresh-processor s b k) (clock k l);
        store = λ k l. rw (fresh-processor s b k) (store k l);
        stamp = λ l i. ap stamp_in (stamp l i) ∙ sym (no-stamp-yet l);
        room = λ k l. rw (fresh-processor s b k) (omega arith, omega arith);
        roomy = λ l x e. not_some (sym (no-stamp-yet l) ∙ e);
      }
