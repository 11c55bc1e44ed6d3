-- What the machine's functions give, by the ends of their parts.
use Prim.Native.Nat.{ℕ, zero, suc, ◌≤◌, ◌<◌}
use mathlib.Core.Path.{◌≡◌, refl, sym, ap, ◌∙◌}
use mathlib.Core.Bool.{Bool, true, false}
use mathlib.Core.List.{List}
use native.Mathlib.Omega.{arith}
use borrow.Author.Tests.{lt-ltb, le-ltb}
use lib.ListN.{length, replicate}
use lib.Dec.{ltb}
use Rattle.folds.specs.Folds.{pick, bit}
use Rattle.folds.specs.Answers.{refused, long_enough, number, place_or, cleared}
use Rattle.folds.proofs.Tests.{not-value}
use Rattle.workspace.specs.Area.{fixed}
use Rattle.sheet.specs.Sheet.{Sheet}
use Rattle.bundle.specs.Bundle.{Bundle}
use Rattle.machine.specs.Machine.{State, stamp_in}
use Rattle.stepping_machine.specs.Represents.{ChoiceIs, LeftIs, StampIs}
use Rattle.stepping_machine.specs.Starts.{starting}
use Rattle.zeldrupa.specs.Stepping.{start_answer, GivesState, state_number, GivesStep, GivesLeft, GivesProcessor, stamp_number, GivesStamp}
use Rattle.entry_points.specs.Parts.{number_of, place_of, StateIs, NumbersIs}
use Rattle.std.specs.Prelude.{Result}
use Rattle.refusals.specs.declared.Refusal.{Refusal}
use Rattle.zeldrupa.proofs.Gives.{short, enough, all-zero, untouched, number-of, place-of}

module _ (f : Sheet × Bundle → ℕ) (τ : Sheet → Bundle → State) (sheet bundle work state : List ℕ) where
  -- the work area is too short, or the state's
  given-13 : start_answer sheet bundle (length work) (length state) ≡ refused 13 fixed → (work' : List ℕ) → work' ≡ pick (ltb (length state) fixed) work (cleared fixed work)
      → GivesState f τ sheet bundle work work' state state fixed 13
  given-13 e work' w =
      record {
        returns = sym (ap number e);
        place = sym (ap (place_or f) e);
        area = w;
        long = refl;
        untouched = λ n at q. refl;
        keeps = λ s b q. not-value (sym e ∙ q);
      }

  pub given-short-work : length work < fixed → GivesState f τ sheet bundle work work state state fixed 13
  unfolding start_answer
  given-short-work h = given-13 (short (long_enough fixed (length state) (starting sheet bundle)) (length work) h) work (either_way (ltb (length state) fixed))
    where
      either_way : (t : Bool) → work ≡ pick t work (cleared fixed work)
      either_way true = refl
      either_way false = untouched work h

  pub given-short-state : fixed ≤ length work → length state < fixed → GivesState f τ sheet bundle work work state state fixed 13
  unfolding start_answer
  given-short-state h g =
      given-13 (enough (long_enough fixed (length state) (starting sheet bundle)) (length work) h ∙ short (starting sheet bundle) (length state) g) work
      (rw (lt-ltb (length state) fixed g))

  pub given-state : fixed ≤ length work → fixed ≤ length state → (mid work' state' : List ℕ) (o : Result ℕ Refusal) (p r : ℕ) → StateIs f τ sheet bundle work mid state state' o
      → work' ≡ replicate (length mid) 0 → (r ≡ number_of o) × (p ≡ place_of o) → GivesState f τ sheet bundle work work' state state' p r
  unfolding start_answer
  given-state h g mid work' state' o p r part z c =
      let e : start_answer sheet bundle (length work) (length state) ≡ starting sheet bundle =
      enough (long_enough fixed (length state) (starting sheet bundle)) (length work) h ∙ enough (starting sheet bundle) (length state) g in
      record {
        returns = c.0 ∙ ap number_of part.answer ∙ number-of f (starting sheet bundle) ∙ ap number (sym e);
        place = c.1 ∙ ap place_of part.answer ∙ place-of f (starting sheet bundle) ∙ ap (place_or f) (sym e);
        area = z ∙ all-zero work mid h part.long ∙ sym (ap (λ (t : Bool). pick t work (cleared fixed work)) (le-ltb (length state) fixed g));
        long = part.state_long;
        untouched = λ n at q. part.untouched n at (sym e ∙ q);
        keeps = λ s b q. part.keeps g s b (sym e ∙ q);
      }

-- the number that the functions without a work area return
number_short : (state : List ℕ) → length state < fixed → 13 ≡ state_number state
number_short state h = rw (lt-ltb (length state) fixed h)

number-long : (state : List ℕ) → fixed ≤ length state → 0 ≡ state_number state
number-long state h = rw (le-ltb (length state) fixed h)

module _ (state : List ℕ) (k : ℕ) where
  pub step-short : length state < fixed → GivesStep state state k fixed 13
  step-short h =
      record { returns = number_short state h; short = λ q. (refl, refl); long = refl; stays = λ q. refl; blank = λ q. absurd (omega arith); agrees = λ q. absurd (omega arith) }

  pub step_given : fixed ≤ length state → (state' : List ℕ) (r : Bool) (p : ℕ) → ChoiceIs state state' k r → p ≡ bit r → GivesStep state state' k p 0
  step_given h state' r p g e =
      record {
        returns = number-long state h;
        short = λ q. absurd (omega arith);
        long = g.steps.long;
        stays = λ q. g.steps.same (bit-zero r (sym e ∙ q));
        blank = λ q z. e ∙ ap bit (g.blank z);
        agrees = λ q s b σ x. let y = g.steps.agrees s b σ x in (e ∙ ap bit y.0, y.1);
      }
    where
      bit-zero : (t : Bool) → bit t ≡ 0 → t ≡ false
      bit-zero true q = absurd (omega arith)
      bit-zero false q = refl

module _ (state : List ℕ) where
  pub left-short : length state < fixed → GivesLeft state fixed 13
  left-short h = record { returns = number_short state h; short = λ q. refl; blank = λ q. absurd (omega arith); agrees = λ q. absurd (omega arith) }

  pub left-given : fixed ≤ length state → (p : ℕ) → LeftIs state p → GivesLeft state p 0
  left-given h p g =
      record { returns = number-long state h; short = λ q. absurd (omega arith); blank = λ q z. g.blank z; agrees = λ q s b σ x. g.is s b σ x }

module _ (state : List ℕ) (k : ℕ) (x : List ℕ) where
  pub processor-short : length state < fixed → GivesProcessor state k x x fixed 13
  processor-short h =
      record { returns = number_short state h; place = rw (lt-ltb (length state) fixed h); short = λ q. refl; agrees = λ q. absurd (omega arith) }

  pub processor-given : fixed ≤ length state → (x' : List ℕ) → NumbersIs state k x' → GivesProcessor state k x x' 0 0
  processor-given h x' g =
      record {
        returns = number-long state h;
        place = rw (le-ltb (length state) fixed h);
        short = λ q. absurd (omega arith);
        agrees = λ q s b σ y. g.is s b σ y;
      }

-- stamps
stamp-number : (r : ℕ) → r ≡ stamp_number (stamp_in r)
stamp-number zero = refl
stamp-number (suc r) = refl

module _ (state : List ℕ) (l : ℕ) where
  pub stamp-short : length state < fixed → GivesStamp state l fixed 13
  stamp-short h = record { returns = number_short state h; short = λ q. refl; agrees = λ q. absurd (omega arith) }

  pub stamp-given : fixed ≤ length state → (p : ℕ) → StampIs state l p → GivesStamp state l p 0
  stamp-given h p g =
      record {
        returns = number-long state h;
        short = λ q. absurd (omega arith);
        agrees = λ q s b σ x. stamp-number p ∙ ap stamp_number (g.is s b σ x);
      }
