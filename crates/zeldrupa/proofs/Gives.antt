-- From an inner part to the promise of the whole: 13 for a short area, else the part's answer and a work area that is cleared.
use Prim.Native.Nat.{ℕ, ◌<◌, ◌≤◌}
use mathlib.Core.Path.{◌≡◌, refl, ap, sym, ◌∙◌}
use mathlib.Core.List.{List}
use borrow.Author.Tests.{lt-ltb, le-ltb}
use lib.ListN.{length, replicate}
use Rattle.folds.specs.Answers.{Answer, value, refused, long_enough, number, place_or, written, cleared}
use Rattle.numbers.proofs.Puts.{kept}
use Rattle.workspace.specs.Area.{fixed}
use Rattle.sheet.specs.Sheet.{Sheet}
use Rattle.bundle.specs.Bundle.{Bundle}
use Rattle.entry_points.specs.Values.{task_table, link_table, board_after, command_table, claim_after, no_place, value_count}
use Rattle.formulas.specs.Weights.{weight_of}
use Rattle.zeldrupa.specs.Promises.{Ends, Gives, GivesSheet, GivesBundle, GivesWeight}
use Rattle.entry_points.specs.Parts.{outcome_of, number_of, place_of, EndIs, PartIs, SheetIs, BundleIs}
use Rattle.std.specs.Prelude.{Result}
use Rattle.refusals.specs.declared.Refusal.{Refusal}

-- an area that is too short, and one that is long enough
pub short : {A : Type 0} (a : Answer A) (n : ℕ) → n < fixed → long_enough fixed n a ≡ refused 13 fixed
short a n h = rw (lt-ltb n fixed h)

pub enough : {A : Type 0} (a : Answer A) (n : ℕ) → fixed ≤ n → long_enough fixed n a ≡ a
enough a n h = rw (le-ltb n fixed h)

pub untouched : (work : List ℕ) → length work < fixed → work ≡ cleared fixed work
unfolding cleared
untouched work h = rw (lt-ltb (length work) fixed h)

pub all-zero : (work mid : List ℕ) → fixed ≤ length work → length mid ≡ length work → replicate (length mid) 0 ≡ cleared fixed work
unfolding cleared
all-zero work mid h e = rw (le-ltb (length work) fixed h) (ap (λ (n : ℕ). replicate n 0) e)

-- number and place of an answer by those of an outcome
pub number-of : {A : Type 0} (f : A → ℕ) (a : Answer A) → number_of (outcome_of f a) ≡ number a
number-of f (value x) = refl
number-of f (refused n at) = refl

pub place-of : {A : Type 0} (f : A → ℕ) (a : Answer A) → place_of (outcome_of f a) ≡ place_or f a
place-of f (value x) = refl
place-of f (refused n at) = refl

module _ {A : Type 0} (f : A → ℕ) (a : Answer A) (work : List ℕ) where
  pub ends-short : length work < fixed → Ends f (long_enough fixed (length work) a) work work fixed 13
  ends-short h =
      let e = short a (length work) h in
      record { returns = sym (ap number e); place = sym (ap (place_or f) e); area = untouched work h }

  pub ends-part : (mid last : List ℕ) (o : Result ℕ Refusal) (p r : ℕ) → fixed ≤ length work → EndIs f a work mid o → last ≡ replicate (length mid) 0
      → (r ≡ number_of o) × (p ≡ place_of o) → Ends f (long_enough fixed (length work) a) work last p r
  ends-part mid last o p r h part z c =
      let e = sym (enough a (length work) h) in
      record {
        returns = c.0 ∙ ap number_of part.answer ∙ number-of f a ∙ ap number e;
        place = c.1 ∙ ap place_of part.answer ∙ place-of f a ∙ ap (place_or f) e;
        area = z ∙ all-zero work mid h part.long;
      }

module _ (a : Answer (List ℕ)) (work out : List ℕ) where
  pub gives-short : length work < fixed → Gives (long_enough fixed (length work) a) work work out out fixed 13
  gives-short h = record { ends = ends-short length a work h; output = kept out 13 fixed ∙ sym (ap (written out) (short a (length work) h)) }

  pub gives_part : (mid last out' : List ℕ) (o : Result ℕ Refusal) (p r : ℕ) → fixed ≤ length work → PartIs a work mid out out' o → last ≡ replicate (length mid) 0
      → (r ≡ number_of o) × (p ≡ place_of o) → Gives (long_enough fixed (length work) a) work last out out' p r
  gives_part mid last out' o p r h part z c =
      record {
        ends = ends-part length a work mid last o p r h record { answer = part.answer; long = part.long } z c;
        output = part.output ∙ ap (written out) (sym (enough a (length work) h));
      }

module _ (a : Answer Sheet) (work t l b : List ℕ) where
  pub gives-sheet-short : length work < fixed → GivesSheet (long_enough fixed (length work) a) work work t t l l b b fixed 13
  gives-sheet-short h =
      let e = short a (length work) h in
      record {
        ends = ends-short no_place a work h;
        tasks = kept t 13 fixed ∙ sym (ap (λ (x : Answer Sheet). written t (task_table x)) e);
        links = kept l 13 fixed ∙ sym (ap (λ (x : Answer Sheet). written l (link_table x)) e);
        board = sym (ap (board_after b) e);
      }

  pub gives-sheet : (mid last t' l' b' : List ℕ) (o : Result ℕ Refusal) (p r : ℕ) → fixed ≤ length work → SheetIs a work mid t t' l l' b b' o → last ≡ replicate (length mid) 0
      → (r ≡ number_of o) × (p ≡ place_of o) → GivesSheet (long_enough fixed (length work) a) work last t t' l l' b b' p r
  gives-sheet mid last t' l' b' o p r h part z c =
      let e = sym (enough a (length work) h) in
      record {
        ends = ends-part no_place a work mid last o p r h record { answer = part.answer; long = part.long } z c;
        tasks = part.tasks ∙ ap (λ (x : Answer Sheet). written t (task_table x)) e;
        links = part.links ∙ ap (λ (x : Answer Sheet). written l (link_table x)) e;
        board = part.board ∙ ap (board_after b) e;
      }

module _ (a : Answer Bundle) (work c : List ℕ) (t : ℕ) where
  pub gives-bundle-short : length work < fixed → GivesBundle (long_enough fixed (length work) a) work work c c t t fixed 13
  gives-bundle-short h =
      let e = short a (length work) h in
      record {
        ends = ends-short value_count a work h;
        commands = kept c 13 fixed ∙ sym (ap (λ (x : Answer Bundle). written c (command_table x)) e);
        claim = sym (ap (claim_after t) e);
      }

  pub gives-bundle : (mid last c' : List ℕ) (t' : ℕ) (o : Result ℕ Refusal) (p r : ℕ) → fixed ≤ length work → BundleIs a work mid c c' t t' o → last ≡ replicate (length mid) 0
      → (r ≡ number_of o) × (p ≡ place_of o) → GivesBundle (long_enough fixed (length work) a) work last c c' t t' p r
  gives-bundle mid last c' t' o p r h part z n =
      let e = sym (enough a (length work) h) in
      record {
        ends = ends-part value_count a work mid last o p r h record { answer = part.answer; long = part.long } z n;
        commands = part.commands ∙ ap (λ (x : Answer Bundle). written c (command_table x)) e;
        claim = part.claim ∙ ap (claim_after t) e;
      }

-- a formula's weight, or its refusal
module _ (text letters : List ℕ) where
  pub weight-given : (v : ℕ) → value v ≡ weight_of text letters → GivesWeight text letters v 0
  weight-given v e = record { returns = ap number e; place = ap (place_or (λ w. w)) e }

  pub weight-refused : (n at : ℕ) → refused n at ≡ weight_of text letters → GivesWeight text letters at n
  weight-refused n at e = record { returns = ap number e; place = ap (place_or (λ w. w)) e }
