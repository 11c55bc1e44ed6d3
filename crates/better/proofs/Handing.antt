-- From two standings to what is handed back.
use Prim.Native.Nat.{ℕ, ◌-◌, ◌<◌, ◌≤◌}
use mathlib.Core.Path.{◌≡◌, refl, sym, ap, ap₂, subst, ◌∙◌}
use mathlib.Core.Option.{Option}
use mathlib.Core.List.{List, []}
use lib.ListN.{length, replicate}
use denote.Ref.{Bor}
use borrow.Author.Tests.{lt-ltb, le-ltb}
use borrow.Rule.Slice.PartMut.{mid_of}
use Rattle.folds.specs.Answers.{Answer, value, refused, and_then, number, place_or, cleared}
use Rattle.workspace.specs.Area.{fixed}
use Rattle.sheet.specs.Sheet.{Sheet}
use Rattle.sheet.specs.Tables.{sheet_in}
use Rattle.std.specs.Prelude.{⊤, Result, Ok, Err}
use Rattle.std.specs.Prelude.{Option as Maybe}
use Rattle.refusals.specs.Refusals.{refusal}
use Rattle.refusals.specs.declared.Refusal.{Refusal}
use Rattle.refusals.proofs.Results.{refused-by, value-by}
use Rattle.graph.specs.Graph.{read_sheet}
use Rattle.levelling.specs.Opened.{OpenIs}
use Rattle.levelling.proofs.Opens.{open-refusal, open-value}
use Rattle.admission.specs.Views.{ViewIs, Shown}
use Rattle.admission.specs.declared.view.View.{View}
use Rattle.admission.proofs.Areas.{known_in}
use Rattle.stepping_machine.specs.Layout as lay
use Rattle.checker.specs.Checker.{check}
use Rattle.checker.specs.Verdicts.{checked_bytes}
use Rattle.better.specs.Orders.{Rank}
use Rattle.better.specs.Ranks.{rank_by, rank_of}
use Rattle.better.specs.Choices.{Side, firstLent, secondLent, of_side, choice, better, better_answer, Handed, BetterIs}
use Rattle.better.specs.Parts.{rank_in, StandingIs, lent_of, choice_of, ComparedIs, ChosenIs}
use Rattle.better.specs.declared.standings.Standing.{Standing}
use Rattle.better.specs.declared.choosing.Lent.{Lent}
use Rattle.better.specs.declared.choosing.Lent.TheVariants.{First, Second}

pub both-judged : {sheet first second w u last : List ℕ} {v : View} {a b : Maybe Standing} (r : Result Lent Refusal) → StandingIs sheet first w u v a → StandingIs sheet second u last v b
    → r ≡ choice_of (choice (rank_in first a) (rank_in second b)) → ComparedIs sheet first second w last v r
both-judged r g h e =
    record {
      long = h.long ∙ g.long;
      is = λ s k. e ∙ ap₂ (λ (x y : Option Rank). choice_of (choice x y)) (g.is s k) (h.is s k);
    }

-- by the sheet that was read
better-of : (sheet first second : List ℕ) (s : Sheet) → read_sheet sheet ≡ value s → better sheet first second ≡ choice (rank_by first (checked_bytes s first)) (rank_by second (checked_bytes s second))
unfolding better rank_of check checked_bytes
better-of sheet first second s e = rw e

module _ (sheet first second work mid : List ℕ) {o : Result ⊤ Refusal} (h : OpenIs (read_sheet sheet) work mid o) where
  pub sheet-refused : (r : Refusal) → o ≡ Err r → ChosenIs sheet first second work mid (Err r)
  unfolding better
  sheet-refused r q =
      record {
        long = h.long;
        is = sym (ap (λ (x : Answer Sheet). choice_of (and_then x (λ s. choice (rank_of sheet first) (rank_of sheet second)))) (open-refusal h r q));
      }

  pub sheet-read : (last after : List ℕ) (v : View) (r : Result Lent Refusal) → o ≡ Ok tt → Shown sheet mid → ViewIs mid v
      → ComparedIs sheet first second (mid_of lay.board (length mid - lay.board) mid) last v r → length after ≡ length mid → ChosenIs sheet first second work after r
  sheet-read last after v r q y z g e =
      record {
        long = e ∙ h.long;
        is = g.is (sheet_in mid) (known_in mid sheet v y z) ∙ sym (ap choice_of (better-of sheet first second (sheet_in mid) (open-value h q)));
      }

-- 13, or the choice
module _ (sheet first second work : List ℕ) where
  pub area-short : length work < fixed → (Err (refusal 13 fixed) ≡ choice_of (better_answer sheet first second (length work))) × (work ≡ cleared fixed work)
  unfolding better_answer cleared
  area-short h = (rw (lt-ltb (length work) fixed h), rw (lt-ltb (length work) fixed h))

  pub area-cleared : (mid last : List ℕ) (r : Result Lent Refusal) → fixed ≤ length work → ChosenIs sheet first second work mid r → last ≡ replicate (length mid) 0
      → (r ≡ choice_of (better_answer sheet first second (length work))) × (last ≡ cleared fixed work)
  unfolding better_answer cleared
  area-cleared mid last r h g e =
      (rw (le-ltb (length work) fixed h) g.is, rw (le-ltb (length work) fixed h) (e ∙ ap (λ (n : ℕ). replicate n 0) g.long))

-- the answer by the code's choice
side-first : (x : Side) → First ≡ lent_of x → x ≡ firstLent
side-first firstLent e = refl
side-first secondLent e = cc

side-second : (x : Side) → Second ≡ lent_of x → x ≡ secondLent
side-second firstLent e = cc
side-second secondLent e = refl

first_of : (a : Answer Side) → Ok First ≡ choice_of a → a ≡ value firstLent
first_of a e = let v = value-by lent_of a First e in v.value ∙ ap value (side-first v.x v.is)

second-of : (a : Answer Side) → Ok Second ≡ choice_of a → a ≡ value secondLent
second-of a e = let v = value-by lent_of a Second e in v.value ∙ ap value (side-second v.x v.is)

module _ (sheet : List ℕ) (first second : Bor (List ℕ)) (work work' : List ℕ) (c : Result Lent Refusal)
    (h : (c ≡ choice_of (better_answer sheet first.now second.now (length work))) × (work' ≡ cleared fixed work)) where
  abbrev answer : Answer Side
  answer = better_answer sheet first.now second.now (length work)

  by_answer : (a : Answer Side) → answer ≡ a → (n p : ℕ) (r : Bor (List ℕ)) → n ≡ number a → p ≡ place_or (of_side (length first.now) (length second.now)) a
      → Handed first second a r → BetterIs sheet first second work work' n p r
  by_answer a e n p r x y z =
      record {
        returns = x ∙ sym (ap number e);
        place = y ∙ sym (ap (place_or (of_side (length first.now) (length second.now))) e);
        area = h.1;
        handed = subst (λ (b : Answer Side). Handed first second b r) (sym e) z;
      }

  pub is-first : c ≡ Ok First → BetterIs sheet first second work work' 0 (length first.now) first
  is-first e = by_answer (value firstLent) (first_of answer (sym e ∙ h.0)) 0 (length first.now) first refl refl refl

  pub is-second : c ≡ Ok Second → BetterIs sheet first second work work' 0 (length second.now) second
  is-second e = by_answer (value secondLent) (second-of answer (sym e ∙ h.0)) 0 (length second.now) second refl refl refl

  pub is-refused : (x : Refusal) (r : Bor (List ℕ)) → c ≡ Err x → r.ref_ptr ≡ first.ref_ptr → r.now ≡ [] → BetterIs sheet first second work work' x.number x.place r
  is-refused x r e p q = by_answer (refused x.number x.place) (refused-by lent_of answer x (sym e ∙ h.0)) x.number x.place r refl refl (p, q)
