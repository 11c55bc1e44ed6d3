-- The pass: an accepted bundle comes out accepted, with the same claim and no more store in use at any moment.
use Prim.Native.Nat.{ℕ, suc, ◌≤◌, ◌<◌}
use native.Mathlib.Omega.{arith}
use mathlib.Core.Bool.{Bool, true, false, not}
use mathlib.Core.Option.{none}
use mathlib.Core.Path.{◌≡◌, refl, sym, ap, ap₂, ◌∙◌}
use mathlib.Core.Logic.{⊎_elim}
use mathlib.Core.List.{List, [], ◌∷◌, ◌++◌, map}
use lib.ListN.{get_or, take}
use lib.Dec.{eqb}
use borrow.Author.Tests.{eqb-true, ne_eqb}
use Rattle.folds.specs.Folds.{pick, bit}
use Rattle.folds.specs.Answers.{value, refused}
use Rattle.folds.proofs.Laws.{term-le-sum}
use Rattle.sheet.specs.Sheet.{Sheet, task_count, source_of, target_of}
use Rattle.bundle.specs.Bundle.{Command, run, send, receive, Bundle, programme_count, programme_of}
use Rattle.admission.specs.Counting.{weigh, whole_of, whole, is, in_use}
use Rattle.admission.specs.Releases.{is_release, frees}
use Rattle.admission.specs.Messages.{not_once, home, before, at26, at_message, Published}
use Rattle.admission.specs.Unsplit.{inside_ok, across_ok, link_ok}
use Rattle.admission.proofs.Weights.{programme-or, weigh-append}
use Rattle.admission.proofs.Splits.{link-right, right-links}
use Rattle.admission.proofs.Rights.{right-all}
use Rattle.machine.specs.Machine.{processor_of}
use Rattle.machine.specs.Runs.{fresh_run, run_of}
use Rattle.machine.proofs.Steps.{Sound, sound-step}
use Rattle.machine.proofs.Runs.{keeps, fresh-sound}
use Rattle.checker.specs.Checker.{checked}
use Rattle.checker.proofs.Accepted.{Passes, accepted, passes}
use Rattle.releasing.specs.Releasing.{releases_at, rest_with, released, releasing, passed}
use Rattle.bundle.specs.Fits.{Each}
use Rattle.releasing.proofs.Programme.{Plain, block-releases, own, own-blind, is-blind, released-before, released-right, place, released-use}
use Rattle.releasing.proofs.Running.{first_cong, released-rest, with, programme-with, whole_with, home-with, beside-leads, beside-fresh, beside-left, beside-latest}

-- no release anywhere
plain-list : (q : List Command) → weigh frees q ≡ 0 → Each Plain q
unfolding weigh
plain-list [] h = tt
plain-list (c ∷ q) h = (go (is_release c) refl, plain-list q (omega arith))
  where
    go : (u : Bool) → is_release c ≡ u → is_release c ≡ false
    go false e = e
    go true e = absurd (omega (arith, ap bit e))

pub plain-all : (b : Bundle) → whole b frees ≡ 0 → (k : ℕ) → Each Plain (programme_of b k)
unfolding whole whole_of
plain-all b h k = ⊎_elim (λ l. plain-list (programme_of b k) (omega (arith, term-le-sum (programme_count b) (whole_of b frees) k l))) (λ q. rw q tt) (programme-or b k)

module _ (s : Sheet) (b : Bundle) where
  before-with : (c d : Command) → is_release c ≡ false → is_release d ≡ false → (k : ℕ) → before c d (programme_of (with s b) k) ≡ before c d (programme_of b k)
  before-with c d g h k = ap (before c d) (programme-with s b k) ∙ released-before s (programme_of b k) c d g h

  once-with : at26 s (with s b) ≡ at26 s b
  unfolding at26 not_once
  once-with = first_cong (task_count s) (not_once (with s b)) (not_once b) (λ t. ap (λ (n : ℕ). not (eqb n 1)) (whole_with s b (is (run t)) (is-blind (run t) refl)))

  link-with :
      (l : ℕ) → link_ok s (with s b) l (home (with s b) (run (source_of s l))) (home (with s b) (run (target_of s l))) ≡ link_ok s b l (home b (run (source_of s l))) (home b (run (target_of s l)))
  unfolding inside_ok across_ok
  link-with l =
      rw (
        home-with s b (run (source_of s l)) refl,
        home-with s b (run (target_of s l)) refl,
        whole_with s b (is (send l)) (is-blind (send l) refl),
        whole_with s b (is (receive l)) (is-blind (receive l) refl),
        before-with (run (source_of s l)) (run (target_of s l)) refl refl (home b (run (target_of s l))),
        before-with (run (source_of s l)) (send l) refl refl (home b (run (source_of s l))),
        before-with (receive l) (run (target_of s l)) refl refl (home b (run (target_of s l))),
      )

  messages-with : at_message s b ≡ none → at_message s (with s b) ≡ none
  messages-with h = right-links s (with s b) (λ l m. link-with l ∙ link-right s b h l m)

  module _ (plain : (k : ℕ) → Each Plain (programme_of b k)) where
    pub published-with : Published s b → Published s (with s b)
    published-with h =
        record {
          once = once-with ∙ h.once;
          messages = messages-with h.messages;
          releases = right-all s (with s b) (λ k. rw (programme-with s b k) (released-right s (programme_of b k) (plain k)));
        }

    use-with : (k i : ℕ) → in_use s (programme_of (with s b) k) i ≤ in_use s (programme_of b k) (place s (programme_of b k) (plain k) i).n
    use-with k i = rw (programme-with s b k) (released-use s (programme_of b k) (plain k) i)

    pub passes-with : Passes s b → Passes s (with s b)
    passes-with p =
        let x = beside-leads s b plain p.leads (beside-fresh s b) in
        record {
          published = published-with p.published;
          within = λ k i. omega (arith, use-with k i, p.within k (place s (programme_of b k) (plain k) i).n);
          end = x.0;
          leads = x.1.0;
          over = beside-left s b x.1.1 p.over;
          claimed = beside-latest s b x.1.1 ∙ p.claimed;
        }

    -- at every moment of every run: the store in use is no more than that of the old programme behind as many of its own commands
    pub never_more : Published s b → (ks : List ℕ) (k : ℕ) →
        (n : ℕ) × ((weigh own (take (processor_of (run_of s (with s b) ks).state k).position (programme_of (with s b) k)) ≡ weigh own (take n (programme_of b k)))
        × ((processor_of (run_of s (with s b) ks).state k).store ≤ in_use s (programme_of b k) n))
    unfolding run_of
    never_more h ks k =
        let j = (processor_of (run_of s (with s b) ks).state k).position in
        let m = place s (programme_of b k) (plain k) j in
        let sound : Sound s (with s b) (run_of s (with s b) ks).state =
        keeps s (with s b) (λ r. Sound s (with s b) r.state) (λ r i τ g e. sound-step s (with s b) r.state g i τ e) (fresh_run s (with s b)) ks (fresh-sound s (with s b) (published-with h))
        in
        (m.n, (rw (programme-with s b k) (m.takes own own-blind), omega (arith, sound.store k, use-with k j)))

  -- "the passed bundle is accepted with the same claim"
  pub accepted-again : (v : Bundle) → checked s b ≡ value v → (checked s (releasing s b) ≡ value (releasing s b)) × ((releasing s b).claim ≡ b.claim)
  unfolding releasing
  accepted-again v e = go (eqb (whole b frees) 0) refl
    where
      go : (u : Bool) → eqb (whole b frees) 0 ≡ u → (checked s (pick u (with s b) b) ≡ value (pick u (with s b) b)) × ((pick u (with s b) b).claim ≡ b.claim)
      go true q = (accepted s (with s b) (passes-with (plain-all b (eqb-true (whole b frees) 0 q)) (passes s b v e).0), refl)
      go false q = (accepted s b (passes s b v e).0, refl)

  -- "an accepted bundle that already has releases comes out as it went in, and a refused one gets the checker's refusal"
  pub comes-out : 0 < whole b frees → releasing s b ≡ b
  unfolding releasing
  comes-out h = rw (ne_eqb (whole b frees) 0 (omega arith))

  pub passed-value : (v : Bundle) → checked s b ≡ value v → passed s b ≡ value (releasing s b)
  unfolding passed
  passed-value v e = rw e (ap (λ (x : Bundle). value (releasing s x)) (sym (passes s b v e).1))

  pub passed-refused : (n at : ℕ) → checked s b ≡ refused n at → passed s b ≡ refused n at
  unfolding passed
  passed-refused n at e = rw e

-- where nothing was released, a programme is what it was
rest-same : (f : ℕ → List Command) → ((i : ℕ) → Each (λ x. is_release x ≡ true) (f i)) → (i : ℕ) (r : List Command) → weigh frees (rest_with f i r) ≡ 0 → rest_with f i r ≡ r
unfolding weigh
rest-same f h i [] e = refl
rest-same f h i (c ∷ r) e =
    let n = weigh-append frees (f (suc i)) (rest_with f (suc i) r) in
    let none_here : f (suc i) ≡ [] = no-release (f (suc i)) (h (suc i)) (omega arith) in
    ap₂ (λ (x y : List Command). c ∷ (x ++ y)) none_here (rest-same f h (suc i) r (omega arith))
  where
    no-release : (q : List Command) → Each (λ x. is_release x ≡ true) q → weigh frees q ≡ 0 → q ≡ []
    no-release [] h e = refl
    no-release (x ∷ q) h e = absurd (omega (arith, ap bit h.0))

programmes-same : (s : Sheet) (ps : List (List Command)) → ((k : ℕ) → weigh frees (get_or (map (released s) ps) k []) ≡ 0) → map (released s) ps ≡ ps
programmes-same s [] h = refl
programmes-same s (p ∷ ps) h =
    let one : released s p ≡ p =
    released-rest s p ∙ rest-same (releases_at s p) (block-releases s p) 0 p (ap (weigh frees) (sym (released-rest s p)) ∙ h 0)
    in
    ap₂ (λ (x : List Command) (y : List (List Command)). x ∷ y) one (programmes-same s ps (λ k. h (suc k)))

none_of : (b : Bundle) → whole b frees ≡ 0 → (k : ℕ) → weigh frees (get_or b.programmes k []) ≡ 0
unfolding whole whole_of programme_of programme_count weigh
none_of b z k = ⊎_elim (λ l. omega (arith, term-le-sum (programme_count b) (whole_of b frees) k l)) (λ q. rw q) (programme-or b k)

-- passing twice is passing once
pub passing-twice : (s : Sheet) (b : Bundle) → releasing s (releasing s b) ≡ releasing s b
unfolding releasing
passing-twice s b = go (eqb (whole b frees) 0) refl
  where
    none-with : whole (with s b) frees ≡ 0 → with s b ≡ b
    none-with z = ap (λ (ps : List (List Command)). record { programmes = ps; claim = b.claim }) (programmes-same s b.programmes (none_of (with s b) z))

    again : (u : Bool) → eqb (whole (with s b) frees) 0 ≡ u → eqb (whole b frees) 0 ≡ true → releasing s (with s b) ≡ with s b
    again false e q = rw e
    again true e q = let z = none-with (eqb-true (whole (with s b) frees) 0 e) in ap (releasing s) z ∙ rw q

    go : (u : Bool) → eqb (whole b frees) 0 ≡ u → releasing s (pick u (with s b) b) ≡ pick u (with s b) b
    go true q = again (eqb (whole (with s b) frees) 0) refl q
    go false q = rw q
