-- The sentences about the pass, of a bundle that the checker accepts.
use Prim.Native.Nat.{ℕ, ◌≤◌, ◌<◌}
use native.Mathlib.Omega.{arith}
use mathlib.Core.Bool.{Bool, true, false, false≢true}
use mathlib.Core.Option.{some}
use mathlib.Core.Path.{◌≡◌, refl, sym, ap, ◌∙◌, subst}
use mathlib.Core.List.{List}
use lib.ListN.{take, drop, get_elem?}
use lib.Dec.{eqb}
use borrow.Author.Tests.{eq-eqb, eqb-true, lt-ltb}
use Rattle.folds.specs.Folds.{pick}
use Rattle.folds.specs.Answers.{value}
use Rattle.sheet.specs.Sheet.{Sheet}
use Rattle.bundle.specs.Bundle.{Command, run, send, receive, release, discard, Bundle, programme_of}
use Rattle.bundle.specs.Fits.{Known}
use Rattle.admission.specs.Counting.{weigh, whole, is, in_use}
use Rattle.admission.specs.Releases.{is_release, frees, gets, right}
use Rattle.admission.specs.Messages.{Published}
use Rattle.machine.specs.Machine.{processor_of}
use Rattle.machine.specs.Runs.{fresh_run, run_of, Choice, early_of}
use Rattle.machine.proofs.Steps.{Sound, sound-step}
use Rattle.machine.proofs.Runs.{keeps, fresh-sound}
use Rattle.machine.proofs.Early.{processors, alike}
use Rattle.checker.specs.Checker.{checked}
use Rattle.checker.proofs.Accepted.{passes}
use Rattle.releasing.specs.Releasing.{released, releasing}
use Rattle.releasing.specs.Inserting.{with_releases}
use Rattle.releasing.proofs.Programme.{own, known, all-released, nowhere-earlier}
use Rattle.releasing.proofs.Running.{programme-with}
use Rattle.releasing.proofs.Passed.{plain-all, never_more}

known-test : (s : Sheet) (p : List Command) (x : Command) → is_release x ≡ true → Known s x → known s p x ≡ true
known-test s p (run t) f k = absurd (false≢true f)
known-test s p (send l) f k = absurd (false≢true f)
known-test s p (receive l) f k = absurd (false≢true f)
known-test s p (release t) f k = lt-ltb t _ k
known-test s p (discard l) f k = lt-ltb l _ k

module _ (s : Sheet) (b : Bundle) where
  pub passed-with : whole b frees ≡ 0 → releasing s b ≡ with_releases s b
  unfolding releasing
  passed-with z = ap (λ (u : Bool). pick u (with_releases s b) b) (eq-eqb (whole b frees) 0 z)

  -- every result and every received message gets its release, and none could stand behind fewer of its programme's own commands
  module _ (z : whole b frees ≡ 0) where
    programme-is : (k : ℕ) → programme_of (releasing s b) k ≡ released s (programme_of b k)
    programme-is k = ap (λ (c : Bundle). programme_of c k) (passed-with z) ∙ programme-with s b k

    pub passed-all : (k : ℕ) (x : Command) → is_release x ≡ true → Known s x → 0 < weigh (is (gets x)) (programme_of b k) → weigh (is x) (programme_of (releasing s b) k) ≡ 1
    passed-all k x f d h = ap (weigh (is x)) (programme-is k) ∙ all-released s (programme_of b k) x f (plain-all b z k) (known-test s (programme_of b k) x f d) h

    pub passed-earliest : (k j m : ℕ) (x : Command) → get_elem? (programme_of (releasing s b) k) j ≡ some x → is_release x ≡ true
        → weigh own (take m (programme_of (releasing s b) k)) < weigh own (take j (programme_of (releasing s b) k))
        → right s (take m (programme_of (releasing s b) k)) x (drop m (programme_of (releasing s b) k)) ≡ false
    passed-earliest k j m x e f l =
        subst
        (λ (p : List Command). get_elem? p j ≡ some x → weigh own (take m p) < weigh own (take j p) → right s (take m p) x (drop m p) ≡ false) (sym (programme-is k))
        (λ g y. nowhere-earlier s (programme_of b k) (plain-all b z k) x f j g m y) e l

  -- a run of a bundle with the published messages has the store in use of its place
  store-there : Published s b → (ks : List ℕ) (k : ℕ) → (processor_of (run_of s b ks).state k).store ≡ in_use s (programme_of b k) (processor_of (run_of s b ks).state k).position
  unfolding run_of
  store-there h ks k =
      let sound : Sound s b (run_of s b ks).state =
      keeps s b (λ r. Sound s b r.state) (λ r i τ g e. sound-step s b r.state g i τ e) (fresh_run s b) ks (fresh-sound s b h)
      in
      sound.store k

  -- the store of b' after the choices cs is no more than that of b behind as many of its own commands
  abbrev pub Less : Bundle → ℕ → ℕ → ℕ → Type 0
  Less b' k position store = (i : ℕ) × ((weigh own (take position (programme_of b' k)) ≡ weigh own (take i (programme_of b k))) × (store ≤ in_use s (programme_of b k) i))

  pub passed-less : (v : Bundle) → checked s b ≡ value v → (cs : List Choice) (k : ℕ)
      → Less (releasing s b) k (processor_of (early_of s (releasing s b) cs).state k).position (processor_of (early_of s (releasing s b) cs).state k).store
  unfolding releasing
  passed-less v e cs k = go (eqb (whole b frees) 0) refl
    where
      published : Published s b
      published = (passes s b v e).0.published

      on-time : (b' : Bundle) → Less b' k (processor_of (run_of s b' (processors cs)).state k).position (processor_of (run_of s b' (processors cs)).state k).store
          → Less b' k (processor_of (early_of s b' cs).state k).position (processor_of (early_of s b' cs).state k).store
      on-time b' h =
          let n = (alike s b' cs).near in
          subst (λ (i : ℕ). Less b' k i (processor_of (early_of s b' cs).state k).store) (sym (n.position k)) (h.0, (h.1.0, omega (arith, h.1.1, n.store k)))

      go : (u : Bool) → eqb (whole b frees) 0 ≡ u
          → Less (pick u (with_releases s b) b) k (processor_of (early_of s (pick u (with_releases s b) b) cs).state k).position (processor_of (early_of s (pick u (with_releases s b) b) cs).state k).store
      go true q = on-time (with_releases s b) (never_more s b (plain-all b (eqb-true (whole b frees) 0 q)) published (processors cs) k)
      go false q = on-time b ((processor_of (run_of s b (processors cs)).state k).position, (refl, omega (arith, store-there published (processors cs) k)))
