-- The search for a release in a bundle's bytes.
use Prim.Native.Nat.{ℕ, suc, ◌+◌, ◌-◌, ◌≤◌, ◌<◌}
use native.Mathlib.Omega.{arith}
use native.Mathlib.Decide.{ℕ_discrete}
use mathlib.Core.Bool.{true, false, not}
use mathlib.Core.Path.{◌≡◌, refl, sym, ap, ◌∙◌}
use mathlib.Core.List.{List}
use lib.ListN.{length, get_or, take, drop, drop_of_length-le}
use borrow.Author.Tests.{eq-eqb, ne_eqb}
use Rattle.folds.specs.Folds.{bit, sum}
use Rattle.folds.specs.Answers.{value}
use Rattle.folds.proofs.Laws.{term-le-sum}
use Rattle.numbers.specs.Number.{Bytes}
use Rattle.sheet.specs.Sheet.{Sheet, task_count, link_count}
use Rattle.bundle.specs.Bundle.{Bundle, programme_count, programme_of}
use Rattle.bundle.specs.Sizes.{short_size, claim_size}
use Rattle.bundle.specs.Format.{read_bundle}
use Rattle.bundle.specs.Kinds.{is_message, size_by}
use Rattle.bundle.specs.Lies.{size_of}
use Rattle.bundle.proofs.Lying.{stands-sized}
use Rattle.admission.specs.Counting.{weigh, whole_of, whole}
use Rattle.admission.specs.Releases.{frees}
use Rattle.admission.proofs.Weights.{command-below, weigh-split, weigh-take, weigh-drop}
use Rattle.admission.proofs.Rows.{rows}
use Rattle.admission.proofs.Noted.{stands-slot, stands-release}
use Rattle.admission.proofs.Lasts.{notable-plain}
use Rattle.admission.proofs.Passes.{Pass, pass-first, pass-open, pass-here, pass_on, pass-ends}
use Rattle.releasing.specs.Inserting.{FreesIs}

-- no release stands before the place i of programme k
abbrev pub NoneYet : Bundle → ℕ → ℕ → ℕ → Type 0
NoneYet b k i at = sum k (whole_of b frees) + weigh frees (take i (programme_of b k)) ≡ 0

-- the pass stands in some programme
pub record Found (s : Sheet) (b : Bundle) (bundle : List ℕ) (at : ℕ) : Type 0 where
  pub programme : ℕ
  pub passes : Pass s b bundle (NoneYet b) at programme

pub record Finding (bundle : List ℕ) (at : ℕ) : Type 0 where
  pub each : (s : Sheet) (b : Bundle) → link_count s ≤ 1024 → Bytes bundle → read_bundle s bundle ≡ value b → Found s b bundle at

pub finding-starts : (bundle : List ℕ) → Finding bundle short_size
unfolding sum weigh
finding-starts bundle =
    record { each = λ s b few bytes e. record { programme = 0; passes = pass-first s b bundle (rows s (omega arith) bundle b bytes e) refl } }

module _ {bundle : List ℕ} {at : ℕ} (end : ℕ) (far : end ≡ length bundle - claim_size) (g : Finding bundle at) where
  pub finding-found : at < end → get_or bundle at 0 < 0x50 → FreesIs bundle true
  unfolding whole whole_of
  finding-found m q =
      record {
        is =
            λ s b few bytes e.
            let f = g.each s b few bytes e in
            let y = pass-here s b bundle end far m (λ z. omega arith) f.passes in
            let k = f.programme in
            let r = stands-release s bundle at y.command q y.stands in
            let below = command-below b k y.place y.command y.here in
            let some-there : 0 < whole b frees =
            omega (
              arith,
              term-le-sum (programme_count b) (whole_of b frees) k below,
              weigh-split frees (programme_of b k) y.place,
              weigh-drop frees (programme_of b k) y.place y.command y.here,
              ap bit r,
            )
            in
            sym (ap not (ne_eqb (whole b frees) 0 (λ z. omega arith)));
      }

  pub finding-on : at < end → (get_or bundle at 0 < 0x50 → ⊥) → (z : ℕ) → z ≡ size_by (get_or bundle at 0) → Finding bundle (at + z)
  unfolding size_by is_message sum whole_of weigh
  finding-on m q z ez = record { each = λ s b few bytes e. by s b (g.each s b few bytes e) (ℕ_discrete (get_or bundle at 0) 0x50) }
    where
      by : (s : Sheet) (b : Bundle) → Found s b bundle at → Dec (get_or bundle at 0 ≡ 0x50) → Found s b bundle (at + z)
      by s b f (yes o) =
          let two : z ≡ short_size = rw o at ez in
          rw two
          (record {
            programme = suc f.programme;
            passes =
                pass-open s b bundle end far m o f.passes
                (λ i l u n.
                let none_left : weigh frees (drop i (programme_of b f.programme)) ≡ 0 = ap (weigh frees) (drop_of_length-le (programme_of b f.programme) {i = i} l) in
                omega (arith, n, none_left, weigh-split frees (programme_of b f.programme) i));
          })
      by s b f (no o) =
          let y = pass-here s b bundle end far m o f.passes in
          let c = y.command in
          let p = notable-plain s c (stands-slot s bundle at c (omega arith) y.stands).2 in
          let size : z ≡ size_of c = ez ∙ stands-sized (task_count s) (link_count s) bundle at c y.stands in
          record {
            programme = f.programme;
            passes = pass_on s b bundle y z size (omega (arith, y.kept, weigh-take frees (programme_of b f.programme) y.place c y.here, ap bit p));
          }

  pub finding-ends : end ≤ at → FreesIs bundle false
  unfolding whole whole_of sum weigh
  finding-ends m =
      record {
        is =
            λ s b few bytes e.
            let f = g.each s b few bytes e in
            let k = f.programme in
            let none-there : whole b frees ≡ 0 =
            pass-ends s b bundle end far m f.passes (λ n x. ap (λ (j : ℕ). sum j (whole_of b frees)) n)
            (λ i l u x.
            let none_left : weigh frees (drop i (programme_of b k)) ≡ 0 = ap (weigh frees) (drop_of_length-le (programme_of b k) {i = i} l) in
            ap (λ (j : ℕ). sum j (whole_of b frees)) (sym u) ∙ omega (arith, x, none_left, weigh-split frees (programme_of b k) i))
            in
            sym (ap not (eq-eqb (whole b frees) 0 none-there));
      }
