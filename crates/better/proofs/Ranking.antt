-- The standing of a bundle, and the choice between two of them.
use Prim.Native.Nat.{ℕ}
use mathlib.Core.Path.{◌≡◌, refl, sym, ap, ap₂, ◌∙◌}
use mathlib.Core.Option.{none}
use mathlib.Core.List.{List}
use Rattle.folds.specs.Answers.{Answer, value, refused}
use Rattle.folds.proofs.Tests.{and_then-value}
use Rattle.sheet.specs.Sheet.{Sheet}
use Rattle.bundle.specs.Bundle.{Bundle}
use Rattle.bundle.specs.Format.{read_bundle}
use Rattle.admission.specs.Fields.{Known}
use Rattle.admission.specs.Messages.{Published}
use Rattle.admission.specs.Admitted.{admitted, admitted_bytes, judged_of}
use Rattle.admission.specs.declared.view.View.{View}
use Rattle.admission.proofs.Messages.{limit-within}
use Rattle.machine.specs.Runs.{settled}
use Rattle.stepping_machine.specs.Settling.{SettleIs}
use Rattle.stepping_machine.specs.Starts.{AdmitIs}
use Rattle.stepping_machine.proofs.Going.{settles-to}
use Rattle.checker.specs.Checker.{checked}
use Rattle.checker.specs.Verdicts.{verdict_of, checked_bytes, FinishIs, JudgementIs}
use Rattle.std.specs.Prelude.{⊤, Result, Ok, Err, Some, None}
use Rattle.std.specs.Prelude.{Option as Maybe}
use Rattle.bundle_reader.specs.Answers.{outline_of}
use Rattle.bundle_reader.specs.declared.bytes.Outline.{Outline}
use Rattle.refusals.specs.declared.Refusal.{Refusal}
use Rattle.checker.proofs.Accepted.{passes}
use Rattle.checker.proofs.Closing.{judged-refused, judged-ends}
use Rattle.checker.proofs.Verdicts.{good-value}
use Rattle.std.specs.Ordering.{nat_cmp, ordering_then}
use Rattle.std.specs.Cmp.Lexicographic.{slice_cmp}
use Rattle.better.proofs.Bridges.{number-is, then-is, bytes-is, then-then}
use Rattle.better.specs.Orders.{by_number, then_by, by_bytes, by_rank}
use Rattle.better.specs.Ranks.{rank_by}
use Rattle.better.specs.Choices.{ahead, choice}
use Rattle.better.specs.Parts.{RunnersIs, rank_in, StandingIs, lent_of, choice_of}
use Rattle.std.specs.declared.cmp.Ordering.{Ordering}
use Rattle.better.specs.declared.standings.Standing.{Standing}
use Rattle.better.specs.declared.choosing.Lent.{Lent}

-- an answer by the checker's verdict
no-rank : (bytes : List ℕ) (a : Answer Bundle) (r : Refusal) → Err r ≡ verdict_of a → none ≡ rank_by bytes a
no-rank bytes (value b) r e = absurd cc
no-rank bytes (refused n q) r e = refl

-- what the checker accepts, the machine starts on
accepted-admitted : (s : Sheet) (bundle : List ℕ) (b : Bundle) → checked_bytes s bundle ≡ value b → Published s b × (admitted_bytes s bundle ≡ value b)
unfolding checked_bytes admitted_bytes admitted
accepted-admitted s bundle b e =
    let r = and_then-value (read_bundle s bundle) (checked s) b e in
    let p = passes s r.0 b r.2 in
    let here : read_bundle s bundle ≡ value b = r.1 ∙ ap value p.1 in
    let q = (passes s b b (sym (ap (checked s) p.1) ∙ r.2)).0 in
    (q.published, rw (here, q.published.once, q.published.messages, q.published.releases, limit-within s b q.within))

module _ (sheet bundle w u : List ℕ) (v : View) (f : Result Outline Refusal) (h : AdmitIs sheet bundle w u v f) where
  refused-by : (x : List ℕ) (r : Refusal) → JudgementIs sheet bundle w x v (Err r) → StandingIs sheet bundle w x v None
  refused-by x r g = record { long = g.long; is = λ s k. no-rank bundle (checked_bytes s bundle) r (g.is s k) }

  pub not-admitted : (r : Refusal) → f ≡ Err r → StandingIs sheet bundle w u v None
  not-admitted r e = refused-by u r (judged-refused sheet bundle w u v f h r e)

  module _ (x : List ℕ) (out : Outline) (z : Result ⊤ Refusal) (e : f ≡ Ok out) (g : SettleIs u x) (t : FinishIs x out.claim z) where
    pub not-finished : (r : Refusal) → z ≡ Err r → StandingIs sheet bundle w x v None
    not-finished r q = refused-by x r (rw (← q) (judged-ends sheet bundle w u v f h x out z e g t))

    pub finished : (n : ℕ) → z ≡ Ok tt → RunnersIs x n → StandingIs sheet bundle w x v (Some (record { claim = out.claim; runners = n }))
    unfolding outline_of
    finished n q k =
        let j = judged-ends sheet bundle w u v f h x out z e g t in
        record { long = j.long; is = λ s known. by s known (good-value (checked_bytes s bundle) (sym q ∙ j.is s known)) }
      where
        claim-of : (b : Bundle) → Ok out ≡ judged_of (value b) → out.claim ≡ b.claim
        claim-of b d = let p : out ≡ outline_of b = cc in ap (λ (y : Outline). y.claim) p

        by : (s : Sheet) → Known s sheet v → (b : Bundle) × (checked_bytes s bundle ≡ value b) → rank_in bundle (Some (record { claim = out.claim; runners = n })) ≡ rank_by bundle (checked_bytes s bundle)
        by s known (b, y) =
            let a = accepted-admitted s bundle b y in
            let one = claim-of b (sym e ∙ h.is s known ∙ ap judged_of a.1) in
            let two = k.is s b (settled s b) (settles-to g s b a.0 (h.represents s known b a.1).0) in
            ap₂ (λ (i j : ℕ). rank_in bundle (Some (record { claim = i; runners = j }))) one two ∙ sym (ap (rank_by bundle) y)

-- two accepted bundles
pub compared : (xs ys : List ℕ) (a b : Maybe Standing) (i j : Standing) (n m x y o : Ordering) (r : Lent) → a ≡ Some i → b ≡ Some j
    → n ≡ nat_cmp i.claim j.claim → m ≡ nat_cmp i.runners j.runners → x ≡ ordering_then n m → y ≡ slice_cmp nat_cmp xs ys → o ≡ ordering_then x y → r ≡ lent_of (ahead o)
    → Ok r ≡ choice_of (choice (rank_in xs a) (rank_in ys b))
unfolding by_rank
compared xs ys a b i j n m x y o r p q e f g h k d =
    let claims = e ∙ number-is i.claim j.claim in
    let counts = f ∙ number-is i.runners j.runners in
    let bytes = h ∙ bytes-is xs ys in
    let front = g ∙ then-is n m ∙ ap₂ then_by claims counts in
    let all = k ∙ then-is x y ∙ ap₂ then_by front bytes ∙ then-then (by_number i.claim j.claim) (by_number i.runners j.runners) (by_bytes xs ys) in
    rw (p, q) (ap Ok (d ∙ ap (λ (z : Ordering). lent_of (ahead z)) all))
