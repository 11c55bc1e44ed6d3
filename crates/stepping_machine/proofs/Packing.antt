-- A command's word: its three fields read back, and their bounds.
use Prim.Native.Nat.{ℕ, ◌*◌, ◌≤◌, ◌<◌}
use mathlib.Core.Path.{◌≡◌, refl, ap, ◌∙◌}
use mathlib.Core.Option.{Option, none, some}
use native.Mathlib.Omega.{arith}
use Rattle.folds.specs.Folds.{first, or_value}
use Rattle.folds.proofs.Laws.{first_some}
use Rattle.sheet.specs.Sheet.{Sheet, target_of, cost_of}
use Rattle.sheet.specs.Tables.{Ranged}
use Rattle.sheet.proofs.Hopping.{time-most}
use Rattle.bundle.specs.Bundle.{Command, run, send, receive, release, discard, Bundle, programme_count}
use Rattle.bundle.specs.Fits.{Known}
use Rattle.admission.specs.Messages.{holds, home}
use Rattle.machine.specs.Machine.{travels}
use Rattle.stepping_machine.specs.Layout as lay
use Rattle.stepping_machine.specs.Words.{code_of, kind_in, number_in, amount_in, kind_of, number_of, amount_of, plain_amount, word_by}

-- of any three numbers in their ranges
module _ (kind number amount : ℕ) (k : kind < 8) (n : number < lay.span) (a : amount < lay.numbers) where
  pub code_fits : code_of kind number amount < 4294967296
  code_fits = omega arith

  pub code-kind : kind_in (code_of kind number amount) ≡ kind
  code-kind = omega arith

  pub code-number : number_in (code_of kind number amount) ≡ number
  code-number = omega arith

  pub code-amount : amount_in (code_of kind number amount) ≡ amount
  code-amount = omega arith

pub kind-small : (c : Command) → (1 ≤ kind_of c) × (kind_of c < 5)
kind-small (run t) = (omega arith, omega arith)
kind-small (send l) = (omega arith, omega arith)
kind-small (receive l) = (omega arith, omega arith)
kind-small (release t) = (omega arith, omega arith)
kind-small (discard l) = (omega arith, omega arith)

pub number_small : (s : Sheet) → Ranged s → (c : Command) → Known s c → number_of c < lay.span
number_small s ranged (run t) o = omega (arith, ranged.few_tasks)
number_small s ranged (send l) o = omega (arith, ranged.few_links)
number_small s ranged (receive l) o = omega (arith, ranged.few_links)
number_small s ranged (release t) o = omega (arith, ranged.few_tasks)
number_small s ranged (discard l) o = omega (arith, ranged.few_links)

-- a command's home is one of sixteen, and so its message is at most four hops under way
pub home-low : (b : Bundle) (c : Command) → programme_count b ≤ 16 → home b c < 16
unfolding home
home-low b c few = go (first (programme_count b) (holds b c)) refl
  where
    go : (o : Option ℕ) → first (programme_count b) (holds b c) ≡ o → or_value o 0 < 16
    go none q = omega arith
    go (some j) q = omega (arith, (first_some (programme_count b) (holds b c) j q).0)

travels-le : (s : Sheet) (b : Bundle) (k l : ℕ) → programme_count b ≤ 16 → k < 16 → travels s b k l ≤ 4 * cost_of s l
unfolding travels
travels-le s b k l few near = time-most s l k (home b (run (target_of s l))) near (home-low b (run (target_of s l)) few)

pub amount-small : (s : Sheet) (b : Bundle) (k : ℕ) → Ranged s → programme_count b ≤ 16 → k < 16 → (c : Command) → Known s c → amount_of s b k c ≤ lay.most
amount-small s b k ranged few near (run t) o = omega (arith, ranged.works t o)
amount-small s b k ranged few near (send l) o = omega (arith, ranged.costs l o, travels-le s b k l few near)
amount-small s b k ranged few near (receive l) o = omega (arith, ranged.sizes l o)
amount-small s b k ranged few near (release t) o = omega (arith, ranged.stores t o)
amount-small s b k ranged few near (discard l) o = omega (arith, ranged.sizes l o)

pub plain-small : (s : Sheet) → Ranged s → (c : Command) → Known s c → plain_amount s c ≤ lay.most
plain-small s ranged (run t) o = omega (arith, ranged.works t o)
plain-small s ranged (send l) o = omega (arith, ranged.costs l o)
plain-small s ranged (receive l) o = omega (arith, ranged.sizes l o)
plain-small s ranged (release t) o = omega (arith, ranged.stores t o)
plain-small s ranged (discard l) o = omega (arith, ranged.sizes l o)

-- the word x of the command c, by amounts that are small
module _ (s : Sheet) (ranged : Ranged s) (amount : Command → ℕ) (small : (c : Command) → Known s c → amount c ≤ lay.most) (c : Command) (o : Known s c) (x : ℕ) (e : x ≡ word_by amount c) where
  pub word_fits : x < 4294967296
  unfolding word_by
  word_fits = omega (arith, e, code_fits (kind_of c) (number_of c) (amount c) (omega (arith, (kind-small c).1)) (number_small s ranged c o) (omega (arith, small c o)))

  pub word-kind : kind_in x ≡ kind_of c
  unfolding word_by
  word-kind = ap kind_in e ∙ code-kind (kind_of c) (number_of c) (amount c) (omega (arith, (kind-small c).1)) (number_small s ranged c o) (omega (arith, small c o))

  pub word_number : number_in x ≡ number_of c
  unfolding word_by
  word_number = ap number_in e ∙ code-number (kind_of c) (number_of c) (amount c) (omega (arith, (kind-small c).1)) (number_small s ranged c o) (omega (arith, small c o))

  pub word-amount : amount_in x ≡ amount c
  unfolding word_by
  word-amount = ap amount_in e ∙ code-amount (kind_of c) (number_of c) (amount c) (omega (arith, (kind-small c).1)) (number_small s ranged c o) (omega (arith, small c o))
