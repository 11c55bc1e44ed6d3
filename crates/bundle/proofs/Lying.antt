-- Commands that lie in bytes: walking them, one more of them, and programmes while they are read.
use Prim.Native.Nat.{ℕ, zero, suc, ◌+◌, ◌<◌, ◌≤◌}
use mathlib.Core.Path.{◌≡◌, refl}
use mathlib.Core.List.{List, [], ◌∷◌, ◌++◌}
use mathlib.Core.Logic.{⊎_elim}
use native.Mathlib.Omega.{arith}
use native.Mathlib.Nat.{le_of_suc-le-suc}
use lib.ListN.{length, get_or, length-append, get_or-append, set}
use lib.Seq.{get_or-set_same, get_or-set_other}
use Rattle.folds.proofs.Tests.{below_suc}
use Rattle.bundle.specs.Bundle.{Command, run, send, receive, release, discard}
use Rattle.bundle.specs.Format.{within}
use Rattle.bundle.specs.Kinds.{is_message, size_by}
use Rattle.bundle.specs.Lies.{size_of, Stands, Lies, over, more, Laid}
use Rattle.bundle.proofs.Parts.{length-within}

pub size-some : (c : Command) → 2 ≤ size_of c
size-some (run x) = omega arith
size-some (send x) = omega arith
size-some (receive x) = omega arith
size-some (release x) = omega arith
size-some (discard x) = omega arith

-- the byte of a command tells its size
pub stands-sized : (t l : ℕ) (b : List ℕ) (o : ℕ) (c : Command) → Stands t l b o c → size_by (get_or b o 0) ≡ size_of c
unfolding size_by is_message
stands-sized t l b o (run x) h = rw h.0
stands-sized t l b o (send x) h = rw h.0
stands-sized t l b o (receive x) h = rw h.0
stands-sized t l b o (release x) h = rw h.0
stands-sized t l b o (discard x) h = rw h.0

module _ (t l : ℕ) (b : List ℕ) where
  -- the first of the commands from o to e, and those behind it
  pub record Next (o e : ℕ) (cs : List Command) : Type 0 where
    pub command : Command
    pub rest : List Command
    pub here : cs ≡ command ∷ rest
    pub stands : Stands t l b o command
    pub behind : Lies t l b (o + size_of command) e rest

  pub lies-le : {o e : ℕ} {cs : List Command} → Lies t l b o e cs → o ≤ e
  lies-le over = omega arith
  lies-le (more h r) = omega (arith, lies-le r)

  pub lies-next : {o e : ℕ} {cs : List Command} → Lies t l b o e cs → o < e → Next o e cs
  lies-next over h = absurd (omega arith)
  lies-next (more {c = c} {cs = cs} g r) h = record { command = c; rest = cs; here = refl; stands = g; behind = r }

  pub lies-none : {o e : ℕ} {cs : List Command} → Lies t l b o e cs → e ≤ o → cs ≡ []
  lies-none over h = refl
  lies-none (more {c = c} g r) h = absurd (omega (arith, lies-le r, size-some c))

  -- one command more
  pub lies_more : {o e : ℕ} {cs : List Command} → Lies t l b o e cs → (c : Command) → Stands t l b e c → Lies t l b o (e + size_of c) (cs ++ c ∷ [])
  lies_more over c h = more h over
  lies_more (more g r) c h = more g (lies_more r c h)

within-closed : (ps : List (List Command)) (c : Command) (k : ℕ) → suc k < length ps → get_or (within ps c) k [] ≡ get_or ps k []
within-closed [] c k h = absurd (omega arith)
within-closed (p ∷ []) c k h = absurd (omega arith)
within-closed (p ∷ q ∷ ps) c zero h = refl
within-closed (p ∷ q ∷ ps) c (suc k) h = within-closed (q ∷ ps) c k (le_of_suc-le-suc h)

within-last : (ps : List (List Command)) (c : Command) (k : ℕ) → suc k ≡ length ps → get_or (within ps c) k [] ≡ get_or ps k [] ++ c ∷ []
within-last [] c k h = absurd (omega arith)
within-last (p ∷ []) c zero h = refl
within-last (p ∷ []) c (suc k) h = absurd (omega arith)
within-last (p ∷ q ∷ ps) c zero h = absurd (omega arith)
within-last (p ∷ q ∷ ps) c (suc k) h = within-last (q ∷ ps) c k (omega arith)

get_or-last : (ps : List (List Command)) (k : ℕ) → k ≡ length ps → get_or (ps ++ [] ∷ []) k [] ≡ []
get_or-last [] zero h = refl
get_or-last [] (suc k) h = absurd (omega arith)
get_or-last (p ∷ ps) zero h = absurd (omega arith)
get_or-last (p ∷ ps) (suc k) h = get_or-last ps k (omega arith)

-- the programmes so far: all but the last are closed, and the last one comes to `at`
pub record Laying (t l : ℕ) (b w : List ℕ) (ps : List (List Command)) (at : ℕ) : Type 0 where
  pub closed : (k : ℕ) → suc k < length ps → Lies t l b (get_or w k 0 + 2) (get_or w (suc k) 0) (get_or ps k [])
  pub last : (k : ℕ) → suc k ≡ length ps → Lies t l b (get_or w k 0 + 2) at (get_or ps k [])

module _ (t l : ℕ) (b w : List ℕ) (ps : List (List Command)) (at : ℕ) (h : Laying t l b w ps at) where
  pub laying-command : (c : Command) → Stands t l b at c → Laying t l b w (within ps c) (at + size_of c)
  laying-command c g =
      record {
        closed = λ k i. let j : suc k < length ps = omega (arith, length-within ps c) in rw (within-closed ps c k j) (h.closed k j);
        last = λ k i. let j : suc k ≡ length ps = omega (arith, length-within ps c) in rw (within-last ps c k j) (lies_more t l b (h.last k j) c g);
      }

  -- the word behind the last programme's is put
  put-closes : (x : ℕ) → x ≡ at → length ps < length w → (k : ℕ) → k < length ps
      → Lies t l b (get_or (set w (length ps) x) k 0 + 2) (get_or (set w (length ps) x) (suc k) 0) (get_or ps k [])
  put-closes x e n k i =
      let a : get_or (set w (length ps) x) k 0 ≡ get_or w k 0 = get_or-set_other w (length ps) k x 0 (λ q. omega arith) in
      rw a
      (⊎_elim (λ (j : suc k < length ps). rw (get_or-set_other w (length ps) (suc k) x 0 (λ q. omega arith)) (h.closed k j))
      (λ (j : suc k ≡ length ps). rw (j, get_or-set_same w (length ps) x 0 n, e) (h.last k j)) (below_suc {m = suc k} {n = length ps} (omega arith)))

  pub laying-open : (x : ℕ) → x ≡ at → length ps < length w → Laying t l b (set w (length ps) x) (ps ++ [] ∷ []) (at + 2)
  laying-open x e n =
      record {
        closed = λ k i. let j : k < length ps = omega (arith, length-append ps ([] ∷ [])) in rw (get_or-append ps ([] ∷ []) [] k j) (put-closes x e n k j);
        last = λ k i. let j : k ≡ length ps = omega (arith, length-append ps ([] ∷ [])) in rw (get_or-last ps k j, j, get_or-set_same w (length ps) x 0 n, e) over;
      }

  pub laying-claim : (x : ℕ) → x ≡ at → length ps < length w → at + 5 ≡ length b → Laid t l b (set w (length ps) x) ps
  laying-claim x e n q = record { lies = put-closes x e n; claimed = rw (get_or-set_same w (length ps) x 0 n, e) q }

pub laying-none : (t l : ℕ) (b w : List ℕ) → Laying t l b w [] 0
laying-none t l b w = record { closed = λ k i. absurd (omega arith); last = λ k i. absurd (omega arith) }
