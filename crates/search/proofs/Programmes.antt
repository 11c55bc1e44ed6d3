-- The bytes of all programmes of an arrangement, and of its bundle.
use Prim.Native.Nat.{ℕ, ◌+◌, ◌-◌, ◌/◌, ◌%◌, ◌≤◌, ◌<◌}
use native.Mathlib.Omega.{arith}
use mathlib.Core.Path.{◌≡◌, refl, sym, ap, ap₂, ◌∙◌, subst}
use mathlib.Core.List.{List, [], ◌∷◌, ◌++◌, append-nil}
use lib.ListN.{length, set}
use Rattle.sheet.specs.Sheet.{Sheet, link_count, source_of, target_of}
use Rattle.bundle.specs.Bundle.{Command, run}
use Rattle.bundle.specs.Writing.{programme_bytes, programmes_bytes, bundle_bytes}
use Rattle.numbers.specs.Number.{number_bytes, stored}
use Rattle.admission.specs.declared.view.View.{View}
use Rattle.least.specs.Written.{among, brings_in, takes_in, receive_in, send_in, block_in, blocks_in, programme_in, programmes_in}
use Rattle.least.specs.Least.{most}
use Rattle.folds.proofs.Lists.{gather_cong}
use Rattle.least.proofs.Normal.{programmes_in-append}
use Rattle.least.proofs.Arranging.{length-in}
use Rattle.least.proofs.Heads.{programmes_bytes-append}
use Rattle.search.specs.Codes.{arranged, tasks_of, opens_of, Coded, order_of, front_of, LastIs}
use Rattle.search.specs.Laying.{room, Front, TasksIs, ProgrammesIs, BundleIs}
use Rattle.search.specs.declared.codes.Last.{Last}
use Rattle.search.proofs.Digits.{coded-length, last-le, last_some, split, order-among}
use Rattle.search.proofs.Fronts.{front-none, front-then, front-as, command-done}

-- blocks depend on which tasks are in their programme, not on their order
blocks-among : (s : Sheet) (ts us xs : List ℕ) → ((u : ℕ) → among u ts ≡ among u us) → blocks_in s ts xs ≡ blocks_in s us xs
unfolding blocks_in block_in receive_in send_in brings_in takes_in
blocks-among s ts us [] h = refl
blocks-among s ts us (x ∷ xs) h =
    ap₂ (λ (a : List Command) (b : List Command). a ++ b)
    (ap₂ (λ (a : List Command) (b : List Command). a ++ (run x ∷ b))
    (gather_cong (link_count s) (receive_in s ts x) (receive_in s us x) (λ l k. rw (h (source_of s l))))
    (gather_cong (link_count s) (send_in s ts x) (send_in s us x) (λ l k. rw (h (target_of s l)))))
    (blocks-among s ts us xs h)

pub none-laid : (sheet : List ℕ) (v : View) (old : List ℕ) (code len : ℕ) → len ≡ 0 → ProgrammesIs sheet v old old code len 0 0
unfolding arranged programmes_in opens_of
none-laid sheet v old code len e = rw e record { long = refl; few = omega arith; many = refl; is = λ s k. front-none old 0 }

-- all but the last programme, and the last
module _ (code len : ℕ) {p : Last} (some : 0 < len) (coded : Coded len code) (cut : LastIs code len p) where
  pub front-coded : Coded (len - p.tasks) p.front
  front-coded = subst (λ (y : ℕ). Coded (len - p.tasks) y) (sym cut.front) (subst (λ (x : ℕ). Coded (len - x) (front_of len code)) (sym cut.tasks) (split len code some coded).coded)

  pub tasks-le : p.tasks ≤ len
  tasks-le = omega (arith, cut.tasks, last-le len code)

  pub tasks-some : 0 < p.tasks
  tasks-some = omega (arith, cut.tasks, last_some len code some)

  pub more-laid : (sheet : List ℕ) (v : View) (old a b c : List ℕ) (i count j r : ℕ) → ProgrammesIs sheet v old a p.front (len - p.tasks) i count → Front a i (0x50 ∷ count ∷ []) b j
      → TasksIs sheet v b c j code p.tasks code p.tasks r → ProgrammesIs sheet v old c code len r (count + 1)
  unfolding programmes_in programme_in
  more-laid sheet v old a b c i count j r q f t =
      let m = p.tasks in
      let z = split len code some coded in
      let front = arranged (len - m) p.front in
      let same : arranged len code ≡ front ++ order_of m code ∷ [] =
      z.parts ∙ sym (ap₂ (λ (x : ℕ) (y : ℕ). arranged (len - x) y ++ order_of x code ∷ []) cut.tasks cut.front)
      in
      record {
        long = t.long ∙ f.long ∙ q.long;
        few = omega (arith, q.few, f.next, t.few, tasks-le, tasks-some);
        many = omega (arith, q.many, z.count, ap₂ (λ (x : ℕ) (y : ℕ). opens_of (len - x) y) cut.tasks cut.front);
        is =
            λ s k.
            let X = programmes_in s front in
            let P = programme_in s (order_of m code) in
            let long-X : length X ≡ count = length-in s front ∙ coded-length (len - m) p.front front-coded ∙ sym q.many in
            front-as
            (sym (ap (λ (a : List (List ℕ)). programmes_bytes 0 (programmes_in s a)) same ∙ ap (programmes_bytes 0) (programmes_in-append s front (order_of m code ∷ [])) ∙ programmes_bytes-append 0 X (P ∷ []) ∙
            ap {B = List ℕ} (λ (x : ℕ). programmes_bytes 0 X ++ (0x50 ∷ x ∷ (programme_bytes P ++ []))) (omega (arith, long-X)) ∙
            ap {B = List ℕ} (λ (l : List ℕ). programmes_bytes 0 X ++ (0x50 ∷ count ∷ l)) (append-nil (programme_bytes P))))
            (front-then (programmes_bytes 0 X) (0x50 ∷ count ∷ programme_bytes P) (q.is s k)
            (front-then (0x50 ∷ count ∷ []) (programme_bytes P) f
            (front-as (ap programme_bytes (blocks-among s (tasks_of m code) (order_of m code) (order_of m code) (order-among m code))) (t.is s k))));
      }

-- the four bytes of a claim are those of its lowest 32 bits
claim-bytes : (c : ℕ) → number_bytes 4 (c % 4294967296) ≡ number_bytes 4 c
claim-bytes c =
    let p : c % 4294967296 % 256 ≡ c % 256 = omega arith in
    let q : c % 4294967296 / 256 % 256 ≡ c / 256 % 256 = omega arith in
    let r : c % 4294967296 / 256 / 256 % 256 ≡ c / 256 / 256 % 256 = omega arith in
    let s : c % 4294967296 / 256 / 256 / 256 % 256 ≡ c / 256 / 256 / 256 % 256 = omega arith in
    rw (p, q, r, s)

pub bundle-done : (sheet : List ℕ) (v : View) (old a last : List ℕ) (code len claim i count : ℕ) → room ≤ length old → len ≤ most → ProgrammesIs sheet v old a code len i count
    → last ≡ stored (set a i 0x5A) (i + 1) (number_bytes 4 (claim % 4294967296)) → BundleIs sheet v old last code len claim (i + 5)
unfolding bundle_bytes
bundle-done sheet v old a last code len claim i count h l p e =
    let fits : i + 5 ≤ length a = omega (arith, p.long, p.few) in
    let q = command-done a last i 4 0x5A (claim % 4294967296) (i + 5) e (omega arith) fits in
    record {
      long = q.long ∙ p.long;
      few = omega (arith, q.long, fits);
      is =
          λ s f.
          let X = programmes_bytes 0 (programmes_in s (arranged len code)) in
          (front-then X (0x5A ∷ number_bytes 4 claim) (p.is s f) (front-as (ap {B = List ℕ} (λ (z : List ℕ). 0x5A ∷ z) (claim-bytes claim)) q)).front;
    }
