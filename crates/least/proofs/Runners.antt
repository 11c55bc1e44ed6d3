-- In the written form every programme runs a task: the runners are the programmes. And C-12's test of two bundles, spelt out as code makes it.
use Prim.Native.Nat.{ℕ, ◌+◌}
use native.Mathlib.Omega.{arith}
use mathlib.Core.Bool.{true}
use mathlib.Core.Path.{◌≡◌, refl, ap, ◌∙◌}
use mathlib.Core.List.{List, [], ◌∷◌, ◌++◌, append_assoc}
use lib.ListN.{length}
use Rattle.folds.specs.Folds.{bit, gather}
use Rattle.sheet.specs.Sheet.{Sheet, link_count}
use Rattle.bundle.specs.Bundle.{Command, run, send, receive, release, discard}
use Rattle.bundle.specs.Fits.{Each}
use Rattle.least.specs.Written.{receive_in, send_in, block_in, blocks_in, programme_in, programmes_in, Busy}
use Rattle.better.specs.Ranks.{runs_task, runners}
use Rattle.least.specs.Least.{bundle_in}
use Rattle.least.proofs.Heads.{sum_over, runners-over}

runs-in : (r : List Command) (t : ℕ) (x : List Command) → runs_task (r ++ (run t ∷ x)) ≡ true
unfolding runs_task
runs-in [] t x = refl
runs-in (run u ∷ r) t x = refl
runs-in (send l ∷ r) t x = runs-in r t x
runs-in (receive l ∷ r) t x = runs-in r t x
runs-in (release u ∷ r) t x = runs-in r t x
runs-in (discard l ∷ r) t x = runs-in r t x

busy-runs : (s : Sheet) (ts : List ℕ) → Busy ts → runs_task (programme_in s ts) ≡ true
unfolding programme_in blocks_in block_in
busy-runs s [] h = absurd (omega arith)
busy-runs s (t ∷ ts) h =
    ap runs_task (append_assoc (gather (link_count s) (receive_in s (t ∷ ts) t)) (run t ∷ gather (link_count s) (send_in s (t ∷ ts) t)) (blocks_in s (t ∷ ts) ts)) ∙
    runs-in (gather (link_count s) (receive_in s (t ∷ ts) t)) t (gather (link_count s) (send_in s (t ∷ ts) t) ++ blocks_in s (t ∷ ts) ts)

all-run : (s : Sheet) (a : List (List ℕ)) → Each Busy a → sum_over (λ p. bit (runs_task p)) (programmes_in s a) ≡ length a
unfolding programmes_in
all-run s [] h = refl
all-run s (ts ∷ a) h = omega (arith, ap bit (busy-runs s ts h.0), all-run s a h.1)

pub runners-of : (s : Sheet) (a : List (List ℕ)) → Each Busy a → runners (bundle_in s a) ≡ length a
unfolding bundle_in
runners-of s a h = runners-over (bundle_in s a) ∙ all-run s a h
