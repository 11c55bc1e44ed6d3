-- `chain_all` (src/lib.rt) keeps its contract.
use Rattle.adjacency.specs.Chains.{ChainedFrom}
use Prim.Native.Nat.{ℕ}
use native.Mathlib.Omega.{arith}
use Rattle.adjacency.proofs.Building.{chain-whole, chains-more, chains-still, rechained-none}
use Rattle.adjacency.proofs.Frames.{only-loaded, only-sheet}
use Rattle.sheet.specs.Tables.{sheet_in}
use mathlib.Core.Path.{subst, sym}
use Rattle.adjacency.proofs.chain_all.Goals as goal

pub loop-l-init : goal.loop-l-init
loop-l-init c = (omega (arith, c.links-l.ensures.0), rechained-none _ _, subst (λ (x : ℕ). ChainedFrom c.args.e (sheet_in c.args.w.now) x c.args.w.now) (sym c.links-l.ensures.0) c.requires.chained_from)

pub chain_one-requires : goal.chain_one-requires
chain_one-requires c =
    let v = c.loop-l.invariant in
    let e = only-sheet (omega arith) c.requires.loaded v.1.only in
    record { loaded = only-loaded (omega arith) c.requires.loaded v.1.only; l_bound = rw e (omega (arith, c.loop-l-test.true, v.0)); chained_from = chains-still c.requires.loaded v.1 (omega (arith, c.loop-l-test.true)) v.2 }

pub loop-l-preserved : goal.loop-l-preserved
loop-l-preserved c = let v = c.loop-l.invariant in let d = chains-more c.requires.loaded v.1 c.chain_one.ensures in (omega (arith, v.0), d.0, d.1)

pub shape_of-w : goal.shape_of-w
shape_of-w c = c.loop-l.invariant.1.only.long

pub returns : goal.returns
returns c = (c.loop-l.invariant.1, chain-whole (omega (arith, c.loop-l-test.false)) c.loop-l.invariant.2)
