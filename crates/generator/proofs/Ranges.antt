-- What a sheet is made from is in its ranges, or refused.
use Rattle.std.proofs.Common.{◌≡◌, ℕ, ◌≤◌, true, false, eqb, ltb, ◌≢◌, ltb-false}
use borrow.Author.Tests.{eqb-false}
use Rattle.folds.specs.Folds.{either}
use Rattle.folds.specs.Answers.{value, refused}
use Rattle.folds.proofs.Tests.{either-none}
use Rattle.generator.specs.Load.{beyond, outside, sheet_from, generated}

pub record Inside (seed n m p : ℕ) : Type 0 where
  pub seeded : seed ≢ 0
  pub some_task : 1 ≤ n
  pub few_tasks : n ≤ 256
  pub few_tries : m ≤ 1024
  pub some_processor : 1 ≤ p
  pub few_processors : p ≤ 16

pub inside : (seed n m p : ℕ) → outside seed n m p ≡ false → Inside seed n m p
unfolding outside
inside seed n m p e =
    let a = either-none (eqb seed 0) (either (beyond 1 256 n) (either (ltb 1024 m) (beyond 1 16 p))) e in
    let b = either-none (beyond 1 256 n) (either (ltb 1024 m) (beyond 1 16 p)) a.1 in
    let t = either-none (ltb n 1) (ltb 256 n) b.0 in
    let c = either-none (ltb 1024 m) (beyond 1 16 p) b.1 in
    let k = either-none (ltb p 1) (ltb 16 p) c.1 in
    record {
      seeded = eqb-false seed 0 a.0;
      some_task = ltb-false n 1 t.0;
      few_tasks = ltb-false 256 n t.1;
      few_tries = ltb-false 1024 m c.0;
      some_processor = ltb-false p 1 k.0;
      few_processors = ltb-false 16 p k.1;
    }

module _ (seed n m p l : ℕ) where
  pub generated-no : outside seed n m p ≡ true → generated seed n m p l ≡ refused 6 0
  unfolding generated
  generated-no e = rw e

  pub generated-sheet : outside seed n m p ≡ false → generated seed n m p l ≡ value (sheet_from seed n p l m)
  unfolding generated
  generated-sheet e = rw e
