-- A sheet whose form was read: what the refusals 5 to 8 leave of it.
use Prim.Native.Nat.{ℕ, ◌≤◌, ◌<◌}
use native.Mathlib.Omega.{arith}
use mathlib.Core.Path.{◌≡◌}
use mathlib.Core.List.{List}
use Rattle.folds.specs.Answers.{value}
use Rattle.numbers.specs.Number.{Bytes}
use Rattle.sheet.specs.Sheet.{Sheet, task_count, link_count, work_of, store_of, source_of, target_of, cost_of, bytes_of}
use Rattle.sheet.specs.Format.{read_form}
use Rattle.sheet.proofs.Rounds.{read-shaped, shaped-single, read-ranged}

pub record Formed (s : Sheet) : Type 0 where
  pub tasks : task_count s ≤ 256
  pub links : link_count s ≤ 1024
  pub board_some : 1 ≤ s.processors
  pub board_few : s.processors ≤ 16
  pub works : (t : ℕ) → t < task_count s → 1 ≤ work_of s t
  pub source : (l : ℕ) → l < link_count s → source_of s l < task_count s
  pub target : (l : ℕ) → l < link_count s → target_of s l < task_count s
  pub single : (i j : ℕ) → i < link_count s → j < link_count s → source_of s i ≡ source_of s j → target_of s i ≡ target_of s j → i ≡ j

pub form-read : (b : List ℕ) (s : Sheet) → read_form b ≡ value s → Formed s
unfolding task_count link_count work_of source_of target_of
form-read b s e =
    let h = read-shaped b s e in
    record {
      tasks = h.few_tasks;
      links = h.few_links;
      board_some = h.some_processor;
      board_few = h.few_processors;
      works = h.works;
      source = λ l k. (h.ends l k).source;
      target = λ l k. (h.ends l k).target;
      single = shaped-single s h;
    }

-- where every byte is one, the numbers of a sheet have their widths
pub record Sized (s : Sheet) : Type 0 where
  pub limit : s.limit < 4294967296
  pub unpacks : s.unpacking ≤ 65535
  pub works : (t : ℕ) → t < task_count s → work_of s t ≤ 65535
  pub stores : (t : ℕ) → t < task_count s → store_of s t ≤ 65535
  pub costs : (l : ℕ) → l < link_count s → cost_of s l ≤ 65535
  pub sizes : (l : ℕ) → l < link_count s → bytes_of s l ≤ 65535

pub form-sizes : (b : List ℕ) (s : Sheet) → Bytes b → read_form b ≡ value s → Sized s
form-sizes b s h e =
    let p = read-ranged b s h e in
    let r = p.ranged in
    record {
      limit = p.limit;
      unpacks = omega (arith, r.unpacks);
      works = λ t k. omega (arith, r.works t k);
      stores = λ t k. omega (arith, r.stores t k);
      costs = λ l k. omega (arith, r.costs l k);
      sizes = λ l k. omega (arith, r.sizes l k);
    }
