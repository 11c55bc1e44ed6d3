-- What a bundle satisfies that bytes can hold for a sheet; and lists of bytes.
use Rattle.std.specs.Prelude.{◌≤◌, ◌<◌, List, [], ◌∷◌, length}
use Rattle.sheet.specs.Sheet.{Sheet, task_count, link_count}
use Rattle.bundle.specs.Bundle.{Command, run, send, receive, release, discard, Bundle}

-- a command of a declared task or link
abbrev pub Known : Sheet → Command → Type 0
Known s (run t) = t < task_count s
Known s (send l) = l < link_count s
Known s (receive l) = l < link_count s
Known s (release t) = t < task_count s
Known s (discard l) = l < link_count s

abbrev pub Each : {A : Type 0} → (A → Type 0) → List A → Type 0
Each P [] = Unit {0}
Each P (x ∷ xs) = P x × Each P xs

-- at least one programme, unless there is no task; no more than processors; every number declared
pub record Formed (s : Sheet) (b : Bundle) : Type 0 where
  pub busy : 0 < task_count s → 0 < length b.programmes
  pub few : length b.programmes ≤ s.processors
  pub known : Each (Each (Known s)) b.programmes

-- and a claim of four bytes
pub record Fits (s : Sheet) (b : Bundle) : Type 0 where
  pub formed : Formed s b
  pub claimed : b.claim < 4294967296
