-- `View::of_tables` (src/view.rt) keeps its contract.
use mathlib.Core.Path.{ap₂, ◌∙◌}
use native.Mathlib.Omega.{arith}
use Rattle.sheet.specs.Sizes.{front_by}
use Rattle.admission.proofs.view.View.of_tables.Goals as goal

pub overflow_add-result : goal.overflow_add-result
overflow_add-result c = omega (arith, c.front-front.ensures.1, c.tasks-tasks.ensures.1)

pub returns : goal.returns
returns c =
    let cube = c.cube-cube.ensures in
    let unpacking = c.unpacking-unpacking.ensures in
    let tasks = c.tasks-tasks.ensures in
    record {
      processors = c.processors.ensures.0;
      limit = c.limit.ensures.0;
      unpacking = unpacking.0;
      cube = cube;
      tasks = tasks.0;
      links = c.links.ensures.0;
      front = c.front-front.ensures.0 ∙ ap₂ front_by unpacking.0 cube;
    }
