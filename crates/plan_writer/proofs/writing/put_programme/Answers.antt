-- `put_programme` (src/writing.rt) keeps its contract.
use native.Mathlib.Omega.{arith}
use Rattle.schedule.specs.Layout.{schedule_in}
use Rattle.sheet.specs.Tables.{sheet_in}
use Rattle.plan_writer.proofs.Measures.{open-length}
use Rattle.plan_writer.proofs.Puts.{open-put}
use Rattle.plan_writer.proofs.writing.put_programme.Goals as goal

pub put_pair-at-requires : goal.put_pair-at-requires
put_pair-at-requires c = (omega (arith, c.requires.k_in_bounds, open-length (sheet_in c.args.w.now) (schedule_in c.args.w.now) c.args.k), omega (arith, c.requires.k_bound.0))

pub put_blocks-requires : goal.put_blocks-requires
put_blocks-requires c = record { scheduled = c.requires.scheduled; k_bound = c.requires.k_bound; k_in_bounds = omega (arith, c.requires.k_in_bounds, open-length (sheet_in c.args.w.now) (schedule_in c.args.w.now) c.args.k, c.put_pair-at.ensures.next, c.put_pair-at.auto.out) }

pub returns : goal.returns
returns c = open-put (sheet_in c.args.w.now) (schedule_in c.args.w.now) c.args.k (omega (arith, c.requires.k_in_bounds)) c.put_pair-at.ensures c.put_blocks.ensures
