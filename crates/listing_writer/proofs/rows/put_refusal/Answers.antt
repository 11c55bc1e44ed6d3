-- `listing_writer::rows::put_refusal` meets its contract.
use native.Mathlib.Omega.{arith}
use lib.ListN.{length}
use Prim.Native.Nat.{◌≤◌}
use Rattle.listing_writer.proofs.Parts.{refusal-length, refusal-put, refusal-room}
use Rattle.listing_writer.proofs.rows.put_refusal.Goals as goal

pub put_word-at-requires : goal.put_word-at-requires
put_word-at-requires c = let g : 7 ≤ length c.args.out.now = omega (arith, c.requires, refusal-length c.args.number c.args.place) in g

pub put_fields-requires : goal.put_fields-requires
put_fields-requires c = refusal-room c.args.out.now c.put_word-at.new.out c.args.number c.args.place c.requires c.put_word-at.ensures c.put_word-at.auto.out

pub returns : goal.returns
returns c = refusal-put c.args.number c.args.place c.put_word-at.ensures c.put_fields.ensures
