-- `listing_writer::fields::put_fields` meets its contract.
use native.Mathlib.Omega.{arith}
use lib.ListN.{length}
use Rattle.listing.specs.Listing.{field}
use Prim.Native.Nat.{◌+◌, ◌≤◌}
use Rattle.listing_writer.proofs.Parts.{fields-length, fields-put, fields-room, end-room}
use Rattle.listing_writer.proofs.fields.put_fields.Goals as goal

pub put_field-next-requires : goal.put_field-next-requires
put_field-next-requires c = let g : c.args.at + length (field c.args.a) ≤ length c.args.out.now = omega (arith, c.requires, fields-length c.args.a c.args.b) in g

pub put_field-last-requires : goal.put_field-last-requires
put_field-last-requires c = fields-room c.args.out.now c.put_field-next.new.out c.args.a c.args.b c.requires c.put_field-next.ensures c.put_field-next.auto.out

pub put_end-requires : goal.put_end-requires
put_end-requires c = end-room c.args.out.now c.put_field-next.new.out c.put_field-last.new.out c.args.a c.args.b c.requires c.put_field-next.ensures c.put_field-next.auto.out c.put_field-last.ensures c.put_field-last.auto.out

pub returns : goal.returns
returns c = fields-put c.args.a c.args.b (omega (arith, c.requires)) c.put_field-next.ensures c.put_field-last.ensures c.put_end.ensures
