use Rattle.vg_image.proofs.Written.{write_ends}
use Rattle.vg_image.proofs.writer.write.Goals as goal

pub returns : goal.returns
returns c =
    write_ends c.args.isa.now c.args.image.now c.new-out.result.items c.push_head.new.out.items c.push_code.new.out.items c.push_address.new.out.items c.push_data.new.out.items c.push_symbols.new.out.items c.push_bytes.new.out.items
    c.new-out.ensures.items c.in_ok-push_head.ensures (rw c.as_slice.ensures at c.in_ok-push_code.ensures) c.in_ok-push_address.ensures (rw c.as_slice-2.ensures at c.in_ok-push_data.ensures) (rw c.as_slice-3.ensures at c.in_ok-push_symbols.ensures) c.in_ok-push_bytes.ensures.ok
