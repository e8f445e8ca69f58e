use Rattle.vg_image.proofs.Written.{head_ends}
use Rattle.vg_image.proofs.writer.push_head.Goals as goal

pub returns : goal.returns
returns c =
    head_ends c.args.isa.now c.args.image.now c.args.out.now.items c.push_bytes.new.out.items c.push_bytes-2.new.out.items c.push_bytes-3.new.out.items c.push_address.new.out.items c.push_address-2.new.out.items c.push_address-3.new.out.items c.push_address-4.new.out.items
    c.in_ok-push_bytes.ensures.ok (rw (c.as_slice.ensures, c.parts.ensures.same) at c.in_ok-push_bytes-2.ensures.ok) c.in_ok-push_bytes-3.ensures.ok c.in_ok-push_address.ensures c.in_ok-push_address-2.ensures c.in_ok-push_address-3.ensures c.in_ok-push_address-4.ensures
