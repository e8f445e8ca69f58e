use Rattle.std.proofs.Common.{◌<◌, ◌+◌, ◌*◌, ◌^◌, arith}
use Rattle.vg_mem.proofs.Loads.{byte_more, bytes_fit}
use Rattle.vg_mem.proofs.mem.+load_each.Goals as goal

pub overflow_mul-result : goal.overflow_mul-result
overflow_mul-result t c =
    let fits : 0 + 256 * c.load_each.result < 2 ^ 128 = bytes_fit c.args.bytes (0 + 256 * c.load_each.result) c.requires.few (byte_more c.args.bytes 0 c.load_each.result (omega arith) (omega arith) c.load_each.ensures.fits) in
    omega arith

pub overflow_add-result : goal.overflow_add-result
overflow_add-result t c =
    let fits : c.from.result + 256 * c.load_each.result < 2 ^ 128 = bytes_fit c.args.bytes (c.from.result + 256 * c.load_each.result) c.requires.few (byte_more c.args.bytes c.from.result c.load_each.result (omega arith) (omega arith) c.load_each.ensures.fits) in
    omega arith

pub returns-clause-fits : goal.returns-clause-fits
returns-clause-fits t c = byte_more c.args.bytes c.from.result c.load_each.result (omega arith) (omega arith) c.load_each.ensures.fits
