use Rattle.std.proofs.Common.{◌<◌, ◌^◌, arith}
use Rattle.vg_bits.proofs.SignedValue.{product_fits}
use Rattle.vg_bits.proofs.signed.unsigned_product.Goals as goal

pub returns-clause-fits : goal.returns-clause-fits
returns-clause-fits c =
    let left : c.narrow.result < 2 ^ c.args.n = omega arith in
    let right : c.narrow-2.result < 2 ^ c.args.n = omega arith in
    product_fits c.args.n c.narrow.result c.narrow-2.result left right
