use Rattle.std.proofs.Common.{◌+◌, ◌≤◌, arith}
use Rattle.std.proofs.Math.Nat.{mul-le-mul_right}
use Rattle.vg_image.proofs.progress.fits_in.Goals as goal

pub overflow_add-result : goal.overflow_add-result
overflow_add-result c =
    let few : c.from-2.result ≤ 8 = omega arith in
    omega (arith, mul-le-mul_right (c.args.words + 1) few)
