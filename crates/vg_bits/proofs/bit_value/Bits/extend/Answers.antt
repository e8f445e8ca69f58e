use Rattle.std.proofs.Common.{◌≡◌, ap, arith}
use Rattle.vg_bits.specs.BitValue.{BitValue}
use Rattle.vg_bits.proofs.Modular.{fits_wider}
use Rattle.vg_bits.proofs.bit_value.Bits.extend.Goals as goal

pub of-requires : goal.of-requires
of-requires c =
    let width_is : c.self.inside.width ≡ c.args.self.width = ap (λ (v : BitValue). v.width) c.self.view_is in
    fits_wider c.self.inside.value c.self.inside.width c.args.w c.self.invariant.2 (omega arith)
