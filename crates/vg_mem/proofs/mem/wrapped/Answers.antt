use Rattle.std.proofs.Common.{◌∙◌, ap, ◌-◌, ◌^◌, ◌/◌, bit_and, ℕ}
use Rattle.vg_bits.proofs.Masks.{masked_64}
use Rattle.vg_mem.proofs.mem.wrapped.Goals as goal

pub returns : goal.returns
returns c =
    ap (λ (n : ℕ). bit_and c.args.at (18446744073709551615 / 2 ^ (64 - n))) c.bits.ensures.value
    ∙ masked_64 c.args.at c.args.width c.requires.most
