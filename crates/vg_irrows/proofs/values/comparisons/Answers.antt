-- The runs compute.
use Rattle.std.proofs.Common.{refl}
use Rattle.vg_bits.specs.BitValue.{signed_value, unsigned_quotient, unsigned_remainder, signed_quotient, signed_remainder, shifted_left, shifted_right, signed_shifted_right}
use Rattle.vg_ir.specs.declared.ty.Ty.{out-Ty}
use Rattle.vg_ir.specs.TypeLayout.{layout_within}
use Rattle.vg_ir.specs.Initial.{bytes_within}
use Rattle.vg_irrows.proofs.values.comparisons.Goals as goal

pub returns : goal.returns
unfolding layout_within bytes_within signed_value unsigned_quotient unsigned_remainder signed_quotient signed_remainder shifted_left shifted_right signed_shifted_right out-Ty denote.Hole.Carrier.out
returns c = record { eq = refl; ne = refl; ugt = refl; uge = refl; ult = refl; ule = refl; sgt = refl; sge = refl; slt = refl; sle = refl }
