-- The runs compute.
use Rattle.std.proofs.Common.{refl}
use Rattle.vg_bits.specs.BitValue.{signed_value, unsigned_quotient, unsigned_remainder, signed_quotient, signed_remainder, shifted_left, shifted_right, signed_shifted_right}
use Rattle.vg_ir.specs.declared.ty.Ty.{out-Ty}
use Rattle.vg_ir.specs.TypeLayout.{layout_within}
use Rattle.vg_ir.specs.Initial.{bytes_within}
use Rattle.vg_irrows.proofs.values.casts.Goals as goal

pub returns : goal.returns
unfolding layout_within bytes_within signed_value unsigned_quotient unsigned_remainder signed_quotient signed_remainder shifted_left shifted_right signed_shifted_right out-Ty denote.Hole.Carrier.out
returns c = record { zext = refl; sext = refl; trunc = refl; bitcast = refl; narrowed = refl; widened = refl; cut = refl }
