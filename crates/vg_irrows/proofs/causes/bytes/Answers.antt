-- The runs compute.
use Rattle.std.proofs.Common.{refl}
use Rattle.vg_bits.specs.BitValue.{signed_value, unsigned_quotient, unsigned_remainder, signed_quotient, signed_remainder, shifted_left, shifted_right, signed_shifted_right}
use Rattle.vg_ir.specs.declared.ty.Ty.{out-Ty}
use Rattle.vg_ir.specs.TypeLayout.{layout_within}
use Rattle.vg_ir.specs.Initial.{bytes_within}
use Rattle.vg_irrows.proofs.causes.bytes.Goals as goal

pub returns-clause-none_set : goal.returns-clause-none_set
unfolding layout_within bytes_within signed_value unsigned_quotient unsigned_remainder signed_quotient signed_remainder shifted_left shifted_right signed_shifted_right out-Ty denote.Hole.Carrier.out
returns-clause-none_set c = refl

pub returns-clause-half_set : goal.returns-clause-half_set
unfolding layout_within bytes_within signed_value unsigned_quotient unsigned_remainder signed_quotient signed_remainder shifted_left shifted_right signed_shifted_right out-Ty denote.Hole.Carrier.out
returns-clause-half_set c = refl

pub returns-clause-no_bit : goal.returns-clause-no_bit
unfolding layout_within bytes_within signed_value unsigned_quotient unsigned_remainder signed_quotient signed_remainder shifted_left shifted_right signed_shifted_right out-Ty denote.Hole.Carrier.out
returns-clause-no_bit c = refl

pub returns-clause-a_bit : goal.returns-clause-a_bit
unfolding layout_within bytes_within signed_value unsigned_quotient unsigned_remainder signed_quotient signed_remainder shifted_left shifted_right signed_shifted_right out-Ty denote.Hole.Carrier.out
returns-clause-a_bit c = refl
