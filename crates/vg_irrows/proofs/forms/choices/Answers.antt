-- The runs compute.
use Rattle.std.proofs.Common.{refl}
use Rattle.vg_bits.specs.BitValue.{signed_value, unsigned_quotient, unsigned_remainder, signed_quotient, signed_remainder, shifted_left, shifted_right, signed_shifted_right}
use Rattle.vg_ir.specs.declared.ty.Ty.{out-Ty}
use Rattle.vg_ir.specs.TypeLayout.{layout_within}
use Rattle.vg_ir.specs.Initial.{bytes_within}
use Rattle.vg_irrows.proofs.forms.choices.Goals as goal

pub returns-clause-minus_one : goal.returns-clause-minus_one
unfolding layout_within bytes_within signed_value unsigned_quotient unsigned_remainder signed_quotient signed_remainder shifted_left shifted_right signed_shifted_right out-Ty denote.Hole.Carrier.out
returns-clause-minus_one c = refl

pub returns-clause-one : goal.returns-clause-one
unfolding layout_within bytes_within signed_value unsigned_quotient unsigned_remainder signed_quotient signed_remainder shifted_left shifted_right signed_shifted_right out-Ty denote.Hole.Carrier.out
returns-clause-one c = refl

pub returns-clause-least : goal.returns-clause-least
unfolding layout_within bytes_within signed_value unsigned_quotient unsigned_remainder signed_quotient signed_remainder shifted_left shifted_right signed_shifted_right out-Ty denote.Hole.Carrier.out
returns-clause-least c = refl
