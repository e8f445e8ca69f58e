-- The runs compute.
use Rattle.std.proofs.Common.{refl}
use Rattle.vg_bits.specs.BitValue.{signed_value, unsigned_quotient, unsigned_remainder, signed_quotient, signed_remainder, shifted_left, shifted_right, signed_shifted_right}
use Rattle.vg_ir.specs.declared.ty.Ty.{out-Ty}
use Rattle.vg_ir.specs.TypeLayout.{layout_within}
use Rattle.vg_ir.specs.Initial.{bytes_within}
use Rattle.vg_irrows.proofs.causes.accesses.Goals as goal

pub returns-clause-load_null : goal.returns-clause-load_null
unfolding layout_within bytes_within signed_value unsigned_quotient unsigned_remainder signed_quotient signed_remainder shifted_left shifted_right signed_shifted_right out-Ty denote.Hole.Carrier.out
returns-clause-load_null c = refl

pub returns-clause-load_over : goal.returns-clause-load_over
unfolding layout_within bytes_within signed_value unsigned_quotient unsigned_remainder signed_quotient signed_remainder shifted_left shifted_right signed_shifted_right out-Ty denote.Hole.Carrier.out
returns-clause-load_over c = refl

pub returns-clause-load_left : goal.returns-clause-load_left
unfolding layout_within bytes_within signed_value unsigned_quotient unsigned_remainder signed_quotient signed_remainder shifted_left shifted_right signed_shifted_right out-Ty denote.Hole.Carrier.out
returns-clause-load_left c = refl

pub returns-clause-store_null : goal.returns-clause-store_null
unfolding layout_within bytes_within signed_value unsigned_quotient unsigned_remainder signed_quotient signed_remainder shifted_left shifted_right signed_shifted_right out-Ty denote.Hole.Carrier.out
returns-clause-store_null c = refl

pub returns-clause-store_over : goal.returns-clause-store_over
unfolding layout_within bytes_within signed_value unsigned_quotient unsigned_remainder signed_quotient signed_remainder shifted_left shifted_right signed_shifted_right out-Ty denote.Hole.Carrier.out
returns-clause-store_over c = refl
