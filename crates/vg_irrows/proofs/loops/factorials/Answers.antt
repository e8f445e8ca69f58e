-- The runs compute.
use Rattle.std.proofs.Common.{refl}
use Rattle.vg_bits.specs.BitValue.{signed_value}
use Rattle.vg_ir.specs.declared.ty.Ty.{out-Ty}
use Rattle.vg_ir.specs.TypeLayout.{layout_within}
use Rattle.vg_ir.specs.Initial.{bytes_within}
use Rattle.vg_irrows.proofs.loops.factorials.Goals as goal

pub returns-clause-three : goal.returns-clause-three
unfolding layout_within bytes_within signed_value out-Ty denote.Hole.Carrier.out
returns-clause-three c = refl

pub returns-clause-ten : goal.returns-clause-ten
unfolding layout_within bytes_within signed_value out-Ty denote.Hole.Carrier.out
returns-clause-ten c = refl
