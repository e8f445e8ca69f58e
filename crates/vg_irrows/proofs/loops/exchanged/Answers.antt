-- The runs compute.
use Rattle.std.proofs.Common.{refl}
use Rattle.vg_ir.specs.declared.ty.Ty.{out-Ty}
use Rattle.vg_ir.specs.TypeLayout.{layout_within}
use Rattle.vg_ir.specs.Initial.{bytes_within}
use Rattle.vg_irrows.proofs.loops.exchanged.Goals as goal

pub returns : goal.returns
unfolding layout_within bytes_within out-Ty denote.Hole.Carrier.out
returns c = record { goes_on = refl; ends = refl }
