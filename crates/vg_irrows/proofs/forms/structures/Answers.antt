-- The runs compute.
use Rattle.std.proofs.Common.{refl}
use Rattle.vg_bits.specs.BitValue.{signed_value}
use Rattle.vg_ir.specs.declared.ty.Ty.{out-Ty}
use Rattle.vg_ir.specs.TypeLayout.{layout_within}
use Rattle.vg_ir.specs.Initial.{bytes_within}
use Rattle.vg_ir.specs.declared.ty.Ty.TheBlock.{shown-the_row-Ty-0, shown-the_row-Ty-1}
use Rattle.vg_ir.specs.declared.initializer.Initializer.{out-Initializer}
use Rattle.vg_ir.specs.declared.initializer.Initializer.TheBlock.{shown-the_row-Initializer-Array-0-2-0}
use Rattle.vg_irrows.proofs.forms.structures.Goals as goal

pub returns-clause-ends : goal.returns-clause-ends
unfolding layout_within bytes_within signed_value out-Ty shown-the_row-Ty-0 shown-the_row-Ty-1 out-Initializer shown-the_row-Initializer-Array-0-2-0 denote.Hole.Carrier.out denote.Hole.Carrier.shown denote.Hole.Carrier.hidden
returns-clause-ends c = refl

pub returns-clause-first_bytes : goal.returns-clause-first_bytes
unfolding layout_within bytes_within signed_value out-Ty shown-the_row-Ty-0 shown-the_row-Ty-1 out-Initializer shown-the_row-Initializer-Array-0-2-0 denote.Hole.Carrier.out denote.Hole.Carrier.shown denote.Hole.Carrier.hidden
returns-clause-first_bytes c = refl

pub returns-clause-last_bytes : goal.returns-clause-last_bytes
unfolding layout_within bytes_within signed_value out-Ty shown-the_row-Ty-0 shown-the_row-Ty-1 out-Initializer shown-the_row-Initializer-Array-0-2-0 denote.Hole.Carrier.out denote.Hole.Carrier.shown denote.Hole.Carrier.hidden
returns-clause-last_bytes c = refl
