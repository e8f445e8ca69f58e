-- The definitions compute.
use Rattle.std.proofs.Common.{refl}
use Rattle.vg_ir.specs.declared.ty.Ty.{out-Ty}
use Rattle.vg_ir.specs.declared.ty.Ty.TheBlock.{shown-the_row-Ty-0, shown-the_row-Ty-1}
use Rattle.vg_ir.specs.declared.initializer.Initializer.{out-Initializer}
use Rattle.vg_ir.specs.declared.initializer.Initializer.TheBlock.{shown-the_row-Initializer-Array-0-2-0}
use Rattle.vg_ircheck.specs.Names.{second_places}
use Rattle.vg_ircheck.specs.Counts.{nests_within}
use Rattle.vg_ircheck.proofs.TypeLemmas.{same_Int, same_Ptr, same_Array, same_Named}
use Rattle.vg_checkrows.proofs.typed.instructions.Goals as goal

pub returns-clause-right : goal.returns-clause-right
unfolding second_places nests_within out-Ty shown-the_row-Ty-0 shown-the_row-Ty-1 out-Initializer shown-the_row-Initializer-Array-0-2-0 denote.Hole.Carrier.out denote.Hole.Carrier.shown denote.Hole.Carrier.hidden
returns-clause-right c = simp (same_Int, same_Ptr, same_Array, same_Named) refl

pub returns-clause-narrow : goal.returns-clause-narrow
unfolding second_places nests_within out-Ty shown-the_row-Ty-0 shown-the_row-Ty-1 out-Initializer shown-the_row-Initializer-Array-0-2-0 denote.Hole.Carrier.out denote.Hole.Carrier.shown denote.Hole.Carrier.hidden
returns-clause-narrow c = simp (same_Int, same_Ptr, same_Array, same_Named) refl

pub returns-clause-undefined : goal.returns-clause-undefined
unfolding second_places nests_within out-Ty shown-the_row-Ty-0 shown-the_row-Ty-1 out-Initializer shown-the_row-Initializer-Array-0-2-0 denote.Hole.Carrier.out denote.Hole.Carrier.shown denote.Hole.Carrier.hidden
returns-clause-undefined c = simp (same_Int, same_Ptr, same_Array, same_Named) refl

pub returns-clause-label : goal.returns-clause-label
unfolding second_places nests_within out-Ty shown-the_row-Ty-0 shown-the_row-Ty-1 out-Initializer shown-the_row-Initializer-Array-0-2-0 denote.Hole.Carrier.out denote.Hole.Carrier.shown denote.Hole.Carrier.hidden
returns-clause-label c = refl

pub returns-clause-no_integer : goal.returns-clause-no_integer
unfolding second_places nests_within out-Ty shown-the_row-Ty-0 shown-the_row-Ty-1 out-Initializer shown-the_row-Initializer-Array-0-2-0 denote.Hole.Carrier.out denote.Hole.Carrier.shown denote.Hole.Carrier.hidden
returns-clause-no_integer c = refl

pub returns-clause-bit : goal.returns-clause-bit
unfolding second_places nests_within out-Ty shown-the_row-Ty-0 shown-the_row-Ty-1 out-Initializer shown-the_row-Initializer-Array-0-2-0 denote.Hole.Carrier.out denote.Hole.Carrier.shown denote.Hole.Carrier.hidden
returns-clause-bit c = simp (same_Int, same_Ptr, same_Array, same_Named) refl

pub returns-clause-loaded : goal.returns-clause-loaded
unfolding second_places nests_within out-Ty shown-the_row-Ty-0 shown-the_row-Ty-1 out-Initializer shown-the_row-Initializer-Array-0-2-0 denote.Hole.Carrier.out denote.Hole.Carrier.shown denote.Hole.Carrier.hidden
returns-clause-loaded c = refl

pub returns-clause-not_address : goal.returns-clause-not_address
unfolding second_places nests_within out-Ty shown-the_row-Ty-0 shown-the_row-Ty-1 out-Initializer shown-the_row-Initializer-Array-0-2-0 denote.Hole.Carrier.out denote.Hole.Carrier.shown denote.Hole.Carrier.hidden
returns-clause-not_address c = simp (same_Int, same_Ptr, same_Array, same_Named) refl

pub returns-clause-no_global : goal.returns-clause-no_global
unfolding second_places nests_within out-Ty shown-the_row-Ty-0 shown-the_row-Ty-1 out-Initializer shown-the_row-Initializer-Array-0-2-0 denote.Hole.Carrier.out denote.Hole.Carrier.shown denote.Hole.Carrier.hidden
returns-clause-no_global c = refl

pub returns-clause-element : goal.returns-clause-element
unfolding second_places nests_within out-Ty shown-the_row-Ty-0 shown-the_row-Ty-1 out-Initializer shown-the_row-Initializer-Array-0-2-0 denote.Hole.Carrier.out denote.Hole.Carrier.shown denote.Hole.Carrier.hidden
returns-clause-element c = simp (same_Int, same_Ptr, same_Array, same_Named) refl

pub returns-clause-no_field : goal.returns-clause-no_field
unfolding second_places nests_within out-Ty shown-the_row-Ty-0 shown-the_row-Ty-1 out-Initializer shown-the_row-Initializer-Array-0-2-0 denote.Hole.Carrier.out denote.Hole.Carrier.shown denote.Hole.Carrier.hidden
returns-clause-no_field c = simp (same_Int, same_Ptr, same_Array, same_Named) refl

pub returns-clause-wide_field : goal.returns-clause-wide_field
unfolding second_places nests_within out-Ty shown-the_row-Ty-0 shown-the_row-Ty-1 out-Initializer shown-the_row-Initializer-Array-0-2-0 denote.Hole.Carrier.out denote.Hole.Carrier.shown denote.Hole.Carrier.hidden
returns-clause-wide_field c = simp (same_Int, same_Ptr, same_Array, same_Named) refl

pub returns-clause-no_part : goal.returns-clause-no_part
unfolding second_places nests_within out-Ty shown-the_row-Ty-0 shown-the_row-Ty-1 out-Initializer shown-the_row-Initializer-Array-0-2-0 denote.Hole.Carrier.out denote.Hole.Carrier.shown denote.Hole.Carrier.hidden
returns-clause-no_part c = simp (same_Int, same_Ptr, same_Array, same_Named) refl
