-- The definitions compute.
use Rattle.std.proofs.Common.{refl}
use Rattle.vg_ir.specs.declared.ty.Ty.{out-Ty}
use Rattle.vg_ir.specs.declared.ty.Ty.TheBlock.{shown-the_row-Ty-0, shown-the_row-Ty-1}
use Rattle.vg_ir.specs.declared.initializer.Initializer.{out-Initializer}
use Rattle.vg_ir.specs.declared.initializer.Initializer.TheBlock.{shown-the_row-Initializer-Array-0-2-0}
use Rattle.vg_ircheck.specs.Names.{second_places}
use Rattle.vg_ircheck.specs.Counts.{nests_within}
use Rattle.vg_ircheck.proofs.TypeLemmas.{same_Int, same_Ptr, same_Array, same_Named}
use Rattle.vg_ircheck.proofs.InitialLemmas.{places_Number, places_True, places_Zero, places_Undef, places_Text, places_Array, places_Struct}
use Rattle.vg_checkrows.proofs.typed.initializers.Goals as goal

pub returns-clause-number : goal.returns-clause-number
unfolding second_places nests_within out-Ty shown-the_row-Ty-0 shown-the_row-Ty-1 out-Initializer shown-the_row-Initializer-Array-0-2-0 denote.Hole.Carrier.out denote.Hole.Carrier.shown denote.Hole.Carrier.hidden
returns-clause-number c = simp (same_Int, same_Ptr, same_Array, same_Named, places_Number, places_True, places_Zero, places_Undef, places_Text, places_Array, places_Struct) refl

pub returns-clause-no_number : goal.returns-clause-no_number
unfolding second_places nests_within out-Ty shown-the_row-Ty-0 shown-the_row-Ty-1 out-Initializer shown-the_row-Initializer-Array-0-2-0 denote.Hole.Carrier.out denote.Hole.Carrier.shown denote.Hole.Carrier.hidden
returns-clause-no_number c = simp (same_Int, same_Ptr, same_Array, same_Named, places_Number, places_True, places_Zero, places_Undef, places_Text, places_Array, places_Struct) refl

pub returns-clause-zero : goal.returns-clause-zero
unfolding second_places nests_within out-Ty shown-the_row-Ty-0 shown-the_row-Ty-1 out-Initializer shown-the_row-Initializer-Array-0-2-0 denote.Hole.Carrier.out denote.Hole.Carrier.shown denote.Hole.Carrier.hidden
returns-clause-zero c = simp (same_Int, same_Ptr, same_Array, same_Named, places_Number, places_True, places_Zero, places_Undef, places_Text, places_Array, places_Struct) refl

pub returns-clause-text : goal.returns-clause-text
unfolding second_places nests_within out-Ty shown-the_row-Ty-0 shown-the_row-Ty-1 out-Initializer shown-the_row-Initializer-Array-0-2-0 denote.Hole.Carrier.out denote.Hole.Carrier.shown denote.Hole.Carrier.hidden
returns-clause-text c = simp (same_Int, same_Ptr, same_Array, same_Named, places_Number, places_True, places_Zero, places_Undef, places_Text, places_Array, places_Struct) refl

pub returns-clause-short_text : goal.returns-clause-short_text
unfolding second_places nests_within out-Ty shown-the_row-Ty-0 shown-the_row-Ty-1 out-Initializer shown-the_row-Initializer-Array-0-2-0 denote.Hole.Carrier.out denote.Hole.Carrier.shown denote.Hole.Carrier.hidden
returns-clause-short_text c = simp (same_Int, same_Ptr, same_Array, same_Named, places_Number, places_True, places_Zero, places_Undef, places_Text, places_Array, places_Struct) refl

pub returns-clause-elements : goal.returns-clause-elements
unfolding second_places nests_within out-Ty shown-the_row-Ty-0 shown-the_row-Ty-1 out-Initializer shown-the_row-Initializer-Array-0-2-0 denote.Hole.Carrier.out denote.Hole.Carrier.shown denote.Hole.Carrier.hidden
returns-clause-elements c = simp (same_Int, same_Ptr, same_Array, same_Named, places_Number, places_True, places_Zero, places_Undef, places_Text, places_Array, places_Struct) refl

pub returns-clause-few_elements : goal.returns-clause-few_elements
unfolding second_places nests_within out-Ty shown-the_row-Ty-0 shown-the_row-Ty-1 out-Initializer shown-the_row-Initializer-Array-0-2-0 denote.Hole.Carrier.out denote.Hole.Carrier.shown denote.Hole.Carrier.hidden
returns-clause-few_elements c = simp (same_Int, same_Ptr, same_Array, same_Named, places_Number, places_True, places_Zero, places_Undef, places_Text, places_Array, places_Struct) refl

pub returns-clause-fields : goal.returns-clause-fields
unfolding second_places nests_within out-Ty shown-the_row-Ty-0 shown-the_row-Ty-1 out-Initializer shown-the_row-Initializer-Array-0-2-0 denote.Hole.Carrier.out denote.Hole.Carrier.shown denote.Hole.Carrier.hidden
returns-clause-fields c = simp (same_Int, same_Ptr, same_Array, same_Named, places_Number, places_True, places_Zero, places_Undef, places_Text, places_Array, places_Struct) refl

pub returns-clause-wrong_field : goal.returns-clause-wrong_field
unfolding second_places nests_within out-Ty shown-the_row-Ty-0 shown-the_row-Ty-1 out-Initializer shown-the_row-Initializer-Array-0-2-0 denote.Hole.Carrier.out denote.Hole.Carrier.shown denote.Hole.Carrier.hidden
returns-clause-wrong_field c = simp (same_Int, same_Ptr, same_Array, same_Named, places_Number, places_True, places_Zero, places_Undef, places_Text, places_Array, places_Struct) refl
