-- The definitions compute.
use Rattle.std.proofs.Common.{refl}
use Rattle.vg_ir.specs.declared.ty.Ty.{out-Ty}
use Rattle.vg_ircheck.specs.Names.{second_places}
use Rattle.vg_ircheck.specs.Counts.{nests_within}
use Rattle.vg_ircheck.proofs.TypeLemmas.{same_Int, same_Ptr, same_Array, same_Named}
use Rattle.vg_checkrows.proofs.typed.casts.Goals as goal

pub returns-clause-wider : goal.returns-clause-wider
unfolding second_places nests_within out-Ty denote.Hole.Carrier.out denote.Hole.Carrier.shown denote.Hole.Carrier.hidden
returns-clause-wider c = simp (same_Int, same_Ptr, same_Array, same_Named) refl

pub returns-clause-same : goal.returns-clause-same
unfolding second_places nests_within out-Ty denote.Hole.Carrier.out denote.Hole.Carrier.shown denote.Hole.Carrier.hidden
returns-clause-same c = simp (same_Int, same_Ptr, same_Array, same_Named) refl

pub returns-clause-from_address : goal.returns-clause-from_address
unfolding second_places nests_within out-Ty denote.Hole.Carrier.out denote.Hole.Carrier.shown denote.Hole.Carrier.hidden
returns-clause-from_address c = refl

pub returns-clause-to_address : goal.returns-clause-to_address
unfolding second_places nests_within out-Ty denote.Hole.Carrier.out denote.Hole.Carrier.shown denote.Hole.Carrier.hidden
returns-clause-to_address c = simp (same_Int, same_Ptr, same_Array, same_Named) refl

pub returns-clause-bitcast : goal.returns-clause-bitcast
unfolding second_places nests_within out-Ty denote.Hole.Carrier.out denote.Hole.Carrier.shown denote.Hole.Carrier.hidden
returns-clause-bitcast c = simp (same_Int, same_Ptr, same_Array, same_Named) refl
