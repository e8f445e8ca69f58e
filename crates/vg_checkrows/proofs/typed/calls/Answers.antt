-- The definitions compute.
use Rattle.std.proofs.Common.{refl}
use Rattle.vg_ir.specs.declared.ty.Ty.{out-Ty}
use Rattle.vg_ircheck.specs.Names.{second_places}
use Rattle.vg_ircheck.specs.Counts.{nests_within}
use Rattle.vg_ircheck.proofs.TypeLemmas.{same_Int, same_Ptr, same_Array, same_Named}
use Rattle.vg_checkrows.proofs.typed.calls.Goals as goal

pub returns-clause-right : goal.returns-clause-right
unfolding second_places nests_within out-Ty denote.Hole.Carrier.out denote.Hole.Carrier.shown denote.Hole.Carrier.hidden
returns-clause-right c = simp (same_Int, same_Ptr, same_Array, same_Named) refl

pub returns-clause-fewer : goal.returns-clause-fewer
unfolding second_places nests_within out-Ty denote.Hole.Carrier.out denote.Hole.Carrier.shown denote.Hole.Carrier.hidden
returns-clause-fewer c = simp (same_Int, same_Ptr, same_Array, same_Named) refl

pub returns-clause-void : goal.returns-clause-void
unfolding second_places nests_within out-Ty denote.Hole.Carrier.out denote.Hole.Carrier.shown denote.Hole.Carrier.hidden
returns-clause-void c = simp (same_Int, same_Ptr, same_Array, same_Named) refl

pub returns-clause-global : goal.returns-clause-global
unfolding second_places nests_within out-Ty denote.Hole.Carrier.out denote.Hole.Carrier.shown denote.Hole.Carrier.hidden
returns-clause-global c = refl
