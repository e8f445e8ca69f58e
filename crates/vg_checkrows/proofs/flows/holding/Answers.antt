-- The definitions compute.
use Rattle.std.proofs.Common.{refl}
use Rattle.vg_ir.specs.declared.ty.Ty.{out-Ty}
use Rattle.vg_ircheck.specs.Names.{second_places}
use Rattle.vg_ircheck.specs.Counts.{nests_within}
use Rattle.vg_ircheck.proofs.TypeLemmas.{leaves_Int, leaves_Ptr, leaves_Array, leaves_Struct, leaves_Named}
use Rattle.vg_checkrows.proofs.flows.holding.Goals as goal

pub returns-clause-first : goal.returns-clause-first
unfolding second_places nests_within out-Ty denote.Hole.Carrier.out denote.Hole.Carrier.shown denote.Hole.Carrier.hidden
returns-clause-first c = simp (leaves_Int, leaves_Ptr, leaves_Array, leaves_Struct, leaves_Named) refl

pub returns-clause-third : goal.returns-clause-third
unfolding second_places nests_within out-Ty denote.Hole.Carrier.out denote.Hole.Carrier.shown denote.Hole.Carrier.hidden
returns-clause-third c = simp (leaves_Int, leaves_Ptr, leaves_Array, leaves_Struct, leaves_Named) refl

pub returns-clause-outside : goal.returns-clause-outside
unfolding second_places nests_within out-Ty denote.Hole.Carrier.out denote.Hole.Carrier.shown denote.Hole.Carrier.hidden
returns-clause-outside c = simp (leaves_Int, leaves_Ptr, leaves_Array, leaves_Struct, leaves_Named) refl
