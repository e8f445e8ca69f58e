-- The definitions compute.
use Rattle.std.proofs.Common.{refl}
use Rattle.vg_ir.specs.declared.ty.Ty.{out-Ty}
use Rattle.vg_ircheck.specs.Names.{second_places}
use Rattle.vg_ircheck.specs.Counts.{nests_within}
use Rattle.vg_ircheck.proofs.TypeLemmas.{same_Int, same_Ptr, leaves_Int, leaves_Ptr}
use Rattle.vg_checkrows.proofs.flows.accepted.Goals as goal

pub returns-clause-exchange_typed : goal.returns-clause-exchange_typed
unfolding second_places nests_within out-Ty denote.Hole.Carrier.out denote.Hole.Carrier.shown denote.Hole.Carrier.hidden
returns-clause-exchange_typed c = simp (same_Int, same_Ptr, leaves_Int, leaves_Ptr) refl

pub returns-clause-factorial_typed : goal.returns-clause-factorial_typed
unfolding second_places nests_within out-Ty denote.Hole.Carrier.out denote.Hole.Carrier.shown denote.Hole.Carrier.hidden
returns-clause-factorial_typed c = simp (same_Int, same_Ptr, leaves_Int, leaves_Ptr) refl

pub returns-clause-diamond_typed : goal.returns-clause-diamond_typed
unfolding second_places nests_within out-Ty denote.Hole.Carrier.out denote.Hole.Carrier.shown denote.Hole.Carrier.hidden
returns-clause-diamond_typed c = simp (same_Int, same_Ptr, leaves_Int, leaves_Ptr) refl

pub returns-clause-exchange_counts : goal.returns-clause-exchange_counts
unfolding second_places nests_within out-Ty denote.Hole.Carrier.out denote.Hole.Carrier.shown denote.Hole.Carrier.hidden
returns-clause-exchange_counts c = refl
