-- The definitions compute.
use Rattle.std.proofs.Common.{refl}
use Rattle.vg_ir.specs.declared.ty.Ty.{out-Ty}
use Rattle.vg_ircheck.specs.Names.{second_places}
use Rattle.vg_ircheck.specs.Counts.{nests_within}
use Rattle.vg_ircheck.proofs.TypeLemmas.{same_Int, same_Ptr, same_Array, same_Named}
use Rattle.vg_checkrows.proofs.typed.ends.Goals as goal

pub returns-clause-right : goal.returns-clause-right
unfolding second_places nests_within out-Ty denote.Hole.Carrier.out denote.Hole.Carrier.shown denote.Hole.Carrier.hidden
returns-clause-right c = simp (same_Int, same_Ptr, same_Array, same_Named) refl

pub returns-clause-wrong : goal.returns-clause-wrong
unfolding second_places nests_within out-Ty denote.Hole.Carrier.out denote.Hole.Carrier.shown denote.Hole.Carrier.hidden
returns-clause-wrong c = simp (same_Int, same_Ptr, same_Array, same_Named) refl

pub returns-clause-nothing : goal.returns-clause-nothing
unfolding second_places nests_within out-Ty denote.Hole.Carrier.out denote.Hole.Carrier.shown denote.Hole.Carrier.hidden
returns-clause-nothing c = refl

pub returns-clause-block : goal.returns-clause-block
unfolding second_places nests_within out-Ty denote.Hole.Carrier.out denote.Hole.Carrier.shown denote.Hole.Carrier.hidden
returns-clause-block c = refl

pub returns-clause-value : goal.returns-clause-value
unfolding second_places nests_within out-Ty denote.Hole.Carrier.out denote.Hole.Carrier.shown denote.Hole.Carrier.hidden
returns-clause-value c = refl
