-- The definitions compute.
use Rattle.std.proofs.Common.{refl}
use Rattle.vg_ir.specs.declared.ty.Ty.{out-Ty}
use Rattle.vg_ircheck.specs.Names.{second_places}
use Rattle.vg_checkrows.proofs.flows.phis.Goals as goal

pub returns-clause-right : goal.returns-clause-right
unfolding second_places out-Ty denote.Hole.Carrier.out denote.Hole.Carrier.shown denote.Hole.Carrier.hidden
returns-clause-right c = refl

pub returns-clause-as_a_set : goal.returns-clause-as_a_set
unfolding second_places out-Ty denote.Hole.Carrier.out denote.Hole.Carrier.shown denote.Hole.Carrier.hidden
returns-clause-as_a_set c = refl

pub returns-clause-lacking : goal.returns-clause-lacking
unfolding second_places out-Ty denote.Hole.Carrier.out denote.Hole.Carrier.shown denote.Hole.Carrier.hidden
returns-clause-lacking c = refl

pub returns-clause-other : goal.returns-clause-other
unfolding second_places out-Ty denote.Hole.Carrier.out denote.Hole.Carrier.shown denote.Hole.Carrier.hidden
returns-clause-other c = refl

pub returns-clause-same : goal.returns-clause-same
unfolding second_places out-Ty denote.Hole.Carrier.out denote.Hole.Carrier.shown denote.Hole.Carrier.hidden
returns-clause-same c = refl

pub returns-clause-twice : goal.returns-clause-twice
unfolding second_places out-Ty denote.Hole.Carrier.out denote.Hole.Carrier.shown denote.Hole.Carrier.hidden
returns-clause-twice c = refl
