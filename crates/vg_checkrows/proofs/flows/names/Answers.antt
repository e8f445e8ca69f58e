-- The definitions compute.
use Rattle.std.proofs.Common.{refl}
use Rattle.vg_ir.specs.declared.ty.Ty.{out-Ty}
use Rattle.vg_ircheck.specs.Names.{second_places}
use Rattle.vg_checkrows.proofs.flows.names.Goals as goal

pub returns-clause-different : goal.returns-clause-different
unfolding second_places out-Ty denote.Hole.Carrier.out denote.Hole.Carrier.shown denote.Hole.Carrier.hidden
returns-clause-different c = refl

pub returns-clause-second : goal.returns-clause-second
unfolding second_places out-Ty denote.Hole.Carrier.out denote.Hole.Carrier.shown denote.Hole.Carrier.hidden
returns-clause-second c = refl

pub returns-clause-later : goal.returns-clause-later
unfolding second_places out-Ty denote.Hole.Carrier.out denote.Hole.Carrier.shown denote.Hole.Carrier.hidden
returns-clause-later c = refl
