-- The definitions compute.
use Rattle.std.proofs.Common.{refl}
use Rattle.vg_ir.specs.declared.ty.Ty.{out-Ty}
use Rattle.vg_ir.specs.declared.ty.Ty.TheBlock.{shown-the_row-Ty-0}
use Rattle.vg_ir.specs.TypeLayout.{layout_within}
use Rattle.vg_checkrows.proofs.placed.costs.Goals as goal

pub returns-clause-entry : goal.returns-clause-entry
unfolding layout_within out-Ty shown-the_row-Ty-0 denote.Hole.Carrier.out denote.Hole.Carrier.shown denote.Hole.Carrier.hidden
returns-clause-entry c = refl

pub returns-clause-start : goal.returns-clause-start
unfolding layout_within out-Ty shown-the_row-Ty-0 denote.Hole.Carrier.out denote.Hole.Carrier.shown denote.Hole.Carrier.hidden
returns-clause-start c = refl

pub returns-clause-greatest : goal.returns-clause-greatest
unfolding layout_within out-Ty shown-the_row-Ty-0 denote.Hole.Carrier.out denote.Hole.Carrier.shown denote.Hole.Carrier.hidden
returns-clause-greatest c = refl

pub returns-clause-code : goal.returns-clause-code
unfolding layout_within out-Ty shown-the_row-Ty-0 denote.Hole.Carrier.out denote.Hole.Carrier.shown denote.Hole.Carrier.hidden
returns-clause-code c = refl
