-- The definitions compute.
use Rattle.std.proofs.Common.{refl}
use Rattle.vg_ir.specs.declared.ty.Ty.{out-Ty}
use Rattle.vg_ir.specs.declared.ty.Ty.TheBlock.{shown-the_row-Ty-0}
use Rattle.vg_ir.specs.TypeLayout.{layout_within}
use Rattle.vg_checkrows.proofs.placed.places.Goals as goal

pub returns-clause-first : goal.returns-clause-first
unfolding layout_within out-Ty shown-the_row-Ty-0 denote.Hole.Carrier.out denote.Hole.Carrier.shown denote.Hole.Carrier.hidden
returns-clause-first c = refl

pub returns-clause-second : goal.returns-clause-second
unfolding layout_within out-Ty shown-the_row-Ty-0 denote.Hole.Carrier.out denote.Hole.Carrier.shown denote.Hole.Carrier.hidden
returns-clause-second c = refl

pub returns-clause-third : goal.returns-clause-third
unfolding layout_within out-Ty shown-the_row-Ty-0 denote.Hole.Carrier.out denote.Hole.Carrier.shown denote.Hole.Carrier.hidden
returns-clause-third c = refl

pub returns-clause-small_frame : goal.returns-clause-small_frame
unfolding layout_within out-Ty shown-the_row-Ty-0 denote.Hole.Carrier.out denote.Hole.Carrier.shown denote.Hole.Carrier.hidden
returns-clause-small_frame c = refl

pub returns-clause-frame : goal.returns-clause-frame
unfolding layout_within out-Ty shown-the_row-Ty-0 denote.Hole.Carrier.out denote.Hole.Carrier.shown denote.Hole.Carrier.hidden
returns-clause-frame c = refl

pub returns-clause-first_alloca : goal.returns-clause-first_alloca
unfolding layout_within out-Ty shown-the_row-Ty-0 denote.Hole.Carrier.out denote.Hole.Carrier.shown denote.Hole.Carrier.hidden
returns-clause-first_alloca c = refl

pub returns-clause-aligned_alloca : goal.returns-clause-aligned_alloca
unfolding layout_within out-Ty shown-the_row-Ty-0 denote.Hole.Carrier.out denote.Hole.Carrier.shown denote.Hole.Carrier.hidden
returns-clause-aligned_alloca c = refl

pub returns-clause-last_alloca : goal.returns-clause-last_alloca
unfolding layout_within out-Ty shown-the_row-Ty-0 denote.Hole.Carrier.out denote.Hole.Carrier.shown denote.Hole.Carrier.hidden
returns-clause-last_alloca c = refl
