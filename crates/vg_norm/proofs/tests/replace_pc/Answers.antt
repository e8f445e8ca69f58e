use Rattle.std.proofs.Common.{◌≡◌, Some, refl, sym, ap, ◌∙◌}
use Rattle.std.specs.Prelude.{slice_get}
use Rattle.vg_isa.specs.declared.isa.Parts.{Parts}
use Rattle.vg_graph.specs.declared.node.Node.{Node}
use Rattle.vg_graph.specs.declared.operator.Op.TheVariants as op
use Rattle.vg_graph.specs.declared.operands.Operands.TheVariants.{Zero}
use Rattle.vg_norm.proofs.Tested.{const_uses_nothing, const_width, pc_width}
use Rattle.vg_norm.proofs.tests.replace_pc.Goals as goal

pub replace_uses-requires-clause-widths : goal.replace_uses-requires-clause-widths
replace_uses-requires-clause-widths c = λ e f e_stands f_stands.
    let g = c.args.graph.now in
    let some = c.in-Some.ensures in
    let old : slice_get g.nodes c.args.old ≡ Some (record { op = op.Pc; args = Zero }) = c.node.ensures ∙ ap (λ (x : Node). Some x) (c.if-not-is_pc.ensures refl) in
    let new : slice_get g.nodes c.args.new ≡ Some (record { op = op.Const some.0; args = Zero }) = c.node-2.ensures ∙ ap (λ (x : Node). Some x) some.1 in
    let width : some.0.width ≡ g.isa.pc.width = some.2 ∙ c.if-width-bits.false ∙ c.bits.ensures.value ∙ ap (λ x. x.width) c.pc.ensures.value ∙ ap (λ (d : Parts). d.pc.width) c.isa.ensures.isa in
    pc_width g.isa g.nodes c.args.old e old e_stands ∙ sym (const_width g.isa g.nodes c.args.new f some.0 new f_stands ∙ width)

pub replace_uses-requires-clause-apart : goal.replace_uses-requires-clause-apart
replace_uses-requires-clause-apart c =
    let g = c.args.graph.now in
    let some = c.in-Some.ensures in
    const_uses_nothing g.nodes c.args.old c.args.new some.0 (c.node-2.ensures ∙ ap (λ (x : Node). Some x) some.1)
