use Rattle.std.proofs.Common.{◌++◌, ◌∙◌}
use Rattle.vg_top.specs.Reports.State.{register_line, value_line, register_name}
use Rattle.vg_top.proofs.Ranges.{range_step}
use Rattle.vg_top.proofs.reports.state.push_declaration.Goals as goal

pub loop-i-preserved : goal.loop-i-preserved
unfolding register_line
loop-i-preserved g c =
    range_step c.args.out.now.items c.loop-i.out.items c.push_register.new.out.items (register_line (g.M.View.reads c.args.machine.now) c.args.r.0 c.args.decl.now) c.loop-i.i
    (c.in_ok-push_register.ensures.ok
    ∙ (λ j. c.loop-i.out.items ++ value_line (register_name c.args.decl.now c.args.decl.now.index c.loop-i.i) c.args.decl.now.width (c.reg.ensures j).number))
    c.loop-i.invariant
