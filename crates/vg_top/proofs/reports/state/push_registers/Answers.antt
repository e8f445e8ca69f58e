use Rattle.std.proofs.Common.{◌≡◌, List, ◌++◌, ap, ◌∙◌, sym, subst, length, ◌<◌}
use Rattle.vg_isa.specs.declared.declaration.RegDecl.{RegDecl}
use Rattle.vg_top.specs.Reports.State.{register_lines}
use Rattle.vg_top.proofs.RegisterLines.{small_here, width_here, lines_step, lines_done}
use Rattle.vg_top.proofs.reports.state.push_registers.Goals as goal

pub push_declaration-requires-clause-small : goal.push_declaration-requires-clause-small
push_declaration-requires-clause-small g c =
    small_here c.regs-regs.result.now c.loop-r.r c.index-regs-r.result c.index-regs-r.is c.regs-regs.ensures.declared c.loop-r-test.true

pub push_declaration-requires-clause-width : goal.push_declaration-requires-clause-width
push_declaration-requires-clause-width g c =
    width_here c.args.isa.now (g.M.View.reads c.args.machine.now) c.regs-regs.result.now c.loop-r.r c.index-regs-r.result c.regs-regs.ensures.value c.requires.widths c.loop-r-test.true c.index-regs-r.is

pub loop-r-preserved : goal.loop-r-preserved
loop-r-preserved g c =
    lines_step (g.M.View.reads c.args.machine.now) c.regs-regs.result.now c.loop-r.r c.index-regs-r.result _ c.loop-r.out.items c.push_declaration.new.out.items
    c.loop-r-test.true c.index-regs-r.is c.in_ok-push_declaration.ensures.ok c.loop-r.invariant

pub returns : goal.returns
returns g c = record {
  ok = lines_done (g.M.View.reads c.args.machine.now) c.regs-regs.result.now c.loop-r.r _ c.loop-r.out.items c.loop-r-test.false c.loop-r.invariant
      ∙ ap (λ (regs : List RegDecl). c.args.out.now.items ++ register_lines (g.M.View.reads c.args.machine.now) 0 regs) c.regs-regs.ensures.value;
}
