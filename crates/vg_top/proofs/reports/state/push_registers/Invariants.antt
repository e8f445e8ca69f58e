use Rattle.std.proofs.Common.{◌≡◌, ◌++◌, drop}
use Rattle.vg_top.specs.Reports.State.{register_lines}
use Rattle.vg_top.proofs.reports.state.push_registers.Given as goal

abbrev pub invariant-loop-r : goal.invariant-loop-r
invariant-loop-r g l = l.out.items ++ register_lines (g.M.View.reads l.machine) l.r (drop l.r l.regs) ≡ l.fn.out.items ++ register_lines (g.M.View.reads l.machine) 0 l.regs
