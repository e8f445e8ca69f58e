use Rattle.std.proofs.Common.{◌≡◌, ◌++◌, flat_map}
use Rattle.std.specs.List.{range_with_len}
use Rattle.vg_top.specs.Reports.State.{register_line}
use Rattle.vg_top.proofs.reports.state.push_declaration.Given as goal

abbrev pub invariant-loop-i : goal.invariant-loop-i
invariant-loop-i g l = l.out.items ≡ l.fn.out.items ++ flat_map (register_line (g.M.View.reads l.machine) l.r.0 l.decl) (range_with_len 0 l.i)
