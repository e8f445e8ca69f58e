use Rattle.std.proofs.Common.{◌+◌}
use Rattle.vg_top.specs.Reports.State.{data_byte}
use Rattle.vg_top.proofs.Ranges.{list_step}
use Rattle.vg_top.proofs.reports.state.row_of.Goals as goal

pub loop-k-preserved : goal.loop-k-preserved
loop-k-preserved g c =
    list_step c.loop-k.row.items c.push.new.self.items (λ k. data_byte c.args.isa.now c.args.image.now (g.M.View.reads c.args.machine.now).byte (c.args.at + k)) c.loop-k.k c.data_byte.result
    c.data_byte.ensures c.in_ok-push.ensures.items c.loop-k.invariant
