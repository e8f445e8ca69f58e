use Rattle.std.proofs.Common.{◌≡◌, ◌++◌, length}
use Rattle.vg_image.specs.Writer.{data_written}
use Rattle.vg_image.proofs.writer.push_data.Given as goal

abbrev pub invariant-loop-rest : goal.invariant-loop-rest
invariant-loop-rest l = l.out.items ++ data_written l.rest ≡ l.fn.out.items ++ data_written l.bytes

abbrev pub decreases-loop-rest : goal.decreases-loop-rest
decreases-loop-rest l = length l.rest
