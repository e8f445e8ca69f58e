use Rattle.std.proofs.Common.{length}
use Rattle.vg_image.proofs.Images.{IsReached}
use Rattle.vg_image.proofs.reader.read.Given as goal

-- what is read so far, and what is left
abbrev pub invariant-loop-rest : goal.invariant-loop-rest
invariant-loop-rest l = IsReached l.isa l.text l.progress l.line l.rest

abbrev pub decreases-loop-rest : goal.decreases-loop-rest
decreases-loop-rest l = length l.rest
