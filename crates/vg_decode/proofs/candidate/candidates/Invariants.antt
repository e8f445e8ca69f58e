use Rattle.std.proofs.Common.{take}
use Rattle.vg_decode.specs.Candidates.{AreOf}
use Rattle.vg_decode.proofs.candidate.candidates.Given as goal

-- there is a candidate for each instruction so far
abbrev pub invariant-loop-k : goal.invariant-loop-k
invariant-loop-k l = AreOf l.isa 0 (take l.k l.instr-items) l.candidates.items
