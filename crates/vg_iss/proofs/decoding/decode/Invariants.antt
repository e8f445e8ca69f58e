use Rattle.std.proofs.Common.{◌≡◌, drop}
use Rattle.std.specs.List.{find}
use Rattle.vg_format.specs.Matching.{matches}
use Rattle.vg_iss.proofs.decoding.decode.Given as goal

-- no instruction so far matches, so the first one from here on is the first of all
abbrev pub invariant-loop-instr : goal.invariant-loop-instr
invariant-loop-instr l = find (matches l.isa l.word.number) l.isa.instrs ≡ find (matches l.isa l.word.number) (drop l.instr-index l.isa.instrs)
