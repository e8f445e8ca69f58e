use Rattle.std.proofs.Common.{◌≡◌, map, take}
use Rattle.vg_form.specs.Form.{instr_of}
use Rattle.vg_form.proofs.build.instrs.Given as goal

-- the instructions of the pairs so far
abbrev pub invariant-loop-pair : goal.invariant-loop-pair
invariant-loop-pair l = l.instrs ≡ map instr_of (take l.pair-index l.pairs)
