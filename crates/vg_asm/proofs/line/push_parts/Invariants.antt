use Rattle.std.proofs.Common.{◌≡◌, ◌++◌, map, take}
use Rattle.vg_grammar.specs.Line.{joined, part_text}
use Rattle.vg_asm.specs.Shown.{values_in}
use Rattle.vg_asm.proofs.line.push_parts.Given as goal

abbrev pub invariant-loop-part : goal.invariant-loop-part
invariant-loop-part l = l.out.items ≡ l.fn.out.items ++ joined (map (part_text l.isa l.instr (values_in l.isa l.instr l.word.number)) (take l.part-index l.parts))
