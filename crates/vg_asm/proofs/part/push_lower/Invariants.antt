use Rattle.std.proofs.Common.{◌≡◌, ◌++◌, map, take}
use Rattle.vg_grammar.specs.Line.{lower}
use Rattle.vg_asm.proofs.part.push_lower.Given as goal

abbrev pub invariant-loop-byte : goal.invariant-loop-byte
invariant-loop-byte l = l.out.items ≡ l.fn.out.items ++ map lower (take l.byte-index l.name)
