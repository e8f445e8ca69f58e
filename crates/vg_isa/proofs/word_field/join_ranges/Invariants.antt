use Rattle.std.proofs.Common.{◌+◌, ◌*◌, ◌^◌, drop}
use Rattle.vg_isa.specs.Declaration.{bits_in, bits_of}
use Rattle.vg_isa.proofs.Ranges.{IsJoined}
use Rattle.vg_isa.proofs.word_field.join_ranges.Given as goal

-- what is joined so far, with what is left below it, is the whole
abbrev pub invariant-loop-high : goal.invariant-loop-high
invariant-loop-high l = IsJoined l.joined (drop l.high-index l.ranges) l.word.number (l.fn.bits.width + bits_of l.ranges) (l.fn.bits.number * 2 ^ bits_of l.ranges + bits_in l.ranges l.word.number)
