use Rattle.std.proofs.Common.{take}
use Rattle.vg_format.specs.Encoding.{is_bit_of_any}
use Rattle.vg_format.specs.Pattern.{HasOnes}
use Rattle.vg_format.proofs.pattern.fields_mask.Given as goal

-- the mask has the bits of the fields so far
abbrev pub invariant-loop-id : goal.invariant-loop-id
invariant-loop-id l = HasOnes (is_bit_of_any l.isa (take l.id-index l.fields)) l.mask
