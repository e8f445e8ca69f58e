use Rattle.std.proofs.Common.{take}
use Rattle.std.specs.List.{list_any}
use Rattle.vg_isa.specs.Accepted.{names_bit}
use Rattle.vg_format.specs.Pattern.{HasOnes}
use Rattle.vg_format.proofs.pattern.ranges_mask.Given as goal

-- the mask has the bits of the ranges so far
abbrev pub invariant-loop-high : goal.invariant-loop-high
invariant-loop-high l = HasOnes (λ k. list_any (names_bit k) (take l.high-index l.ranges)) l.mask
