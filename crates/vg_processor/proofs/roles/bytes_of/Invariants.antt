use Rattle.std.proofs.Common.{◌≡◌, take}
use Rattle.vg_processor.proofs.roles.bytes_of.Given as goal

abbrev pub invariant-loop-number : goal.invariant-loop-number
invariant-loop-number l = l.bytes ≡ take l.number-index l.numbers
