use Rattle.std.proofs.Common.{◌≡◌, ◌<◌, ◌^◌, drop}
use Rattle.vg_irparse.specs.Text.{value_from}
use Rattle.vg_irparse.proofs.number.exact_value.Given as goal

abbrev pub invariant-loop-byte : goal.invariant-loop-byte
invariant-loop-byte l = (value_from l.value (drop l.byte-index l.digits) ≡ value_from 0 l.digits) × (l.value < 2 ^ 64)
