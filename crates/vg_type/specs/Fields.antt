-- The bits of a field's ranges, added up from the first range on.
use Rattle.std.specs.Prelude.{ℕ, ◌-◌, nat_le, List, Option, Some, None, if◌then◌else◌}
use Rattle.vg_ast.specs.declared.range.Range.{Range}
use Rattle.vg_whole.specs.declared.worth.Worth.{Worth}
use Rattle.vg_whole.specs.declared.worth.Worth.TheVariants as worths
use Rattle.vg_whole.specs.Whole.{Constants}
use Rattle.vg_type.specs.declared.value_type.ValueType.{ValueType}
use Rattle.vg_type.specs.Scope.{bits_named, bits_of, sum_with}

-- how far one bit is from another
abbrev pub distance : Worth → Worth → Option ℕ
distance (worths.Whole high) (worths.Whole low) = Some (if nat_le low high then high - low else low - high)
distance _ _ = None

-- the type of so many bits and those of more ranges
abbrev pub bits_with : Constants → ℕ → List Range → Option ValueType
bits_with constants n ranges = bits_of (sum_with (Some n) (bits_named constants ranges))
