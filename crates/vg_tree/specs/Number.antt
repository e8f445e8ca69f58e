-- What whole numbers and widths are, where the rules on types are kept.
use Rattle.std.specs.Prelude.{ℕ, Option, Some, None}
use Rattle.vg_whole.specs.declared.worth.Worth.{Worth}
use Rattle.vg_whole.specs.declared.worth.Worth.TheVariants as worths

-- a whole number, and 0 where it has no value
abbrev pub value_or : Worth → ℕ
value_or (worths.Whole n) = n
value_or worths.NoValue = 0
value_or worths.Typed = 0

-- a width, and 0 where there is none
abbrev pub width_or : Option ℕ → ℕ
width_or None = 0
width_or (Some n) = n
