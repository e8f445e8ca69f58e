-- Numbers among the words of a command line.
use Rattle.std.specs.Prelude.{ℕ, nat_le, List, Option, Some, None, if◌then◌else◌}
use Rattle.std.specs.Option.{option_and_then}
use Rattle.vg_text.specs.Number.{decimal_of}

-- a word that is a decimal number up to a bound, with no zero in front of another digit
abbrev pub number_up_to : ℕ → List ℕ → Option ℕ
number_up_to most word = option_and_then (λ n. if nat_le n most then Some n else None) (decimal_of word)

-- at most so many steps or cycles are asked for
abbrev pub most_steps : ℕ
most_steps = 1000000000
