-- Numbers that look drawn by chance: a linear congruential sequence, of which the upper bits are answered.
use Rattle.std.specs.Prelude.{ℕ, zero, suc, ◌+◌, ◌*◌, ◌/◌, ◌%◌, ◌^◌}

-- the number of the sequence behind this one
abbrev pub next_number : ℕ → ℕ
next_number x = (x * 6364136223846793005 + 1442695040888963407) % 2 ^ 64

-- the number of the sequence after so many draws from a first number
unfoldable pub number_after : ℕ → ℕ → ℕ
number_after first zero = first
number_after first (suc n) = next_number (number_after first n)

-- what a draw below m answers that comes to this number
abbrev pub drawn : ℕ → ℕ → ℕ
drawn x m = x / 2 ^ 33 % m
