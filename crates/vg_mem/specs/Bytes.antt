-- A map of bytes: those that aren't 0, by their addresses.
use Rattle.std.specs.Prelude.{◌≡◌, ◌≢◌, ℕ, zero, suc, ◌+◌, ◌*◌, ◌/◌, ◌%◌, ◌<◌, ◌≤◌, nat_eq, List, [], ◌∷◌, Option, Some, None, unwrap_or, if◌then◌else◌}
use Rattle.std.specs.Ordering.{nat_cmp}
use Rattle.std.specs.FinMap.{FinMap, get, insert, remove}

-- ---- reading

-- the byte at an address
abbrev pub byte_in : FinMap nat_cmp ℕ → ℕ → ℕ
byte_in m at = unwrap_or (get m at) 0

-- so many bytes from an address on, the least significant first, the addresses modulo space
abbrev pub loaded : (ℕ → ℕ) → ℕ → ℕ → ℕ → ℕ
loaded byte space at zero = 0
loaded byte space at (suc bytes) = byte (at % space) + 256 * loaded byte space (at + 1) bytes

-- the least address from one on whose byte isn't 0; None where there is none
abbrev pub IsNextSet : (ℕ → ℕ) → ℕ → Option ℕ → Type 0
IsNextSet byte from None = (at : ℕ) → from ≤ at → byte at ≡ 0
IsNextSet byte from (Some at) = (from ≤ at) × (byte at ≢ 0) × ((k : ℕ) → from ≤ k → k < at → byte k ≡ 0)

-- ---- writing

-- a byte stored at an address; a 0 isn't kept
abbrev pub put : FinMap nat_cmp ℕ → ℕ → ℕ → FinMap nat_cmp ℕ
put m at byte = if nat_eq byte 0 then remove m at else insert m at byte

-- so many bytes of a number from an address on, the least significant first, the addresses modulo space
abbrev pub stored : ℕ → ℕ → ℕ → ℕ → FinMap nat_cmp ℕ → FinMap nat_cmp ℕ
stored space at zero n m = m
stored space at (suc bytes) n m = put (stored space (at + 1) bytes (n / 256) m) (at % space) (n % 256)

-- bytes from an address on, laid over others
abbrev pub laid : ℕ → List ℕ → FinMap nat_cmp ℕ → FinMap nat_cmp ℕ
laid at [] m = m
laid at (byte ∷ bytes) m = put (laid (at + 1) bytes m) at byte

-- ---- what is kept

-- bytes that aren't 0, at addresses below space
abbrev pub AreBytes : ℕ → FinMap nat_cmp ℕ → Type 0
AreBytes space m = (at byte : ℕ) → get m at ≡ Some byte → (at < space) × (0 < byte) × (byte < 256)
