-- Memory: which bytes are set, and the objects in which a program may load and store.
use Rattle.std.specs.Prelude.{ℕ, zero, suc, ◌+◌, ◌-◌, ◌*◌, ◌/◌, ◌%◌, ◌^◌, Bool, ◌&&◌, nat_le, nat_lt, List, Option, Some, None, find, option_and_then, if◌then◌else◌}

-- the byte at each address; None where it isn't set
abbrev pub Bytes : Type 0
Bytes = ℕ → Option ℕ

-- a global, or an alloca of an open frame that was executed
pub record Object : Type 0 where
  pub at : ℕ
  -- in bytes
  pub size : ℕ
  -- nothing is stored to it
  pub constant : Bool

-- an access of so many bytes at an address lies wholly in the object
abbrev pub lies_in : ℕ → ℕ → Object → Bool
lies_in at bytes o = nat_le o.at at && nat_le (at + bytes) (o.at + o.size)

-- the object in which it lies
abbrev pub object_at : List Object → ℕ → ℕ → Option Object
object_at objects at bytes = find (lies_in at bytes) objects

-- a byte below the number of those behind it
abbrev pub joined_byte : ℕ → Option ℕ → Option ℕ
joined_byte low rest = option_and_then (λ high. Some (low + 256 * high)) rest

-- the number in so many bytes, the least significant first; None where one of them isn't set
abbrev pub loaded : Bytes → ℕ → ℕ → Option ℕ
loaded set at zero = Some 0
loaded set at (suc bytes) = option_and_then (λ low. joined_byte low (loaded set (at + 1) bytes)) (set at)

-- the bytes of a number, of which so many are stored at an address, and all other bytes as they were
abbrev pub stored : Bytes → ℕ → ℕ → ℕ → Bytes
stored set at bytes x i =
    if nat_le at i && nat_lt i (at + bytes) then Some (x / 256 ^ (i - at) % 256) else set i

-- the bytes from low on and below high are unset
abbrev pub cleared : Bytes → ℕ → ℕ → Bytes
cleared set low high i = if nat_le low i && nat_lt i high then None else set i
