-- The text at the front of bytes.
use Rattle.std.specs.Prelude.{◌≡◌, ℕ, List, ◌++◌, length, drop}
use Rattle.std.specs.Str.{IsUtf8, StartsWithNoChar}

-- the front is text, and no character begins what is behind it
pub record IsValidFront (bytes front : List ℕ) : Type 0 where
  pub text : IsUtf8 front
  pub whole : bytes ≡ front ++ drop (length front) bytes
  pub stuck : StartsWithNoChar (drop (length front) bytes)
