-- A walk along a list in which each number stands once.
use Rattle.std.specs.Prelude.{◌≡◌, ℕ, ◌==◌, if◌then◌else◌, List, [], ◌∷◌, length, Option, Some, None, slice_get}

-- each number stands at one place at most
abbrev pub IsOnce : List ℕ → Type 0
IsOnce xs = (n i j : ℕ) → slice_get xs i ≡ Some n → slice_get xs j ≡ Some n → i ≡ j

-- how many numbers there are from this one on
abbrev pub left_from : ℕ → List ℕ → ℕ
left_from n [] = 0
left_from n (x ∷ xs) = if x == n then length (x ∷ xs) else left_from n xs

-- how many numbers a walk that stands at this one has before it
abbrev pub left_at : List ℕ → Option ℕ → ℕ
left_at xs None = 0
left_at xs (Some n) = left_from n xs
