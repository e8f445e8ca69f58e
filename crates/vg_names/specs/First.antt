-- The first place of a list.
use Rattle.std.specs.Prelude.{ℕ, List, [], ◌∷◌, Option, Some, None}

abbrev pub first_of : List ℕ → Option ℕ
first_of [] = None
first_of (at ∷ more) = Some at
