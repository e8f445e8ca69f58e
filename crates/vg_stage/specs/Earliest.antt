-- The least of some places.
use Rattle.std.specs.Prelude.{ℕ, min, List, [], ◌∷◌, Option, Some, None}

abbrev pub earlier : Option ℕ → Option ℕ → Option ℕ
earlier None other = other
earlier (Some at) None = Some at
earlier (Some at) (Some other) = Some (min at other)

abbrev pub least : List ℕ → Option ℕ
least [] = None
least (at ∷ more) = earlier (Some at) (least more)
