-- Places in the order of the text, and the first of some.
use Rattle.std.specs.Prelude.{Bool, ◌&&◌, ◌||◌, nat_eq, nat_lt, List, [], ◌∷◌, Option, Some, None, if◌then◌else◌}
use Rattle.vg_ir.specs.declared.spot.Spot.{Spot}

-- a place stands in front of another: in an earlier text of the program, or in the same one at an earlier byte
abbrev pub is_before : Spot → Spot → Bool
is_before a b = nat_lt a.unit b.unit || (nat_eq a.unit b.unit && nat_lt a.at b.at)

-- the one of two places that the text has first
abbrev pub earlier : Spot → Spot → Spot
earlier a b = if is_before b a then b else a

-- the one of two places that the text has last
abbrev pub later : Spot → Spot → Spot
later a b = if is_before b a then a else b

-- the first of two places, where there is one
abbrev pub first_of : Option Spot → Option Spot → Option Spot
first_of None b = b
first_of (Some a) None = Some a
first_of (Some a) (Some b) = Some (earlier a b)

-- the first of some places
unfoldable pub first_place : List Spot → Option Spot
first_place [] = None
first_place (s ∷ ss) = first_of (Some s) (first_place ss)

-- a place where something doesn't hold
abbrev pub unless : Bool → Spot → List Spot
unless holds s = if holds then [] else (s ∷ [])
