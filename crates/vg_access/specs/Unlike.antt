-- The memory reads that are unlike the first one.
use Rattle.std.specs.Prelude.{ℕ, not, nat_le, List, [], ◌∷◌, flat_map, if◌then◌else◌}
use Rattle.vg_type.specs.Judged.{told}
use Rattle.vg_tree.specs.declared.reading.Reading.{Reading}
use Rattle.vg_tree.specs.Access.{same_reading}

-- the place of a read, where it has another address or size than this one
abbrev pub unlike_place : Reading → Reading → List ℕ
unlike_place f r = told (not (same_reading f r)) r.at

abbrev pub unlike : Reading → List Reading → List ℕ
unlike f readings = flat_map (unlike_place f) readings

-- the one of two reads that stands first, and the former where both stand at one place
abbrev pub nearer : Reading → Reading → Reading
nearer f r = if nat_le f.at r.at then f else r

-- of a read and those behind it the one that stands first
abbrev pub first_by : Reading → List Reading → Reading
first_by f [] = f
first_by f (r ∷ more) = first_by (nearer f r) more
