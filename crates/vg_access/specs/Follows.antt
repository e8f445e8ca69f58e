-- What asking a statement for its second writes gives, behind other writes.
use Rattle.std.specs.Prelude.{◌≡◌, ℕ, List, [], ◌∷◌, ◌++◌, Option, None}
use Rattle.vg_names.specs.First.{first_of}
use Rattle.vg_type.specs.Judged.{told}
use Rattle.vg_tree.specs.Access.{Write, Writing, all_writes, in_turn, may_not_follow}

-- the statements of a block
abbrev pub on_one_path : List Writing → Writing
on_one_path parts = record { writes = all_writes parts; places = in_turn parts }

-- the two sides of a conditional
abbrev pub on_either_side : Writing → Writing → Writing
on_either_side one other = record { writes = one.writes ++ other.writes; places = λ path others. one.places path others ++ other.places path (others ++ one.writes) }

-- an assignment
abbrev pub assigning : Write → Writing
assigning w = record { writes = w ∷ []; places = λ path others. told (may_not_follow path others w) w.place }

-- The first of its second writes is found, given the writes in front on its path and on others; where there is none, its
-- writes are put behind those of its path.
pub record Follows (part : Writing) (path others : List Write) (found : Option ℕ) (path_after others_after : List Write) : Type 0 where
  pub first : found ≡ first_of (part.places path others)
  pub longer : found ≡ None → path_after ≡ path ++ part.writes
  pub kept : found ≡ None → others_after ≡ others
