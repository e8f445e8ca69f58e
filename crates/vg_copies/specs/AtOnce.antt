-- Single copies that do all moves at once.
use Rattle.std.specs.Prelude.{◌≡◌, ◌≢◌, ◌*◌, ◌≤◌, true, List, ◌⊎◌, length, count_by}
use Rattle.std.specs.List.{Contains}
use Rattle.vg_goal.specs.declared.place.Place.{Place}
use Rattle.vg_copies.specs.Copies.{Move, Cells, after, leaves}

-- the place is where a move to another place comes from, or the spare
abbrev pub IsRead : List Move → Place → Place → Type 0
IsRead moves spare place = (place ≡ spare) ⊎ ((move : Move) × Contains moves move × (leaves move ≡ true) × (place ≡ move.0))

-- the place is where a move from another place goes to, or the spare
abbrev pub IsWritten : List Move → Place → Place → Type 0
IsWritten moves spare place = (place ≡ spare) ⊎ ((move : Move) × Contains moves move × (leaves move ≡ true) × (place ≡ move.1))

-- The copies, made one after the other, do all moves at once.
pub record DoesAtOnce (moves : List Move) (spare : Place) (copies : List Move) : Type 0 where
  -- each destination holds what its source held before
  pub moved : (cells : Cells) (move : Move) → Contains moves move → after copies cells move.1 ≡ cells move.0
  -- all places but the spare and the destinations hold what they held before
  pub kept : (cells : Cells) (place : Place) → place ≢ spare → ((move : Move) → Contains moves move → move.1 ≢ place) → after copies cells place ≡ cells place
  -- each copy reads what a move to another place reads, or the spare, and writes what such a move writes, or the spare
  pub ends : (copy : Move) → Contains copies copy → IsRead moves spare copy.0 × IsWritten moves spare copy.1
  -- there are at most three copies for every two moves to other places, and none for a move to its own place
  pub few : 2 * length copies ≤ 3 * count_by leaves moves
